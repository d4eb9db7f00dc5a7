-- Rows of tasks in order: what a search finds, and what an empty row more or a changed row does.
use Rattle.std.proofs.Common.{◌≡◌, ℕ, zero, suc, ◌+◌, ◌<◌, ◌≤◌, List, [], ◌∷◌, length, refl, sym}
use Rattle.std.proofs.Common.{ap, subst, ◌∙◌, arith, get_or}
use Rattle.std.specs.Prelude.{Bool, true, false, cond, ◌||◌, ◌==◌, nat_eq, nat_lt, insert}
use Rattle.std.specs.Prelude.{slice_set, slice_get, Option, Some, None, MatchResult, OnErr, Result}
use Rattle.std.specs.Prelude.{Ok}
use Rattle.std.specs.Prelude.{Err}
use Rattle.std.specs.List.{list_any}
use Rattle.std.specs.List.Sorted.{IsBinarySearchResult}
use Rattle.std.specs.Ordering.{nat_cmp}
use Rattle.std.proofs.lemmas.List.Sorted.{searched}
use Rattle.std.proofs.lemmas.Bool.Decides.{nat_tests}
use Rattle.sv_packet.specs.Lists.{insert_once}
use Rattle.sv_latency.specs.declared.class.Class.{Class}
use Rattle.sv_latency.specs.declared.class.Class.TheVariants.{Measured, Resumed, Unknown}
use Rattle.sv_latency.specs.declared.class.TaskTimes.{TaskTimes}
use Rattle.sv_latency.specs.declared.seen.Seen.{Seen}
use Rattle.sv_latency.specs.State.{IsAbove, IsRising, IsPlace, IsFit, AreFit, no_times, blank}
use Rattle.sv_latency.specs.State.{counted, class_kept, kept_since, State, started}

pub on_err : {A E P : Type 0} (r : Result A E) → P → OnErr r P
on_err (Ok value) p = tt
on_err (Err e) p = p

pub above_more : (low high : ℕ) (ns : List ℕ) → low < high → IsAbove high ns → IsAbove low ns
above_more low high [] lt above = tt
above_more low high (n ∷ ns) lt above = (omega (arith, above.0), above_more low high ns lt above.1)

pub above_at : (low : ℕ) (ns : List ℕ) (row n : ℕ) → IsAbove low ns → slice_get ns row ≡ Some n →
    low < n
above_at low [] row n above at = absurd cc
above_at low (m ∷ ns) zero n above at = let same : m ≡ n = cc in omega (arith, above.0)
above_at low (m ∷ ns) (suc row) n above at = above_at low ns row n above.1 at

-- rising numbers rise by index
first_le : (ns : List ℕ) (low j : ℕ) → IsAbove low ns → j < length ns → low ≤ get_or ns j 0
first_le [] low j above within = absurd (omega arith)
first_le (n ∷ ns) low zero above within = omega (arith, above.0)
first_le (n ∷ ns) low (suc j) above within = first_le ns low j above.1 (omega arith)

pub rising_by_index : (ns : List ℕ) → IsRising ns → (i j : ℕ) → i ≤ j → j < length ns →
    get_or ns i 0 ≤ get_or ns j 0
rising_by_index [] rising i j le within = absurd (omega arith)
rising_by_index (n ∷ ns) rising zero zero le within = omega arith
rising_by_index (n ∷ ns) rising zero (suc j) le within = first_le ns n j rising.0 (omega arith)
rising_by_index (n ∷ ns) rising (suc i) zero le within = absurd (omega arith)
rising_by_index (n ∷ ns) rising (suc i) (suc j) le within =
    rising_by_index ns rising.1 i j (omega arith) (omega arith)

above_by_index : (task : ℕ) (ns : List ℕ) → ((k : ℕ) → 0 ≤ k → k < length ns → task < get_or ns k 0)
    → IsAbove task ns
above_by_index task [] all = tt
above_by_index task (n ∷ ns) all = (
  all 0 (omega arith) (omega arith),
  above_by_index task ns
      (λ k le within. all (suc k) (omega arith) (omega arith)),
)

pub place_by_index : (task : ℕ) (ns : List ℕ) (row : ℕ) → row ≤ length ns →
    ((k : ℕ) → k < row → get_or ns k 0 < task) →
    ((k : ℕ) → row ≤ k → k < length ns → task < get_or ns k 0) → IsPlace task ns row
place_by_index task ns zero within below above = above_by_index task ns above
place_by_index task [] (suc row) within below above = absurd (omega arith)
place_by_index task (n ∷ ns) (suc row) within below above = (
  below 0 (omega arith),
  place_by_index task ns row (omega arith)
      (λ k lt. below (suc k) (omega arith))
      (λ k le lt. above (suc k) (omega arith) (omega arith)),
)

pub get_by_index : (ns : List ℕ) (row n : ℕ) → row < length ns → get_or ns row 0 ≡ n →
    slice_get ns row ≡ Some n
get_by_index [] row n within is = absurd (omega arith)
get_by_index (m ∷ ns) zero n within is = ap Some is
get_by_index (m ∷ ns) (suc row) n within is = get_by_index ns row n (omega arith) is

pub within_at : (ns : List ℕ) (row n : ℕ) → slice_get ns row ≡ Some n → row < length ns
within_at [] row n at = absurd cc
within_at (m ∷ ns) zero n at = omega arith
within_at (m ∷ ns) (suc row) n at = let more = within_at ns row n at in omega arith

-- ---- a place

none_above : (task : ℕ) (ns : List ℕ) → IsAbove task ns → list_any (nat_eq task) ns ≡ false
none_above task [] above = refl
none_above task (n ∷ ns) above = let apart : nat_eq task n ≡ false =
    grind (arith, nat_tests, above.0) in rw (apart, none_above task ns above.1) refl

-- the number is missing
pub missing : (task : ℕ) (ns : List ℕ) (row : ℕ) → IsPlace task ns row →
    list_any (nat_eq task) ns ≡ false
missing task ns zero place = none_above task ns place
missing task [] (suc row) place = absurd place
missing task (n ∷ ns) (suc row) place = let apart : nat_eq task n ≡ false =
    grind (arith, nat_tests, place.0) in rw (apart, missing task ns row place.1) refl

pub place_within : (task : ℕ) (ns : List ℕ) (row : ℕ) → IsPlace task ns row → row ≤ length ns
place_within task ns zero place = omega arith
place_within task [] (suc row) place = absurd place
place_within task (n ∷ ns) (suc row) place = let more = place_within task ns row place.1 in
    omega arith

once_first : (task : ℕ) (ns : List ℕ) → IsAbove task ns → insert_once nat_lt task ns ≡ task ∷ ns
once_first task [] above = refl
once_first task (n ∷ ns) above = let before : nat_lt task n ≡ true =
    grind (arith, nat_tests, above.0) in rw before refl

insert_zero : {A : Type 0} (xs : List A) (x : A) → insert xs 0 x ≡ x ∷ xs
insert_zero [] x = refl
insert_zero (y ∷ xs) x = refl

-- at its place it is put in once
pub once_is : (task : ℕ) (ns : List ℕ) (row : ℕ) → IsPlace task ns row →
    insert ns row task ≡ insert_once nat_lt task ns
once_is task ns zero place = insert_zero ns task ∙ sym (once_first task ns place)
once_is task [] (suc row) place = absurd place
once_is task (n ∷ ns) (suc row) place =
    let later : nat_lt task n ≡ false = grind (arith, nat_tests, place.0) in
    let before : nat_lt n task ≡ true = grind (arith, nat_tests, place.0) in
    ap (λ rest. n ∷ rest) (once_is task ns row place.1) ∙ sym (rw (later, before) refl)

-- where it stands it is not put in again
pub once_again : (task : ℕ) (ns : List ℕ) (row : ℕ) → IsRising ns → slice_get ns row ≡ Some task →
    insert_once nat_lt task ns ≡ ns
once_again task [] row rising at = absurd cc
once_again task (n ∷ ns) zero rising at =
    let same : n ≡ task = cc in
    let later : nat_lt task n ≡ false = grind (arith, nat_tests) in
    let before : nat_lt n task ≡ false = grind (arith, nat_tests) in
    rw (later, before) refl
once_again task (n ∷ ns) (suc row) rising at =
    let less : n < task = above_at n ns row task rising.0 at in
    let later : nat_lt task n ≡ false = grind (arith, nat_tests) in
    let before : nat_lt n task ≡ true = grind (arith, nat_tests) in
    rw (later, before) (ap (λ rest. n ∷ rest) (once_again task ns row rising.1 at))

pub get_inserted : (task : ℕ) (ns : List ℕ) (row : ℕ) → IsPlace task ns row →
    slice_get (insert ns row task) row ≡ Some task
get_inserted task [] zero place = refl
get_inserted task (n ∷ ns) zero place = refl
get_inserted task [] (suc row) place = absurd place
get_inserted task (n ∷ ns) (suc row) place = get_inserted task ns row place.1

above_inserted : (low task : ℕ) (ns : List ℕ) (row : ℕ) → low < task → IsAbove low ns →
    IsPlace task ns row → IsAbove low (insert ns row task)
above_inserted low task [] zero lt above place = (lt, tt)
above_inserted low task (n ∷ ns) zero lt above place = (lt, above)
above_inserted low task [] (suc row) lt above place = absurd place
above_inserted low task (n ∷ ns) (suc row) lt above place =
    (above.0, above_inserted low task ns row lt above.1 place.1)

pub rising_inserted : (task : ℕ) (ns : List ℕ) (row : ℕ) → IsRising ns → IsPlace task ns row →
    IsRising (insert ns row task)
rising_inserted task [] zero rising place = (tt, tt)
rising_inserted task (n ∷ ns) zero rising place = (place, rising)
rising_inserted task [] (suc row) rising place = absurd place
rising_inserted task (n ∷ ns) (suc row) rising place = (
  above_inserted n task ns row place.0 rising.0 place.1,
  rising_inserted task ns row rising.1
      place.1,
)

-- ---- rows that fit

pub fit_lengths : (segment applied last : ℕ) (names : List ℕ) (times : List TaskTimes)
    (seen : List Seen) → AreFit segment applied last names times seen →
    (length times ≡ length names) × (length seen ≡ length names)
fit_lengths segment applied last [] [] [] fit = (refl, refl)
fit_lengths segment applied last [] [] (s ∷ seen) fit = absurd fit
fit_lengths segment applied last [] (t ∷ times) seen fit = absurd fit
fit_lengths segment applied last (n ∷ names) [] seen fit = absurd fit
fit_lengths segment applied last (n ∷ names) (t ∷ times) [] fit = absurd fit
fit_lengths segment applied last (n ∷ names) (t ∷ times) (s ∷ seen) fit = let more =
    fit_lengths segment applied last names times seen fit.1 in
    (omega (arith, more.0), omega (arith, more.1))

one_more_fits : (n : ℕ) (t : TaskTimes) (s : Seen)
    (segment segment' applied applied' last last' : ℕ) → segment ≤ segment' → applied ≤ applied' →
    last ≤ last' → IsFit n t s segment applied last → IsFit n t s segment' applied' last'
one_more_fits n t s segment segment' applied applied' last last' a b c fit = record {
  task = fit.task;
  starts = omega (arith, fit.starts);
  measured = omega (arith, fit.measured);
  resumed = omega (arith, fit.resumed);
  unknown = omega (arith, fit.unknown);
  sum = fit.sum;
  time = omega (arith, fit.time);
  segment = omega (arith, fit.segment);
}

pub fit_more : (segment segment' applied applied' last last' : ℕ) (names : List ℕ)
    (times : List TaskTimes) (seen : List Seen) → segment ≤ segment' → applied ≤ applied' →
    last ≤ last' → AreFit segment applied last names times seen →
    AreFit segment' applied' last' names times seen
fit_more segment segment' applied applied' last last' [] [] [] a b c fit = tt
fit_more segment segment' applied applied' last last' [] [] (s ∷ seen) a b c fit = absurd fit
fit_more segment segment' applied applied' last last' [] (t ∷ times) seen a b c fit = absurd fit
fit_more segment segment' applied applied' last last' (n ∷ names) [] seen a b c fit = absurd fit
fit_more segment segment' applied applied' last last' (n ∷ names) (t ∷ times) [] a b c fit =
    absurd fit
fit_more segment segment' applied applied' last last' (n ∷ names) (t ∷ times) (s ∷ seen) a b c fit = (
  one_more_fits n t s segment segment' applied applied' last last' a b c fit.0,
  fit_more segment
      segment' applied applied' last last' names times seen a b c fit.1,
)

blank_fits : (task segment applied last : ℕ) → IsFit task (no_times task) blank segment applied last
blank_fits task segment applied last =
    record {
      task = refl;
      starts = omega arith;
      measured = omega arith;
      resumed = omega arith;
      unknown = omega arith;
      sum = omega arith;
      time = omega arith;
      segment = omega arith;
    }

pub fit_inserted : (segment applied last task : ℕ) (names : List ℕ) (times : List TaskTimes)
    (seen : List Seen) (row : ℕ) → row ≤ length names → AreFit segment applied last names times seen
    → AreFit segment applied last (insert names row task) (insert times row (no_times task))
    (insert seen row blank)
fit_inserted segment applied last task [] [] [] zero within fit =
    (blank_fits task segment applied last, tt)
fit_inserted segment applied last task [] [] [] (suc row) within fit = absurd (omega arith)
fit_inserted segment applied last task [] [] (s ∷ seen) row within fit = absurd fit
fit_inserted segment applied last task [] (t ∷ times) seen row within fit = absurd fit
fit_inserted segment applied last task (n ∷ names) [] seen row within fit = absurd fit
fit_inserted segment applied last task (n ∷ names) (t ∷ times) [] row within fit = absurd fit
fit_inserted segment applied last task (n ∷ names) (t ∷ times) (s ∷ seen) zero within fit =
    (blank_fits task segment applied last, fit)
fit_inserted segment applied last task (n ∷ names) (t ∷ times) (s ∷ seen) (suc row) within fit =
    (fit.0, fit_inserted segment applied last task names times seen row (omega arith) fit.1)

pub fit_set : (segment applied last : ℕ) (names : List ℕ) (times : List TaskTimes)
    (seen : List Seen) (row : ℕ) (t : TaskTimes) (s : Seen) →
    ((n : ℕ) → slice_get names row ≡ Some n → IsFit n t s segment applied last) →
    AreFit segment applied last names times seen →
    AreFit segment applied last names (slice_set times row t) (slice_set seen row s)
fit_set segment applied last [] [] [] row t s new fit = fit
fit_set segment applied last [] [] (s' ∷ seen) row t s new fit = absurd fit
fit_set segment applied last [] (t' ∷ times) seen row t s new fit = absurd fit
fit_set segment applied last (n ∷ names) [] seen row t s new fit = absurd fit
fit_set segment applied last (n ∷ names) (t' ∷ times) [] row t s new fit = absurd fit
fit_set segment applied last (n ∷ names) (t' ∷ times) (s' ∷ seen) zero t s new fit =
    (new n refl, fit.1)
fit_set segment applied last (n ∷ names) (t' ∷ times) (s' ∷ seen) (suc row) t s new fit =
    (fit.0, fit_set segment applied last names times seen row t s new fit.1)

-- each row by its index
pub record Row (names : List ℕ) (times : List TaskTimes) (seen : List Seen) (row : ℕ) : Type 0 where
  pub name : ℕ
  pub time : TaskTimes
  pub what : Seen
  pub name_is : slice_get names row ≡ Some name
  pub time_is : slice_get times row ≡ Some time
  pub what_is : slice_get seen row ≡ Some what

pub row_at : (segment applied last : ℕ) (names : List ℕ) (times : List TaskTimes) (seen : List Seen)
    (row : ℕ) → row < length names → AreFit segment applied last names times seen →
    (r : Row names times seen row) × IsFit r.name r.time r.what segment applied last
row_at segment applied last [] [] [] row within fit = absurd (omega arith)
row_at segment applied last [] [] (s' ∷ seen) row within fit = absurd fit
row_at segment applied last [] (t' ∷ times) seen row within fit = absurd fit
row_at segment applied last (n ∷ names) [] seen row within fit = absurd fit
row_at segment applied last (n ∷ names) (t' ∷ times) [] row within fit = absurd fit
row_at segment applied last (n ∷ names) (t ∷ times) (s ∷ seen) zero within fit =
    (record { name = n; time = t; what = s; name_is = refl; time_is = refl; what_is = refl }, fit.0)
row_at segment applied last (n ∷ names) (t ∷ times) (s ∷ seen) (suc row) within fit =
    let more = row_at segment applied last names times seen row (omega arith) fit.1 in
    let r = more.0 in (
      record {
        name = r.name;
        time = r.time;
        what = r.what;
        name_is = r.name_is;
        time_is = r.time_is;
        what_is = r.what_is;
      },
      more.1,
    )

found_by : (ns : List ℕ) (task : ℕ) (r : Result ℕ ℕ) →
    MatchResult r (λ i. (i < length ns) × (get_or ns i 0 ≡ task))
    (λ i. (i ≤ length ns) × ((k : ℕ) → k < i → get_or ns k 0 < task)
    × ((k : ℕ) → i ≤ k → k < length ns → task < get_or ns k 0))
    → MatchResult r (λ row. slice_get ns row ≡ Some task) (λ row. IsPlace task ns row)
found_by ns task (Ok row) found = get_by_index ns row task found.0 found.1
found_by ns task (Err row) place = place_by_index task ns row place.0 place.1 place.2

-- what a binary search finds
pub find_result : (ns : List ℕ) (task : ℕ) (r : Result ℕ ℕ) → IsRising ns →
    IsBinarySearchResult (λ y. nat_cmp y task) ns r →
    MatchResult r (λ row. slice_get ns row ≡ Some task) (λ row. IsPlace task ns row)
find_result ns task r rising position =
    found_by ns task r (searched ns task r position (rising_by_index ns rising))

pub present : (task : ℕ) (ns : List ℕ) (row : ℕ) → slice_get ns row ≡ Some task →
    list_any (nat_eq task) ns ≡ true
present task [] row at = absurd cc
present task (n ∷ ns) zero at = let same : n ≡ task = cc in let equal : nat_eq task n ≡ true =
    grind (arith, nat_tests) in rw equal refl
present task (n ∷ ns) (suc row) at = rw (present task ns row at) (or_true (nat_eq task n))
  where
    or_true : (t : Bool) → (t || true) ≡ true
    or_true true = refl
    or_true false = refl

or_second : (s t : Bool) → (s || t) ≡ false → t ≡ false
or_second true t e = absurd cc
or_second false t e = e

or_keeps : (s t u : Bool) → (t ≡ false → u ≡ false) → (s || t) ≡ false → (s || u) ≡ false
or_keeps true t u f e = absurd cc
or_keeps false t u f e = f e

-- what is missing with an element more was missing before
pub any_inserted : (n task : ℕ) (ns : List ℕ) (row : ℕ) → row ≤ length ns →
    list_any (nat_eq n) (insert ns row task) ≡ false → list_any (nat_eq n) ns ≡ false
any_inserted n task [] zero within none = refl
any_inserted n task [] (suc row) within none = absurd (omega arith)
any_inserted n task (m ∷ ns) zero within none =
    or_second (nat_eq n task) (list_any (nat_eq n) (m ∷ ns)) none
any_inserted n task (m ∷ ns) (suc row) within none =
    or_keeps (nat_eq n m) (list_any (nat_eq n) (insert ns row task)) (list_any (nat_eq n) ns)
    (any_inserted n task ns row (omega arith)) none

-- only what is known of a row changes
pub fit_noted : (segment applied last : ℕ) (names : List ℕ) (times : List TaskTimes)
    (seen : List Seen) (row : ℕ) (s : Seen) →
    ((n : ℕ) (t : TaskTimes) (s' : Seen) → IsFit n t s' segment applied last →
    IsFit n t s segment applied last) → AreFit segment applied last names times seen →
    AreFit segment applied last names times (slice_set seen row s)
fit_noted segment applied last [] [] [] row s new fit = fit
fit_noted segment applied last [] [] (s' ∷ seen) row s new fit = absurd fit
fit_noted segment applied last [] (t' ∷ times) seen row s new fit = absurd fit
fit_noted segment applied last (n ∷ names) [] seen row s new fit = absurd fit
fit_noted segment applied last (n ∷ names) (t' ∷ times) [] row s new fit = absurd fit
fit_noted segment applied last (n ∷ names) (t' ∷ times) (s' ∷ seen) zero s new fit =
    (new n t' s' fit.0, fit.1)
fit_noted segment applied last (n ∷ names) (t' ∷ times) (s' ∷ seen) (suc row) s new fit =
    (fit.0, fit_noted segment applied last names times seen row s new fit.1)

-- a row is still fit once an event at this time is about its task
pub noted_fits : (n : ℕ) (t : TaskTimes) (s s' : Seen) (segment applied time : ℕ) →
    s.segment ≡ segment → s.time ≡ time → IsFit n t s' segment applied time →
    IsFit n t s segment applied time
noted_fits n t s s' segment applied time in_segment at fit = record {
  task = fit.task;
  starts = fit.starts;
  measured = fit.measured;
  resumed = fit.resumed;
  unknown = fit.unknown;
  sum = omega (arith, fit.sum, fit.time, at);
  time = omega (arith, at);
  segment = omega (arith, in_segment);
}

sum_by : (o : Option (ℕ × Bool)) (t : TaskTimes) (from time : ℕ) →
    ((at : ℕ) (ready : Bool) → o ≡ Some (at, ready) → at ≡ from) → t.sum ≤ from → from ≤ time →
    (counted t (class_kept o time)).sum ≤ time
sum_by None t from time at few le = omega arith
sum_by (Some (when, true)) t from time at few le = let same : when ≡ from = at when true refl in
    omega arith
sum_by (Some (when, false)) t from time at few le = omega arith

chosen_time : (b : Bool) (x y : ℕ × Bool) → cond b (Some x) None ≡ Some y → y ≡ x
chosen_time true x y e = cc
chosen_time false x y e = absurd cc

kept_time : (segment : ℕ) (s : Seen) (at : ℕ) (ready : Bool) → kept_since segment s ≡ Some (at, ready) →
    at ≡ s.time
kept_time segment s at ready is =
    let pair : ℕ × Bool = (at, ready) in
    let from : ℕ × Bool = (s.time, s.is_ready) in
    let same : pair ≡ from = chosen_time (s.segment == segment) from pair is in
    ap (λ (x : ℕ × Bool). x.0) same

-- the waits lie apart, so their sum is no later than the last of them
pub sum_fits : (n : ℕ) (t : TaskTimes) (s : Seen) (segment applied last time : ℕ) →
    IsFit n t s segment applied last → last ≤ time →
    (counted t (class_kept (kept_since segment s) time)).sum ≤ time
sum_fits n t s segment applied last time fit le =
    sum_by (kept_since segment s) t s.time time (kept_time segment s) fit.sum (omega (arith, fit.time))

-- counts grow by one at most
counts_by : (class : Class) (n : ℕ) (t : TaskTimes) (s s' : Seen) (segment applied last time : ℕ) →
    IsFit n t s segment applied last → s'.segment ≡ segment → s'.time ≡ time →
    (counted t class).sum ≤ time → IsFit n (counted t class) s' segment (applied + 1) time
counts_by (Measured wait) n t s s' segment applied last time fit in_segment at few =
    record {
      task = fit.task;
      starts = omega (arith, fit.starts);
      measured =
          omega (arith, fit.measured);
      resumed = omega (arith, fit.resumed);
      unknown =
          omega (arith, fit.unknown);
      sum = omega (arith, few, at);
      time = omega (arith, at);
      segment = omega (arith, in_segment);
    }
counts_by Resumed n t s s' segment applied last time fit in_segment at few =
    record {
      task = fit.task;
      starts = omega (arith, fit.starts);
      measured =
          omega (arith, fit.measured);
      resumed = omega (arith, fit.resumed);
      unknown =
          omega (arith, fit.unknown);
      sum = omega (arith, few, at);
      time = omega (arith, at);
      segment = omega (arith, in_segment);
    }
counts_by Unknown n t s s' segment applied last time fit in_segment at few =
    record {
      task = fit.task;
      starts = omega (arith, fit.starts);
      measured =
          omega (arith, fit.measured);
      resumed = omega (arith, fit.resumed);
      unknown =
          omega (arith, fit.unknown);
      sum = omega (arith, few, at);
      time = omega (arith, at);
      segment = omega (arith, in_segment);
    }

pub counted_fits : (n : ℕ) (t : TaskTimes) (s s' : Seen) (segment applied last time : ℕ) →
    IsFit n t s segment applied last → last ≤ time → s'.segment ≡ segment → s'.time ≡ time →
    IsFit n (counted t (class_kept (kept_since segment s) time)) s' segment (applied + 1) time
counted_fits n t s s' segment applied last time fit le in_segment at =
    counts_by (class_kept (kept_since segment s) time) n t s s' segment applied last time fit in_segment
    at (sum_fits n t s segment applied last time fit le)

get_at : {A : Type 0} (xs : List A) (row : ℕ) (d x : A) → row < length xs → x ≡ get_or xs row d →
    slice_get xs row ≡ Some x
get_at [] row d x within is = absurd (omega arith)
get_at (y ∷ xs) zero d x within is = ap Some (sym is)
get_at (y ∷ xs) (suc row) d x within is = get_at xs row d x (omega arith) is

some_same : {A : Type 0} (x y : A) → Some x ≡ Some y → x ≡ y
some_same x y e = cc

-- the row that was read
pub record Here (names : List ℕ) (t : TaskTimes) (s : Seen) (segment applied last row : ℕ) : Type 0
  where
    pub name : ℕ
    pub name_is : slice_get names row ≡ Some name
    pub fit : IsFit name t s segment applied last

pub here_at : (segment applied last : ℕ) (names : List ℕ) (times : List TaskTimes)
    (seen : List Seen) (row : ℕ) (t : TaskTimes) (s : Seen) → row < length names →
    t ≡ get_or times row t → s ≡ get_or seen row s →
    AreFit segment applied last names times seen → Here names t s segment applied last row
here_at segment applied last names times seen row t s within t_is s_is fit =
    let lengths = fit_lengths segment applied last names times seen fit in
    let found = row_at segment applied last names times seen row within fit in
    let r = found.0 in
    let t_at : slice_get times row ≡ Some t =
    get_at times row t t (omega (arith, lengths.0)) t_is in
    let s_at : slice_get seen row ≡ Some s = get_at seen row s s (omega (arith, lengths.1)) s_is in
    let t_same : r.time ≡ t = some_same r.time t (sym r.time_is ∙ t_at) in
    let s_same : r.what ≡ s = some_same r.what s (sym r.what_is ∙ s_at) in
    record {
      name = r.name;
      name_is = r.name_is;
      fit =
          subst (λ (x : Seen). IsFit r.name t x segment applied last) s_same
          (subst (λ (x : TaskTimes). IsFit r.name x r.what segment applied last) t_same found.1);
    }

pub seen_time : (segment applied last : ℕ) (names : List ℕ) (times : List TaskTimes)
    (seen : List Seen) (row : ℕ) (s : Seen) → row < length names → s ≡ get_or seen row s →
    AreFit segment applied last names times seen → s.time ≤ last
seen_time segment applied last names times seen row s within s_is fit =
    let lengths = fit_lengths segment applied last names times seen fit in
    let found = row_at segment applied last names times seen row within fit in
    let r = found.0 in
    let s_at : slice_get seen row ≡ Some s = get_at seen row s s (omega (arith, lengths.1)) s_is in
    let s_same : r.what ≡ s = some_same r.what s (sym r.what_is ∙ s_at) in
    omega (arith, found.1.time, ap (λ (x : Seen). x.time) s_same)

-- the rows are fit once one more start was counted
pub start_fits : (segment applied last time : ℕ) (names : List ℕ) (times : List TaskTimes)
    (seen : List Seen) (row : ℕ) (t x : TaskTimes) (s s' : Seen) (class : Class) →
    row < length names → last ≤ time → t ≡ get_or times row t → s ≡ get_or seen row s
    → x ≡ counted t class → class ≡ class_kept (kept_since segment s) time → s'.segment ≡ segment →
    s'.time ≡ time → AreFit segment applied last names times seen →
    AreFit segment (applied + 1) time names (slice_set times row x) (slice_set seen row s')
start_fits segment applied last time names times seen row t x s s' class within le t_is s_is x_is
    class_is in_segment at fit =
    let here = here_at segment applied last names times seen row t s within t_is s_is fit in
    let whole : x ≡ counted t (class_kept (kept_since segment s) time) = x_is ∙ ap (counted t) class_is in
    let new : IsFit here.name x s' segment (applied + 1) time =
    subst (λ (y : TaskTimes). IsFit here.name y s' segment (applied + 1) time) (sym whole)
    (counted_fits here.name t s s' segment applied last time here.fit le in_segment at) in
    fit_set segment (applied + 1) time names times seen row x s'
    (λ n n_at. subst (λ (m : ℕ). IsFit m x s' segment (applied + 1) time)
    (some_same here.name n (sym here.name_is ∙ n_at)) new)
    (fit_more segment segment applied (applied + 1) last time names times seen (omega arith)
    (omega arith) le fit)

-- the state after a start
pub started_is : (old : State) (row time : ℕ) (t x times : TaskTimes) (s seen : Seen)
    (class : Class) → row < length old.names →
    AreFit old.segment old.applied old.last old.names old.times old.seen
    → t ≡ get_or old.times row t → s ≡ get_or old.seen row s → x ≡ counted t class →
    class ≡ class_kept (kept_since old.segment s) time → slice_get old.times row ≡ Some times →
    slice_get old.seen row ≡ Some seen
    → ◌≡◌ {A = State} (record {
      names = old.names;
      times = slice_set old.times row x;
      seen =
          slice_set old.seen row (record { segment = old.segment; time = time; is_ready = false });
      segment = old.segment;
      applied = old.applied + 1;
      last = time;
    })
    (started old row time times seen)
started_is old row time t x times s seen class within fit t_is s_is x_is class_is times_at seen_at =
    let lengths = fit_lengths old.segment old.applied old.last old.names old.times old.seen fit in
    let t_at : slice_get old.times row ≡ Some t =
    get_at old.times row t t (omega (arith, lengths.0)) t_is in
    let s_at : slice_get old.seen row ≡ Some s =
    get_at old.seen row s s (omega (arith, lengths.1)) s_is in
    let whole : x ≡ counted times (class_kept (kept_since old.segment seen) time)
    = x_is ∙ ap (counted t) class_is
    ∙ ap (λ (y : Seen). counted t (class_kept (kept_since old.segment y) time))
    (some_same s seen (sym s_at ∙ seen_at)) ∙ ap
    (λ (y : TaskTimes). counted y (class_kept (kept_since old.segment seen) time))
    (some_same t times (sym t_at ∙ times_at)) in
    ap (λ (y : TaskTimes). record {
      names = old.names;
      times = slice_set old.times row y;
      seen =
          slice_set old.seen row (record { segment = old.segment; time = time; is_ready = false });
      segment = old.segment;
      applied = old.applied + 1;
      last = time;
    }) whole
