-- What one more event does to the ticks: those before the last event stay, and the new ones have
-- one context.
use Rattle.std.proofs.Common.{◌≡◌, ℕ, ◌+◌, ◌-◌, ◌*◌, ◌<◌, ◌≤◌, List, [], ◌∷◌, ◌++◌, map, refl, sym}
use Rattle.std.proofs.Common.{ap, ◌∙◌, arith}
use Rattle.std.specs.Prelude.{Bool, true, false, cond, ◌&&◌, ◌||◌, nat_le, nat_lt, filter}
use Rattle.std.specs.Prelude.{replicate, count_by, if◌then◌else◌}
use Rattle.std.specs.List.{list_any, list_all, range_with_len}
use Rattle.std.proofs.lemmas.Bool.Decides.{nat_tests}
use Rattle.std.proofs.lemmas.List.{map-append, append-nil}
use Rattle.std.proofs.lemmas.List.Elements.{filter-append}
use Rattle.std.proofs.lemmas.List.Folds.{list_any-append, sum_by-replicate}
use Rattle.std.proofs.lemmas.List.Sums.{sum_by-append}
use Rattle.sv_packet.specs.declared.event.TimedEvent.{TimedEvent}
use Rattle.sv_packet.specs.Lists.{neighbours}
use Rattle.sv_packet.proofs.Shared.{neighbours-more, last_time-more}
use Rattle.sv_context.specs.declared.context.Context.{Context}
use Rattle.sv_context.specs.declared.context.Context.TheVariants.{Gap}
use Rattle.sv_context.specs.Context.{context_after}
use Rattle.sv_context.specs.Order.{is_same_context}
use Rattle.sv_timeline.specs.Ticks.{is_gap_from, is_gap_to, is_between, is_before_all, is_gap}
use Rattle.sv_packet.specs.Events.{last_time}
use Rattle.sv_timeline.specs.Ticks.{events_until, context_at, ticks_of}
use Rattle.sv_timeline.specs.Load.{load_of}
use Rattle.sv_timeline.proofs.Ranges.{range-add, map-range, map-constant}

-- each event is at the tick or before it
abbrev pub AreUpTo : ℕ → List TimedEvent → Type 0
AreUpTo tick events = list_all (λ e. nat_le e.time tick) events ≡ true

and_false : (t : Bool) → (t && false) ≡ false
and_false true = refl
and_false false = refl

or_false : (t : Bool) → (t || false) ≡ t
or_false true = refl
or_false false = refl

and_first : (s t : Bool) → (s && t) ≡ true → s ≡ true
and_first true t e = refl
and_first false t e = absurd cc

and_second : (s t : Bool) → (s && t) ≡ true → t ≡ true
and_second true t e = e
and_second false t e = absurd cc

-- ---- a later event changes no earlier tick

filter_not : {A : Type 0} (p : A → Bool) (xs : List A) (x : A) → p x ≡ false
    → filter p (xs ++ x ∷ []) ≡ filter p xs
filter_not p xs x out =
    let none : filter p (x ∷ []) ≡ [] = rw out refl in
    filter-append p xs (x ∷ []) ∙ ap (λ rest. filter p xs ++ rest) none ∙ append-nil (filter p xs)

pub until_later : (events : List TimedEvent) (event : TimedEvent) (tick : ℕ) → tick < event.time
    → events_until (events ++ event ∷ []) tick ≡ events_until events tick
until_later events event tick before =
    let out : nat_le event.time tick ≡ false = grind (arith, nat_tests) in
    ap (map (λ e. e.event)) (filter_not (λ e. nat_le e.time tick) events event out)

first_stays : (xs : List TimedEvent) (y event : TimedEvent) (tick : ℕ)
    → is_before_all ((xs ++ y ∷ []) ++ event ∷ []) tick ≡ is_before_all (xs ++ y ∷ []) tick
first_stays [] y event tick = refl
first_stays (x ∷ xs) y event tick = refl

-- the pair lies round the tick, in a gap
abbrev is_gap_pair : ℕ → TimedEvent × TimedEvent → Bool
is_gap_pair tick pair = is_between pair.0 pair.1 tick && (is_gap_from pair.0.event || is_gap_to
    pair.1.event)

pairs_more : (xs : List TimedEvent) (y event : TimedEvent) (tick : ℕ)
    → list_any (is_gap_pair tick) (neighbours ((xs ++ y ∷ []) ++ event ∷ []))
    ≡ (list_any (is_gap_pair tick) (neighbours (xs ++ y ∷ [])) || is_gap_pair tick (y, event))
pairs_more xs y event tick =
    ap (list_any (is_gap_pair tick)) (neighbours-more xs y event)
    ∙ list_any-append (is_gap_pair tick) (neighbours (xs ++ y ∷ [])) ((y, event) ∷ [])
    ∙ ap (λ t. list_any (is_gap_pair tick) (neighbours (xs ++ y ∷ [])) || t) (or_false (is_gap_pair
    tick (y, event)))

gap_later : (xs : List TimedEvent) (y event : TimedEvent) (tick : ℕ) → tick < y.time
    → is_gap ((xs ++ y ∷ []) ++ event ∷ []) tick ≡ is_gap (xs ++ y ∷ []) tick
gap_later xs y event tick before =
    let out : nat_le y.time tick ≡ false = grind (arith, nat_tests) in
    let pair : is_gap_pair tick (y, event) ≡ false = rw out refl in
    let pairs : list_any (is_gap_pair tick) (neighbours ((xs ++ y ∷ []) ++ event ∷ []))
    ≡ list_any (is_gap_pair tick) (neighbours (xs ++ y ∷ []))
    = pairs_more xs y event tick ∙ rw pair (or_false _) in
    rw (first_stays xs y event tick, pairs) refl

-- a further event leaves all ticks before the last one as they were
pub context_at-later : (xs : List TimedEvent) (y event : TimedEvent) (tick : ℕ) → tick < y.time
    → y.time ≤ event.time → context_at ((xs ++ y ∷ []) ++ event ∷ []) tick ≡ context_at (xs ++ y ∷
    []) tick
context_at-later xs y event tick before later = rw (
  gap_later xs y event tick before,
  until_later
      (xs ++ y ∷ []) event tick (omega arith),
) refl

-- ---- the ticks from the last event up to a new one

none_between : (tick : ℕ) (events : List TimedEvent) → AreUpTo tick events
    → list_any (is_gap_pair tick) (neighbours events) ≡ false
none_between tick [] up = refl
none_between tick (a ∷ []) up = refl
none_between tick (a ∷ b ∷ events) up =
    let rest : AreUpTo tick (b ∷ events) = and_second _ _ up in
    let b_first : nat_le b.time tick ≡ true = and_first _ _ rest in
    let out : nat_lt tick b.time ≡ false = grind (arith, nat_tests) in
    let pair : is_gap_pair tick (a, b) ≡ false = rw (out, and_false (nat_le a.time tick)) refl in
    rw (pair, none_between tick (b ∷ events) rest) refl

pub filter_all : {A : Type 0} (p : A → Bool) (xs : List A) → list_all p xs ≡ true → filter p xs ≡ xs
filter_all p [] all = refl
filter_all p (x ∷ xs) all = rw (and_first (p x) (list_all p xs) all) (ap (λ rest. x ∷ rest)
    (filter_all p xs (and_second (p x) (list_all p xs) all)))

first_passed : (tick : ℕ) (xs : List TimedEvent) (y event : TimedEvent)
    → AreUpTo tick (xs ++ y ∷ []) → is_before_all ((xs ++ y ∷ []) ++ event ∷ []) tick ≡ false
first_passed tick [] y event up = let a : nat_le y.time tick ≡ true = and_first _ _ up in
    grind (arith, nat_tests)
first_passed tick (x ∷ xs) y event up = let a : nat_le x.time tick ≡ true = and_first _ _ up in
    grind (arith, nat_tests)

gap_new : (xs : List TimedEvent) (y event : TimedEvent) (tick : ℕ) → AreUpTo tick (xs ++ y ∷ [])
    → y.time ≤ tick → tick < event.time → is_gap ((xs ++ y ∷ []) ++ event ∷ []) tick
    ≡ (is_gap_from y.event || is_gap_to event.event)
gap_new xs y event tick up from to =
    let low : nat_le y.time tick ≡ true = grind (arith, nat_tests) in
    let high : nat_lt tick event.time ≡ true = grind (arith, nat_tests) in
    let pair : is_gap_pair tick (y, event) ≡ (is_gap_from y.event || is_gap_to event.event) =
    rw (low, high) refl in
    rw (
      first_passed tick xs y event up,
      pairs_more xs y event tick,
      none_between tick (xs ++ y ∷
          []) up,
      pair,
    ) refl

-- the one context of the ticks from the last event up to a new one
abbrev pub context_before : List TimedEvent → TimedEvent → TimedEvent → Context
context_before events last event = if is_gap_from last.event || is_gap_to event.event then Gap
    else context_after (map (λ e. e.event) events)

pub context_at-new : (xs : List TimedEvent) (y event : TimedEvent) (tick : ℕ)
    → AreUpTo tick (xs ++ y ∷ []) → y.time ≤ tick → tick < event.time
    → context_at ((xs ++ y ∷ []) ++ event ∷ []) tick ≡ context_before (xs ++ y ∷ []) y event
context_at-new xs y event tick up from to =
    let all : events_until ((xs ++ y ∷ []) ++ event ∷ []) tick ≡ map (λ e. e.event) (xs ++ y ∷ [])
    = until_later (xs ++ y ∷ []) event tick to ∙ ap (map (λ e. e.event)) (filter_all (λ e. nat_le
    e.time tick) (xs ++ y ∷ []) up) in
    rw (gap_new xs y event tick up from to, all) refl

-- ---- all ticks

pub up_to_more : (low high : ℕ) (events : List TimedEvent) → low ≤ high → AreUpTo low events
    → AreUpTo high events
up_to_more low high [] le up = refl
up_to_more low high (e ∷ events) le up =
    let first : nat_le e.time low ≡ true = and_first _ _ up in
    let here : nat_le e.time high ≡ true = grind (arith, nat_tests) in
    rw here (up_to_more low high events le (and_second _ _ up))

pub ticks-more : (xs : List TimedEvent) (y event : TimedEvent) → AreUpTo y.time (xs ++ y ∷ [])
    → y.time ≤ event.time
    → ticks_of ((xs ++ y ∷ []) ++ event ∷ []) ≡ ticks_of (xs ++ y ∷ []) ++ replicate (event.time -
    y.time) (context_before (xs ++ y ∷ []) y event)
ticks-more xs y event up le =
    let es : List TimedEvent = xs ++ y ∷ [] in
    let more : List TimedEvent = (xs ++ y ∷ []) ++ event ∷ [] in
    let total : last_time more ≡ y.time + (event.time - y.time) = last_time-more (xs ++ y ∷ [])
    event ∙ omega arith in
    let old : map (context_at more) (range_with_len 0 y.time) ≡ map (context_at es) (range_with_len
    0 y.time)
    = map-range (context_at more) (context_at es) 0 y.time (λ k low high. context_at-later xs y
    event k (omega arith) le) in
    let new : map (context_at more) (range_with_len (0 + y.time) (event.time - y.time))
    ≡ replicate (event.time - y.time) (context_before es y event)
    = map-range (context_at more) (λ k. context_before es y event) (0 + y.time) (event.time -
    y.time) (λ k low high. context_at-new xs y event k (up_to_more y.time k es (omega arith) up)
    (omega arith) (omega arith))
    ∙ map-constant (context_before es y event) (0 + y.time) (event.time - y.time) in
    ap (λ (n : ℕ). map (context_at more) (range_with_len 0 n)) total
    ∙ ap (map (context_at more)) (range-add 0 y.time (event.time - y.time))
    ∙ map-append (context_at more) (range_with_len 0 y.time) (range_with_len (0 + y.time)
    (event.time - y.time))
    ∙ ap (λ front. front ++ map (context_at more) (range_with_len (0 + y.time) (event.time -
    y.time))) old
    ∙ ap (λ rest. map (context_at es) (range_with_len 0 y.time) ++ rest) new
    ∙ ap (λ (n : ℕ). map (context_at es) (range_with_len 0 n) ++ replicate (event.time - y.time)
    (context_before es y event)) (sym (last_time-more xs y))

-- a load grows by the new ticks of its context
pub load-more : (context : Context) (xs : List TimedEvent) (y event : TimedEvent)
    → AreUpTo y.time (xs ++ y ∷ []) → y.time ≤ event.time
    → load_of context ((xs ++ y ∷ []) ++ event ∷ []) ≡ load_of context (xs ++ y ∷ []) + (event.time
    - y.time) * cond (is_same_context context (context_before (xs ++ y ∷ []) y event)) 1 0
load-more context xs y event up le =
    ap (count_by (is_same_context context)) (ticks-more xs y event up le)
    ∙ sum_by-append (λ c. cond (is_same_context context c) 1 0) (ticks_of (xs ++ y ∷ [])) (replicate
    (event.time - y.time) (context_before (xs ++ y ∷ []) y event))
    ∙ ap (λ (n : ℕ). load_of context (xs ++ y ∷ []) + n) (sum_by-replicate (λ c. cond
    (is_same_context context c) 1 0) (event.time - y.time) (context_before (xs ++ y ∷ []) y
    event))
