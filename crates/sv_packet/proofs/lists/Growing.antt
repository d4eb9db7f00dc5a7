-- Words on lists, when one more element comes at the end.
use Rattle.std.proofs.Common.{◌≡◌, ℕ, ◌+◌, ◌-◌, ◌≤◌, List, [], ◌∷◌, ◌++◌, length}
use Rattle.std.proofs.Common.{drop, map, refl, sym, ap, subst, ◌∙◌, arith}
use Rattle.std.specs.Prelude.{Bool, true, false, not, cond, filter, Option, Some, None}
use Rattle.std.specs.List.{after_last, suffix_len, last_or, list_any}
use Rattle.std.specs.Option.{option_map_or}
use Rattle.std.proofs.lemmas.List.{length-append, reverse-append, map-append, drop-append-le}
use Rattle.std.proofs.lemmas.List.{append-nil}
use Rattle.std.proofs.Math.Seq.{drop-append_seam}
use Rattle.std.proofs.lemmas.List.Sums.{fold-append}
use Rattle.std.proofs.lemmas.List.Elements.{filter-append}
use Rattle.sv_packet.specs.declared.event.Packet.{Packet}
use Rattle.sv_packet.specs.declared.event.TimedEvent.{TimedEvent}
use Rattle.sv_packet.specs.Time.{with_before, time_of, timed}
use Rattle.sv_packet.specs.Events.{last_time}
use Rattle.sv_packet.specs.Lists.{fronts, neighbours, last_of, first_seen, insert_once, in_order}
use Rattle.sv_packet.proofs.lists.Times.{with_before_from-append, time_of-push, timed-push, event_at}
use Rattle.sv_packet.proofs.lists.Times.{timed_after}

-- what follows the last element that passes
suffix_more : {A : Type 0} (p : A → Bool) (xs : List A) (x : A) → suffix_len p (xs ++ x ∷ [])
    ≡ cond (p x) (1 + suffix_len p xs) 0
suffix_more p xs x = rw reverse-append refl

drop_all : {A : Type 0} (xs : List A) → drop (length xs) xs ≡ []
drop_all xs = ap (drop (length xs)) (sym (append-nil xs)) ∙ drop-append_seam xs []

after_by : {A : Type 0} (p : A → Bool) (t : Bool) (xs : List A) (x : A) → p x ≡ t
    → after_last p (xs ++ x ∷ []) ≡ cond t [] (after_last p xs ++ x ∷ [])
after_by {A} p true xs x test =
    let none : suffix_len (λ y. not (p y)) (xs ++ x ∷ []) ≡ 0 = rw (
      suffix_more (λ y. not (p y)) xs
          x,
      test,
    ) refl in
    let all : length (xs ++ x ∷ []) - suffix_len (λ y. not (p y)) (xs ++ x ∷ [])
    ≡ length (xs ++ x ∷ []) = omega arith in
    ap (λ (n : ℕ). drop n (xs ++ x ∷ [])) all ∙ drop_all (xs ++ x ∷ [])
after_by {A} p false xs x test =
    let one : suffix_len (λ y. not (p y)) (xs ++ x ∷ []) ≡ 1 + suffix_len (λ y. not (p y)) xs =
    rw (suffix_more (λ y. not (p y)) xs x, test) refl in
    let from : length (xs ++ x ∷ []) - suffix_len (λ y. not (p y)) (xs ++ x ∷ [])
    ≡ length xs - suffix_len (λ y. not (p y)) xs = omega (arith, length-append xs (x ∷ [])) in
    ap (λ (n : ℕ). drop n (xs ++ x ∷ [])) from ∙ drop-append-le (length xs - suffix_len (λ y. not
    (p y)) xs) xs (x ∷ []) (omega arith)

pub after_last-more : {A : Type 0} (p : A → Bool) (xs : List A) (x : A)
    → after_last p (xs ++ x ∷ []) ≡ cond (p x) [] (after_last p xs ++ x ∷ [])
after_last-more p xs x = after_by p (p x) xs x refl

-- each element with those before it
pub with_before-more : {A : Type 0} (xs : List A) (x : A) → with_before (xs ++ x ∷ [])
    ≡ with_before xs ++ (xs, x) ∷ []
with_before-more xs x = with_before_from-append [] xs (x ∷ [])

-- fronts
pub fronts-more : {A : Type 0} (xs : List A) (x : A) → fronts (xs ++ x ∷ []) ≡ fronts xs ++ (xs ++ x
    ∷ []) ∷ []
fronts-more [] x = refl
fronts-more (y ∷ xs) x = ap (λ rest. [] ∷ rest) (ap (map (λ front. y ∷ front)) (fronts-more xs x)
    ∙ map-append (λ front. y ∷ front) (fronts xs) ((xs ++ x ∷ []) ∷ []))

-- the last
last_or-more : {A : Type 0} (o : Option A) (xs : List A) (x : A) → last_or o (xs ++ x ∷ []) ≡ Some x
last_or-more o [] x = refl
last_or-more o (y ∷ xs) x = last_or-more (Some y) xs x

pub last_of-more : {A : Type 0} (xs : List A) (x : A) → last_of (xs ++ x ∷ []) ≡ Some x
last_of-more xs x = last_or-more None xs x

-- neighbours: a new pair of the last two
pub neighbours-more : {A : Type 0} (xs : List A) (y x : A) → neighbours ((xs ++ y ∷ []) ++ x ∷ [])
    ≡ neighbours (xs ++ y ∷ []) ++ (y, x) ∷ []
neighbours-more [] y x = refl
neighbours-more (a ∷ []) y x = refl
neighbours-more (a ∷ b ∷ xs) y x = ap (λ rest. (a, b) ∷ rest) (neighbours-more (b ∷ xs) y x)

-- an element is new where none before it is the same
pub first_seen-new : {A : Type 0} (same : A → A → Bool) (xs : List A) (x : A)
    → list_any (same x) xs ≡ false → first_seen same (xs ++ x ∷ []) ≡ first_seen same xs ++ x ∷ []
first_seen-new {A} same xs x new =
    let here : List A × A → Bool = λ at. not (list_any (same at.1) at.0) in
    let one : filter here ((xs, x) ∷ []) ≡ (xs, x) ∷ [] = rw new refl in
    ap (λ pairs. map (λ (at : List A × A). at.1) (filter here pairs)) (with_before-more xs x)
    ∙ ap (map (λ (at : List A × A). at.1)) (filter-append here (with_before xs) ((xs, x) ∷ [])
    ∙ ap (λ rest. filter here (with_before xs) ++ rest) one)
    ∙ map-append (λ (at : List A × A). at.1) (filter here (with_before xs)) ((xs, x) ∷ [])

pub first_seen-again : {A : Type 0} (same : A → A → Bool) (xs : List A) (x : A)
    → list_any (same x) xs ≡ true → first_seen same (xs ++ x ∷ []) ≡ first_seen same xs
first_seen-again {A} same xs x again =
    let here : List A × A → Bool = λ at. not (list_any (same at.1) at.0) in
    let none : filter here ((xs, x) ∷ []) ≡ [] = rw again refl in
    ap (λ pairs. map (λ (at : List A × A). at.1) (filter here pairs)) (with_before-more xs x)
    ∙ ap (map (λ (at : List A × A). at.1)) (filter-append here (with_before xs) ((xs, x) ∷ [])
    ∙ ap (λ rest. filter here (with_before xs) ++ rest) none
    ∙ append-nil (filter here (with_before xs)))

-- one more element is put in its place
pub in_order-more : {A : Type 0} (before : A → A → Bool) (xs : List A) (x : A)
    → in_order before (xs ++ x ∷ []) ≡ insert_once before x (in_order before xs)
in_order-more before xs x = fold-append (λ found y. insert_once before y found) [] xs (x ∷ [])

-- a list is empty or has a last element
pub data Ending {A : Type 0} (xs : List A) : Type 0 where
  empty : xs ≡ [] → Ending xs
  ended : (front : List A) (last : A) → xs ≡ front ++ last ∷ [] → Ending xs

longer_ending : {A : Type 0} (x : A) (xs : List A) → Ending xs → Ending (x ∷ xs)
longer_ending x xs (empty is) = ended [] x (ap (λ rest. x ∷ rest) is)
longer_ending x xs (ended front last is) = ended (x ∷ front) last (ap (λ rest. x ∷ rest) is)

pub ending_of : {A : Type 0} (xs : List A) → Ending xs
ending_of [] = empty refl
ending_of (x ∷ xs) = longer_ending x xs (ending_of xs)

pub last_time-more : (events : List TimedEvent) (event : TimedEvent) →
    last_time (events ++ event ∷ []) ≡ event.time
last_time-more events event = ap (λ o. option_map_or (λ e. e.time) o 0) (last_of-more events event)

last_time-by : (packets : List Packet) → Ending packets →
    last_time (timed packets) ≡ time_of packets
last_time-by packets (empty is) =
    subst (λ (ps : List Packet). last_time (timed ps) ≡ time_of ps) (sym is) refl
last_time-by packets (ended front last is) =
    let event : TimedEvent = record
    { time = time_of front + last.delta; event = last.event } in
    subst (λ (ps : List Packet). last_time (timed ps) ≡ time_of ps) (sym is)
    (ap last_time (timed-push front last (time_of front) refl)
    ∙ last_time-more (timed front) event
    ∙ sym (time_of-push front last))

-- the last event has the time of the packets
pub last_time-timed : (packets : List Packet) → last_time (timed packets) ≡ time_of packets
last_time-timed packets = last_time-by packets (ending_of packets)

-- the time of the last of some events, or the given one
abbrev last_from : ℕ → List TimedEvent → ℕ
last_from time [] = time
last_from time (event ∷ events) = last_from event.time events

last_from-is : (before : Option TimedEvent) (events : List TimedEvent) →
    option_map_or (λ (e : TimedEvent). e.time) (last_or before events) 0
    ≡ last_from (option_map_or (λ (e : TimedEvent). e.time) before 0) events
last_from-is before [] = refl
last_from-is before (event ∷ events) = last_from-is (Some event) events

rises_after : (before packets : List Packet) (earlier later : List TimedEvent)
    (event : TimedEvent) → timed_after before packets ≡ earlier ++ event ∷ later →
    last_from (time_of before) earlier ≤ event.time
rises_after before [] [] later event is = absurd cc
rises_after before [] (e ∷ earlier) later event is = absurd cc
rises_after before (p ∷ packets) [] later event is =
    let head : event_at (before, p) ≡ event = cc in
    omega (arith, time_of-push before p, ap (λ (e : TimedEvent). e.time) head)
rises_after before (p ∷ packets) (e ∷ earlier) later event is =
    let head : event_at (before, p) ≡ e = cc in
    let tail : timed_after (before ++ p ∷ []) packets ≡ earlier ++ event ∷ later = cc in
    subst (λ (n : ℕ). last_from n earlier ≤ event.time) (ap (λ (e : TimedEvent). e.time) head)
    (rises_after (before ++ p ∷ []) packets earlier later event tail)

-- no packet's event is before those of the packets before it
pub times_rise : (packets : List Packet) (earlier later : List TimedEvent) (event : TimedEvent) →
    timed packets ≡ earlier ++ event ∷ later → last_time earlier ≤ event.time
times_rise packets earlier later event is =
    subst (λ (n : ℕ). n ≤ event.time) (sym (last_from-is None earlier))
    (rises_after [] packets earlier later event is)
