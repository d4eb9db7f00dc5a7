-- What a timeline stands for, when one more event comes.
use Rattle.std.proofs.Common.{◌≡◌, ℕ, ◌+◌, ◌-◌, ◌*◌, ◌<◌, ◌≤◌, List, [], ◌∷◌, ◌++◌, map, refl, sym}
use Rattle.std.proofs.Common.{ap, subst, ◌∙◌, arith}
use Rattle.std.specs.Prelude.{Bool, true, false, not, cond, ◌&&◌, ◌||◌, ◌==◌, nat_lt, replicate}
use Rattle.std.specs.Prelude.{count_by, if◌then◌else◌}
use Rattle.std.specs.Option.{option_map_or}
use Rattle.std.specs.List.{range_with_len}
use Rattle.std.proofs.lemmas.Bool.Decides.{nat_tests}
use Rattle.std.proofs.lemmas.List.{append-nil}
use Rattle.std.proofs.lemmas.List.Folds.{sum_by-replicate}
use Rattle.std.proofs.lemmas.List.Sums.{sum_by-append}
use Rattle.sv_packet.specs.declared.event.TimedEvent.{TimedEvent}
use Rattle.sv_packet.proofs.Shared.{Ending, empty, ended, ending_of, last_of-more, last_time-more}
use Rattle.sv_context.specs.declared.context.Context.{Context}
use Rattle.sv_context.specs.declared.context.Context.TheVariants.{Gap}
use Rattle.sv_context.specs.Context.{context_after}
use Rattle.sv_context.specs.Order.{is_same_context}
use Rattle.sv_timeline.specs.declared.span.Span.{Span}
use Rattle.sv_packet.specs.Events.{last_time}
use Rattle.sv_timeline.specs.Ticks.{is_gap_from, is_gap_to, context_at, ticks_of}
use Rattle.sv_timeline.specs.Timeline.{AreInRow, IsTimeline}
use Rattle.sv_timeline.specs.Load.{load_of}
use Rattle.sv_timeline.specs.State.{context_after_all}
use Rattle.sv_timeline.proofs.Ranges.{map-range, map-constant}
use Rattle.sv_timeline.proofs.Once.{row_le}
use Rattle.sv_timeline.proofs.Growing.{AreUpTo, ticks-more, context_at-later, context_before}
use Rattle.sv_timeline.proofs.Runs.{timeline-same, timeline-first, timeline-longer, timeline-next}
use Rattle.sv_timeline.proofs.Runs.{span_of, row_last}
use Rattle.sv_timeline.proofs.Same.{same_is}

-- the context of the ticks between the last of some events and the next one
abbrev pub next_of : List TimedEvent → TimedEvent → Context
next_of events event = if is_gap_to event.event then Gap else context_after_all events

gap_swap : (a b : Bool) (c : Context) → (if a || b then Gap else c) ≡ (if b then Gap else if a
    then Gap else c)
gap_swap true true c = refl
gap_swap true false c = refl
gap_swap false true c = refl
gap_swap false false c = refl

both_gap : (b : Bool) → (if b then Gap else Gap) ≡ Gap
both_gap true = refl
both_gap false = refl

-- the ticks before a first event
first_ticks : (event : TimedEvent) → ticks_of (event ∷ []) ≡ replicate event.time Gap
first_ticks event =
    map-range (context_at (event ∷ [])) (λ k. Gap) 0 event.time (λ k low high. let before : nat_lt k
    event.time ≡ true = grind (arith, nat_tests) in rw before refl)
    ∙ map-constant Gap 0 event.time

before_last : (xs : List TimedEvent) (y event : TimedEvent) → context_before (xs ++ y ∷ []) y event
    ≡ next_of (xs ++ y ∷ []) event
before_last xs y event =
    gap_swap (is_gap_from y.event) (is_gap_to event.event) (context_after (map (λ e. e.event) (xs ++
    y ∷ [])))
    ∙ ap (λ o. if is_gap_to event.event then Gap else option_map_or (λ (last : TimedEvent). if
    is_gap_from last.event then Gap else context_after (map (λ e. e.event) (xs ++ y ∷ []))) o
    Gap) (sym (last_of-more xs y))

ticks_by : (events : List TimedEvent) (event : TimedEvent) → Ending events
    → AreUpTo (last_time events) events → last_time events ≤ event.time
    → ticks_of (events ++ event ∷ []) ≡ ticks_of events ++ replicate (event.time - last_time events)
    (next_of events event)
ticks_by events event (empty is) up le =
    let all : event.time - 0 ≡ event.time = omega arith in
    let plain : ticks_of (event ∷ []) ≡ replicate (event.time - 0) (next_of [] event) =
    first_ticks event ∙ ap (replicate event.time) (sym (both_gap (is_gap_to event.event)))
    ∙ ap (λ (n : ℕ). replicate n (next_of [] event)) (sym all) in
    subst (λ (es : List TimedEvent). ticks_of (es ++ event ∷ []) ≡ ticks_of es ++ replicate
    (event.time - last_time es) (next_of es event)) (sym is) plain
ticks_by events event (ended xs y is) up le =
    let last : last_time events ≡ y.time = ap last_time is ∙ last_time-more xs y in
    let up_to : AreUpTo y.time (xs ++ y ∷ []) = subst (λ (n : ℕ). AreUpTo n (xs ++ y ∷ [])) last
    (subst (λ (es : List TimedEvent). AreUpTo (last_time events) es) is up) in
    let more : ticks_of ((xs ++ y ∷ []) ++ event ∷ []) ≡ ticks_of (xs ++ y ∷ []) ++ replicate
    (event.time - last_time (xs ++ y ∷ [])) (next_of (xs ++ y ∷ []) event)
    = ticks-more xs y event up_to (omega arith)
    ∙ ap (λ (n : ℕ). ticks_of (xs ++ y ∷ []) ++ replicate (event.time - n) (context_before (xs ++ y
    ∷ []) y event)) (sym (last_time-more xs y))
    ∙ ap (λ (c : Context). ticks_of (xs ++ y ∷ []) ++ replicate (event.time - last_time (xs ++ y ∷
    [])) c) (before_last xs y event) in
    subst (λ (es : List TimedEvent). ticks_of (es ++ event ∷ []) ≡ ticks_of es ++ replicate
    (event.time - last_time es) (next_of es event)) (sym is) more

-- the new ticks have one context
pub ticks_step : (events : List TimedEvent) (event : TimedEvent) → AreUpTo (last_time events) events
    → last_time events ≤ event.time
    → ticks_of (events ++ event ∷ []) ≡ ticks_of events ++ replicate (event.time - last_time events)
    (next_of events event)
ticks_step events event up le = ticks_by events event (ending_of events) up le

-- ---- the timeline

none_in_row : (given : List Span) (end : ℕ) → end ≡ 0 → AreInRow 0 given end → given ≡ []
none_in_row [] end none row = refl
none_in_row (s ∷ given) end none row = let rest = row_le s.end end given row.2 in
    absurd (omega (arith, row.1, rest))

-- before any tick no run was given
pub none_given : (events : List TimedEvent) (given : List Span) → last_time events ≡ 0
    → IsTimeline events given → given ≡ []
none_given events given none t = none_in_row given (last_time events) none t.row

no_ticks : (events : List TimedEvent) → last_time events ≡ 0 → ticks_of events ≡ []
no_ticks events none = ap (λ (n : ℕ). map (context_at events) (range_with_len 0 n)) none

-- the run from a tick up to the last, if any tick has passed
abbrev pub tail_from : ℕ → ℕ → Context → List Span
tail_from start last run = if last == 0 then [] else span_of start last run ∷ []

pub tail_none : (start last : ℕ) (run : Context) → last ≡ 0 → tail_from start last run ≡ []
tail_none start last run none = rw none refl

is_not_zero : (n : ℕ) → 0 < n → (n == 0) ≡ false
is_not_zero n some = grind (arith, nat_tests)

pub tail_some : (start last : ℕ) (run : Context) → 0 < last → tail_from start last run ≡ span_of start
    last run ∷ []
tail_some start last run some = rw (is_not_zero last some) refl

-- the first ticks
step_first : (old new : List TimedEvent) (given : List Span) (start last time : ℕ) (run next :
    Context) → last ≡ 0 → start ≡ 0 → 0 < time
    → last_time old ≡ last → last_time new ≡ time → ticks_of new ≡ ticks_of old ++ replicate (time -
    last) next
    → IsTimeline old (given ++ tail_from start last run)
    → IsTimeline new ((given ++ []) ++ tail_from start time next)
step_first old new given start last time run next none begin some was is more t =
    let empty : given ++ tail_from start last run ≡ [] = none_given old (given ++ tail_from start
    last run) (was ∙ none) t in
    let plain : given ++ tail_from start last run ≡ given = ap (λ rest. given ++ rest) (tail_none
    start last run none) ∙ append-nil given in
    let none_yet : given ≡ [] = sym plain ∙ empty in
    let all : time - last ≡ time = omega arith in
    let first = timeline-first old new time next some is (no_ticks old (was ∙ none)) (more
    ∙ ap (λ (n : ℕ). ticks_of old ++ replicate n next) all) in
    subst (IsTimeline new) (sym (ap (λ (g : List Span). (g ++ []) ++ tail_from start time next)
    none_yet ∙ tail_some start time next some ∙ ap (λ (s : ℕ). span_of s time next ∷ []) begin))
    first

-- no tick more
step_same : (old new : List TimedEvent) (given : List Span) (start last time : ℕ) (run next :
    Context) → time ≡ last
    → last_time old ≡ last → last_time new ≡ time → ticks_of new ≡ ticks_of old ++ replicate (time -
    last) next
    → IsTimeline old (given ++ tail_from start last run)
    → IsTimeline new ((given ++ []) ++ tail_from start time run)
step_same old new given start last time run next same was is more t =
    let none : time - last ≡ 0 = omega arith in
    let stays = timeline-same old new (given ++ tail_from start last run) (is ∙ same
    ∙ sym was) (more ∙ ap (λ (n : ℕ). ticks_of old ++ replicate n next) none
    ∙ append-nil (ticks_of old)) t in
    subst (IsTimeline new) (ap (λ (g : List Span). g ++ tail_from start last run) (sym (append-nil
    given)) ∙ ap (λ (n : ℕ). (given ++ []) ++ tail_from start n run) (sym same)) stays

-- the run grows
step_longer : (old new : List TimedEvent) (given : List Span) (start last time : ℕ) (run next :
    Context) → 0 < last → last < time → run ≡ next
    → last_time old ≡ last → last_time new ≡ time → ticks_of new ≡ ticks_of old ++ replicate (time -
    last) next
    → IsTimeline old (given ++ tail_from start last run)
    → IsTimeline new ((given ++ []) ++ tail_from start time run)
step_longer old new given start last time run next some later one was is more t =
    let tail : given ++ tail_from start last run ≡ given ++ span_of start last run ∷ [] =
    ap (λ rest. given ++ rest) (tail_some start last run some) in
    let grown = timeline-longer old new given (span_of start last run) (time - last) (omega arith)
    (more ∙ ap (λ (c : Context). ticks_of old ++ replicate (time - last) c) (sym one)) (subst
    (IsTimeline old) tail t) in
    subst (IsTimeline new) (ap (λ (n : ℕ). given ++ span_of start n run ∷ []) is
    ∙ ap (λ rest. given ++ rest) (sym (tail_some start time run (omega arith)))
    ∙ ap (λ (g : List Span). g ++ tail_from start time run) (sym (append-nil given))) grown

-- another run follows it
step_next : (old new : List TimedEvent) (given : List Span) (start last time : ℕ) (run next :
    Context) → 0 < last → last < time → is_same_context run next ≡ false
    → last_time old ≡ last → last_time new ≡ time → ticks_of new ≡ ticks_of old ++ replicate (time -
    last) next
    → IsTimeline old (given ++ tail_from start last run)
    → IsTimeline new ((given ++ span_of start last run ∷ []) ++ tail_from last time next)
step_next old new given start last time run next some later differ was is more t =
    let tail : given ++ tail_from start last run ≡ given ++ span_of start last run ∷ [] =
    ap (λ rest. given ++ rest) (tail_some start last run some) in
    let grown = timeline-next old new given (span_of start last run) (time - last) next (omega
    arith) differ (omega arith) more (subst (IsTimeline old) tail t) in
    subst (IsTimeline new) (ap (λ (n : ℕ). (given ++ span_of start last run ∷ []) ++ span_of n
    (last_time new) next ∷ []) was ∙ ap (λ (n : ℕ). (given ++ span_of start last run ∷ []) ++
    span_of last n next ∷ []) is
    ∙ ap (λ rest. (given ++ span_of start last run ∷ []) ++ rest) (sym (tail_some last time next
    (omega arith)))) grown

-- the run isn't empty once a tick has passed
run_begun : (old : List TimedEvent) (given : List Span) (start last : ℕ) (run : Context) → 0 < last
    → last_time old ≡ last → IsTimeline old (given ++ tail_from start last run) → start < last
run_begun old given start last run some was t =
    let tail : given ++ tail_from start last run ≡ given ++ span_of start last run ∷ [] =
    ap (λ rest. given ++ rest) (tail_some start last run some) in
    let row = row_last 0 (last_time old) given (span_of start last run) (subst (IsTimeline old) tail
    t).row in
    omega (arith, row.1)

pub later_is : (n m : ℕ) → nat_lt n m ≡ true → n < m
later_is n m e = grind (arith, nat_tests)

pub not_later : (n m : ℕ) → nat_lt n m ≡ false → m ≤ n
not_later n m e = grind (arith, nat_tests)

step_longer_or_first : (zeroed : Bool) (old new : List TimedEvent) (given : List Span) (start last
    time : ℕ) (run next : Context) → nat_lt 0 last ≡ zeroed → start ≤ last → last < time
    → run ≡ next
    → last_time old ≡ last → last_time new ≡ time → ticks_of new ≡ ticks_of old ++ replicate (time -
    last) next
    → IsTimeline old (given ++ tail_from start last run)
    → IsTimeline new ((given ++ []) ++ tail_from start time run)
step_longer_or_first true old new given start last time run next some within later one was is more
    t = step_longer old new given start last time run next (later_is 0 last some) later one was is
    more t
step_longer_or_first false old new given start last time run next none within later one was is more
    t =
    let zero_ : last ≤ 0 = not_later 0 last none in
    subst (λ (c : Context). IsTimeline new ((given ++ []) ++ tail_from start time c)) (sym one)
    (step_first old new given start last time run next (omega arith) (omega arith) (omega arith)
    was is more t)

step_first_next : (zeroed : Bool) (old new : List TimedEvent) (given : List Span) (start last time :
    ℕ) (run next : Context) → nat_lt 0 last ≡ zeroed → last ≤ start → start ≤ last → last < time
    → last_time old ≡ last → last_time new ≡ time → ticks_of new ≡ ticks_of old ++ replicate (time -
    last) next
    → IsTimeline old (given ++ tail_from start last run)
    → IsTimeline new ((given ++ []) ++ tail_from last time next)
step_first_next true old new given start last time run next some back within later was is more t =
    let begun = run_begun old given start last run (later_is 0 last some) was t in
    absurd (omega arith)
step_first_next false old new given start last time run next none back within later was is more t =
    let zero_ : last ≤ 0 = not_later 0 last none in
    subst (λ (n : ℕ). IsTimeline new ((given ++ []) ++ tail_from n time next)) (omega arith)
    (step_first old new given start last time run next (omega arith) (omega arith) (omega arith)
    was is more t)

-- what the event does to the timeline, in all cases
timeline_by : (later same begun : Bool) (old new : List TimedEvent) (given : List Span) (start last
    time : ℕ) (run next : Context)
    → nat_lt last time ≡ later → is_same_context run next ≡ same → nat_lt start last ≡ begun
    → start ≤ last → last ≤ time
    → last_time old ≡ last → last_time new ≡ time → ticks_of new ≡ ticks_of old ++ replicate (time -
    last) next
    → IsTimeline old (given ++ tail_from start last run)
    → IsTimeline new ((given ++ (if (later && not same) && begun then span_of start last run ∷ []
    else [])) ++ tail_from (if later && not same then last else start) time (if later && not
    same then next else run))
timeline_by false same begun old new given start last time run next late alike begins within le was
    is more t =
    let back : time ≤ last = not_later last time late in
    step_same old new given start last time run next (omega arith) was is more t
timeline_by true true begun old new given start last time run next late alike begins within le was
    is more t =
    step_longer_or_first (nat_lt 0 last) old new given start last time run next refl within
    (later_is last time late) (same_is run next alike) was is more t
timeline_by true false true old new given start last time run next late alike begins within le was
    is more t =
    let some : start < last = later_is start last begins in
    step_next old new given start last time run next (omega arith) (later_is last time late) alike
    was is more t
timeline_by true false false old new given start last time run next late alike begins within le was
    is more t =
    step_first_next (nat_lt 0 last) old new given start last time run next refl (not_later start
    last begins) within (later_is last time late) was is more t

pub timeline_step : (old new : List TimedEvent) (given : List Span) (start last time : ℕ)
    (run next : Context)
    → start ≤ last → last ≤ time → last_time old ≡ last → last_time new ≡ time
    → ticks_of new ≡ ticks_of old ++ replicate (time - last) next
    → IsTimeline old (given ++ tail_from start last run)
    → IsTimeline new ((given ++ (if (nat_lt last time && not (is_same_context run next)) && nat_lt
    start last then span_of start last run ∷ [] else [])) ++ tail_from (if nat_lt last time &&
    not (is_same_context run next) then last else start) time (if nat_lt last time && not
    (is_same_context run next) then next else run))
timeline_step old new given start last time run next within le was is more t =
    timeline_by (nat_lt last time) (is_same_context run next) (nat_lt start last) old new given
    start last time run next refl refl refl within le was is more t

-- a load grows by the new ticks of its context
pub load_by : (context : Context) (events more : List TimedEvent) (ticks : ℕ) (next : Context)
    → ticks_of more ≡ ticks_of events ++ replicate ticks next
    → load_of context more ≡ load_of context events + ticks * cond (is_same_context context next) 1
    0
load_by context events more ticks next is =
    ap (count_by (is_same_context context)) is
    ∙ sum_by-append (λ c. cond (is_same_context context c) 1 0) (ticks_of events) (replicate ticks
    next)
    ∙ ap (λ (n : ℕ). load_of context events + n) (sum_by-replicate (λ c. cond (is_same_context
    context c) 1 0) ticks next)

before_by : (events : List TimedEvent) (event : TimedEvent) (tick : ℕ) → Ending events
    → tick < last_time events → last_time events ≤ event.time
    → context_at (events ++ event ∷ []) tick ≡ context_at events tick
before_by events event tick (empty is) before later = let none : last_time events ≡ 0 =
    ap last_time is in absurd (omega arith)
before_by events event tick (ended xs y is) before later =
    let last : last_time events ≡ y.time = ap last_time is ∙ last_time-more xs y in
    subst (λ (es : List TimedEvent). context_at (es ++ event ∷ []) tick ≡ context_at es tick)
    (sym is) (context_at-later xs y event tick (omega arith) (omega arith))

-- a further event leaves the ticks before the last one as they were
pub ticks_before : (events : List TimedEvent) (event : TimedEvent) (tick : ℕ)
    → tick < last_time events → last_time events ≤ event.time
    → context_at (events ++ event ∷ []) tick ≡ context_at events tick
ticks_before events event tick before later = before_by events event tick (ending_of events) before
    later
