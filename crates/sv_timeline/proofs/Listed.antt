-- The list of runs that the ticks give is the timeline, and grows at its end.
use Rattle.std.proofs.Common.{◌≡◌, ℕ, ◌+◌, ◌-◌, ◌<◌, ◌≤◌, List, [], ◌∷◌, ◌++◌, length}
use Rattle.std.proofs.Common.{map, take, refl, sym, ap, subst, ◌∙◌, append_assoc, arith}
use Rattle.std.specs.Prelude.{Bool, true, false, not, ◌&&◌, nat_lt, replicate, flat_map}
use Rattle.std.specs.Prelude.{if◌then◌else◌}
use Rattle.std.proofs.lemmas.List.{append-nil, length-append}
use Rattle.std.proofs.lemmas.List.FromFn.{length-map-range_with_len}
use Rattle.std.proofs.Math.Seq.{take-append_seam}
use Rattle.sv_packet.specs.declared.event.Packet.{Packet}
use Rattle.sv_packet.specs.declared.event.TimedEvent.{TimedEvent}
use Rattle.sv_packet.specs.Time.{timed}
use Rattle.sv_packet.specs.Events.{last_time}
use Rattle.sv_packet.proofs.Shared.{last_time-more, times_rise}
use Rattle.sv_context.specs.declared.context.Context.{Context}
use Rattle.sv_context.specs.declared.context.Context.TheVariants.{Gap}
use Rattle.sv_context.specs.Order.{is_same_context}
use Rattle.sv_timeline.specs.declared.span.Span.{Span}
use Rattle.sv_timeline.specs.Ticks.{context_at, ticks_of}
use Rattle.sv_timeline.specs.Timeline.{ticks_in, AreInRow, are_apart, IsTimeline}
use Rattle.sv_timeline.specs.Runs.{joined_runs, runs_from, timeline_of, ended_runs}
use Rattle.sv_timeline.specs.State.{State, StandsFor}
use Rattle.sv_timeline.proofs.Growing.{AreUpTo}
use Rattle.sv_timeline.proofs.Once.{timeline_once}
use Rattle.sv_timeline.proofs.Runs.{span_of, replicate-add}
use Rattle.sv_timeline.proofs.Same.{same_is}
use Rattle.sv_timeline.proofs.Standing.{next_of, ticks_step, timeline_step, tail_from, none_given}
use Rattle.sv_timeline.proofs.Standing.{tail_some, tail_none, later_is, not_later}
use Rattle.sv_timeline.proofs.Stepping.{rising_more}

abbrev names : List Span → List Context
names spans = map (λ s. s.context) spans

-- ---- the list of runs is the timeline

row_by : (same : Bool) (run next : Span) (runs : List Span) (end : ℕ)
    → is_same_context run.context next.context ≡ same → run.start < run.end
    → AreInRow run.end (next ∷ runs) end → AreInRow run.start (joined_runs run (next ∷ runs)) end
row_by true run next runs end test some row =
    rw test (refl, omega (arith, row.0, row.1), row.2)
row_by false run next runs end test some row = rw test (refl, some, row)

row_joined : (run : Span) (runs : List Span) (end : ℕ) → run.start < run.end
    → AreInRow run.end runs end → AreInRow run.start (joined_runs run runs) end
row_joined run [] end some row = (refl, some, row)
row_joined run (next ∷ runs) end some row =
    row_by (is_same_context run.context next.context) run next runs end refl some row

row_from : (start : ℕ) (contexts : List Context)
    → AreInRow start (runs_from start contexts) (start + length contexts)
row_from start [] = omega arith
row_from start (context ∷ contexts) =
    let moved : (start + 1) + length contexts ≡ start + length (context ∷ contexts) = omega arith in
    row_joined (span_of start (start + 1) context) (runs_from (start + 1) contexts)
    (start + length (context ∷ contexts)) (omega arith)
    (subst (AreInRow (start + 1) (runs_from (start + 1) contexts)) moved
    (row_from (start + 1) contexts))

ticks_by : (same : Bool) (run next : Span) (runs : List Span) (end : ℕ)
    → is_same_context run.context next.context ≡ same → run.start < run.end
    → AreInRow run.end (next ∷ runs) end
    → flat_map ticks_in (joined_runs run (next ∷ runs))
    ≡ ticks_in run ++ flat_map ticks_in (next ∷ runs)
ticks_by true run next runs end test some row =
    let more : next.end - run.start ≡ (run.end - run.start) + (next.end - next.start) =
    omega (arith, some, row.0, row.1) in
    let one : run.context ≡ next.context = same_is run.context next.context test in
    rw test (ap (λ (n : ℕ). replicate n run.context ++ flat_map ticks_in runs) more
    ∙ ap (λ (ticks : List Context). ticks ++ flat_map ticks_in runs)
    (replicate-add (run.end - run.start) (next.end - next.start) run.context)
    ∙ append_assoc (ticks_in run) (replicate (next.end - next.start) run.context)
    (flat_map ticks_in runs)
    ∙ ap (λ (c : Context). ticks_in run ++ (replicate (next.end - next.start) c ++ flat_map
    ticks_in runs)) one)
ticks_by false run next runs end test some row = rw test refl

ticks_joined : (run : Span) (runs : List Span) (end : ℕ) → run.start < run.end
    → AreInRow run.end runs end
    → flat_map ticks_in (joined_runs run runs) ≡ ticks_in run ++ flat_map ticks_in runs
ticks_joined run [] end some row = refl
ticks_joined run (next ∷ runs) end some row =
    ticks_by (is_same_context run.context next.context) run next runs end refl some row

ticks_from : (start : ℕ) (contexts : List Context)
    → flat_map ticks_in (runs_from start contexts) ≡ contexts
ticks_from start [] = refl
ticks_from start (context ∷ contexts) =
    let one : (start + 1) - start ≡ 1 = omega arith in
    ticks_joined (span_of start (start + 1) context) (runs_from (start + 1) contexts)
    ((start + 1) + length contexts) (omega arith) (row_from (start + 1) contexts)
    ∙ ap (λ (n : ℕ). replicate n context ++ flat_map ticks_in (runs_from (start + 1) contexts)) one
    ∙ ap (λ (rest : List Context). context ∷ rest) (ticks_from (start + 1) contexts)

apart_by : (same : Bool) (run next : Span) (runs : List Span)
    → is_same_context run.context next.context ≡ same → are_apart (names (next ∷ runs)) ≡ true
    → are_apart (names (joined_runs run (next ∷ runs))) ≡ true
apart_by true run next runs test apart =
    let one : run.context ≡ next.context = same_is run.context next.context test in
    rw test (ap (λ (c : Context). are_apart (c ∷ names runs)) one ∙ apart)
apart_by false run next runs test apart =
    let first : not (is_same_context run.context next.context) ≡ true = ap not test in
    let pairs : are_apart (names (run ∷ next ∷ runs)) ≡ true = rw first apart in
    rw test pairs

apart_joined : (run : Span) (runs : List Span) → are_apart (names runs) ≡ true
    → are_apart (names (joined_runs run runs)) ≡ true
apart_joined run [] apart = refl
apart_joined run (next ∷ runs) apart =
    apart_by (is_same_context run.context next.context) run next runs refl apart

apart_from : (start : ℕ) (contexts : List Context)
    → are_apart (names (runs_from start contexts)) ≡ true
apart_from start [] = refl
apart_from start (context ∷ contexts) =
    apart_joined (span_of start (start + 1) context) (runs_from (start + 1) contexts)
    (apart_from (start + 1) contexts)

all_ticks : (events : List TimedEvent) → 0 + length (ticks_of events) ≡ last_time events
all_ticks events =
    omega (arith, length-map-range_with_len (context_at events) 0 (last_time events))

pub timeline_is : (events : List TimedEvent) → IsTimeline events (timeline_of events)
timeline_is events = record {
  row = subst (AreInRow 0 (timeline_of events)) (all_ticks events)
      (row_from 0 (ticks_of events));
  ticks = ticks_from 0 (ticks_of events);
  apart = apart_from 0 (ticks_of events);
}

-- ---- the runs that have ended

all_but_last : (given : List Span) (run : Span) → take (length (given ++ run ∷ []) - 1) (given
    ++ run ∷ []) ≡ given
all_but_last given run =
    let fewer : length (given ++ run ∷ []) - 1 ≡ length given =
    omega (arith, length-append given (run ∷ [])) in
    ap (λ (n : ℕ). take n (given ++ run ∷ [])) fewer ∙ take-append_seam given (run ∷ [])

ended_by : (some : Bool) (events : List TimedEvent) (given : List Span) (start last : ℕ)
    (run : Context) → nat_lt 0 last ≡ some → last_time events ≡ last
    → IsTimeline events (given ++ tail_from start last run) → ended_runs events ≡ given
ended_by true events given start last run test is t =
    let tail : given ++ tail_from start last run ≡ given ++ span_of start last run ∷ [] =
    ap (λ (rest : List Span). given ++ rest) (tail_some start last run (later_is 0 last test))
    in
    let whole : timeline_of events ≡ given ++ span_of start last run ∷ [] =
    timeline_once events (timeline_of events) (given ++ tail_from start last run)
    (timeline_is events) t ∙ tail in
    ap (λ (runs : List Span). take (length runs - 1) runs) whole
    ∙ all_but_last given (span_of start last run)
ended_by false events given start last run test is t =
    let zero_ : last ≤ 0 = not_later 0 last test in
    let none : last ≡ 0 = omega arith in
    let plain : given ++ tail_from start last run ≡ given =
    ap (λ (rest : List Span). given ++ rest) (tail_none start last run none)
    ∙ append-nil given in
    let empty : given ≡ [] = none_given events given (is ∙ none) (subst (IsTimeline events) plain t)
    in
    let whole : timeline_of events ≡ [] =
    timeline_once events (timeline_of events) given (timeline_is events)
    (subst (IsTimeline events) plain t) ∙ empty in
    ap (λ (runs : List Span). take (length runs - 1) runs) whole ∙ sym empty

pub ended_is : (events : List TimedEvent) (given : List Span) (start last : ℕ) (run : Context)
    → last_time events ≡ last → IsTimeline events (given ++ tail_from start last run)
    → ended_runs events ≡ given
ended_is events given start last run is t =
    ended_by (nat_lt 0 last) events given start last run refl is t

-- what a state was asked for are the runs that have ended
pub given_ended : (state : State) (events : List TimedEvent) (given : List Span)
    → StandsFor state events given → ended_runs events ≡ given
given_ended state events given s =
    ended_is events given state.start state.last state.context (sym s.last) s.timeline

-- ---- more events end more runs

-- these runs have ended, and one may still grow
pub record HasEnded (events : List TimedEvent) (given : List Span) : Type 0 where
  pub start : ℕ
  pub run : Context
  pub within : start ≤ last_time events
  pub up : AreUpTo (last_time events) events
  pub timeline : IsTimeline events (given ++ tail_from start (last_time events) run)

none_ended : HasEnded [] []
none_ended = record {
  start = 0;
  run = Gap;
  within = omega arith;
  up = refl;
  timeline = timeline_is [];
}

chosen_within : (b : Bool) (start last time : ℕ) → start ≤ last → last ≤ time
    → (if b then last else start) ≤ time
chosen_within true start last time within le = le
chosen_within false start last time within le = omega arith

one_more : (events : List TimedEvent) (given : List Span) (event : TimedEvent)
    → HasEnded events given → last_time events ≤ event.time
    → (added : List Span) × HasEnded (events ++ event ∷ []) (given ++ added)
one_more events given event h le =
    let last : ℕ = last_time events in
    let next : Context = next_of events event in
    let moves : Bool = nat_lt last event.time && not (is_same_context h.run next) in
    let added : List Span =
    if moves && nat_lt h.start last then span_of h.start last h.run ∷ [] else [] in
    let time : last_time (events ++ event ∷ []) ≡ event.time = last_time-more events event in
    let start : ℕ = if moves then last else h.start in
    let run : Context = if moves then next else h.run in (
      added,
      record {
        start = start;
        run = run;
        within = subst (λ (n : ℕ). start ≤ n) (sym time)
            (chosen_within moves h.start last event.time h.within le);
        up = rising_more events event h.up le;
        timeline = subst (λ (n : ℕ). IsTimeline (events ++ event ∷ []) ((given ++ added)
            ++ tail_from start n run)) (sym time)
            (timeline_step events (events ++ event ∷ []) given h.start last event.time h.run next
            h.within le refl time (ticks_step events event h.up le) h.timeline);
      },
    )

more_ended : (packets : List Packet) (events more rest : List TimedEvent) (given : List Span)
    → timed packets ≡ events ++ (more ++ rest) → HasEnded events given
    → (added : List Span) × HasEnded (events ++ more) (given ++ added)
more_ended packets events [] rest given is h = (
  [],
  subst (λ (es : List TimedEvent). HasEnded es (given ++ [])) (sym (append-nil events))
      (subst (HasEnded events) (sym (append-nil given)) h),
)
more_ended packets events (event ∷ more) rest given is h =
    let first = one_more events given event h
    (times_rise packets events (more ++ rest) event is) in
    let front : (events ++ event ∷ []) ++ more ≡ events ++ event ∷ more =
    append_assoc events (event ∷ []) more in
    let next = more_ended packets (events ++ event ∷ []) more rest (given ++ first.0)
    (is ∙ sym (append_assoc events (event ∷ []) (more ++ rest))) first.1 in (
      first.0 ++ next.0,
      subst (λ (es : List TimedEvent). HasEnded es (given ++ (first.0 ++ next.0))) front
          (subst (HasEnded ((events ++ event ∷ []) ++ more))
          (append_assoc given first.0 next.0) next.1),
    )

ended_are : (events : List TimedEvent) (given : List Span) → HasEnded events given
    → ended_runs events ≡ given
ended_are events given h =
    ended_is events given h.start (last_time events) h.run refl h.timeline

-- the runs that have ended with some of a recording's events are the first of those with more
pub runs_grow : (packets : List Packet) (events more rest : List TimedEvent)
    → timed packets ≡ events ++ (more ++ rest)
    → (added : List Span) × (ended_runs (events ++ more) ≡ ended_runs events ++ added)
runs_grow packets events more rest is =
    let front = more_ended packets [] events (more ++ rest) [] is none_ended in
    let after = more_ended packets events more rest front.0 is front.1 in (
      after.0,
      ended_are (events ++ more) (front.0 ++ after.0) after.1
          ∙ ap (λ (runs : List Span). runs ++ after.0) (sym (ended_are events front.0 front.1)),
    )
