-- What is kept of the events: their contexts, the time of the last one, the run that may still
-- grow, the context after the last event, and the totals of the runs that have ended.
use Rattle.std.specs.Prelude.{◌≡◌, ℕ, ◌+◌, ◌-◌, ◌^◌, ◌<◌, ◌≤◌, Bool, not, ◌&&◌, ◌==◌, nat_lt}
use Rattle.std.specs.Prelude.{nat_le, true, List, [], ◌∷◌, ◌++◌, length, map, Option, Some, None}
use Rattle.std.specs.Prelude.{if◌then◌else◌}
use Rattle.std.specs.Option.{option_map_or}
use Rattle.std.specs.List.{list_all}
use Rattle.sv_packet.specs.declared.event.Event.{Event}
use Rattle.sv_packet.specs.declared.event.TimedEvent.{TimedEvent}
use Rattle.sv_packet.specs.Lists.{last_of}
use Rattle.sv_context.specs.declared.context.Context.{Context}
use Rattle.sv_context.specs.declared.context.Context.TheVariants.{Gap}
use Rattle.sv_context.specs.Context.{context_after}
use Rattle.sv_context.specs.Order.{is_same_context}
use Rattle.sv_context.specs.State.{State as ContextsState, StandsFor as ContextsStandFor}
use Rattle.sv_timeline.specs.declared.span.Span.{Span}
use Rattle.sv_packet.specs.Events.{last_time}
use Rattle.sv_timeline.specs.Ticks.{is_gap_from, is_gap_to}
use Rattle.sv_timeline.specs.Timeline.{IsTimeline}
use Rattle.sv_timeline.specs.Load.{load_of}
use Rattle.sv_timeline.specs.Totals.{total_in}

pub record State : Type 0 where
  pub contexts : ContextsState
  pub totals : List (Context × ℕ)
  pub last : ℕ
  pub start : ℕ
  pub context : Context
  pub ahead : Context

-- no total is longer than the ticks before the run
pub record IsSound (totals : List (Context × ℕ)) (start last : ℕ) : Type 0 where
  pub within : start ≤ last
  pub few : (context : Context) → total_in totals context ≤ start

-- the run so far
abbrev pub run_of : State → Span
run_of state = record { start = state.start; end = state.last; context = state.context }

-- the run that may still grow, unless no tick has passed
abbrev pub tail_of : State → Option Span
tail_of state = if state.last == 0 then None else Some (run_of state)

-- the same as a list
abbrev pub tail_list : State → List Span
tail_list state = if state.last == 0 then [] else run_of state ∷ []

-- the ticks of a context so far
abbrev pub load_in : State → Context → ℕ
load_in state context =
    total_in state.totals context
    + (if is_same_context context state.context then state.last - state.start else 0)

-- the context of the ticks up to the next event
abbrev pub next_context : State → Event → Context
next_context state event = if is_gap_to event then Gap else state.ahead

-- the event brings ticks of another context than the run's
abbrev pub moves : State → TimedEvent → Bool
moves state event =
    nat_lt state.last event.time
    && not (is_same_context state.context (next_context state event.event))

-- the event ends the run: there are ticks of it, and others come
abbrev pub ends_run : State → TimedEvent → Bool
ends_run state event = moves state event && nat_lt state.start state.last

-- the runs that the event ends: one or none
abbrev pub ended_by : State → TimedEvent → List Span
ended_by state event = if ends_run state event then run_of state ∷ [] else []

-- the context of the ticks after the last event, unless the next one is a gap's end: a gap after a
-- stop and before all events
abbrev pub context_after_all : List TimedEvent → Context
context_after_all events =
    option_map_or (λ last. if is_gap_from last.event then Gap
    else context_after (map (λ e. e.event) events)) (last_of events) Gap

-- the state stands for these events, and these runs were given
pub record StandsFor (state : State) (events : List TimedEvent) (given : List Span) : Type 0 where
  pub contexts : ContextsStandFor state.contexts (map (λ e. e.event) events)
  pub last : state.last ≡ last_time events
  pub rising : list_all (λ e. nat_le e.time (last_time events)) events ≡ true
  pub ahead : state.ahead ≡ context_after_all events
  pub timeline : IsTimeline events (given ++ tail_list state)
  pub loads : (context : Context) → load_in state context ≡ load_of context events

-- it stands for fewer than 2 ^ 40 events
abbrev pub HasRoom : State → Type 0
HasRoom state = (events : List TimedEvent) × (given : List Span) × StandsFor state events given ×
    (length events < 2 ^ 40)

-- nothing of what it stands for has changed
pub record IsSame (old new : State) : Type 0 where
  pub contexts : new.contexts ≡ old.contexts
  pub last : new.last ≡ old.last
  pub start : new.start ≡ old.start
  pub context : new.context ≡ old.context
  pub ahead : new.ahead ≡ old.ahead
  pub totals : (context : Context) → total_in new.totals context ≡ total_in old.totals context

-- the state after an event, whose run has ended already where it ends one
pub record GoesOn (old new : State) (event : TimedEvent) : Type 0 where
  pub contexts : new.contexts ≡ old.contexts
  pub totals : new.totals ≡ old.totals
  pub last : new.last ≡ event.time
  pub start : new.start ≡ (if moves old event then old.last else old.start)
  pub context : new.context ≡ (if moves old event then next_context old event.event
      else old.context)
