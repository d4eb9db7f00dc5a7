-- The context of each tick.
use Rattle.std.specs.Prelude.{ℕ, Bool, true, false, ◌&&◌, ◌||◌, nat_lt, nat_le, List, [], ◌∷◌, map}
use Rattle.std.specs.Prelude.{filter, if◌then◌else◌}
use Rattle.std.specs.List.{list_any, range_with_len}
use Rattle.sv_packet.specs.declared.event.Event.{Event}
use Rattle.sv_packet.specs.declared.event.Event.TheVariants.{Overflow, TraceStart, TraceStop}
use Rattle.sv_packet.specs.declared.event.TimedEvent.{TimedEvent}
use Rattle.sv_packet.specs.Lists.{neighbours}
use Rattle.sv_packet.specs.Events.{last_time}
use Rattle.sv_context.specs.declared.context.Context.{Context}
use Rattle.sv_context.specs.declared.context.Context.TheVariants.{Gap}
use Rattle.sv_context.specs.Context.{context_after}

-- nothing is known of the time from the event on, up to the next
abbrev pub is_gap_from : Event → Bool
is_gap_from TraceStop = true
is_gap_from event = false

-- nothing is known of the time up to the event, from the one before
abbrev pub is_gap_to : Event → Bool
is_gap_to (Overflow count) = true
is_gap_to TraceStart = true
is_gap_to event = false

-- the tick is at the first event or later, and before the second
abbrev pub is_between : TimedEvent → TimedEvent → ℕ → Bool
is_between a b tick = nat_le a.time tick && nat_lt tick b.time

-- the tick is before the first event
abbrev pub is_before_all : List TimedEvent → ℕ → Bool
is_before_all [] tick = false
is_before_all (event ∷ events) tick = nat_lt tick event.time

-- the tick is before all events, or between two with a gap from the first or to the second
abbrev pub is_gap : List TimedEvent → ℕ → Bool
is_gap events tick = is_before_all events tick || list_any (λ pair. is_between pair.0 pair.1 tick &&
    (is_gap_from pair.0.event || is_gap_to pair.1.event)) (neighbours events)

-- the events up to a tick
abbrev pub events_until : List TimedEvent → ℕ → List Event
events_until events tick = map (λ e. e.event) (filter (λ e. nat_le e.time tick) events)

-- the context of a tick
abbrev pub context_at : List TimedEvent → ℕ → Context
context_at events tick = if is_gap events tick then Gap else context_after (events_until events
    tick)

-- the contexts of all ticks before the last event, from tick 0 on
abbrev pub ticks_of : List TimedEvent → List Context
ticks_of events = map (context_at events) (range_with_len 0 (last_time events))
