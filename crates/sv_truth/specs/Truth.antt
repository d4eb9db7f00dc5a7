-- What all calls say, whatever became of them, and what a stream may say of it.
use Rattle.std.specs.Prelude.{◌≡◌, ◌≢◌, ℕ, ◌<◌, true, List, [], ◌∷◌, ◌++◌, Option, Some, None}
use Rattle.std.specs.Prelude.{option_map, option_and_then, option_to_list}
use Rattle.sv_packet.specs.declared.event.Event.{Event}
use Rattle.sv_packet.specs.declared.event.TimedEvent.{TimedEvent}
use Rattle.sv_packet.specs.declared.event.Packet.{Packet}
use Rattle.sv_packet.specs.Events.{last_time}
use Rattle.sv_packet.specs.Time.{timed}
use Rattle.sv_stream.specs.declared.end.End.{End}
use Rattle.sv_stream.specs.Entries.{packets_of}
use Rattle.sv_stream.specs.Input.{Entry}
use Rattle.sv_stream.specs.Reads.{Reads}
use Rattle.sv_load.specs.declared.load.Act.{Act}
use Rattle.sv_load.specs.declared.load.Act.TheVariants as acts
use Rattle.sv_load.specs.Load.{Load, act_of}
use Rattle.sv_journal.specs.declared.journal.Origin.{Origin}
use Rattle.sv_journal.specs.declared.journal.Origin.TheVariants.{Call}
use Rattle.sv_journal.specs.declared.journal.Item.{Item}
use Rattle.sv_journal.specs.Items.{latest_first, is_stored}
use Rattle.sv_journal.specs.Stream.{stream_of, sent_events, IsCalm}
use Rattle.sv_context.specs.declared.context.Context.{Context}
use Rattle.sv_context.specs.declared.context.Context.TheVariants.{Gap, Unknown}
use Rattle.sv_context.specs.Context.{context_after}
use Rattle.sv_timeline.specs.Ticks.{events_until, context_at}
use Rattle.sv_latency.specs.declared.class.Class.{Class}
use Rattle.sv_latency.specs.declared.class.Class.TheVariants.{Unknown as UnknownClass}
use Rattle.sv_latency.specs.Class.{class_of, started_task}

-- WHAT ALL CALLS SAY

-- the event that a step records, if it records one
abbrev pub recorded_by : Act → Option Event
recorded_by (acts.Event event) = Some event
recorded_by acts.Start = None
recorded_by acts.Stop = None

-- the event that an item's call makes, whatever became of it
abbrev pub call_event : Load → Origin → Option Event
call_event load (Call writer step) = option_and_then recorded_by (act_of load writer step)
call_event load other = None

-- the same at the item's moment
abbrev pub call_in : Load → Item → List TimedEvent
call_in load item =
    option_to_list
    (option_map (λ event. record { time = item.moment; event = event })
    (call_event load item.origin))

-- the calls of event steps in some items, the latest item first
abbrev pub calls_before : Load → List Item → List TimedEvent
calls_before load [] = []
calls_before load (i ∷ earlier) = calls_before load earlier ++ call_in load i

-- all calls of event steps at their moments, in order
abbrev pub all_calls : Load → List Item → List TimedEvent
all_calls load items = calls_before load (latest_first items)

-- the context of a tick by all calls: it knows no gaps
abbrev pub truth_at : Load → List Item → ℕ → Context
truth_at load items tick = context_after (events_until (all_calls load items) tick)

-- WHAT A STREAM MAY SAY

-- the context says what runs
abbrev pub IsNamed : Context → Type 0
IsNamed context = (context ≢ Gap) × (context ≢ Unknown)

-- each context that the events name is the one by all calls
abbrev pub AreContextsTrue : Load → List Item → List TimedEvent → Type 0
AreContextsTrue load items events =
    (tick : ℕ) → tick < last_time events → IsNamed (context_at events tick) →
    context_at events tick ≡ truth_at load items tick

-- after these items stands a stored call, which makes the event
pub record IsStoredCall (load : Load) (items before : List Item) (event : TimedEvent) : Type 0 where
  pub item : Item
  pub after : List Item
  pub stands : items ≡ before ++ item ∷ after
  pub stored : is_stored item.outcome ≡ true
  pub makes : call_in load item ≡ event ∷ []

-- of whatever entries the journal's stream is read as: each context that they name is true
abbrev pub TellsContexts : Load → List Item → Type 0
TellsContexts load items =
    (entries : List (Entry Packet)) (end : End) → Reads (stream_of load items) entries end →
    AreContextsTrue load items (timed (packets_of entries))

-- and a stored call comes after the events that were sent before it; the class that it has by them
-- is the one by all calls before it, or it is unknown
abbrev pub TellsClasses : Load → List Item → Type 0
TellsClasses load items =
    (entries : List (Entry Packet)) (end : End) → Reads (stream_of load items) entries end →
    (before : List Item) (event : TimedEvent) → IsStoredCall load items before event →
    (more : List TimedEvent)
    × (timed (packets_of entries) ≡ sent_events load before ++ event ∷ more) ×
    ((class : Class) → class_of (sent_events load before) event ≡ Some class →
    class ≢ UnknownClass → class_of (all_calls load before) event ≡ Some class)

-- each event that starts a task is a stored call's, and comes after the events that were sent
-- before that call
abbrev pub TellsStarts : Load → List Item → Type 0
TellsStarts load items =
    (entries : List (Entry Packet)) (end : End) → Reads (stream_of load items) entries end →
    (front more : List TimedEvent) (event : TimedEvent) (task : ℕ) →
    timed (packets_of entries) ≡ front ++ event ∷ more → started_task event.event ≡ Some task →
    (before : List Item) × IsStoredCall load items before event ×
    (front ≡ sent_events load before)

-- where stored packets are less than a round of the counter apart (2 ^ 32 ticks), whatever the
-- stream names is true of all calls
pub record TellsTruly (load : Load) (items : List Item) : Type 0 where
  pub contexts : IsCalm load items → TellsContexts load items
  pub classes : IsCalm load items → TellsClasses load items
  pub starts : IsCalm load items → TellsStarts load items
