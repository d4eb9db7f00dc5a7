-- Journal items. Each is looked at from its place: `earlier` is the items before it, the latest
-- first.
use Rattle.std.specs.Prelude.{ℕ, ◌-◌, ◌/◌, ◌%◌, ◌^◌, Bool, true, false, not, ◌&&◌, ◌||◌, List}
use Rattle.std.specs.Prelude.{[], ◌∷◌, ◌++◌, length, slice_get, slice_index_or, replicate, reverse}
use Rattle.std.specs.Prelude.{find, count_by, take, take_while, ◌==◌, if◌then◌else◌}
use Rattle.std.specs.Option.{option_map_or}
use Rattle.sv_prim.specs.Shrink.{shrunk}
use Rattle.sv_packet.specs.declared.event.Event.{Event}
use Rattle.sv_packet.specs.declared.event.Event.TheVariants as events
use Rattle.sv_packet.specs.Spelling.{spelling_of}
use Rattle.sv_load.specs.declared.load.Act.{Act}
use Rattle.sv_load.specs.declared.load.Act.TheVariants as acts
use Rattle.sv_load.specs.declared.load.Task.{Task}
use Rattle.sv_load.specs.Load.{Load, act_of, period}
use Rattle.sv_load.specs.Need.{is_start_act, is_stop_act}
use Rattle.sv_desc.specs.Modules.{ModuleRow, offset_after}
use Rattle.sv_desc.specs.Says.{micros_at}
use Rattle.sv_journal.specs.declared.journal.Kind.{Kind}
use Rattle.sv_journal.specs.declared.journal.Kind.TheVariants as kinds
use Rattle.sv_journal.specs.declared.journal.Origin.{Origin}
use Rattle.sv_journal.specs.declared.journal.Origin.TheVariants.{Call, Sync, Reply, Overflow}
use Rattle.sv_journal.specs.declared.journal.Origin.TheVariants.{Command}
use Rattle.sv_journal.specs.declared.journal.Outcome.{Outcome}
use Rattle.sv_journal.specs.declared.journal.Outcome.TheVariants.{Stored, Refused, Handled}
use Rattle.sv_journal.specs.declared.journal.Item.{Item}

-- the items of a journal, the latest first
abbrev pub latest_first : List Item → List Item
latest_first items = reverse items

-- WHAT AN ITEM IS

-- the item of these values
abbrev pub item_of : Origin → ℕ → ℕ → Outcome → Item
item_of origin moment freed outcome =
    record { origin = origin; moment = moment; freed = freed; outcome = outcome }

abbrev pub is_call : Origin → Bool
is_call (Call writer step) = true
is_call other = false

abbrev pub is_command : Origin → Bool
is_command (Command byte param) = true
is_command other = false

abbrev pub is_sync : Origin → Bool
is_sync Sync = true
is_sync other = false

abbrev pub is_overflow : Origin → Bool
is_overflow (Overflow count) = true
is_overflow other = false

abbrev pub is_stop_reply : Origin → Bool
is_stop_reply (Reply kinds.TraceStop index) = true
is_stop_reply other = false

-- a call of this writer
abbrev pub is_call_of : ℕ → Origin → Bool
is_call_of writer (Call other step) = other == writer
is_call_of writer other = false

-- a start or a stop: a step of the script that says so, or the command 1 or 2
abbrev pub is_start : Load → Origin → Bool
is_start load (Call writer step) = option_map_or is_start_act (act_of load writer step) false
is_start load (Command byte param) = byte == 1
is_start load other = false

abbrev pub is_stop : Load → Origin → Bool
is_stop load (Call writer step) = option_map_or is_stop_act (act_of load writer step) false
is_stop load (Command byte param) = byte == 2
is_stop load other = false

abbrev pub is_stored : Outcome → Bool
is_stored Stored = true
is_stored other = false

abbrev pub is_refused : Outcome → Bool
is_refused Refused = true
is_refused other = false

-- a packet: a call that is not handled, or a reply
abbrev pub holds_packet : Origin → Outcome → Bool
holds_packet (Call writer step) Handled = false
holds_packet (Call writer step) other = true
holds_packet (Reply kind index) other = true
holds_packet origin other = false

abbrev pub is_packet : Item → Bool
is_packet item = holds_packet item.origin item.outcome

-- LOOKING BACK

-- the latest start or TRACE_STOP is a start
abbrev pub is_on : Load → List Item → Bool
is_on load earlier =
    option_map_or (λ i. is_start load i.origin) (find
    (λ i. is_start load i.origin || is_stop_reply i.origin) earlier) false

-- the moment of the latest stored item other than a sync
abbrev pub last_moment : List Item → ℕ
last_moment earlier =
    option_map_or (λ i. i.moment) (find (λ i. is_stored i.outcome && not (is_sync i.origin))
    earlier) 0

-- the packets refused since the latest stored overflow
abbrev pub pending_at : List Item → ℕ
pending_at earlier =
    count_by (λ i. is_packet i && is_refused i.outcome)
    (take_while (λ i. not (is_overflow i.origin && is_stored i.outcome)) earlier)

-- an overflow stands directly before
abbrev pub is_after_overflow : List Item → Bool
is_after_overflow [] = false
is_after_overflow (i ∷ earlier) = is_overflow i.origin

abbrev pub is_after_refused_overflow : List Item → Bool
is_after_refused_overflow [] = false
is_after_refused_overflow (i ∷ earlier) = is_overflow i.origin && is_refused i.outcome

-- what stands before the overflow that stands directly before, if one does
abbrev pub before_overflow : List Item → List Item
before_overflow [] = []
before_overflow (i ∷ earlier) = if is_overflow i.origin then earlier else i ∷ earlier

-- an item that was written to the ring, or tried
abbrev pub is_written : List Item → Item → Bool
is_written earlier item =
    is_sync item.origin || is_overflow item.origin
    || (is_packet item && (is_stored item.outcome || is_refused item.outcome) && not
    (is_after_refused_overflow earlier))

-- EVENTS AND BLOCKS

abbrev pub system_time : Load → ℕ → Event
system_time load moment =
    if load.timed
    then events.SystimeUs (micros_at load.clock moment % 2 ^ 32)
    (micros_at load.clock moment / 2 ^ 32)
    else events.SystimeCycles (moment % period load)

abbrev pub task_info : Load → Task → Event
task_info load task = events.TaskInfo (shrunk task.id load.base load.shift) task.priority task.name

abbrev pub stack_info : Load → Task → Event
stack_info load task = events.StackInfo (shrunk task.id load.base load.shift) task.stack_base
    task.stack_size task.extra

abbrev pub module_desc : Load → ℕ → ModuleRow → Event
module_desc load index row = events.ModuleDesc index (offset_after (take index load.modules))
    row.name

-- what a reply tells; Nop where there is no such task or module
abbrev pub reply_event : Load → ℕ → Kind → ℕ → Event
reply_event load moment kinds.TraceStart index = events.TraceStart
reply_event load moment kinds.Init index = events.Init load.clock load.cpu load.base load.shift
reply_event load moment kinds.Line index = events.SysDesc (slice_index_or load.lines index [])
reply_event load moment kinds.Systime index = system_time load moment
reply_event load moment kinds.Task index = option_map_or (task_info load)
    (slice_get load.tasks index) events.Nop
reply_event load moment kinds.Stack index = option_map_or (stack_info load)
    (slice_get load.tasks index) events.Nop
reply_event load moment kinds.ModuleCount index = events.NumModules (length load.modules)
reply_event load moment kinds.Module index = option_map_or (module_desc load index)
    (slice_get load.modules index) events.Nop
reply_event load moment kinds.TraceStop index = events.TraceStop

-- the event that a step records; Nop for a start or a stop
abbrev pub act_event : Act → Event
act_event (acts.Event event) = event
act_event acts.Start = events.Nop
act_event acts.Stop = events.Nop

-- what an item tells; Nop where it tells nothing
abbrev pub event_at : Load → ℕ → Origin → Event
event_at load moment (Call writer step) = option_map_or act_event (act_of load writer step)
    events.Nop
event_at load moment (Overflow count) = events.Overflow count
event_at load moment (Reply kind index) = reply_event load moment kind index
event_at load moment Sync = events.Nop
event_at load moment (Command byte param) = events.Nop

abbrev pub event_of : Load → Item → Event
event_of load item = event_at load item.moment item.origin

-- the ticks since the latest stored packet, as the counter shows them
abbrev pub delta_of : Load → List Item → Item → ℕ
delta_of load earlier item = (item.moment - last_moment earlier) % period load

-- ten zero bytes for a sync, else the spelling of the packet
abbrev pub block_of : Load → List Item → Item → List ℕ
block_of load earlier item =
    if is_sync item.origin
    then replicate 10 0
    else spelling_of (event_of load item) (delta_of load earlier item)

-- the blocks of the stored items, joined in order
abbrev pub stream_before : Load → List Item → List ℕ
stream_before load [] = []
stream_before load (i ∷ earlier) =
    stream_before load earlier ++ (if is_stored i.outcome then block_of load earlier i else [])

abbrev pub stored_before : Load → List Item → ℕ
stored_before load earlier = length (stream_before load earlier)

-- the room that the ring shows to an item: its size less one, less what is stored and not freed
abbrev pub room_at : Load → List Item → Item → ℕ
room_at load earlier item = (load.ring - 1) - (stored_before load earlier - item.freed)
