-- Legal journals, and whole ones.
use Rattle.std.specs.Prelude.{◌≡◌, ℕ, ◌<◌, ◌≤◌, Bool, false, not, ◌&&◌, ◌||◌, List, [], ◌∷◌, ◌++◌}
use Rattle.std.specs.Prelude.{length, map, filter, find, flat_map, sum_by, count_by, take, ◌==◌}
use Rattle.std.specs.Prelude.{nat_lt, IsTrue, if◌then◌else◌}
use Rattle.std.specs.Option.{option_map_or}
use Rattle.std.specs.List.{enumerate_from}
use Rattle.sv_load.specs.declared.load.Command.{Command}
use Rattle.sv_load.specs.Load.{Load, script_of, advance_of}
use Rattle.sv_journal.specs.declared.journal.Kind.{Kind}
use Rattle.sv_journal.specs.declared.journal.Kind.TheVariants as kinds
use Rattle.sv_journal.specs.declared.journal.Origin.{Origin}
use Rattle.sv_journal.specs.declared.journal.Origin.TheVariants as origins
use Rattle.sv_journal.specs.declared.journal.Outcome.{Outcome}
use Rattle.sv_journal.specs.declared.journal.Outcome.TheVariants.{Stored, Refused, Ignored, Handled}
use Rattle.sv_journal.specs.declared.journal.Item.{Item}
use Rattle.sv_journal.specs.Items.{latest_first, is_call, is_call_of, is_command, is_overflow}
use Rattle.sv_journal.specs.Items.{is_start, is_stop, is_packet, is_on, pending_at}
use Rattle.sv_journal.specs.Items.{is_after_overflow, is_after_refused_overflow, before_overflow}
use Rattle.sv_journal.specs.Items.{block_of, stored_before, room_at}

-- GROUPS

-- one reply of a kind for each of a list
abbrev pub replies_for : {X : Type 0} → Kind → List X → List Origin
replies_for kind xs = map (λ e. origins.Reply kind e.0) (enumerate_from 0 xs)

abbrev pub single : Kind → List Origin
single kind = origins.Reply kind 0 ∷ []

-- what each task answers
abbrev pub task_replies : Load → List Origin
task_replies load = flat_map (λ e. origins.Reply kinds.Task e.0 ∷ origins.Reply kinds.Stack e.0
    ∷ []) (enumerate_from 0 load.tasks)

abbrev pub init_replies : Load → List Origin
init_replies load = single kinds.Init ++ replies_for kinds.Line load.lines

abbrev pub start_answers : Load → List Origin
start_answers load =
    origins.Sync ∷ single kinds.TraceStart
    ++ (init_replies load ++ (single kinds.Systime ++
    (task_replies load ++ single kinds.ModuleCount)))

-- what the commands other than start and stop answer
abbrev pub command_answers : Load → ℕ → ℕ → List Origin
command_answers load byte param =
    if byte == 3 then single kinds.Systime
    else if byte == 4 then task_replies load
    else if byte == 5 then init_replies load
    else if byte == 6 then single kinds.ModuleCount
    else if byte == 7 then replies_for kinds.Module load.modules
    else if (byte == 128) && nat_lt param (length load.modules) then origins.Reply kinds.Module
    param ∷ []
    else []

abbrev pub other_answers : Load → Origin → List Origin
other_answers load (origins.Command byte param) = command_answers load byte param
other_answers load other = []

-- the answers to the head of a group
abbrev pub answers_of : Load → Origin → List Origin
answers_of load head =
    if is_start load head then start_answers load
    else if is_stop load head then single kinds.TraceStop
    else other_answers load head

abbrev pub is_head : Origin → Bool
is_head origin = is_call origin || is_command origin

abbrev pub group_of : Load → Origin → List Origin
group_of load head = head ∷ answers_of load head

-- the origins in order, without the overflows
abbrev pub origins_of : List Item → List Origin
origins_of items = filter (λ o. not (is_overflow o)) (map (λ i. i.origin) items)

-- the origins are those of the heads, each followed by its answers
abbrev pub AreGroups : Load → List Origin → Type 0
AreGroups load os = os ≡ flat_map (group_of load) (filter is_head os)

-- EACH ITEM IN ITS PLACE

-- the latest group begins with a call
abbrev pub is_after_call_group : List Item → Bool
is_after_call_group earlier = option_map_or (λ i. is_call i.origin)
    (find (λ i. is_head i.origin) earlier) false

-- a call takes the next step of its writer's script
abbrev pub IsNextStep : Load → List Item → Origin → Type 0
IsNextStep load earlier (origins.Call writer step) =
    (step ≡ count_by (λ i. is_call_of writer i.origin) earlier)
    × (step < length (script_of load writer))
IsNextStep load earlier other = Unit {0}

-- a command follows a call's group, and has a parameter only from 128 on
abbrev pub IsCommandInPlace : List Item → Origin → Type 0
IsCommandInPlace earlier (origins.Command byte param) = IsTrue (is_after_call_group earlier)
    × (byte < 128 → param ≡ 0)
IsCommandInPlace earlier other = Unit {0}

-- the ticks of an item's step
abbrev pub step_ticks : Load → Origin → ℕ
step_ticks load (origins.Call writer step) = advance_of load writer step
step_ticks load other = 0

-- the moment is the sum of the advances of the calls so far; an overflow's is told by the item
-- after it
abbrev pub IsMoment : Load → List Item → Item → Origin → Type 0
IsMoment load earlier item (origins.Overflow count) = Unit {0}
IsMoment load earlier item other = item.moment ≡ sum_by (λ i. step_ticks load i.origin) (item
    ∷ earlier)

-- the moment of the overflow directly before, if there is one, and else this one
abbrev pub overflow_moment : List Item → ℕ → ℕ
overflow_moment [] moment = moment
overflow_moment (i ∷ earlier) moment = if is_overflow i.origin then i.moment else moment

abbrev pub freed_before : List Item → ℕ
freed_before [] = 0
freed_before (i ∷ earlier) = i.freed

-- a block that is longer than the room is refused
abbrev pub write_outcome : Load → List Item → Item → Outcome
write_outcome load earlier item =
    if nat_lt (room_at load earlier item) (length (block_of load earlier item)) then Refused else
    Stored

-- starts, stops and commands are handled
abbrev pub is_control : Load → Origin → Bool
is_control load origin = is_start load origin || is_stop load origin || is_command origin

-- what becomes of an item
abbrev pub outcome_at : Load → List Item → Item → Outcome
outcome_at load earlier item =
    if is_control load item.origin then Handled
    else if not (is_on load earlier) then Ignored
    else if is_after_refused_overflow earlier then Refused
    else write_outcome load earlier item

-- an overflow counts the refused packets that are pending
abbrev pub IsCount : List Item → Origin → Type 0
IsCount earlier (origins.Overflow count) = count ≡ pending_at earlier
IsCount earlier other = Unit {0}

-- a packet that is recorded while refused packets are pending
abbrev pub owes_overflow : Load → List Item → Item → Bool
owes_overflow load earlier item = is_packet item && is_on load earlier && nat_lt 0
    (pending_at earlier)

-- an item that may follow the items before it
pub record IsNextItem (load : Load) (earlier : List Item) (item : Item) : Type 0 where
  pub command : IsCommandInPlace earlier item.origin
  pub step : IsNextStep load earlier item.origin
  pub moment : IsMoment load earlier item item.origin
  pub overflow_moment : overflow_moment earlier item.moment ≡ item.moment
  pub freed_rises : freed_before earlier ≤ item.freed
  pub freed_stored : item.freed ≤ stored_before load earlier
  pub outcome : item.outcome ≡ outcome_at load earlier item
  pub count : IsCount earlier item.origin
  -- an overflow stands directly before exactly the packets that owe one
  pub overflow : is_after_overflow earlier ≡ owes_overflow load (before_overflow earlier) item

-- each item may follow the items before it, from the latest back
abbrev pub EachItem : (List Item → Item → Type 0) → List Item → Type 0
EachItem P [] = Unit {0}
EachItem P (i ∷ earlier) = EachItem P earlier × P earlier i

-- what a recorder of this workload may have recorded
pub record IsLegal (load : Load) (items : List Item) : Type 0 where
  pub groups : AreGroups load (origins_of items)
  pub commands : count_by (λ i. is_command i.origin) items ≤ length load.commands
  pub ends : is_after_overflow (latest_first items) ≡ false
  pub each : EachItem (IsNextItem load) (latest_first items)

-- the commands in a journal
abbrev pub command_in : Origin → List Command
command_in (origins.Command byte param) = record { byte = byte; param = param } ∷ []
command_in other = []

abbrev pub commands_in : List Item → List Command
commands_in items = flat_map (λ i. command_in i.origin) items

-- the commands are the first of the workload
abbrev pub AreFirstCommands : Load → List Item → Type 0
AreFirstCommands load items = commands_in items ≡ take (length (commands_in items)) load.commands

-- each script stands in the journal to its last step
pub record IsWhole (load : Load) (items : List Item) : Type 0 where
  pub scripts : (writer : ℕ) → writer < length load.scripts
      → count_by (λ i. is_call_of writer i.origin) items ≡ length (script_of load writer)
  pub commands : AreFirstCommands load items
