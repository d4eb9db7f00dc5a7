-- How many items and bytes a journal of a workload and its stream have at most.
use Rattle.std.specs.Prelude.{◌≡◌, ℕ, ◌+◌, ◌*◌, ◌^◌, ◌<◌, ◌≤◌, [], ◌∷◌, length, sum_by, Bool, true}
use Rattle.std.specs.Prelude.{false, All}
use Rattle.sv_prim.specs.Number.{AreWords}
use Rattle.sv_prim.specs.Text.{AreBytes}
use Rattle.sv_packet.specs.Events.{is_break}
use Rattle.sv_packet.specs.Spelling.{spelling_of, HasRange, IsRecordable}
use Rattle.sv_load.specs.declared.load.Act.{Act}
use Rattle.sv_load.specs.declared.load.Act.TheVariants.{Event, Start, Stop}
use Rattle.sv_load.specs.declared.load.Step.{Step}
use Rattle.sv_load.specs.declared.load.Need.{Need}
use Rattle.sv_load.specs.declared.load.Task.{Task}
use Rattle.sv_load.specs.declared.load.Action.{Action}
use Rattle.sv_load.specs.declared.load.Action.TheVariants as actions
use Rattle.sv_load.specs.declared.load.Command.{Command}
use Rattle.sv_desc.specs.Modules.{offset_after}
use Rattle.sv_load.specs.Load.{Load}
use Rattle.sv_load.specs.Limits.{most_steps, most_starts, most_writers, most_ticks}

abbrev pub is_start_act : Act → Bool
is_start_act Start = true
is_start_act Stop = false
is_start_act (Event event) = false

abbrev pub is_stop_act : Act → Bool
is_stop_act Stop = true
is_stop_act Start = false
is_stop_act (Event event) = false

-- a number for each step, summed over all scripts
abbrev pub over_steps : (Step → ℕ) → Load → ℕ
over_steps f load = sum_by (λ script. sum_by f script) load.scripts

-- 1 for a test that holds
abbrev pub one_if : Bool → ℕ
one_if true = 1
one_if false = 0

abbrev pub steps_in : Load → ℕ
steps_in load = over_steps (λ s. 1) load

abbrev pub starts_in : Load → ℕ
starts_in load = over_steps (λ s. one_if (is_start_act s.act)) load

abbrev pub stops_in : Load → ℕ
stops_in load = over_steps (λ s. one_if (is_stop_act s.act)) load

-- the packets that a start or a command records at most
abbrev pub replies_in : Load → ℕ
replies_in load = 4 + length load.lines + 2 * length load.tasks + length load.modules

-- the bytes of an event step's packet and of its overflow, with the longest deltas
abbrev pub act_bytes : Act → ℕ
act_bytes (Event event) = length (spelling_of event 0) + 15
act_bytes Start = 0
act_bytes Stop = 17

abbrev pub need_items : Load → ℕ
need_items load =
    3 * steps_in load + (starts_in load + length load.commands) * (2 + 2 * replies_in load)

abbrev pub need_bytes : Load → ℕ
need_bytes load =
    16 + over_steps (λ s. act_bytes s.act) load + (starts_in load + length load.commands) *
    (27 + 156 * replies_in load)

-- what a step may do: it records an event that a recorder takes, in a packet no longer than that of
-- the name of a resource with 128 bytes, and that tells of no break; or it starts or stops the
-- recorder
abbrev pub IsStepAct : Act → Type 0
IsStepAct (Event event) =
    IsRecordable event × (length (spelling_of event 0) ≤ 138) × HasRange event ×
    (is_break event ≡ false)
IsStepAct Start = Unit {0}
IsStepAct Stop = Unit {0}

-- each line, and each name of a task or module, has at most 128 bytes
pub record HasShortTexts (load : Load) : Type 0 where
  pub lines : All (λ text. length text ≤ 128) load.lines
  pub tasks : All (λ task. length task.name ≤ 128) load.tasks
  pub modules : All (λ row. length row.name ≤ 128) load.modules

-- each line, and each name of a task or module, is made of bytes, as a packet's texts are
pub record HasByteTexts (load : Load) : Type 0 where
  pub lines : All AreBytes load.lines
  pub tasks : All (λ task. AreBytes task.name) load.tasks
  pub modules : All (λ row. AreBytes row.name) load.modules

-- a task has a name, of at most 32 bytes
abbrev pub IsTask : Task → Type 0
IsTask task = (1 ≤ length task.name) × (length task.name ≤ 32)

-- a task's numbers are below 2 ^ 32
abbrev pub HasWords : Task → Type 0
HasWords task =
    AreWords (task.id ∷ task.priority ∷ task.stack_base ∷ task.stack_size ∷ task.extra ∷ [])

-- a parameter goes with the bytes from 128 on, and is 0 for the others
abbrev pub IsAsked : Command → Type 0
IsAsked command =
    (command.byte < 256) × (command.param < 256) × (command.byte < 128 → command.param ≡ 0)

-- a turn of the schedule, where there are so many writers
abbrev pub IsTurn : ℕ → Action → Type 0
IsTurn writers (actions.Step writer count) = (writer < writers) × (1 ≤ count) × (count ≤ most_steps)
IsTurn writers (actions.Read most) = (1 ≤ most) × (most ≤ 65536)
IsTurn writers actions.Send = Unit {0}

-- the ranges of the settings, and the most of everything that a workload holds
pub record IsWithinLimits (load : Load) : Type 0 where
  pub ring_least : 64 ≤ load.ring
  pub ring_most : load.ring ≤ 65536
  pub clock : 1 ≤ load.clock
  pub clock_most : load.clock < 2 ^ 32
  pub cpu : 1 ≤ load.cpu
  pub cpu_most : load.cpu < 2 ^ 32
  pub base : load.base < 2 ^ 32
  pub shift : load.shift ≤ 31
  pub writers : length load.scripts ≤ most_writers
  pub steps : steps_in load ≤ most_steps
  pub starts : starts_in load ≤ most_starts
  pub commands : length load.commands ≤ 256
  pub lines : length load.lines ≤ 4
  pub tasks : length load.tasks ≤ 32
  pub modules : length load.modules ≤ 64
  pub turns : length load.schedule ≤ most_steps
  pub advances : All (λ script. All (λ s. s.advance ≤ most_ticks) script) load.scripts
  pub acts : All (λ script. All (λ s. IsStepAct s.act) script) load.scripts
  pub texts : HasShortTexts load
  pub bytes : HasByteTexts load
  pub line_texts : All (λ text. 1 ≤ length text) load.lines
  pub task_names : All IsTask load.tasks
  pub task_words : All HasWords load.tasks
  pub module_names : All (λ row. 1 ≤ length row.name) load.modules
  pub module_events : offset_after load.modules ≤ 16384
  pub asked : All IsAsked load.commands
  pub schedule : All (IsTurn (length load.scripts)) load.schedule

-- the need is that of the workload, which is within the limits
pub record HasNeed (load : Load) (need : Need) : Type 0 where
  pub limits : IsWithinLimits load
  pub items : need.items ≡ need_items load
  pub bytes : need.bytes ≡ need_bytes load
  pub few : need.items < 3400000
  pub short : need.bytes < 181000000
