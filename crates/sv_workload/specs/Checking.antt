-- The checks of a line by what a draft of the lines before it holds.
use Rattle.std.specs.Prelude.{ℕ, nat_lt, nat_le, ◌==◌, Bool, true, false, ◌||◌, List, length, take}
use Rattle.std.specs.Prelude.{drop, find, Option, option_map}
use Rattle.std.specs.List.{list_any}
use Rattle.std.specs.Option.{is_some}
use Rattle.sv_workload.specs.declared.keyword.SetupWord.TheVariants.{Ring, Clock, Cpu, Base, Shift}
use Rattle.sv_workload.specs.declared.keyword.SetupWord.TheVariants.{Time, Desc, Task as a_task}
use Rattle.sv_workload.specs.declared.keyword.SetupWord.TheVariants.{Module, Command}
use Rattle.sv_workload.specs.declared.keyword.ActWord.TheVariants.{Start}
use Rattle.sv_workload.specs.declared.keyword.TurnWord.TheVariants.{Step}
use Rattle.sv_workload.specs.declared.keyword.Keyword.{Keyword}
use Rattle.sv_workload.specs.declared.keyword.Keyword.TheVariants.{Setup, Writer, Act, Turn}
use Rattle.sv_workload.specs.declared.keyword.Keyword.TheVariants.{Unknown}
use Rattle.sv_workload.specs.declared.fault.LineFault.{LineFault}
use Rattle.sv_desc.specs.Modules.{is_full_for}
use Rattle.sv_workload.specs.declared.settings.Settings.{Settings}
use Rattle.sv_load.specs.Need.{one_if, is_start_act}
use Rattle.sv_load.specs.Scripts.{over_scripts}
use Rattle.sv_workload.specs.Line.{Line}
use Rattle.sv_workload.specs.Checks.{Check, checks, may_stand}
use Rattle.sv_workload.specs.Draft.{Draft}
use Rattle.sv_load.specs.Limits.{most_steps}

-- what the first of these checks that a line fails finds wrong
abbrev pub first_failed : List (Check × LineFault) → List Line → Line → Option LineFault
first_failed some before line =
    option_map (λ check. check.1) (find (λ check. check.0 before line) some)

-- the checks of where a line stands, and of its words
abbrev pub form_checks : List (Check × LineFault)
form_checks = take 5 checks

-- the checks of what a line says after the lines before it
abbrev pub later_checks : List (Check × LineFault)
later_checks = drop 5 checks

abbrev pub is_no_keyword : Keyword → Bool
is_no_keyword Unknown = true
is_no_keyword _ = false

abbrev pub is_command_word : Keyword → Bool
is_command_word (Setup Command) = true
is_command_word _ = false

-- the keyword may stand after what the draft holds
abbrev pub has_place : Draft → Keyword → Bool
has_place draft keyword =
    may_stand (nat_lt 0 (length draft.scripts)) (nat_lt 0 (length draft.tasks)) draft.scheduled
    keyword

-- the keyword's setting was told
abbrev pub is_told : Settings → Keyword → Bool
is_told settings (Setup Ring) = is_some settings.ring
is_told settings (Setup Clock) = is_some settings.clock
is_told settings (Setup Cpu) = is_some settings.cpu
is_told settings (Setup Base) = is_some settings.base
is_told settings (Setup Shift) = is_some settings.shift
is_told settings _ = false

-- no further step is within the limits
abbrev pub has_all_steps : Draft → Bool
has_all_steps draft = nat_le most_steps (over_scripts (λ s. 1) draft.scripts)

-- no further line with this keyword is within the limits
abbrev pub has_all : Draft → Keyword → Bool
has_all draft (Setup Desc) = nat_le 4 (length draft.lines)
has_all draft (Setup a_task) = nat_le 32 (length draft.tasks)
has_all draft (Setup Module) = nat_le 64 (length draft.modules)
has_all draft (Setup Command) = nat_le 256 (length draft.commands)
has_all draft Writer = nat_le 16 (length draft.scripts)
has_all draft (Act Start) =
    has_all_steps draft || nat_le 256
    (over_scripts (λ s. one_if (is_start_act s.act)) draft.scripts)
has_all draft (Act word) = has_all_steps draft
has_all draft (Turn word) = nat_le most_steps (length draft.schedule)
has_all draft _ = false

-- the keyword's setting was told, or the line `time`, or a task with this identifier was
abbrev pub repeats : Draft → Keyword → ℕ → Bool
repeats draft (Setup Time) id = draft.timed
repeats draft (Setup a_task) id = list_any (λ task. task.id == id) draft.tasks
repeats draft keyword id = is_told draft.settings keyword

-- the turn goes to a writer that there isn't
abbrev pub lacks_writer : Draft → Keyword → ℕ → Bool
lacks_writer draft (Turn Step) writer = nat_le (length draft.scripts) writer
lacks_writer draft _ writer = false

-- the module finds no identifiers for its events
abbrev pub lacks_room : Draft → Keyword → ℕ → Bool
lacks_room draft (Setup Module) events = is_full_for draft.modules events
lacks_room draft _ events = false
