-- A workload in the making: what the lines so far told.
use Rattle.std.specs.Prelude.{◌≡◌, Bool, List, [], ◌∷◌, ◌++◌}
use Rattle.std.specs.Prelude.{ℕ, filter_map, None}
use Rattle.sv_desc.specs.Modules.{ModuleRow}
use Rattle.sv_workload.specs.declared.settings.Settings.{Settings}
use Rattle.sv_load.specs.declared.load.Task.{Task}
use Rattle.sv_load.specs.declared.load.Command.{Command}
use Rattle.sv_load.specs.declared.load.Step.{Step}
use Rattle.sv_load.specs.declared.load.Action.{Action}
use Rattle.sv_workload.specs.declared.keyword.SetupWord.TheVariants.{Ring, Clock, Cpu, Base, Shift}
use Rattle.sv_workload.specs.declared.keyword.SetupWord.TheVariants.{Time}
use Rattle.sv_workload.specs.declared.keyword.ActWord.TheVariants.{Start}
use Rattle.sv_workload.specs.declared.keyword.Keyword.TheVariants.{Setup, Act, Schedule}
use Rattle.sv_workload.specs.Line.{Line}
use Rattle.sv_load.specs.Load.{Load}
use Rattle.sv_load.specs.Need.{one_if, is_start_act}
use Rattle.sv_workload.specs.Settings.{ring_told, clock_told, cpu_told, base_told, shift_told}
use Rattle.sv_load.specs.Scripts.{over_scripts}
use Rattle.sv_workload.specs.Meaning.{count, is_there, told, tasks_in, scripts_of, action_of}
use Rattle.sv_workload.specs.Meaning.{descriptions_of, modules_of, commands_of}
use Rattle.sv_workload.specs.Checks.{is_step_word, count_of, fault_of}

pub record Draft : Type 0 where
  pub settings : Settings
  pub timed : Bool
  pub lines : List (List ℕ)
  pub tasks : List Task
  pub modules : List ModuleRow
  pub commands : List Command
  pub scripts : List (List Step)
  pub scheduled : Bool
  pub schedule : List Action

-- the settings that these lines tell
abbrev pub settings_of : List Line → Settings
settings_of lines =
    record {
      ring = told Ring lines;
      clock = told Clock lines;
      cpu = told Cpu lines;
      base = told
          Base lines;
      shift = told Shift lines;
    }

-- the draft holds what these lines say
pub record Stands (draft : Draft) (lines : List Line) : Type 0 where
  pub settings : draft.settings ≡ settings_of lines
  pub timed : draft.timed ≡ is_there (Setup Time) lines
  pub texts : draft.lines ≡ descriptions_of lines
  pub tasks : draft.tasks ≡ tasks_in lines
  pub modules : draft.modules ≡ modules_of lines
  pub commands : draft.commands ≡ commands_of lines
  pub scripts : draft.scripts ≡ scripts_of lines
  pub steps : over_scripts (λ s. 1) draft.scripts ≡ count_of is_step_word lines
  pub starts : over_scripts (λ s. one_if (is_start_act s.act)) draft.scripts ≡ count (Act Start)
      lines
  pub scheduled : draft.scheduled ≡ is_there Schedule lines
  pub schedule : draft.schedule ≡ filter_map action_of lines

-- the line has no fault after the lines that the draft stands for
abbrev pub IsGoodAfter : Draft → Line → Type 0
IsGoodAfter draft line = (lines : List Line) × Stands draft lines × (fault_of lines line ≡ None)

-- the draft holds what one more line says
abbrev pub TakesLine : Draft → Draft → Line → Type 0
TakesLine old new line =
    (lines : List Line) → Stands old lines → fault_of lines line ≡ None → Stands new
    (lines ++ line ∷ [])

-- the workload of a draft
abbrev pub load_by : Draft → Load
load_by draft = record {
  ring = ring_told draft.settings;
  clock = clock_told draft.settings;
  cpu = cpu_told draft.settings;
  base = base_told draft.settings;
  shift = shift_told draft.settings;
  timed = draft.timed;
  lines = draft.lines;
  tasks = draft.tasks;
  modules = draft.modules;
  commands = draft.commands;
  scripts = draft.scripts;
  scheduled = draft.scheduled;
  schedule = draft.schedule;
}
