-- What lines say together: settings, lists, the scripts of the writers and the schedule.
use Rattle.std.specs.Prelude.{ℕ, nat_lt, Bool, true, false, List, [], ◌∷◌, map, filter, drop}
use Rattle.std.specs.Prelude.{flat_map, find, count_by, filter_map, Option, Some, None, unwrap_or}
use Rattle.std.specs.Prelude.{option_map, option_and_then, slice_get, slice_index, slice_index_or}
use Rattle.std.specs.List.{slice_split}
use Rattle.sv_prim.specs.Number.{number_spelling}
use Rattle.sv_prim.specs.Shrink.{shrunk}
use Rattle.sv_packet.specs.declared.event.Event.TheVariants as event
use Rattle.sv_desc.specs.Modules.{ModuleRow}
use Rattle.sv_load.specs.declared.load.Step.{Step}
use Rattle.sv_load.specs.declared.load.Task.{Task}
use Rattle.sv_load.specs.declared.load.Command.{Command}
use Rattle.sv_load.specs.declared.load.Action.{Action}
use Rattle.sv_load.specs.declared.load.Action.TheVariants as action
use Rattle.sv_load.specs.declared.load.Act.{Act}
use Rattle.sv_load.specs.declared.load.Act.TheVariants as act
use Rattle.sv_workload.specs.declared.keyword.SetupWord.{SetupWord}
use Rattle.sv_workload.specs.declared.keyword.SetupWord.TheVariants as setup
use Rattle.sv_workload.specs.declared.keyword.ActWord.{ActWord}
use Rattle.sv_workload.specs.declared.keyword.ActWord.TheVariants.{Start, Stop, Nop, Isr, IsrExit}
use Rattle.sv_workload.specs.declared.keyword.ActWord.TheVariants.{Run, Halt, Ready, Unready}
use Rattle.sv_workload.specs.declared.keyword.ActWord.TheVariants.{Create, Terminate, Mark, MarkEnd}
use Rattle.sv_workload.specs.declared.keyword.ActWord.TheVariants.{Idle, Sched, Timer, TimerExit}
use Rattle.sv_workload.specs.declared.keyword.ActWord.TheVariants.{Name, Print, Call, Return}
use Rattle.sv_workload.specs.declared.keyword.TurnWord.TheVariants as turn
use Rattle.sv_workload.specs.declared.keyword.Keyword.{Keyword}
use Rattle.sv_workload.specs.declared.keyword.Keyword.TheVariants as keyword
use Rattle.sv_workload.specs.Keywords.{is_same}
use Rattle.sv_workload.specs.Forms.{form_of}
use Rattle.sv_text.specs.Words.{number_of}
use Rattle.sv_workload.specs.Line.{Line, numbers_of, text_after}
use Rattle.sv_load.specs.Load.{Load}

-- this keyword stands in the line
abbrev pub says : Keyword → Line → Bool
says keyword line = is_same keyword line.keyword

-- the lines of one keyword
abbrev pub those : Keyword → List Line → List Line
those keyword lines = filter (says keyword) lines

-- how many lines of one keyword there are
abbrev pub count : Keyword → List Line → ℕ
count keyword lines = count_by (says keyword) lines

abbrev pub is_there : Keyword → List Line → Bool
is_there keyword lines = nat_lt 0 (count keyword lines)

-- the number at a place after the keyword, 0 if there is none
abbrev pub number : Line → ℕ → ℕ
number line place = slice_index (numbers_of line) place

-- the number that the first line of the word gives, if there is such a line
abbrev pub told : SetupWord → List Line → Option ℕ
told word lines = option_map (λ line. number line 0) (find (says (keyword.Setup word)) lines)

-- the value of a setting, which has one too where no line tells it
abbrev pub setting : SetupWord → ℕ → List Line → ℕ
setting word default lines = unwrap_or (told word lines) default

abbrev pub base_in : List Line → ℕ
base_in lines = setting setup.Base 536870912 lines

abbrev pub shift_in : List Line → ℕ
shift_in lines = setting setup.Shift 2 lines

-- a task goes by its identifier as the line has it
abbrev pub task_in : Line → Task
task_in line =
    record {
      id = number line 0;
      priority = number line 1;
      stack_base = number line 2;
      stack_size =
          number line 3;
      extra = number line 4;
      name = text_after line;
    }

abbrev pub tasks_in : List Line → List Task
tasks_in lines = map task_in (those (keyword.Setup setup.Task) lines)

abbrev pub row_of : Line → ModuleRow
row_of line = record { events = number line 0; name = text_after line }

abbrev pub modules_of : List Line → List ModuleRow
modules_of lines = map row_of (those (keyword.Setup setup.Module) lines)

-- the texts that describe the target
abbrev pub descriptions_of : List Line → List (List ℕ)
descriptions_of lines = map text_after (those (keyword.Setup setup.Desc) lines)

-- a command without a parameter has 0 for it
abbrev pub command_of : Line → Command
command_of line = record { byte = number line 0; param = number line 1 }

abbrev pub commands_of : List Line → List Command
commands_of lines = map command_of (those (keyword.Setup setup.Command) lines)

-- what a step does with these numbers, the identifier among them shrunk by now, and this text
abbrev pub act_with : ActWord → List ℕ → List ℕ → Act
act_with Start ns text = act.Start
act_with Stop ns text = act.Stop
act_with Nop ns text = act.Event event.Nop
act_with Isr ns text = act.Event (event.IsrEnter (slice_index ns 0))
act_with IsrExit ns text = act.Event event.IsrExit
act_with Run ns text = act.Event (event.TaskStart (slice_index ns 0))
act_with Halt ns text = act.Event event.TaskStop
act_with Ready ns text = act.Event (event.TaskReady (slice_index ns 0))
act_with Unready ns text = act.Event (event.TaskUnready (slice_index ns 0) (slice_index ns 1))
act_with Create ns text = act.Event (event.TaskCreate (slice_index ns 0))
act_with Terminate ns text = act.Event (event.TaskTerminate (slice_index ns 0))
act_with Mark ns text = act.Event (event.MarkStart (slice_index ns 0))
act_with MarkEnd ns text = act.Event (event.MarkStop (slice_index ns 0))
act_with Idle ns text = act.Event event.Idle
act_with Sched ns text = act.Event event.ToScheduler
act_with Timer ns text = act.Event (event.TimerEnter (slice_index ns 0))
act_with TimerExit ns text = act.Event event.TimerExit
act_with Name ns text = act.Event (event.NameResource (slice_index ns 0) text)
act_with Print ns text = act.Event (event.Print text 0 [])
act_with Call ns text =
    act.Event (event.Opaque (slice_index ns 0) (flat_map number_spelling (drop 1 ns)))
act_with Return ns text = act.Event (event.EndCall (slice_index ns 0) (slice_get ns 1))

-- the numbers as the target sends them: an identifier goes first, and is shrunk
abbrev pub with_shrunk : Bool → ℕ → ℕ → List ℕ → List ℕ
with_shrunk true base shift (id ∷ ns) = shrunk id base shift ∷ ns
with_shrunk true base shift [] = []
with_shrunk false base shift ns = ns

-- the step of a line with this keyword; other lines have none
abbrev pub step_by : Keyword → ℕ → ℕ → Line → Option Step
step_by (keyword.Act word) base shift line = Some (record {
  advance = unwrap_or (option_and_then number_of line.advance) 0;
  act = act_with word (with_shrunk (form_of (keyword.Act word)).identifier base shift
      (numbers_of line)) (text_after line);
})
step_by _ base shift line = None

abbrev pub step_in : ℕ → ℕ → Line → Option Step
step_in base shift line = step_by line.keyword base shift line

-- each line `writer` begins a script, and the steps up to the next one are its own
abbrev pub scripts_of : List Line → List (List Step)
scripts_of lines =
    map (filter_map (step_in (base_in lines) (shift_in lines)))
    (drop 1 (slice_split (says keyword.Writer) lines))

-- the turn that a line of the schedule gives away; other lines give none
abbrev pub action_by : Keyword → List ℕ → Option Action
action_by (keyword.Turn turn.Step) ns =
    Some (action.Step (slice_index ns 0) (slice_index_or ns 1 1))
action_by (keyword.Turn turn.Read) ns = Some (action.Read (slice_index ns 0))
action_by (keyword.Turn turn.Send) ns = Some action.Send
action_by _ ns = None

abbrev pub action_of : Line → Option Action
action_of line = action_by line.keyword (numbers_of line)

-- the workload of these lines
abbrev pub workload_of : List Line → Load
workload_of lines = record {
  ring = setting setup.Ring 1024 lines;
  clock = setting setup.Clock 1000000 lines;
  cpu = setting setup.Cpu 1000000 lines;
  base = base_in lines;
  shift = shift_in lines;
  timed = is_there (keyword.Setup setup.Time) lines;
  lines = descriptions_of lines;
  tasks = tasks_in lines;
  modules = modules_of lines;
  commands = commands_of lines;
  scripts = scripts_of lines;
  scheduled = is_there keyword.Schedule lines;
  schedule = filter_map action_of lines;
}
