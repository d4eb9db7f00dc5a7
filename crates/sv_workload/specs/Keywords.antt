-- Keywords: how each is spelled, and which of them can begin a line of which kind.
use Rattle.std.specs.Prelude.{ℕ, List, [], ◌∷◌, ◌++◌, codes, map, Bool, filter, find, length, ◌==◌}
use Rattle.std.specs.Prelude.{unwrap_or, bytes_eq}
use Rattle.sv_workload.specs.declared.keyword.SetupWord.TheVariants.{Ring, Clock, Cpu, Base, Shift}
use Rattle.sv_workload.specs.declared.keyword.SetupWord.TheVariants.{Time, Desc, Task, Module}
use Rattle.sv_workload.specs.declared.keyword.SetupWord.TheVariants.{Command}
use Rattle.sv_workload.specs.declared.keyword.ActWord.TheVariants.{Start, Stop, Nop, Isr, IsrExit}
use Rattle.sv_workload.specs.declared.keyword.ActWord.TheVariants.{Run, Halt, Ready, Unready}
use Rattle.sv_workload.specs.declared.keyword.ActWord.TheVariants.{Create, Terminate, Mark, MarkEnd}
use Rattle.sv_workload.specs.declared.keyword.ActWord.TheVariants.{Idle, Sched, Timer, TimerExit}
use Rattle.sv_workload.specs.declared.keyword.ActWord.TheVariants.{Name, Print, Call, Return}
use Rattle.sv_workload.specs.declared.keyword.TurnWord.TheVariants.{Step, Read, Send}
use Rattle.sv_workload.specs.declared.keyword.Keyword.{Keyword}
use Rattle.sv_workload.specs.declared.keyword.Keyword.TheVariants.{Setup, Writer, Act, Schedule}
use Rattle.sv_workload.specs.declared.keyword.Keyword.TheVariants.{Turn, Unknown}

-- the keywords after the ticks of a step
abbrev pub step_keywords : List Keyword
step_keywords =
    map Act (Start ∷ Stop ∷ Nop ∷ Isr ∷ IsrExit ∷ Run ∷ Halt ∷ Ready ∷ Unready ∷ Create ∷ Terminate
    ∷ Mark ∷ MarkEnd ∷ Idle ∷ Sched ∷ Timer ∷ TimerExit ∷ Name ∷ Print ∷ Call ∷ Return ∷ [])

-- the keywords of every other line
abbrev pub other_keywords : List Keyword
other_keywords =
    map Setup
    (Ring ∷ Clock ∷ Cpu ∷ Base ∷ Shift ∷ Time ∷ Desc ∷ Task ∷ Module ∷ Command ∷ []) ++
    (Writer ∷ Schedule ∷ map Turn (Step ∷ Read ∷ Send ∷ []))

-- the bytes of a keyword; none for what is no keyword
abbrev pub spelling : Keyword → List ℕ
spelling (Setup Ring) = codes "ring"
spelling (Setup Clock) = codes "clock"
spelling (Setup Cpu) = codes "cpu"
spelling (Setup Base) = codes "base"
spelling (Setup Shift) = codes "shift"
spelling (Setup Time) = codes "time"
spelling (Setup Desc) = codes "desc"
spelling (Setup Task) = codes "task"
spelling (Setup Module) = codes "module"
spelling (Setup Command) = codes "command"
spelling Writer = codes "writer"
spelling (Act Start) = codes "start"
spelling (Act Stop) = codes "stop"
spelling (Act Nop) = codes "nop"
spelling (Act Isr) = codes "isr"
spelling (Act IsrExit) = codes "isr-exit"
spelling (Act Run) = codes "run"
spelling (Act Halt) = codes "halt"
spelling (Act Ready) = codes "ready"
spelling (Act Unready) = codes "unready"
spelling (Act Create) = codes "create"
spelling (Act Terminate) = codes "terminate"
spelling (Act Mark) = codes "mark"
spelling (Act MarkEnd) = codes "mark-end"
spelling (Act Idle) = codes "idle"
spelling (Act Sched) = codes "sched"
spelling (Act Timer) = codes "timer"
spelling (Act TimerExit) = codes "timer-exit"
spelling (Act Name) = codes "name"
spelling (Act Print) = codes "print"
spelling (Act Call) = codes "call"
spelling (Act Return) = codes "return"
spelling Schedule = codes "schedule"
spelling (Turn Step) = codes "step"
spelling (Turn Read) = codes "read"
spelling (Turn Send) = codes "send"
spelling Unknown = []

-- the two are one keyword: no two are spelled alike
abbrev pub is_same : Keyword → Keyword → Bool
is_same a b = bytes_eq (spelling a) (spelling b)

-- which of these keywords a word spells
abbrev pub keyword_among : List Keyword → List ℕ → Keyword
keyword_among keywords word = unwrap_or (find (λ k. bytes_eq (spelling k) word) keywords) Unknown

-- those of these keywords that have so many letters
abbrev pub of_length : ℕ → List Keyword → List Keyword
of_length n keywords = filter (λ k. length (spelling k) == n) keywords
