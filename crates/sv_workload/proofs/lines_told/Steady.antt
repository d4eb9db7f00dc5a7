-- Words that tell no setting, begin no other part of a text and name no task.
use Rattle.std.proofs.Common.{◌≡◌, false, refl}
use Rattle.sv_workload.specs.declared.keyword.SetupWord.TheVariants.{Ring, Clock, Cpu, Base, Shift}
use Rattle.sv_workload.specs.declared.keyword.SetupWord.TheVariants as setup
use Rattle.sv_workload.specs.declared.keyword.ActWord.{ActWord}
use Rattle.sv_workload.specs.declared.keyword.ActWord.TheVariants.{Start, Stop, Nop, Isr, IsrExit}
use Rattle.sv_workload.specs.declared.keyword.ActWord.TheVariants.{Run, Halt, Ready, Unready}
use Rattle.sv_workload.specs.declared.keyword.ActWord.TheVariants.{Create, Terminate, Mark, MarkEnd}
use Rattle.sv_workload.specs.declared.keyword.ActWord.TheVariants.{Idle, Sched, Timer, TimerExit}
use Rattle.sv_workload.specs.declared.keyword.ActWord.TheVariants.{Name, Print, Call, Return}
use Rattle.sv_workload.specs.declared.keyword.TurnWord.{TurnWord}
use Rattle.sv_workload.specs.declared.keyword.TurnWord.TheVariants as turn
use Rattle.sv_workload.specs.declared.keyword.Keyword.{Keyword}
use Rattle.sv_workload.specs.declared.keyword.Keyword.TheVariants as keyword
use Rattle.sv_workload.specs.Keywords.{is_same}
use Rattle.sv_workload.proofs.words_read.Keywords.{differs}

-- the keyword tells no setting
pub record TellsNothing (k : Keyword) : Type 0 where
  pub ring : is_same (keyword.Setup Ring) k ≡ false
  pub clock : is_same (keyword.Setup Clock) k ≡ false
  pub cpu : is_same (keyword.Setup Cpu) k ≡ false
  pub base : is_same (keyword.Setup Base) k ≡ false
  pub shift : is_same (keyword.Setup Shift) k ≡ false

-- the keyword says nothing of what describes the target, or of the host
pub record DescribesNothing (k : Keyword) : Type 0 where
  pub time : is_same (keyword.Setup setup.Time) k ≡ false
  pub desc : is_same (keyword.Setup setup.Desc) k ≡ false
  pub modules : is_same (keyword.Setup setup.Module) k ≡ false
  pub commands : is_same (keyword.Setup setup.Command) k ≡ false

-- so no keyword does that is not one of four setup words
pub describes_nothing : (k : Keyword) → (keyword.Setup setup.Time ≡ k → ⊥)
    → (keyword.Setup setup.Desc ≡ k → ⊥) → (keyword.Setup setup.Module ≡ k → ⊥)
    → (keyword.Setup setup.Command ≡ k → ⊥) → DescribesNothing k
describes_nothing k time desc modules commands =
    record {
      time = differs (keyword.Setup setup.Time) k time;
      desc = differs (keyword.Setup setup.Desc) k desc;
      modules = differs (keyword.Setup setup.Module) k modules;
      commands = differs (keyword.Setup setup.Command) k commands;
    }

pub task_describes_nothing : DescribesNothing (keyword.Setup setup.Task)
task_describes_nothing = record { time = refl; desc = refl; modules = refl; commands = refl }

pub writer_describes_nothing : DescribesNothing keyword.Writer
writer_describes_nothing = record { time = refl; desc = refl; modules = refl; commands = refl }

pub schedule_describes_nothing : DescribesNothing keyword.Schedule
schedule_describes_nothing = record { time = refl; desc = refl; modules = refl; commands = refl }

pub act_describes_nothing : (word : ActWord) → DescribesNothing (keyword.Act word)
act_describes_nothing word =
    describes_nothing (keyword.Act word) (λ e. cc) (λ e. cc) (λ e. cc) (λ e. cc)

pub turn_describes_nothing : (word : TurnWord) → DescribesNothing (keyword.Turn word)
turn_describes_nothing word =
    describes_nothing (keyword.Turn word) (λ e. cc) (λ e. cc) (λ e. cc) (λ e. cc)

-- the keyword begins no other part of the text and names no task
pub record GoesOn (k : Keyword) : Type 0 where
  pub tells : TellsNothing k
  pub task : is_same (keyword.Setup setup.Task) k ≡ false
  pub writer : is_same keyword.Writer k ≡ false
  pub schedule : is_same keyword.Schedule k ≡ false

pub act_goes_on : (word : ActWord) → GoesOn (keyword.Act word)
act_goes_on Start =
    record {
      tells = record { ring = refl; clock = refl; cpu = refl; base = refl; shift = refl };
      task = refl;
      writer = refl;
      schedule = refl;
    }
act_goes_on Stop =
    record {
      tells = record { ring = refl; clock = refl; cpu = refl; base = refl; shift = refl };
      task = refl;
      writer = refl;
      schedule = refl;
    }
act_goes_on Nop =
    record {
      tells = record { ring = refl; clock = refl; cpu = refl; base = refl; shift = refl };
      task = refl;
      writer = refl;
      schedule = refl;
    }
act_goes_on Isr =
    record {
      tells = record { ring = refl; clock = refl; cpu = refl; base = refl; shift = refl };
      task = refl;
      writer = refl;
      schedule = refl;
    }
act_goes_on IsrExit =
    record {
      tells = record { ring = refl; clock = refl; cpu = refl; base = refl; shift = refl };
      task = refl;
      writer = refl;
      schedule = refl;
    }
act_goes_on Run =
    record {
      tells = record { ring = refl; clock = refl; cpu = refl; base = refl; shift = refl };
      task = refl;
      writer = refl;
      schedule = refl;
    }
act_goes_on Halt =
    record {
      tells = record { ring = refl; clock = refl; cpu = refl; base = refl; shift = refl };
      task = refl;
      writer = refl;
      schedule = refl;
    }
act_goes_on Ready =
    record {
      tells = record { ring = refl; clock = refl; cpu = refl; base = refl; shift = refl };
      task = refl;
      writer = refl;
      schedule = refl;
    }
act_goes_on Unready =
    record {
      tells = record { ring = refl; clock = refl; cpu = refl; base = refl; shift = refl };
      task = refl;
      writer = refl;
      schedule = refl;
    }
act_goes_on Create =
    record {
      tells = record { ring = refl; clock = refl; cpu = refl; base = refl; shift = refl };
      task = refl;
      writer = refl;
      schedule = refl;
    }
act_goes_on Terminate =
    record {
      tells = record { ring = refl; clock = refl; cpu = refl; base = refl; shift = refl };
      task = refl;
      writer = refl;
      schedule = refl;
    }
act_goes_on Mark =
    record {
      tells = record { ring = refl; clock = refl; cpu = refl; base = refl; shift = refl };
      task = refl;
      writer = refl;
      schedule = refl;
    }
act_goes_on MarkEnd =
    record {
      tells = record { ring = refl; clock = refl; cpu = refl; base = refl; shift = refl };
      task = refl;
      writer = refl;
      schedule = refl;
    }
act_goes_on Idle =
    record {
      tells = record { ring = refl; clock = refl; cpu = refl; base = refl; shift = refl };
      task = refl;
      writer = refl;
      schedule = refl;
    }
act_goes_on Sched =
    record {
      tells = record { ring = refl; clock = refl; cpu = refl; base = refl; shift = refl };
      task = refl;
      writer = refl;
      schedule = refl;
    }
act_goes_on Timer =
    record {
      tells = record { ring = refl; clock = refl; cpu = refl; base = refl; shift = refl };
      task = refl;
      writer = refl;
      schedule = refl;
    }
act_goes_on TimerExit =
    record {
      tells = record { ring = refl; clock = refl; cpu = refl; base = refl; shift = refl };
      task = refl;
      writer = refl;
      schedule = refl;
    }
act_goes_on Name =
    record {
      tells = record { ring = refl; clock = refl; cpu = refl; base = refl; shift = refl };
      task = refl;
      writer = refl;
      schedule = refl;
    }
act_goes_on Print =
    record {
      tells = record { ring = refl; clock = refl; cpu = refl; base = refl; shift = refl };
      task = refl;
      writer = refl;
      schedule = refl;
    }
act_goes_on Call =
    record {
      tells = record { ring = refl; clock = refl; cpu = refl; base = refl; shift = refl };
      task = refl;
      writer = refl;
      schedule = refl;
    }
act_goes_on Return =
    record {
      tells = record { ring = refl; clock = refl; cpu = refl; base = refl; shift = refl };
      task = refl;
      writer = refl;
      schedule = refl;
    }

pub turn_tells_nothing : (word : TurnWord) → TellsNothing (keyword.Turn word)
turn_tells_nothing turn.Step =
    record { ring = refl; clock = refl; cpu = refl; base = refl; shift = refl }
turn_tells_nothing turn.Read =
    record { ring = refl; clock = refl; cpu = refl; base = refl; shift = refl }
turn_tells_nothing turn.Send =
    record { ring = refl; clock = refl; cpu = refl; base = refl; shift = refl }

pub turn_goes_on : (word : TurnWord)
    → (is_same keyword.Writer (keyword.Turn word) ≡ false) ×
    (is_same keyword.Schedule (keyword.Turn word) ≡ false) ×
    (is_same (keyword.Setup setup.Task) (keyword.Turn word) ≡ false) ×
    (is_same (keyword.Act Start) (keyword.Turn word) ≡ false)
turn_goes_on turn.Step = (refl, refl, refl, refl)
turn_goes_on turn.Read = (refl, refl, refl, refl)
turn_goes_on turn.Send = (refl, refl, refl, refl)
