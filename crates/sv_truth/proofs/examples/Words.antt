-- Short words for journals worked out by hand, and the limits of their workloads.
use Rattle.std.proofs.Common.{ℕ, ◌≤◌, List, [], ◌∷◌, length, arith}
use Rattle.std.specs.Prelude.{All}
use Rattle.std.proofs.lemmas.List.Elements.{All-cons, All-nil}
use Rattle.sv_prim.specs.Text.{AreBytes}
use Rattle.sv_packet.specs.declared.event.Event.{Event}
use Rattle.sv_packet.specs.declared.event.TimedEvent.{TimedEvent}
use Rattle.sv_load.specs.declared.load.Act.TheVariants as acts
use Rattle.sv_load.specs.declared.load.Step.{Step}
use Rattle.sv_load.specs.declared.load.Task.{Task}
use Rattle.sv_desc.specs.Modules.{ModuleRow}
use Rattle.sv_load.specs.Limits.{most_starts, most_steps, most_ticks}
use Rattle.sv_load.specs.Need.{HasWords, IsAsked, IsStepAct, IsTask, IsTurn, IsWithinLimits}
use Rattle.sv_load.specs.Need.{starts_in, steps_in}
use Rattle.sv_journal.proofs.Shared.{load_of}

abbrev pub step : ℕ → Event → Step
step advance event = record { advance = advance; act = acts.Event event }

abbrev pub stop : ℕ → Step
stop advance = record { advance = advance; act = acts.Stop }

abbrev pub told : ℕ → Event → TimedEvent
told time event = record { time = time; event = event }

-- the steps are within the limits
abbrev pub AreSteps : List Step → Type 0
AreSteps [] = Unit {0}
AreSteps (s ∷ steps) = (s.advance ≤ most_ticks) × IsStepAct s.act × AreSteps steps

ticks : (steps : List Step) → AreSteps steps → All (λ s. s.advance ≤ most_ticks) steps
ticks [] are = All-nil (λ (s : Step). s.advance ≤ most_ticks)
ticks (s ∷ steps) are =
    All-cons (λ (x : Step). x.advance ≤ most_ticks) s steps are.0 (ticks steps are.2)

does : (steps : List Step) → AreSteps steps → All (λ s. IsStepAct s.act) steps
does [] are = All-nil (λ (s : Step). IsStepAct s.act)
does (s ∷ steps) are = All-cons (λ (x : Step). IsStepAct x.act) s steps are.1 (does steps are.2)

-- a workload of one script over a ring of 64 bytes is within the limits
pub limits : (script : List Step) → AreSteps script → steps_in (load_of 64 script) ≤ most_steps →
    starts_in (load_of 64 script) ≤ most_starts → IsWithinLimits (load_of 64 script)
limits script are steps starts = record {
  ring_least = omega arith;
  ring_most = omega arith;
  clock = omega arith;
  clock_most = omega arith;
  cpu = omega arith;
  cpu_most = omega arith;
  base = omega arith;
  shift = omega arith;
  writers = omega arith;
  steps = steps;
  starts = starts;
  commands = omega arith;
  lines = omega arith;
  tasks = omega arith;
  modules = omega arith;
  turns = omega arith;
  advances = All-cons (λ (xs : List Step). All (λ (s : Step). s.advance ≤ most_ticks) xs) script []
      (ticks script are)
      (All-nil (λ (xs : List Step). All (λ (s : Step). s.advance ≤ most_ticks) xs));
  acts = All-cons (λ (xs : List Step). All (λ (s : Step). IsStepAct s.act) xs) script []
      (does script are)
      (All-nil (λ (xs : List Step). All (λ (s : Step). IsStepAct s.act) xs));
  texts = record {
    lines = All-nil (λ (text : List ℕ). length text ≤ 128);
    tasks = All-nil (λ (task : Task). length task.name ≤ 128);
    modules = All-nil (λ (row : ModuleRow). length row.name ≤ 128);
  };
  bytes = record {
    lines = All-nil AreBytes;
    tasks = All-nil (λ (task : Task). AreBytes task.name);
    modules = All-nil (λ (row : ModuleRow). AreBytes row.name);
  };
  line_texts = All-nil (λ (text : List ℕ). 1 ≤ length text);
  task_names = All-nil IsTask;
  task_words = All-nil HasWords;
  module_names = All-nil (λ (row : ModuleRow). 1 ≤ length row.name);
  module_events = omega arith;
  asked = All-nil IsAsked;
  schedule = All-nil (IsTurn 1);
}
