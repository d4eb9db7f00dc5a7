-- The workload of a number: two tasks, and one writer with so many steps that look like chance.
use Rattle.std.specs.Prelude.{ℕ, zero, suc, ◌+◌, ◌*◌, ◌/◌, ◌%◌, ◌^◌, ◌==◌, Bool, true, false}
use Rattle.std.specs.Prelude.{List, [], ◌∷◌, ◌++◌, if◌then◌else◌}
use Rattle.sv_packet.specs.declared.event.Event.{Event}
use Rattle.sv_packet.specs.declared.event.Event.TheVariants.{TaskStart, TaskReady, IsrEnter}
use Rattle.sv_packet.specs.declared.event.Event.TheVariants.{IsrExit, Idle, MarkStart}
use Rattle.sv_load.specs.declared.load.Task.{Task}
use Rattle.sv_load.specs.declared.load.Act.TheVariants as acts
use Rattle.sv_load.specs.declared.load.Step.{Step}
use Rattle.sv_load.specs.declared.load.Action.{Action}
use Rattle.sv_load.specs.declared.load.Action.TheVariants as actions
use Rattle.sv_load.specs.Load.{Load}

-- each number makes the next (a linear congruence modulo 2 ^ 32)
abbrev pub next_number : ℕ → ℕ
next_number x = (1664525 * x + 1013904223) % 2 ^ 32

-- the number of a step, counted from 1; before the first stands the count of steps
abbrev pub drawn_number : ℕ → ℕ → ℕ
drawn_number n zero = n
drawn_number n (suc k) = next_number (drawn_number n k)

-- what a step does, by a choice from 0 to 7; its tasks are the first and the second, as they are
-- sent
abbrev pub event_from : ℕ → Event
event_from choice =
    if choice == 0 then TaskStart 1
    else if choice == 1 then TaskStart 2
    else if choice == 2 then TaskReady 1
    else if choice == 3 then TaskReady 2
    else if choice == 4 then IsrEnter 5
    else if choice == 5 then IsrExit
    else if choice == 6 then Idle
    else MarkStart 5

-- the step of a number: its high 8 bits are the ticks before it, and the next higher of the 16 bits
-- below them choose what it does
abbrev pub step_from : ℕ → Step
step_from x = record {
  advance = x / 16777216;
  act = acts.Event (event_from ((x / 65536) % 8));
}

abbrev pub start_step : Step
start_step = record { advance = 0; act = acts.Start }

-- the first steps, so many
abbrev pub steps_to : ℕ → ℕ → List Step
steps_to n zero = []
steps_to n (suc k) = steps_to n k ++ step_from (drawn_number n (suc k)) ∷ []

-- so many times 64 steps and a read
abbrev pub rounds : ℕ → List Action
rounds zero = []
rounds (suc k) = rounds k ++ actions.Step 0 64 ∷ actions.Read 128 ∷ []

-- the two tasks, A and B
abbrev pub the_tasks : List Task
the_tasks =
    record {
      id = 536870916;
      priority = 1;
      stack_base = 536875008;
      stack_size = 1024;
      extra = 0;
      name = 65 ∷ [];
    } ∷ record {
      id = 536870920;
      priority = 2;
      stack_base = 536876032;
      stack_size = 1024;
      extra = 0;
      name = 66 ∷ [];
    } ∷ []

-- these scripts and turns over a ring of 4096 bytes, with the two tasks
abbrev pub load_with : List (List Step) → Bool → List Action → Load
load_with scripts scheduled schedule = record {
  ring = 4096;
  clock = 1000000;
  cpu = 1000000;
  base = 536870912;
  shift = 2;
  timed = false;
  lines = [];
  tasks = the_tasks;
  modules = [];
  commands = [];
  scripts = scripts;
  scheduled = scheduled;
  schedule = schedule;
}

-- a start and so many steps; the schedule begins with the start, and leaves the last steps that
-- fill no round
abbrev pub generated_load : ℕ → Load
generated_load n =
    load_with ((start_step ∷ steps_to n n) ∷ []) true (actions.Step 0 1 ∷ rounds (n / 64))
