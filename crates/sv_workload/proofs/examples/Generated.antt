-- Generated workloads worked out by hand, and the texts that say the same.
use Rattle.std.specs.Prelude.{codes}
use Rattle.std.proofs.Common.{◌≡◌, ℕ, List, [], ◌∷◌, ◌++◌, refl}
use Rattle.sv_prim.specs.Shrink.{shrunk}
use Rattle.sv_packet.specs.declared.event.Event.TheVariants.{TaskStart}
use Rattle.sv_load.specs.declared.load.Act.TheVariants.{Event}
use Rattle.sv_load.specs.declared.load.Action.TheVariants.{Step, Read}
use Rattle.sv_workload.specs.Grammar.{IsWorkload}
use Rattle.sv_workload.specs.Generated.{generated_load, drawn_number, rounds, step_from}

first_number : drawn_number 1 1 ≡ 1015568748
first_number = refl

first_step : step_from 1015568748 ≡ record { advance = 60; act = Event (TaskStart 1) }
first_step = refl

-- the tasks by their identifiers, as they are sent
tasks_sent : (shrunk 536870916 536870912 2 ≡ 1) × (shrunk 536870920 536870912 2 ≡ 2)
tasks_sent = (refl, refl)

no_round : rounds 0 ≡ []
no_round = refl

two_rounds : rounds 2 ≡ Step 0 64 ∷ Read 128 ∷ Step 0 64 ∷ Read 128 ∷ []
two_rounds = refl

-- what stands before the steps
abbrev head : List ℕ
head =
    codes "ring 4096\n"
    ++ codes "task 536870916 1 536875008 1024 0 A\n"
    ++ codes "task 536870920 2 536876032 1024 0 B\n"
    ++ codes "writer\n0 start\n"

one : IsWorkload (head ++ codes "60 run 536870916\nschedule\nstep 0\n") (generated_load 1)
one = record { good = refl; meaning = refl }

abbrev steps : List ℕ
steps =
    codes "61 ready 536870916\n1 ready 536870920\n76 isr-exit\n246 run 536870916\n"
    ++ codes "183 mark 5\n154 idle\n202 run 536870920\n248 run 536870920\n"

eight : IsWorkload (head ++ (steps ++ codes "schedule\nstep 0\n")) (generated_load 8)
eight = record { good = refl; meaning = refl }
