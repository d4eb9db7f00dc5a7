use Rattle.std.proofs.Common.{◌≡◌, ◌∷◌}
use Rattle.sv_load.specs.declared.load.Action.TheVariants.{Step}
use Rattle.sv_workload.specs.Generated.{rounds}
use Rattle.sv_workload.proofs.generator.add_rounds.Given as goal

abbrev pub invariant-loop : goal.invariant-loop
invariant-loop l =
    l.parts ≡ record l.fn.parts { schedule = Step 0 1 ∷ rounds l.counter }
