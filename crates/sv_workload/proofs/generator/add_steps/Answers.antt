use Rattle.std.proofs.Common.{ap, arith}
use Rattle.sv_load.specs.Load.{Load}
use Rattle.sv_load.specs.Scripts.{over_scripts}
use Rattle.sv_workload.proofs.generated_loads.Generating.{all_steps}
use Rattle.sv_workload.proofs.generator.add_steps.Goals as goal

pub add_step-requires-clause-steps : goal.add_step-requires-clause-steps
add_step-requires-clause-steps c =
    omega (
      arith,
      ap (λ (l : Load). over_scripts (λ s. 1) l.scripts) c.loop.invariant.parts,
      all_steps c.args.n c.loop.counter,
      c.loop-test.true,
      c.requires.few,
    )
