use Rattle.std.proofs.Common.{[], ◌∷◌, length, ap, arith}
use Rattle.std.proofs.lemmas.List.{length-append}
use Rattle.sv_load.specs.declared.load.Action.TheVariants.{Step}
use Rattle.sv_load.specs.Load.{Load}
use Rattle.sv_workload.proofs.generated_loads.Generating.{length_rounds}
use Rattle.sv_workload.proofs.generator.add_rounds.Goals as goal

pub add_turn-requires-clause-few : goal.add_turn-requires-clause-few
add_turn-requires-clause-few c =
    omega (
      arith,
      ap (λ (l : Load). length l.schedule) c.loop.invariant,
      length_rounds c.loop.counter,
      c.loop-test.true,
      c.requires.few,
    )

pub add_turn-requires-in-loop-clause-few : goal.add_turn-requires-in-loop-clause-few
add_turn-requires-in-loop-clause-few c =
    omega (
      arith,
      ap (λ (l : Load). length l.schedule) c.in_ok-add_turn.ensures.ok,
      length-append c.loop.parts.schedule (Step 0 64 ∷ []),
      ap (λ (l : Load). length l.schedule) c.loop.invariant,
      length_rounds c.loop.counter,
      c.loop-test.true,
      c.requires.few,
    )
