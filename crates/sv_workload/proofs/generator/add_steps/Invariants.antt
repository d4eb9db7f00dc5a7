use Rattle.std.proofs.Common.{◌≡◌, ◌∷◌, []}
use Rattle.sv_workload.specs.Generated.{drawn_number, start_step, steps_to}
use Rattle.sv_workload.proofs.generator.add_steps.Given as goal

abbrev pub invariant-loop : goal.invariant-loop
invariant-loop l = record {
  number : l.x ≡ drawn_number l.n l.counter;
  parts : l.parts ≡
      record l.fn.parts { scripts = (start_step ∷ steps_to l.n l.counter) ∷ [] };
}
