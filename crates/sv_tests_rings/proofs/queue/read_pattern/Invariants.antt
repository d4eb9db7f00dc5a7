use Rattle.std.proofs.Common.{◌≡◌}
use Rattle.sv_tests_rings.proofs.queue.read_pattern.Given as goal

abbrev pub invariant-loop : goal.invariant-loop
invariant-loop g l =
    (goal.iterator-loop g).can_next l.iterator' × (goal.iterator-loop g).is_finite l.iterator'
    × (l.host.name ≡ l.initial.host.name)
