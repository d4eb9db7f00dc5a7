use Rattle.std.proofs.Common.{◌≡◌}
use Rattle.sv_run.proofs.rest.steps_left.Given as goal

abbrev pub invariant-loop : goal.invariant-loop
invariant-loop g l =
    (goal.iterator-loop g).can_next l.iterator' × (goal.iterator-loop g).is_finite l.iterator'
    × (l.recorder.load ≡ l.initial.recorder.load)
    × (l.recorder.ring ≡ l.initial.recorder.ring)
    × (l.recorder.down ≡ l.initial.recorder.down)
    × (l.recorder.size ≡ l.initial.recorder.size)
