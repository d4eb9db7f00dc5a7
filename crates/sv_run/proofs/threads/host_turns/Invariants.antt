use Rattle.sv_run.specs.Hosting.{IsSameHost}
use Rattle.sv_run.proofs.threads.host_turns.Given as goal

abbrev pub invariant-loop : goal.invariant-loop
invariant-loop g l =
    (goal.iterator-loop g).can_next l.iterator' × (goal.iterator-loop g).is_finite l.iterator'
    × IsSameHost l.initial.host l.host
