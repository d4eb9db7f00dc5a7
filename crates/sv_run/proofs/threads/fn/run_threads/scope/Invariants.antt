use Rattle.std.proofs.Common.{◌≡◌, ◌≤◌, length}
use Rattle.sv_run.proofs.threads.fn.run_threads.scope.Given as goal

abbrev pub invariant-loop-writer : goal.invariant-loop-writer
invariant-loop-writer g l =
    (l.load ≡ g.J.Naming.load) × (l.writer-end ≡ length l.load.scripts)
    × (l.host ≡ l.initial.host) × (l.started ≤ l.writer)
