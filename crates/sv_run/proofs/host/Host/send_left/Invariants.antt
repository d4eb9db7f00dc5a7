use Rattle.std.proofs.Common.{◌≡◌, length}
use Rattle.sv_run.specs.Hosting.{IsSameHost}
use Rattle.sv_run.proofs.host.Host.send_left.Given as goal

abbrev pub invariant-loop-at : goal.invariant-loop-at
invariant-loop-at g l =
    IsSameHost l.initial.self l.self × (l.self.sends ≡ l._at)
    × (l.count ≡ length l.self.load.commands)
