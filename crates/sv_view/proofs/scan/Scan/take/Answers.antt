use Rattle.std.proofs.Common.{refl}
use Rattle.sv_view.proofs.scan.Scan.take.Goals as goal
