use Rattle.std.proofs.Common.{arith, rules}
use Rattle.sv_report.proofs.Front.{time_digits}
use Rattle.sv_report.proofs.head.head_before.Goals as goal

pub write_digits-requires : goal.write_digits-requires
write_digits-requires c =
    (omega (arith, time_digits c.args.time c.ranges.time.fits), search rules)
