use Rattle.std.proofs.Common.{◌≤◌, length, arith, rules}
use Rattle.std.specs.Fmt.{decimal}
use Rattle.sv_report.proofs.Front.{time_digits}
use Rattle.sv_report.proofs.spans.put_span.Goals as goal

pub write_digits-start-requires : goal.write_digits-start-requires
write_digits-start-requires c =
    let digits : length (decimal c.args.first) ≤ 20 =
    time_digits c.args.first c.ranges.first.fits in
    (omega (arith, digits), search rules)
