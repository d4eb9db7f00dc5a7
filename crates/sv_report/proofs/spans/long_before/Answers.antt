use Rattle.std.proofs.Common.{◌-◌, ◌≤◌, ◌++◌, length, drop, arith, rules}
use Rattle.std.specs.Fmt.{decimal}
use Rattle.sv_report.proofs.Front.{time_digits, put_before}
use Rattle.sv_report.proofs.spans.long_before.Goals as goal

pub write_digits-start-requires : goal.write_digits-start-requires
write_digits-start-requires c =
    let digits : length (decimal c.args.number) ≤ 20 = time_digits c.args.number c.ranges.number.fits in
    (omega (arith, digits), search rules)

pub overflow_sub-start : goal.overflow_sub-start
overflow_sub-start c =
    let digits : length (decimal c.args.number) ≤ 20 = time_digits c.args.number c.ranges.number.fits in
    omega (arith, digits)

pub returns-clause-start : goal.returns-clause-start
returns-clause-start c =
    let digits : length (decimal c.args.number) ≤ 20 = time_digits c.args.number c.ranges.number.fits in
    (omega (arith, digits), omega (arith, digits))

pub returns-clause-written : goal.returns-clause-written
returns-clause-written c =
    let digits : length (decimal c.args.number) ≤ 20 = time_digits c.args.number c.ranges.number.fits in
    let w = c.write_digits-start in
    put_before w.new.buf w.result (w.result - 1) 32
    (decimal c.args.number ++ drop c.args.end c.args.line.now)
    (omega (arith, digits)) (search (arith, digits)) (search rules)
