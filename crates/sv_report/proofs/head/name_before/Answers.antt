use Rattle.std.proofs.Common.{◌≡◌, ◌-◌, arith, rules}
use Rattle.sv_report.proofs.Front.{name_put}
use Rattle.sv_report.proofs.head.name_before.Goals as goal

pub returns-clause-written : goal.returns-clause-written
returns-clause-written c =
    let width : c.args.end - (c.args.end - 16) ≡ 16 = omega arith in
    rw (width, c.copy_from_slice.ensures.after)
    (name_put c.args.name.now c.args.line.now (c.args.end - 16) c.args.end c.args.size
    (c.args.end - c.args.size - 1) (omega arith) (omega arith) (omega arith) (search rules)
    (search rules) (search rules))
