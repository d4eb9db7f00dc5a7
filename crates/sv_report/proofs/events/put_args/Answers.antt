use Rattle.std.proofs.Common.{ℕ, ◌++◌, ap, ◌∙◌}
use Rattle.sv_report.specs.Words.{spaced_number}
use Rattle.sv_report.proofs.Arguments.{one_put}
use Rattle.sv_report.proofs.events.put_args.Goals as goal

pub loop-left-preserved : goal.loop-left-preserved
loop-left-preserved c =
    one_put c.args.out.now.items c.loop-left.out.items c.put_number-in-Some.new.out.items
    c.args.args.now c.loop-left.left c.first-left-in-Some.result c.in-Some.number c.in-Some.others
    c.loop-left.invariant c.in-Some.is (c.in_ok-put_number-2.ensures.ok
    ∙ ap (λ (n : ℕ). c.loop-left.out.items ++ spaced_number n) c.from-in-Some.ensures)
    c.first-left-in-Some.ensures
