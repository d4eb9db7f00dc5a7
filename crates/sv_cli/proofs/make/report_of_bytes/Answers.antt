use Rattle.std.proofs.Common.{[], ◌++◌}
use Rattle.sv_prim.proofs.Shared.{are_bytes}
use Rattle.sv_cli.proofs.Reported.{then_if}
use Rattle.sv_cli.proofs.make.report_of_bytes.Goals as goal

pub returns-clause-bytes : goal.returns-clause-bytes
returns-clause-bytes c = are_bytes c.args.bytes.now c.type_inv.bytes

pub returns-clause-report : goal.returns-clause-report
returns-clause-report c =
    let fed = c.in_ok-feed.ensures.stands [] [] c.new-analyser.ensures.stands in
    then_if c.report.result c.report.ensures.report
    (λ report of_all. of_all c.args.bytes.now ([] ++ fed.0) fed.2)
