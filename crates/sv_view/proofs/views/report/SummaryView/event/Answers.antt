use Rattle.std.proofs.Common.{arith}
use Rattle.sv_analyse.proofs.Shared.{all_counted}
use Rattle.sv_view.proofs.views.report.SummaryView.event.Goals as goal

pub step-requires-clause-few : goal.step-requires-clause-few
step-requires-clause-few c =
    omega (
      arith,
      all_counted c.args.self.now.analysis c.requires.0 c.requires.1.1.0 c.requires.1.1.1,
      c.requires.2,
    )
