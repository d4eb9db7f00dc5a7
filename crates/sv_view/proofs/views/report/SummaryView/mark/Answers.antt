use Rattle.std.proofs.Common.{◌++◌, arith}
use Rattle.sv_timeline.specs.State.{ended_by}
use Rattle.sv_analyse.specs.State.{stop_at}
use Rattle.sv_analyse.proofs.Shared.{all_counted}
use Rattle.sv_view.proofs.views.report.SummaryView.mark.Goals as goal

pub stop-requires-clause-few : goal.stop-requires-clause-few
stop-requires-clause-few c =
    omega (
      arith,
      all_counted c.args.self.now.analysis c.requires.0 c.requires.1.1.0 c.requires.1.1.1,
      c.requires.2,
    )

pub returns-clause-shown : goal.returns-clause-shown
returns-clause-shown c = λ earlier was.
    let mark = c.args.mark.now in (
      c.in_ok-stop.ensures.live,
      (
        was.1.0 ++ ended_by c.args.self.now.analysis.timeline (stop_at mark.time),
        c.in_ok-stop.ensures.stands earlier was.1.0 was.1.1 mark.place mark.reason,
      ),
    )
