use Rattle.std.proofs.Common.{[]}
use Rattle.sv_report.specs.ReportText.{text_of}
use Rattle.sv_workload.specs.Grammar.{IsWorkload}
use Rattle.sv_cli.specs.Recorded.{HasRun, IsReportText}
use Rattle.sv_cli.proofs.Played.{of_file, played, recorded}
use Rattle.sv_cli.proofs.run.run_file.Goals as goal

pub returns-clause-answered : goal.returns-clause-answered
returns-clause-answered g c =
    let old = g.K.Sink.written c.args.out.now in
    let new = g.K.Sink.written c.put_played.new.out in
    let happens = HasRun (g.D.Dock.stories c.args.dock.now)
    (g.D.Dock.stories c.run_report-made.new.dock) in
    let load = c.in-Ok.load in
    let made = c.run_report-made.result in
    let history = c.run_report-made.new.journal.items in
    let items = c.put_played.new.journal.items in
    let status = c.put_played.result in
    of_file (g.S.Source.held c.args.src.now c.args.name.now) (g.S.Source.left c.load_of.new.src)
    c.in-Ok.ensures.loaded
    (λ file taken loaded.
    recorded happens (IsReportText text_of) file taken old new items status loaded.0 loaded.1
    (played (IsWorkload file) happens (IsReportText text_of) load loaded.2 [] history old new items
    made status c.run_report-made.ensures.ran c.run_report-made.ensures.names
    c.run_report-made.ensures.report c.put_played.ensures.put))
