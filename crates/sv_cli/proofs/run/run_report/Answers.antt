use Rattle.sv_report.specs.ReportText.{text_of}
use Rattle.sv_journal.specs.Stream.{stream_of}
use Rattle.sv_cli.proofs.Parts.{on_ok}
use Rattle.sv_cli.proofs.Reported.{report_of_stream, then_if}
use Rattle.sv_cli.proofs.run.run_report.Goals as goal

pub returns-clause-names : goal.returns-clause-names
returns-clause-names g c =
    on_ok c.text.result c.in_ok-analyser.ensures.names

pub returns-clause-report : goal.returns-clause-report
returns-clause-report g c =
    let load = c.args.load.now in
    let items = c.run.new.journal.items in
    let legal = c.in_ok-analyser.ensures.legal in
    let limits = c.writers.ensures.limits in
    let laws = c.reads_as_sent.ensures in
    let fed = c.in_ok-analyser.ensures.fed in
    then_if c.text.result c.text.ensures (λ lines told.
    report_of_stream load items
    (laws.clean load items legal limits) (laws.silent load items legal limits)
    (λ entries end. laws.alone load items entries end legal limits)
    (λ entries end. laws.never_damaged load items entries end legal limits)
    text_of c.in_ok-report.report lines.items
    (c.in_ok-report.ensures.report (stream_of load items) fed.given fed.stands) told)
