use Rattle.std.proofs.Common.{◌++◌, IfOk, refl, sym, subst}
use Rattle.sv_report.specs.ReportText.{text_of, short_text_of}
use Rattle.sv_cli.specs.declared.make.Make.{Make}
use Rattle.sv_cli.specs.Recorded.{head_of, makes_of}
use Rattle.sv_cli.proofs.Reported.{report_of_run, then_if}
use Rattle.sv_cli.proofs.make.rest_of.Goals as goal

pub returns-in_ok-report-in-Report : goal.returns-in_ok-report-in-Report
returns-in_ok-report-in-Report c =
    subst (λ (m : Make). IfOk c.text.result (λ rest.
    makes_of m c.args.load.now c.args.journal.now.items (head_of m ++ rest.items)))
    (sym c.in-Report.is)
    (then_if c.text.result c.text.ensures (λ rest told.
    report_of_run text_of c.args.load.now c.args.journal.now.items c.args.bytes.items
    c.as_slice.result.now c.in_ok-report-in-Report.report rest.items rest.items
    c.as_slice.ensures.value c.requires.sent c.report_of_bytes.ensures.bytes c.requires.ends
    c.in_ok-report-in-Report.ensures.report told refl))

pub returns-in_ok-report-in-Counts : goal.returns-in_ok-report-in-Counts
returns-in_ok-report-in-Counts c =
    subst (λ (m : Make). IfOk c.short_text.result (λ rest.
    makes_of m c.args.load.now c.args.journal.now.items (head_of m ++ rest.items)))
    (sym c.in-Counts.is)
    (then_if c.short_text.result c.short_text.ensures (λ rest told.
    report_of_run short_text_of c.args.load.now c.args.journal.now.items c.args.bytes.items
    c.as_slice-in-Counts.result.now c.in_ok-report-in-Counts.report rest.items rest.items
    c.as_slice-in-Counts.ensures.value c.requires.sent c.report_of_bytes-in-Counts.ensures.bytes c.requires.ends
    c.in_ok-report-in-Counts.ensures.report told refl))
