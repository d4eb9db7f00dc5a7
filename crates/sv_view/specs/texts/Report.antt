-- What `report` writes: the report of all that is seen, at the end.
use Rattle.std.specs.Prelude.{[]}
use Rattle.sv_analyse.specs.Report.{report_from}
use Rattle.sv_report.specs.ReportText.{text_of}
use Rattle.sv_view.specs.Text.{Text}

abbrev pub report_text : Text
report_text =
    record { line = λ earlier one. []; last = λ seen end. text_of (report_from seen end) }
