-- What `check` writes: how many packets there are, the time of the last one, how many places are
-- damaged, where some are, and the end line.
use Rattle.std.specs.Prelude.{ℕ, List, [], ◌++◌, length, codes, filter_map}
use Rattle.std.specs.Fmt.{decimal}
use Rattle.sv_packet.specs.Events.{last_time}
use Rattle.sv_stream.specs.Entries.{events_of}
use Rattle.sv_analyse.specs.Report.{event_in, place_in}
use Rattle.sv_report.specs.Ends.{end_line}
use Rattle.sv_report.specs.ReportText.{count_line, damaged_line}
use Rattle.sv_view.specs.Text.{Text}

abbrev pub check_text : Text
check_text = record {
  line = λ earlier one. [];
  last = λ seen end. count_line (codes "packets ") (length (filter_map event_in seen)) ++
      (count_line (codes "ticks ") (last_time (events_of seen)) ++
      (damaged_line (length (filter_map place_in seen)) ++ end_line end));
}
