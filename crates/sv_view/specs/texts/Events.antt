-- What `events` writes: a line for each event and for each mark, and the end line.
use Rattle.std.specs.Prelude.{ℕ, List}
use Rattle.sv_stream.specs.declared.seen.Seen.{Seen}
use Rattle.sv_stream.specs.declared.seen.Seen.TheVariants.{Event, Damage}
use Rattle.sv_report.specs.Ends.{end_line, mark_line}
use Rattle.sv_report.specs.Lines.{event_line}
use Rattle.sv_view.specs.Text.{Text}

-- the line of what is seen
abbrev pub seen_line : Seen → List ℕ
seen_line (Event event) = event_line event
seen_line (Damage time place reason) = mark_line time place reason

abbrev pub events_text : Text
events_text = record { line = λ earlier one. seen_line one; last = λ seen end. end_line end }
