-- What `timeline` writes: a line for each run of ticks with equal contexts, and the end line. With
-- an event come the runs that ended with it, and after all events the last one.
use Rattle.std.specs.Prelude.{List, [], ◌∷◌, ◌++◌, drop, flat_map, length}
use Rattle.sv_packet.specs.declared.event.TimedEvent.{TimedEvent}
use Rattle.sv_stream.specs.Entries.{events_of}
use Rattle.sv_timeline.specs.declared.span.Span.{Span}
use Rattle.sv_timeline.specs.Runs.{timeline_of, ended_runs}
use Rattle.sv_report.specs.Ends.{end_line}
use Rattle.sv_report.specs.Spans.{span_line}
use Rattle.sv_view.specs.Text.{Text}

-- the runs after those that ended with these events
abbrev pub runs_after : List TimedEvent → List Span → List Span
runs_after events runs = drop (length (ended_runs events)) runs

-- a mark ends a run as the end of a recording does
abbrev pub timeline_text : Text
timeline_text = record {
  line = λ earlier one. flat_map span_line (runs_after (events_of earlier)
      (ended_runs (events_of (earlier ++ one ∷ []))));
  last = λ seen end. flat_map span_line (runs_after (events_of seen)
      (timeline_of (events_of seen))) ++ end_line end;
}
