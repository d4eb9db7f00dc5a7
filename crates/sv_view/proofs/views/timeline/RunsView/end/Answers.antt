use Rattle.std.proofs.Common.{◌≡◌, ℕ, List, ◌++◌, flat_map, append-nil, append_assoc}
use Rattle.std.proofs.Common.{sym, ap, ◌∙◌, Option}
use Rattle.std.specs.Prelude.{option_to_list}
use Rattle.sv_stream.specs.Entries.{events_of}
use Rattle.sv_timeline.specs.declared.span.Span.{Span}
use Rattle.sv_report.specs.Ends.{end_line}
use Rattle.sv_report.specs.Spans.{span_line}
use Rattle.sv_view.specs.texts.Timeline.{timeline_text}
use Rattle.sv_view.proofs.Timelines.{last_line, then_is}
use Rattle.sv_view.proofs.views.timeline.RunsView.end.Goals as goal

pub returns-in_ok-span_line-in-Some : goal.returns-in_ok-span_line-in-Some
returns-in_ok-span_line-in-Some c = λ seen stood.
    let run = c.in-Some.run' in
    let end = c.args.end.now in
    let lines = c.args.lines.now.items in
    let last : timeline_text.last seen end ≡ span_line run ++ end_line end =
    last_line c.args.self.now.timeline seen stood.0 (option_to_list c.tail.result) end
    stood.1 (c.tail.ensures.whole (events_of seen) stood.0 stood.1)
    ∙ ap (λ (o : Option Span). flat_map span_line (option_to_list o) ++ end_line end)
    c.in-Some.is
    ∙ ap (λ (k : List ℕ). k ++ end_line end) (append-nil (span_line run)) in
    then_is c.end_line.result c.end_line.new.out.items (c.span_line.new.out.items ++ end_line end)
    (lines ++ timeline_text.last seen end) c.end_line.ensures.ok
    (ap (λ (k : List ℕ). k ++ end_line end) c.in_ok-span_line-in-Some.ensures.ok
    ∙ append_assoc lines (span_line run) (end_line end)
    ∙ ap (λ (k : List ℕ). lines ++ k) (sym last))
