use Rattle.std.proofs.Common.{◌≡◌, ℕ, List, [], ◌∷◌, ◌++◌, flat_map, append-nil, sym, subst, ap}
use Rattle.std.proofs.Common.{◌∙◌}
use Rattle.std.specs.Prelude.{option_to_list}
use Rattle.sv_packet.specs.declared.event.TimedEvent.{TimedEvent}
use Rattle.sv_stream.specs.declared.seen.Seen.{Seen}
use Rattle.sv_stream.specs.declared.seen.Seen.TheVariants.{Damage}
use Rattle.sv_stream.specs.Entries.{event_of, events_of}
use Rattle.sv_timeline.specs.State.{ended_by, StandsFor}
use Rattle.sv_analyse.proofs.Shared.{events-push}
use Rattle.sv_report.specs.Spans.{span_line}
use Rattle.sv_view.specs.texts.Timeline.{timeline_text}
use Rattle.sv_view.proofs.Parts.{on_ok}
use Rattle.sv_view.proofs.Timelines.{entry_lines, then_is}
use Rattle.sv_view.proofs.views.timeline.RunsView.mark.Goals as goal

pub returns-in-Some-clause-shown : goal.returns-in-Some-clause-shown
returns-in-Some-clause-shown c = λ earlier stood.
    let mark = c.args.mark.now in
    let one : Seen = Damage mark.time mark.place mark.reason in
    let given = stood.0 ++ ended_by c.args.self.now.timeline (event_of one) in
    on_ok c.span_line.result (
      given,
      subst (λ (es : List TimedEvent). StandsFor c.step.new.self es given)
          (sym (events-push earlier one))
          (c.in_ok-run.ensures.stands (events_of earlier) stood.0 stood.1),
    )

pub returns-in-None-clause-shown : goal.returns-in-None-clause-shown
returns-in-None-clause-shown c = λ earlier stood.
    let mark = c.args.mark.now in
    let one : Seen = Damage mark.time mark.place mark.reason in
    let given = stood.0 ++ ended_by c.args.self.now.timeline (event_of one) in (
      given,
      subst (λ (es : List TimedEvent). StandsFor c.step.new.self es given)
          (sym (events-push earlier one))
          (c.in_ok-run.ensures.stands (events_of earlier) stood.0 stood.1),
    )

pub returns-in-Some-clause-line : goal.returns-in-Some-clause-line
returns-in-Some-clause-line c = λ earlier stood.
    let mark = c.args.mark.now in
    let one : Seen = Damage mark.time mark.place mark.reason in
    let run = c.in-Some.run' in
    let state = c.args.self.now.timeline in
    let ended : ended_by state (event_of one) ≡ run ∷ [] =
    sym c.in_ok-run.ensures.run ∙ ap option_to_list c.in-Some.is in
    let line : timeline_text.line earlier one ≡ span_line run =
    entry_lines state c.step.new.self earlier one stood.0 (ended_by state (event_of one)) stood.1
    (c.in_ok-run.ensures.stands (events_of earlier) stood.0 stood.1)
    ∙ ap (flat_map span_line) ended ∙ append-nil (span_line run) in
    then_is c.span_line.result c.span_line.new.out.items (c.args.lines.now.items ++ span_line run)
    (c.args.lines.now.items ++ timeline_text.line earlier one) c.span_line.ensures.ok
    (ap (λ (k : List ℕ). c.args.lines.now.items ++ k) (sym line))

pub returns-in-None-clause-line : goal.returns-in-None-clause-line
returns-in-None-clause-line c = λ earlier stood.
    let mark = c.args.mark.now in
    let one : Seen = Damage mark.time mark.place mark.reason in
    let state = c.args.self.now.timeline in
    let none : ended_by state (event_of one) ≡ [] =
    sym c.in_ok-run.ensures.run ∙ ap option_to_list c.in-None.is in
    let line : timeline_text.line earlier one ≡ [] =
    entry_lines state c.step.new.self earlier one stood.0 (ended_by state (event_of one)) stood.1
    (c.in_ok-run.ensures.stands (events_of earlier) stood.0 stood.1)
    ∙ ap (flat_map span_line) none in
    sym (ap (λ (k : List ℕ). c.args.lines.now.items ++ k) line
    ∙ append-nil c.args.lines.now.items)
