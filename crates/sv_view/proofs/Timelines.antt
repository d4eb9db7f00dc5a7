-- The lines of runs, as events come and end them.
use Rattle.std.proofs.Common.{◌≡◌, ℕ, List, [], ◌∷◌, ◌++◌, length, take, drop, flat_map, sym, ap, ◌∙◌}
use Rattle.std.proofs.Common.{append_assoc, append-nil, ◌-◌, Result, Ok, Err}
use Rattle.std.specs.Prelude.{OnOk}
use Rattle.std.proofs.Math.Seq.{drop-append_seam}
use Rattle.std.proofs.lemmas.List.{map-append, take-append-drop}
use Rattle.std.proofs.lemmas.List.Concat.{flat_map-append}
use Rattle.sv_packet.specs.declared.event.Packet.{Packet}
use Rattle.sv_packet.specs.declared.event.TimedEvent.{TimedEvent}
use Rattle.sv_packet.specs.Time.{timed}
use Rattle.sv_stream.specs.declared.end.End.{End}
use Rattle.sv_stream.specs.declared.seen.Seen.{Seen}
use Rattle.sv_stream.specs.Entries.{event_of, events_of, packets_of, timed_entries}
use Rattle.sv_stream.specs.Input.{Entry}
use Rattle.sv_stream.proofs.Shared.{events-timed}
use Rattle.sv_timeline.specs.declared.span.Span.{Span}
use Rattle.sv_timeline.specs.Runs.{timeline_of, ended_runs}
use Rattle.sv_timeline.specs.State.{State, StandsFor}
use Rattle.sv_timeline.specs.Timeline.{IsTimeline}
use Rattle.sv_timeline.proofs.Shared.{given_ended, runs_grow, timeline_is, timeline_once}
use Rattle.sv_analyse.proofs.Shared.{events-push}
use Rattle.sv_report.specs.Ends.{end_line}
use Rattle.sv_report.specs.Spans.{span_line}
use Rattle.sv_view.specs.Text.{lines_after, lines_of, whole_text}
use Rattle.sv_view.specs.texts.Timeline.{runs_after, timeline_text}

-- what an answer fixes, in other words
pub then_is : {T E : Type 0} (r : Result T E) (now was is : List ℕ) → OnOk r (now ≡ was)
    → was ≡ is → OnOk r (now ≡ is)
then_is (Ok value) now was is ok same = ok ∙ same
then_is (Err e) now was is ok same = tt

-- what follows the first elements
drop_added : {A : Type 0} (front added all : List A) → all ≡ front ++ added
    → drop (length front) all ≡ added
drop_added front added all is = ap (drop (length front)) is ∙ drop-append_seam front added

front_and_rest : {A : Type 0} (n : ℕ) (all : List A)
    → take n all ++ drop (length (take n all)) all ≡ all
front_and_rest {A} n all =
    ap (λ (rest : List A). take n all ++ rest)
    (drop_added (take n all) (drop n all) all (sym (take-append-drop n all)))
    ∙ take-append-drop n all

-- the lines of an entry are those of the runs that it ends
pub entry_lines : (old new : State) (earlier : List Seen) (one : Seen)
    (given added : List Span)
    → StandsFor old (events_of earlier) given
    → StandsFor new (events_of earlier ++ event_of one ∷ []) (given ++ added)
    → timeline_text.line earlier one ≡ flat_map span_line added
entry_lines old new earlier one given added before after =
    let events : List TimedEvent = events_of earlier in
    ap (flat_map span_line)
    (ap (λ (es : List TimedEvent). runs_after events (ended_runs es)) (events-push earlier one)
    ∙ drop_added (ended_runs events) added (ended_runs (events ++ event_of one ∷ []))
    (given_ended new (events ++ event_of one ∷ []) (given ++ added) after
    ∙ ap (λ (runs : List Span). runs ++ added) (sym (given_ended old events given before))))

-- after all entries comes the run that may still grow
pub last_line : (state : State) (seen : List Seen) (given tail : List Span) (end : End)
    → StandsFor state (events_of seen) given → IsTimeline (events_of seen) (given ++ tail)
    → timeline_text.last seen end ≡ flat_map span_line tail ++ end_line end
last_line state seen given tail end s t =
    let events : List TimedEvent = events_of seen in
    ap (λ (runs : List Span). flat_map span_line runs ++ end_line end)
    (drop_added (ended_runs events) tail (timeline_of events)
    (timeline_once events (timeline_of events) (given ++ tail) (timeline_is events) t
    ∙ ap (λ (runs : List Span). runs ++ tail) (sym (given_ended state events given s))))

-- the lines of a recording's first entries are those of the runs that ended with them
lines_from : (packets : List Packet) (earlier seen rest : List Seen)
    → timed packets ≡ events_of (earlier ++ (seen ++ rest))
    → flat_map span_line (ended_runs (events_of earlier)) ++ lines_after timeline_text earlier seen
    ≡ flat_map span_line (ended_runs (events_of (earlier ++ seen)))
lines_from packets earlier [] rest is =
    append-nil (flat_map span_line (ended_runs (events_of earlier)))
    ∙ ap (λ (es : List Seen). flat_map span_line (ended_runs (events_of es)))
    (sym (append-nil earlier))
lines_from packets earlier (one ∷ seen) rest is =
    let events : List TimedEvent = events_of earlier in
    let now : List Seen = earlier ++ one ∷ [] in
    let there : timed packets ≡ events ++ (event_of one ∷ [] ++ events_of (seen ++ rest)) =
    is ∙ map-append event_of earlier (one ∷ (seen ++ rest)) in
    let grown = runs_grow packets events (event_of one ∷ []) (events_of (seen ++ rest)) there in
    let ended : List ℕ = flat_map span_line (ended_runs events) in
    let same : ended_runs (events_of now) ≡ ended_runs events ++ grown.0 =
    ap ended_runs (events-push earlier one) ∙ grown.1 in
    let line : timeline_text.line earlier one ≡ flat_map span_line grown.0 =
    ap (flat_map span_line)
    (drop_added (ended_runs events) grown.0 (ended_runs (events_of now)) same) in
    sym (append_assoc ended (timeline_text.line earlier one)
    (lines_after timeline_text now seen))
    ∙ ap (λ (k : List ℕ). (ended ++ k) ++ lines_after timeline_text now seen) line
    ∙ ap (λ (k : List ℕ). k ++ lines_after timeline_text now seen)
    (sym (flat_map-append span_line (ended_runs events) grown.0)
    ∙ ap (flat_map span_line) (sym same))
    ∙ lines_from packets now seen rest
    (is ∙ ap events_of (sym (append_assoc earlier (one ∷ []) (seen ++ rest))))
    ∙ ap (λ (es : List Seen). flat_map span_line (ended_runs (events_of es)))
    (append_assoc earlier (one ∷ []) seen)

pub all_lines : (entries : List (Entry Packet)) → lines_of timeline_text (timed_entries entries)
    ≡ flat_map span_line (ended_runs (timed (packets_of entries)))
all_lines entries =
    let seen : List Seen = timed_entries entries in
    lines_from (packets_of entries) [] seen []
    (sym (events-timed entries) ∙ ap events_of (sym (append-nil seen)))
    ∙ ap (λ (es : List TimedEvent). flat_map span_line (ended_runs es)) (events-timed entries)

pub all_text : (entries : List (Entry Packet)) (end : End)
    → whole_text timeline_text (timed_entries entries) end
    ≡ flat_map span_line (timeline_of (timed (packets_of entries))) ++ end_line end
all_text entries end =
    let events : List TimedEvent = timed (packets_of entries) in
    let ended : List Span = ended_runs events in
    let left : List Span = runs_after events (timeline_of events) in
    ap (λ (k : List ℕ). k ++ timeline_text.last (timed_entries entries) end) (all_lines entries)
    ∙ ap (λ (es : List TimedEvent). flat_map span_line ended
    ++ (flat_map span_line (runs_after es (timeline_of es)) ++ end_line end)) (events-timed entries)
    ∙ sym (append_assoc (flat_map span_line ended) (flat_map span_line left) (end_line end))
    ∙ ap (λ (k : List ℕ). k ++ end_line end)
    (sym (flat_map-append span_line ended left)
    ∙ ap (flat_map span_line) (front_and_rest (length (timeline_of events) - 1) (timeline_of events)))
