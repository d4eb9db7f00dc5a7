-- What is told of entries, when one more comes, and how they are counted.
use Rattle.std.proofs.Common.{◌≡◌, ℕ, ◌+◌, ◌≤◌, List, [], ◌∷◌, ◌++◌, length, map, refl, sym, ap, ◌∙◌}
use Rattle.std.proofs.Common.{append-nil, arith, length-append, Result, Ok, Err}
use Rattle.std.specs.Prelude.{OnOk, filter_map}
use Rattle.std.proofs.lemmas.List.Elements.{filter_map-append}
use Rattle.sv_prim.specs.declared.got.Reason.{Reason}
use Rattle.sv_packet.specs.declared.event.TimedEvent.{TimedEvent}
use Rattle.sv_packet.specs.Events.{last_time}
use Rattle.sv_packet.proofs.Shared.{last_time-more}
use Rattle.sv_stream.specs.declared.end.End.{End}
use Rattle.sv_stream.specs.declared.end.End.TheVariants.{Damaged}
use Rattle.sv_stream.specs.declared.seen.Seen.{Seen}
use Rattle.sv_stream.specs.declared.seen.Seen.TheVariants.{Event, Damage}
use Rattle.sv_stream.specs.Entries.{event_of, events_of}
use Rattle.sv_analyse.specs.Report.{event_in, place_in}
use Rattle.sv_analyse.proofs.Shared.{counted, events-push}
use Rattle.sv_view.specs.Answer.{verdict}

-- where a first fact stands a second one follows
pub on_then : {T E : Type 0} {P Q : Type 0} (r : Result T E) → OnOk r P → (P → Q) → OnOk r Q
on_then (Ok value) p f = f p
on_then (Err e) p f = tt

-- an event changes nothing of what is told
pub verdict-event : (seen : List Seen) (event : TimedEvent) (end : End)
    → verdict (seen ++ Event event ∷ []) end ≡ verdict seen end
verdict-event [] event end = refl
verdict-event (Event first ∷ seen) event end = verdict-event seen event end
verdict-event (Damage time place reason ∷ seen) event end = refl

-- a mark is told where none was before it
pub verdict-mark : (seen : List Seen) (time place : ℕ) (reason : Reason) (end : End)
    → verdict (seen ++ Damage time place reason ∷ []) end ≡ verdict seen (Damaged place reason)
verdict-mark [] time place reason end = refl
verdict-mark (Event first ∷ seen) time place reason end = verdict-mark seen time place reason end
verdict-mark (Damage t p r ∷ seen) time place reason end = refl

-- one event more is counted, and is the last
pub events-more : (seen : List Seen) (event : TimedEvent)
    → length (filter_map event_in (seen ++ Event event ∷ []))
    ≡ length (filter_map event_in seen) + 1
events-more seen event = omega (
  arith,
  ap length (filter_map-append event_in seen (Event event ∷ [])),
  length-append (filter_map event_in seen) (event.event ∷ []),
)

pub marks-same : (seen : List Seen) (event : TimedEvent)
    → length (filter_map place_in (seen ++ Event event ∷ []))
    ≡ length (filter_map place_in seen)
marks-same seen event =
    ap length (filter_map-append place_in seen (Event event ∷ []) ∙ append-nil (filter_map place_in seen))

-- and one mark
pub events-same : (seen : List Seen) (time place : ℕ) (reason : Reason)
    → length (filter_map event_in (seen ++ Damage time place reason ∷ []))
    ≡ length (filter_map event_in seen)
events-same seen time place reason =
    ap length (filter_map-append event_in seen (Damage time place reason ∷ [])
    ∙ append-nil (filter_map event_in seen))

pub marks-more : (seen : List Seen) (time place : ℕ) (reason : Reason)
    → length (filter_map place_in (seen ++ Damage time place reason ∷ []))
    ≡ length (filter_map place_in seen) + 1
marks-more seen time place reason = omega (
  arith,
  ap length (filter_map-append place_in seen (Damage time place reason ∷ [])),
  length-append (filter_map place_in seen) (place ∷ []),
)

pub time-more : (seen : List Seen) (one : Seen)
    → last_time (events_of (seen ++ one ∷ [])) ≡ (event_of one).time
time-more seen one =
    ap last_time (events-push seen one) ∙ last_time-more (events_of seen) (event_of one)

-- neither count is more than both
pub few-events : (seen : List Seen) → length (filter_map event_in seen) ≤ length seen
few-events seen = omega (arith, counted seen)

pub few-marks : (seen : List Seen) → length (filter_map place_in seen) ≤ length seen
few-marks seen = omega (arith, counted seen)
