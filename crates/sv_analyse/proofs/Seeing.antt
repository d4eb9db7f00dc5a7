-- What is seen, when one entry more comes.
use Rattle.std.proofs.Common.{◌≡◌, ℕ, ◌+◌, List, [], ◌∷◌, ◌++◌, length, sym, ap, subst, ◌∙◌, refl, arith}
use Rattle.std.proofs.lemmas.List.{append-nil, length-append, map-append}
use Rattle.std.proofs.lemmas.List.Elements.{filter_map-append}
use Rattle.std.specs.Prelude.{filter_map, Option, Some, None}
use Rattle.sv_prim.specs.declared.got.Reason.{Reason}
use Rattle.sv_packet.specs.declared.event.Event.{Event}
use Rattle.sv_packet.specs.declared.event.TimedEvent.{TimedEvent}
use Rattle.sv_stream.specs.declared.seen.Seen.{Seen}
use Rattle.sv_stream.specs.declared.seen.Seen.TheVariants.{Event as SeenEvent, Damage}
use Rattle.sv_stream.specs.Entries.{event_of, events_of}
use Rattle.sv_latency.specs.State.{State as LatencyState, StandsFor as LatencyStandsFor}
use Rattle.sv_timeline.specs.declared.span.Span.{Span}
use Rattle.sv_timeline.specs.State.{State as TimelineState, StandsFor as TimelineStandsFor}
use Rattle.sv_analyse.specs.NamesState.{NamesState, NamesStandFor}
use Rattle.sv_analyse.specs.Report.{event_in, place_in}
use Rattle.sv_analyse.specs.State.{AnalysisState, AnalysisStandsFor}

pub events-push : (seen : List Seen) (one : Seen) →
    events_of (seen ++ one ∷ []) ≡ events_of seen ++ event_of one ∷ []
events-push seen one = map-append event_of seen (one ∷ [])

-- an event more, and its timeline, latencies and names
pub stands-event :
    (old new : AnalysisState) (seen : List Seen) (given runs : List Span) (event : TimedEvent)
    → AnalysisStandsFor old seen given
    → TimelineStandsFor new.timeline (events_of seen ++ event ∷ []) (given ++ runs)
    → LatencyStandsFor new.latency (events_of seen ++ event ∷ [])
    → NamesStandFor new.names (filter_map event_in seen ++ event.event ∷ [])
    → new.packets ≡ old.packets + 1 → new.marks ≡ old.marks
    → AnalysisStandsFor new (seen ++ SeenEvent event ∷ []) (given ++ runs)
stands-event old new seen given runs event s timeline latency names packets marks = record {
  timeline =
      subst (λ (es : List TimedEvent). TimelineStandsFor new.timeline es (given ++ runs))
      (sym (events-push seen (SeenEvent event))) timeline;
  latency =
      subst (LatencyStandsFor new.latency) (sym (events-push seen (SeenEvent event))) latency;
  names =
      subst (NamesStandFor new.names)
      (sym (filter_map-append event_in seen (SeenEvent event ∷ []))) names;
  packets = omega (
    arith,
    packets,
    s.packets,
    ap length (filter_map-append event_in seen (SeenEvent event ∷ [])),
    length-append (filter_map event_in seen) (event.event ∷ []),
  );
  marks =
      marks ∙ s.marks
      ∙ ap length
      (sym
      (filter_map-append place_in seen (SeenEvent event ∷ []) ∙ append-nil (filter_map place_in seen)));
}

-- a mark more, and its timeline and latencies
pub stands-mark :
    (old new : AnalysisState) (seen : List Seen) (given runs : List Span) (time place : ℕ)
    (reason : Reason)
    → AnalysisStandsFor old seen given
    → TimelineStandsFor new.timeline (events_of seen ++ event_of (Damage time place reason) ∷ [])
    (given ++ runs)
    → LatencyStandsFor new.latency (events_of seen ++ event_of (Damage time place reason) ∷ [])
    → new.names ≡ old.names → new.packets ≡ old.packets → new.marks ≡ old.marks + 1
    → AnalysisStandsFor new (seen ++ Damage time place reason ∷ []) (given ++ runs)
stands-mark old new seen given runs time place reason s timeline latency names packets marks =
    let one : Seen = Damage time place reason in
    let same : filter_map event_in (seen ++ one ∷ []) ≡ filter_map event_in seen =
    filter_map-append event_in seen (one ∷ []) ∙ append-nil (filter_map event_in seen) in
    record {
      timeline =
          subst (λ (es : List TimedEvent). TimelineStandsFor new.timeline es (given ++ runs))
          (sym (events-push seen one)) timeline;
      latency = subst (LatencyStandsFor new.latency) (sym (events-push seen one)) latency;
      names =
          subst (NamesStandFor new.names) (sym same)
          (subst (λ (n : NamesState). NamesStandFor n (filter_map event_in seen)) (sym names)
          s.names);
      packets = packets ∙ s.packets ∙ ap length (sym same);
      marks = omega (
        arith,
        marks,
        s.marks,
        ap length (filter_map-append place_in seen (one ∷ [])),
        length-append (filter_map place_in seen) (place ∷ []),
      );
    }
