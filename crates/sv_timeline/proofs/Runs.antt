-- What one more event does to the timeline: its last span grows, or a new one follows it.
use Rattle.std.proofs.Common.{◌≡◌, ℕ, zero, suc, ◌+◌, ◌-◌, ◌<◌, List, [], ◌∷◌, ◌++◌, map, refl, sym}
use Rattle.std.proofs.Common.{ap, subst, ◌∙◌, append_assoc, arith}
use Rattle.std.specs.Prelude.{true, false, not, replicate, flat_map}
use Rattle.std.specs.List.{list_all}
use Rattle.std.proofs.lemmas.List.{map-append, append-nil}
use Rattle.std.proofs.lemmas.List.Concat.{flat_map-append}
use Rattle.std.proofs.lemmas.List.Folds.{list_all-append}
use Rattle.sv_packet.specs.declared.event.TimedEvent.{TimedEvent}
use Rattle.sv_packet.specs.Lists.{neighbours}
use Rattle.sv_packet.proofs.Shared.{neighbours-more}
use Rattle.sv_context.specs.declared.context.Context.{Context}
use Rattle.sv_context.specs.Order.{is_same_context}
use Rattle.sv_timeline.specs.declared.span.Span.{Span}
use Rattle.sv_packet.specs.Events.{last_time}
use Rattle.sv_timeline.specs.Ticks.{ticks_of}
use Rattle.sv_timeline.specs.Timeline.{ticks_in, AreInRow, are_apart, IsTimeline}

row_more : (start middle end : ℕ) (spans : List Span) (span : Span) → AreInRow start spans middle
    → span.start ≡ middle → middle < span.end → span.end ≡ end
    → AreInRow start (spans ++ span ∷ []) end
row_more start middle end [] span row from to is = (from ∙ sym row, omega (arith, row), is)
row_more start middle end (s ∷ spans) span row from to is = (
  row.0,
  row.1,
  row_more s.end middle end
      spans span row.2 from to is,
)

pub row_last : (start end : ℕ) (spans : List Span) (span : Span)
    → AreInRow start (spans ++ span ∷ []) end → AreInRow start spans span.start × (span.start <
    span.end) × (span.end ≡ end)
row_last start end [] span row = (sym row.0, omega (arith, row.0, row.1), row.2)
row_last start end (s ∷ spans) span row = let found = row_last s.end end spans span row.2 in
    ((row.0, row.1, found.0), found.1, found.2)

pub replicate-add : {A : Type 0} (n m : ℕ) (x : A) → replicate (n + m) x ≡ replicate n x ++ replicate m
    x
replicate-add zero m x = let e : zero + m ≡ m = omega arith in ap (λ (k : ℕ). replicate k x) e
replicate-add (suc n) m x = let e : suc n + m ≡ suc (n + m) = omega arith in
    ap (λ (k : ℕ). replicate k x) e ∙ ap (λ rest. x ∷ rest) (replicate-add n m x)

ticks_spans : (spans : List Span) (span : Span) → flat_map ticks_in (spans ++ span ∷ [])
    ≡ flat_map ticks_in spans ++ ticks_in span
ticks_spans spans span = flat_map-append ticks_in spans (span ∷ []) ∙ ap (λ rest. flat_map ticks_in
    spans ++ rest) (append-nil (ticks_in span))

apart_more : (contexts : List Context) (last next : Context) → are_apart (contexts ++ last ∷ [])
    ≡ true → is_same_context last next ≡ false → are_apart ((contexts ++ last ∷ []) ++ next ∷ [])
    ≡ true
apart_more contexts last next apart differ =
    ap (list_all (λ pair. not (is_same_context pair.0 pair.1))) (neighbours-more contexts last next)
    ∙ list_all-append (λ pair. not (is_same_context pair.0 pair.1)) (neighbours (contexts ++ last ∷
    [])) ((last, next) ∷ [])
    ∙ rw (apart, differ) refl

abbrev pub span_of : ℕ → ℕ → Context → Span
span_of start end context = record { start = start; end = end; context = context }

-- no tick more
pub timeline-same : (old new : List TimedEvent) (spans : List Span) → last_time new ≡ last_time old
    → ticks_of new ≡ ticks_of old → IsTimeline old spans → IsTimeline new spans
timeline-same old new spans time ticks t = record {
  row = subst (AreInRow 0 spans) (sym time) t.row;
  ticks = t.ticks ∙ sym ticks;
  apart = t.apart;
}

-- the first ticks
pub timeline-first : (old new : List TimedEvent) (ticks : ℕ) (context : Context) → 0 < ticks
    → last_time new ≡ ticks → ticks_of old ≡ [] → ticks_of new ≡ ticks_of old ++ replicate ticks
    context → IsTimeline new (span_of 0 ticks context ∷ [])
timeline-first old new ticks context some time none more = record {
  row = (refl, some, sym time);
  ticks = ap (λ (n : ℕ). replicate n context ++ []) (omega arith)
      ∙ append-nil (replicate ticks context) ∙ sym (more ∙ ap (λ rest. rest ++ replicate ticks
      context) none);
  apart = refl;
}

-- more ticks of the last span's context
pub timeline-longer : (old new : List TimedEvent) (spans : List Span) (span : Span) (ticks : ℕ)
    → last_time new ≡ last_time old + ticks → ticks_of new ≡ ticks_of old ++ replicate ticks
    span.context
    → IsTimeline old (spans ++ span ∷ []) → IsTimeline new (spans ++ span_of span.start (last_time
    new) span.context ∷ [])
timeline-longer old new spans span ticks time more t =
    let row = row_last 0 (last_time old) spans span t.row in
    let longer : last_time new - span.start ≡ (span.end - span.start) + ticks = omega (
      arith,
      time,
      row.1,
      row.2,
    ) in
    record {
      row = row_more 0 span.start (last_time new) spans (span_of span.start (last_time new)
          span.context) row.0 refl (omega (arith, time, row.1, row.2)) refl;
      ticks = ticks_spans spans (span_of span.start (last_time new) span.context)
          ∙ ap (λ (n : ℕ). flat_map ticks_in spans ++ replicate n span.context) longer
          ∙ ap (λ rest. flat_map ticks_in spans ++ rest) (replicate-add (span.end - span.start)
          ticks span.context)
          ∙ sym (append_assoc (flat_map ticks_in spans) (ticks_in span) (replicate ticks
          span.context))
          ∙ ap (λ front. front ++ replicate ticks span.context) (sym (ticks_spans spans span)
          ∙ t.ticks)
          ∙ sym more;
      apart = ap are_apart (map-append (λ s. s.context) spans (span_of span.start (last_time new)
          span.context ∷ [])) ∙ ap are_apart (sym (map-append (λ s. s.context) spans (span ∷ [])))
          ∙ t.apart;
    }

-- more ticks of another context
pub timeline-next : (old new : List TimedEvent) (spans : List Span) (span : Span) (ticks : ℕ)
    (context : Context) → 0 < ticks → is_same_context span.context context ≡ false
    → last_time new ≡ last_time old + ticks → ticks_of new ≡ ticks_of old ++ replicate ticks context
    → IsTimeline old (spans ++ span ∷ []) → IsTimeline new ((spans ++ span ∷ []) ++ span_of
    (last_time old) (last_time new) context ∷ [])
timeline-next old new spans span ticks context some differ time more t =
    let many : last_time new - last_time old ≡ ticks = omega (arith, time) in
    let names : map (λ s. s.context) (spans ++ span ∷ []) ≡ map (λ s. s.context) spans ++
    span.context ∷ [] = map-append (λ s. s.context) spans (span ∷ []) in
    record {
      row = row_more 0 (last_time old) (last_time new) (spans ++ span ∷ []) (span_of (last_time old)
          (last_time new) context) t.row refl (omega (arith, time)) refl;
      ticks = ticks_spans (spans ++ span ∷ []) (span_of (last_time old) (last_time new) context)
          ∙ ap (λ (n : ℕ). flat_map ticks_in (spans ++ span ∷ []) ++ replicate n context) many
          ∙ ap (λ front. front ++ replicate ticks context) t.ticks
          ∙ sym more;
      apart = ap are_apart (map-append (λ s. s.context) (spans ++ span ∷ []) (span_of (last_time
          old) (last_time new) context ∷ []) ∙ ap (λ front. front ++ context ∷ []) names)
          ∙ apart_more (map (λ s. s.context) spans) span.context context (ap are_apart (sym names)
          ∙ t.apart) differ;
    }
