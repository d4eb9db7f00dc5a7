-- The timeline: the longest runs of ticks with equal contexts.
use Rattle.std.specs.Prelude.{◌≡◌, ℕ, ◌-◌, ◌<◌, Bool, not, List, [], ◌∷◌, map, replicate, flat_map}
use Rattle.std.specs.Prelude.{IsTrue}
use Rattle.std.specs.List.{list_all}
use Rattle.sv_packet.specs.declared.event.TimedEvent.{TimedEvent}
use Rattle.sv_packet.specs.Lists.{neighbours}
use Rattle.sv_context.specs.declared.context.Context.{Context}
use Rattle.sv_context.specs.Order.{is_same_context}
use Rattle.sv_timeline.specs.declared.span.Span.{Span}
use Rattle.sv_packet.specs.Events.{last_time}
use Rattle.sv_timeline.specs.Ticks.{ticks_of}

-- the contexts of a span's ticks
abbrev pub ticks_in : Span → List Context
ticks_in span = replicate (span.end - span.start) span.context

-- the spans lie one after another from a tick on, and none is empty
abbrev pub AreInRow : ℕ → List Span → ℕ → Type 0
AreInRow start [] end = start ≡ end
AreInRow start (span ∷ spans) end = (span.start ≡ start) × (start < span.end) × AreInRow span.end
    spans end

-- neighbours are different
abbrev pub are_apart : List Context → Bool
are_apart contexts = list_all (λ pair. not (is_same_context pair.0 pair.1)) (neighbours contexts)

-- the spans are the longest runs of equal contexts, from tick 0 up to the last event
pub record IsTimeline (events : List TimedEvent) (spans : List Span) : Type 0 where
  pub row : AreInRow 0 spans (last_time events)
  pub ticks : flat_map ticks_in spans ≡ ticks_of events
  pub apart : IsTrue (are_apart (map (λ s. s.context) spans))
