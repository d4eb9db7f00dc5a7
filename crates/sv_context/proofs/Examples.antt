-- Contexts of whole examples, by computation: the right answers, and wrong ones refused.
use Rattle.std.proofs.Common.{◌≡◌, ◌≢◌, ℕ, List, [], ◌∷◌, refl, take, map}
use Rattle.std.specs.List.{range_with_len}
use Rattle.sv_packet.specs.declared.event.Event.{Event}
use Rattle.sv_packet.specs.declared.event.Event.TheVariants.{IsrEnter, IsrExit, TaskStart}
use Rattle.sv_packet.specs.declared.event.Event.TheVariants.{Idle as IdleEvent, TimerEnter}
use Rattle.sv_packet.specs.declared.event.Event.TheVariants.{TimerExit, Overflow}
use Rattle.sv_context.specs.declared.context.Context.{Context}
use Rattle.sv_context.specs.declared.context.Context.TheVariants.{Unknown, Idle, Task, Timer, Isr}
use Rattle.sv_context.specs.Context.{context_after, anomalies, open_frames, segment_of}

-- an idle target, interrupted twice, a timer, and one exit too many
abbrev nested : List Event
nested = IdleEvent ∷ IsrEnter 5 ∷ IsrEnter 7 ∷ IsrExit ∷ TimerEnter 1 ∷ TimerExit ∷ IsrExit ∷
    IsrExit ∷ []

-- the contexts after none, one, two .. of the events
abbrev contexts_along : List Event → ℕ → List Context
contexts_along events count = map (λ k. context_after (take k events)) (range_with_len 0 count)

nested_contexts : contexts_along nested 9 ≡ Unknown ∷ Idle ∷ Isr 5 ∷ Isr 7 ∷ Isr 5 ∷ Timer 1 ∷ Isr 5
    ∷ Idle ∷ Idle ∷ []
nested_contexts = refl

nested_anomalies : anomalies nested ≡ 1
nested_anomalies = refl

nested_frames : open_frames (segment_of (take 5 nested)) ≡ Isr 5 ∷ Timer 1 ∷ []
nested_frames = refl

-- an exit closes the innermost frame of either kind, and not the first one
not_the_first : context_after (take 6 nested) ≢ Idle
not_the_first e = absurd cc

-- a base closes all frames
base_closes : context_after (IsrEnter 5 ∷ TimerEnter 1 ∷ TaskStart 3 ∷ IsrExit ∷ []) ≡ Task 3
base_closes = refl

-- a break forgets frames and base: nothing is carried through it
forgotten : context_after (TaskStart 1 ∷ IsrEnter 5 ∷ Overflow 1 ∷ []) ≡ Unknown
forgotten = refl

not_carried : context_after (TaskStart 1 ∷ Overflow 1 ∷ IsrExit ∷ []) ≢ Task 1
not_carried e = absurd cc

-- an exit behind a break finds nothing open
lost_enter : anomalies (IsrEnter 5 ∷ Overflow 1 ∷ IsrExit ∷ []) ≡ 1
lost_enter = refl

-- an exit with nothing open closes no frame that comes later
later_frame : context_after (IsrExit ∷ IsrExit ∷ IsrEnter 5 ∷ []) ≡ Isr 5
later_frame = refl
