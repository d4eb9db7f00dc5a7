-- Ticks, timelines and loads of whole examples, by computation.
use Rattle.std.proofs.Common.{◌≡◌, ◌≢◌, ℕ, List, [], ◌∷◌, refl, arith}
use Rattle.std.specs.Prelude.{true, false}
use Rattle.std.proofs.Common.{rules}
use Rattle.sv_packet.specs.declared.event.Event.{Event}
use Rattle.sv_packet.specs.declared.event.Event.TheVariants.{IsrEnter, IsrExit, TaskStart}
use Rattle.sv_packet.specs.declared.event.Event.TheVariants.{Idle as IdleEvent, TimerEnter}
use Rattle.sv_packet.specs.declared.event.Event.TheVariants.{TimerExit, Overflow, TraceStart}
use Rattle.sv_packet.specs.declared.event.Event.TheVariants.{TraceStop}
use Rattle.sv_packet.specs.declared.event.TimedEvent.{TimedEvent}
use Rattle.sv_context.specs.declared.context.Context.{Context}
use Rattle.sv_context.specs.declared.context.Context.TheVariants.{Gap, Unknown, Idle, Task, Timer}
use Rattle.sv_context.specs.declared.context.Context.TheVariants.{Isr}
use Rattle.sv_timeline.specs.declared.span.Span.{Span}
use Rattle.sv_packet.specs.Events.{last_time}
use Rattle.sv_timeline.specs.Ticks.{context_at, ticks_of}
use Rattle.sv_timeline.specs.Timeline.{IsTimeline}
use Rattle.sv_timeline.specs.Load.{load_of, per_mille}

abbrev at : ℕ → Event → TimedEvent
at time event = record { time = time; event = event }

abbrev span : ℕ → ℕ → Context → Span
span start end context = record { start = start; end = end; context = context }

-- a task, interrupted
abbrev interrupted : List TimedEvent
interrupted = at 0 TraceStart ∷ at 0 (TaskStart 1) ∷ at 10 (IsrEnter 5) ∷ at 14 IsrExit ∷ at 20
    IdleEvent ∷ []

interrupted_timeline : IsTimeline interrupted (span 0 10 (Task 1) ∷ span 10 14 (Isr 5) ∷ span 14 20
    (Task 1) ∷ [])
interrupted_timeline = record { row = search rules; ticks = refl; apart = search rules }

interrupted_loads : (load_of (Task 1) interrupted ≡ 16) × (load_of (Isr 5) interrupted
    ≡ 4) × (load_of Gap interrupted ≡ 0) × (load_of Idle interrupted ≡ 0)
interrupted_loads = (refl, refl, refl, refl)

interrupted_parts : (per_mille 16 20 ≡ 800) × (per_mille 4 20 ≡ 200) × (per_mille 0 0 ≡ 0)
interrupted_parts = (refl, refl, refl)

single_ticks : (context_at interrupted 9 ≡ Task 1) × (context_at interrupted 10 ≡ Isr 5) ×
    (context_at interrupted 13 ≡ Isr 5) × (context_at interrupted 14 ≡ Task 1)
single_ticks = (refl, refl, refl, refl)

-- the interrupt is not counted for the task
not_for_the_task : load_of (Task 1) interrupted ≢ 20
not_for_the_task e = omega arith

-- neighbours of one context are one run
not_cut : IsTimeline interrupted (span 0 4 (Task 1) ∷ span 4 10 (Task 1) ∷ span 10 14 (Isr 5) ∷ span
    14 20 (Task 1) ∷ []) → ⊥
not_cut t = let merged : false ≡ true = t.apart in absurd cc

-- the last run ends with the last packet
not_further : IsTimeline interrupted (span 0 10 (Task 1) ∷ span 10 14 (Isr 5) ∷ span 14 21 (Task 1)
    ∷ []) → ⊥
not_further t = omega (arith, t.row.2.2.2)

-- no run is empty
not_empty : IsTimeline interrupted (span 0 10 (Task 1) ∷ span 10 10 Idle ∷ span 10 14 (Isr 5) ∷ span
    14 20 (Task 1) ∷ []) → ⊥
not_empty t = omega (arith, t.row.2.1)

-- an enter was lost, and the overflow tells it
abbrev lost : List TimedEvent
lost = at 0 TraceStart ∷ at 0 (TaskStart 1) ∷ at 10 (Overflow 1) ∷ at 15 IsrExit ∷ at 20 (TaskStart
    1) ∷ at 25 IdleEvent ∷ []

lost_timeline : IsTimeline lost (span 0 10 Gap ∷ span 10 20 Unknown ∷ span 20 25 (Task 1) ∷ [])
lost_timeline = record { row = search rules; ticks = refl; apart = search rules }

lost_loads : (load_of Gap lost ≡ 10) × (load_of Unknown lost ≡ 10) × (load_of (Task 1) lost
    ≡ 5) × (per_mille 10 25 ≡ 400)
lost_loads = (refl, refl, refl, refl)

-- the task is carried neither into the gap nor through it
not_carried : (context_at lost 5 ≢ Task 1) × (context_at lost 12 ≢ Task 1)
not_carried = ((λ e. absurd cc), (λ e. absurd cc))

-- an event that lasts no time has no run
abbrev nested : List TimedEvent
nested = at 0 IdleEvent ∷ at 3 (IsrEnter 5) ∷ at 5 (IsrEnter 7) ∷ at 6 IsrExit ∷ at 6 (TimerEnter 1)
    ∷ at 10 TimerExit ∷ at 11 IsrExit ∷ at 13 IsrExit ∷ []

nested_timeline : IsTimeline nested (span 0 3 Idle ∷ span 3 5 (Isr 5) ∷ span 5 6 (Isr 7) ∷ span 6 10
    (Timer 1) ∷ span 10 11 (Isr 5) ∷ span 11 13 Idle ∷ [])
nested_timeline = record { row = search rules; ticks = refl; apart = search rules }

-- a gap from a stop up to the next packet, and from the packet before a start up to it
abbrev stopped : List TimedEvent
stopped = at 2 (TaskStart 1) ∷ at 5 TraceStop ∷ at 8 IdleEvent ∷ at 9 TraceStart ∷ at 11 (TaskStart
    2) ∷ []

stopped_timeline : IsTimeline stopped (span 0 2 Gap ∷ span 2 5 (Task 1) ∷ span 5 9 Gap ∷ span 9 11
    Unknown ∷ [])
stopped_timeline = record { row = search rules; ticks = refl; apart = search rules }

-- nothing and no time
nothing : (ticks_of [] ≡ []) × (last_time [] ≡ 0) × (load_of Gap [] ≡ 0)
nothing = (refl, refl, refl)
