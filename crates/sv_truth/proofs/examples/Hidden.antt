-- An interrupt whose two calls found no room: the stream names nothing while it ran. With the gap
-- left out, or a class that looks back over breaks, it would name what is not true.
use Rattle.std.proofs.Common.{◌≡◌, ℕ, ◌<◌, Some, List, [], ◌∷◌, ◌++◌, refl, arith, rules}
use Rattle.std.specs.Prelude.{filter}
use Rattle.sv_packet.specs.declared.event.Event.{Event}
use Rattle.sv_packet.specs.declared.event.Event.TheVariants as events
use Rattle.sv_packet.specs.declared.event.TimedEvent.{TimedEvent}
use Rattle.sv_packet.specs.Events.{last_time}
use Rattle.sv_packet.specs.Lists.{last_of}
use Rattle.sv_packet.specs.Time.{timed}
use Rattle.sv_load.specs.declared.load.Step.{Step}
use Rattle.sv_load.specs.Load.{Load}
use Rattle.sv_load.specs.Need.{IsWithinLimits}
use Rattle.sv_journal.specs.declared.journal.Kind.TheVariants as kinds
use Rattle.sv_journal.specs.declared.journal.Origin.TheVariants.{Call, Sync, Reply, Overflow}
use Rattle.sv_journal.specs.declared.journal.Outcome.TheVariants.{Stored, Refused, Handled}
use Rattle.sv_journal.specs.declared.journal.Item.{Item}
use Rattle.sv_journal.specs.Legal.{IsLegal}
use Rattle.sv_journal.specs.Stream.{sent_events, IsCalm}
use Rattle.sv_journal.proofs.Shared.{at, load_of, start}
use Rattle.sv_context.specs.declared.context.Context.{Context}
use Rattle.sv_context.specs.declared.context.Context.TheVariants.{Gap, Unknown, Task, Isr}
use Rattle.sv_context.specs.Context.{context_after}
use Rattle.sv_timeline.specs.Ticks.{context_at, events_until}
use Rattle.sv_latency.specs.declared.class.Class.{Class}
use Rattle.sv_latency.specs.declared.class.Class.TheVariants.{Measured, Resumed}
use Rattle.sv_latency.specs.declared.class.Class.TheVariants.{Unknown as UnknownClass}
use Rattle.sv_latency.specs.Class.{class_from, class_of, is_about}
use Rattle.sv_sent.specs.Sent.{sent_packets}
use Rattle.sv_truth.specs.Truth.{all_calls, truth_at, IsNamed, AreContextsTrue, TellsClasses}
use Rattle.sv_truth.specs.Truth.{TellsContexts}
use Rattle.sv_truth.proofs.Naming.{truly}
use Rattle.sv_truth.proofs.examples.Words.{AreSteps, limits, step, told}

-- a start, eight marks and four calls more, a tick apart
abbrev script_of : Event → Event → Event → Event → List Step
script_of a b c d =
    start 0 ∷ step 1 (events.MarkStart 5) ∷ step 1 (events.MarkStart 5) ∷
    step 1 (events.MarkStart 5) ∷ step 1 (events.MarkStart 5) ∷ step 1 (events.MarkStart 5) ∷
    step 1 (events.MarkStart 5) ∷ step 1 (events.MarkStart 5) ∷ step 1 (events.MarkStart 5) ∷
    step 1 a ∷ step 1 b ∷ step 1 c ∷ step 1 d ∷ []

-- of the four calls the first fills the ring, the next two are refused, and before the last one the
-- host takes 20 bytes
abbrev items : List Item
items =
    at 0 0 (Call 0 0) Handled ∷
    at 0 0 Sync Stored ∷
    at 0 0 (Reply kinds.TraceStart 0) Stored ∷
    at 0 0 (Reply kinds.Init 0) Stored ∷
    at 0 0 (Reply kinds.Systime 0) Stored ∷
    at 0 0 (Reply kinds.ModuleCount 0) Stored ∷
    at 1 0 (Call 0 1) Stored ∷
    at 2 0 (Call 0 2) Stored ∷
    at 3 0 (Call 0 3) Stored ∷
    at 4 0 (Call 0 4) Stored ∷
    at 5 0 (Call 0 5) Stored ∷
    at 6 0 (Call 0 6) Stored ∷
    at 7 0 (Call 0 7) Stored ∷
    at 8 0 (Call 0 8) Stored ∷
    at 9 0 (Call 0 9) Stored ∷
    at 10 0 (Call 0 10) Refused ∷
    at 11 0 (Overflow 1) Refused ∷
    at 11 0 (Call 0 11) Refused ∷
    at 12 20 (Overflow 2) Stored ∷
    at 12 20 (Call 0 12) Stored ∷ []

-- what is sent up to the first of the four calls
abbrev fronts : List TimedEvent
fronts =
    told 0 events.TraceStart ∷ told 0 (events.Init 1000000 1000000 536870912 2) ∷
    told 0 (events.SystimeCycles 0) ∷ told 0 (events.NumModules 0) ∷
    told 1 (events.MarkStart 5) ∷ told 2 (events.MarkStart 5) ∷ told 3 (events.MarkStart 5) ∷
    told 4 (events.MarkStart 5) ∷ told 5 (events.MarkStart 5) ∷ told 6 (events.MarkStart 5) ∷
    told 7 (events.MarkStart 5) ∷ told 8 (events.MarkStart 5) ∷ []

-- A HIDDEN INTERRUPT

abbrev script : List Step
script =
    script_of (events.TaskStart 1) (events.IsrEnter 5) events.IsrExit (events.TaskStart 2)

abbrev load : Load
load = load_of 64 script

abbrev sent : List TimedEvent
sent =
    fronts ++ told 9 (events.TaskStart 1) ∷ told 12 (events.Overflow 2) ∷
    told 12 (events.TaskStart 2) ∷ []

legal : IsLegal load items
legal = search rules

calm : IsCalm load items
calm = search rules

steps : AreSteps script
steps = search rules

within : IsWithinLimits load
within = limits script steps (omega arith) (omega arith)

are_sent : sent_events load items ≡ sent
are_sent = refl

are_timed : timed (sent_packets load items) ≡ sent
are_timed = refl

-- by all calls the first task ran, then the interrupt, then the task again
truths : (truth_at load items 8 ≡ Unknown) × (truth_at load items 9 ≡ Task 1) ×
    (truth_at load items 10 ≡ Isr 5) × (truth_at load items 11 ≡ Task 1)
truths = (refl, refl, refl, refl)

-- the stream names none of it
names : (context_at sent 8 ≡ Unknown) × (context_at sent 9 ≡ Gap) × (context_at sent 10 ≡ Gap) ×
    (context_at sent 11 ≡ Gap)
names = (refl, refl, refl, refl)

-- so it is by the law, of whatever packets the stream is read as
true_contexts : TellsContexts load items
true_contexts = (truly load items legal within).contexts calm

true_classes : TellsClasses load items
true_classes = (truly load items legal within).classes calm

-- the contexts of ticks with the gaps left out: a context goes on until the next event
abbrev carried_at : List TimedEvent → ℕ → Context
carried_at events tick = context_after (events_until events tick)

carried : ((tick : ℕ) → tick < last_time sent → IsNamed (carried_at sent tick) →
    carried_at sent tick ≡ truth_at load items tick) → ⊥
carried all =
    let said : Task 1 ≡ Isr 5 = all 10 (omega arith) ((λ e. absurd cc), (λ e. absurd cc)) in
    absurd cc

-- a stream without the overflow would name the task while the interrupt ran
silent : AreContextsTrue load items
    (told 9 (events.TaskStart 1) ∷ told 12 (events.TaskStart 2) ∷ []) → ⊥
silent all =
    let said : Task 1 ≡ Isr 5 = all 10 (omega arith) ((λ e. absurd cc), (λ e. absurd cc)) in
    absurd cc

-- A HIDDEN START

abbrev waking : List Step
waking =
    script_of (events.TaskReady 2) (events.TaskStart 2) events.Idle (events.TaskStart 2)

abbrev woken : Load
woken = load_of 64 waking

woken_legal : IsLegal woken items
woken_legal = search rules

abbrev woken_sent : List TimedEvent
woken_sent = fronts ++ told 9 (events.TaskReady 2) ∷ told 12 (events.Overflow 2) ∷ []

-- by all calls the task had run since it was ready; the stream calls its wait unknown
waits : (class_of (fronts ++ told 9 (events.TaskReady 2) ∷ told 10 (events.TaskStart 2) ∷
    told 11 events.Idle ∷ []) (told 12 (events.TaskStart 2)) ≡ Some Resumed) ×
    (class_of woken_sent (told 12 (events.TaskStart 2)) ≡ Some UnknownClass)
waits = (refl, refl)

woken_calls : all_calls woken items ≡
    told 1 (events.MarkStart 5) ∷ told 2 (events.MarkStart 5) ∷ told 3 (events.MarkStart 5) ∷
    told 4 (events.MarkStart 5) ∷ told 5 (events.MarkStart 5) ∷ told 6 (events.MarkStart 5) ∷
    told 7 (events.MarkStart 5) ∷ told 8 (events.MarkStart 5) ∷ told 9 (events.TaskReady 2) ∷
    told 10 (events.TaskStart 2) ∷ told 11 events.Idle ∷ told 12 (events.TaskStart 2) ∷ []
woken_calls = refl

-- a class that looks back over breaks would tell a wait of three ticks
abbrev class_over : List TimedEvent → TimedEvent → ℕ → Class
class_over before event task = class_from (last_of (filter (is_about task) before)) event.time

over : class_over woken_sent (told 12 (events.TaskStart 2)) 2 ≡ Measured 3
over = refl
