-- A recorder that was off while an interrupt came: the stream names nothing of that time, and after
-- the second start nothing but what began since.
use Rattle.std.proofs.Common.{◌≡◌, [], ◌∷◌, List, refl, arith, rules}
use Rattle.sv_packet.specs.declared.event.Event.TheVariants as events
use Rattle.sv_packet.specs.declared.event.TimedEvent.{TimedEvent}
use Rattle.sv_packet.specs.Time.{timed}
use Rattle.sv_load.specs.declared.load.Step.{Step}
use Rattle.sv_load.specs.Load.{Load}
use Rattle.sv_load.specs.Need.{IsWithinLimits}
use Rattle.sv_journal.specs.declared.journal.Kind.TheVariants as kinds
use Rattle.sv_journal.specs.declared.journal.Origin.TheVariants.{Call, Sync, Reply}
use Rattle.sv_journal.specs.declared.journal.Outcome.TheVariants.{Stored, Ignored, Handled}
use Rattle.sv_journal.specs.declared.journal.Item.{Item}
use Rattle.sv_journal.specs.Legal.{IsLegal}
use Rattle.sv_journal.specs.Stream.{IsCalm}
use Rattle.sv_journal.proofs.Shared.{at, load_of, start}
use Rattle.sv_context.specs.declared.context.Context.TheVariants.{Gap, Unknown, Task, Isr}
use Rattle.sv_timeline.specs.Ticks.{context_at}
use Rattle.sv_sent.specs.Sent.{sent_packets}
use Rattle.sv_truth.specs.Truth.{truth_at, TellsContexts}
use Rattle.sv_truth.proofs.Naming.{truly}
use Rattle.sv_truth.proofs.examples.Words.{AreSteps, limits, step, stop, told}

abbrev script : List Step
script =
    start 0 ∷ step 1 (events.TaskStart 1) ∷ stop 1 ∷ step 1 (events.IsrEnter 5) ∷ start 1 ∷
    step 1 events.IsrExit ∷ step 1 (events.TaskStart 2) ∷ step 1 events.Idle ∷ []

abbrev load : Load
load = load_of 64 script

-- the host takes all 39 bytes before the second start
abbrev items : List Item
items =
    at 0 0 (Call 0 0) Handled ∷
    at 0 0 Sync Stored ∷
    at 0 0 (Reply kinds.TraceStart 0) Stored ∷
    at 0 0 (Reply kinds.Init 0) Stored ∷
    at 0 0 (Reply kinds.Systime 0) Stored ∷
    at 0 0 (Reply kinds.ModuleCount 0) Stored ∷
    at 1 0 (Call 0 1) Stored ∷
    at 2 0 (Call 0 2) Handled ∷
    at 2 0 (Reply kinds.TraceStop 0) Stored ∷
    at 3 0 (Call 0 3) Ignored ∷
    at 4 39 (Call 0 4) Handled ∷
    at 4 39 Sync Stored ∷
    at 4 39 (Reply kinds.TraceStart 0) Stored ∷
    at 4 39 (Reply kinds.Init 0) Stored ∷
    at 4 39 (Reply kinds.Systime 0) Stored ∷
    at 4 39 (Reply kinds.ModuleCount 0) Stored ∷
    at 5 39 (Call 0 5) Stored ∷
    at 6 39 (Call 0 6) Stored ∷
    at 7 39 (Call 0 7) Stored ∷ []

legal : IsLegal load items
legal = search rules

calm : IsCalm load items
calm = search rules

steps : AreSteps script
steps = search rules

within : IsWithinLimits load
within = limits script steps (omega arith) (omega arith)

abbrev sent : List TimedEvent
sent =
    told 0 events.TraceStart ∷ told 0 (events.Init 1000000 1000000 536870912 2) ∷
    told 0 (events.SystimeCycles 0) ∷ told 0 (events.NumModules 0) ∷
    told 1 (events.TaskStart 1) ∷ told 2 events.TraceStop ∷ told 2 events.Nop ∷
    told 2 events.Nop ∷ told 2 events.Nop ∷ told 2 events.Nop ∷ told 2 events.Nop ∷
    told 4 events.TraceStart ∷ told 4 (events.Init 1000000 1000000 536870912 2) ∷
    told 4 (events.SystimeCycles 4) ∷ told 4 (events.NumModules 0) ∷ told 5 events.IsrExit ∷
    told 6 (events.TaskStart 2) ∷ told 7 events.Idle ∷ []

are_timed : timed (sent_packets load items) ≡ sent
are_timed = refl

-- tick by tick, by all calls and by the stream
truths : (truth_at load items 1 ≡ Task 1) × (truth_at load items 3 ≡ Isr 5) ×
    (truth_at load items 4 ≡ Isr 5) × (truth_at load items 5 ≡ Task 1) ×
    (truth_at load items 6 ≡ Task 2)
truths = (refl, refl, refl, refl, refl)

names : (context_at sent 1 ≡ Task 1) × (context_at sent 3 ≡ Gap) × (context_at sent 4 ≡ Unknown) ×
    (context_at sent 5 ≡ Unknown) × (context_at sent 6 ≡ Task 2)
names = (refl, refl, refl, refl, refl)

true_contexts : TellsContexts load items
true_contexts = (truly load items legal within).contexts calm
