-- Calls more than a round of the counter apart: the law does not hold, since the stream's times are
-- not those of the calls.
use Rattle.std.proofs.Common.{◌≡◌, List, [], ◌∷◌, refl, arith, rules, map}
use Rattle.sv_packet.specs.declared.event.Event.TheVariants as events
use Rattle.sv_packet.specs.declared.event.TimedEvent.{TimedEvent}
use Rattle.sv_packet.specs.Time.{timed}
use Rattle.sv_stream.specs.declared.end.End.TheVariants.{Clean}
use Rattle.sv_stream.specs.Input.{Whole}
use Rattle.sv_load.specs.declared.load.Step.{Step}
use Rattle.sv_load.specs.Load.{Load}
use Rattle.sv_load.specs.Need.{IsWithinLimits}
use Rattle.sv_journal.specs.declared.journal.Kind.TheVariants as kinds
use Rattle.sv_journal.specs.declared.journal.Origin.TheVariants.{Call, Sync, Reply}
use Rattle.sv_journal.specs.declared.journal.Outcome.TheVariants.{Stored, Handled}
use Rattle.sv_journal.specs.declared.journal.Item.{Item}
use Rattle.sv_journal.specs.Legal.{IsLegal}
use Rattle.sv_journal.specs.Stream.{IsCalm}
use Rattle.sv_journal.proofs.Shared.{at, load_of, start}
use Rattle.sv_context.specs.declared.context.Context.TheVariants.{Task, Isr}
use Rattle.sv_timeline.specs.Ticks.{context_at}
use Rattle.sv_sent.specs.Sent.{sent_packets}
use Rattle.sv_sent.proofs.Shared.{read_as}
use Rattle.sv_truth.specs.Truth.{truth_at, TellsContexts}
use Rattle.sv_truth.proofs.examples.Words.{AreSteps, limits, step, told}

-- a task runs, and 2 ^ 32 + 2 ticks later an interrupt comes
abbrev script : List Step
script =
    start 0 ∷ step 1 (events.TaskStart 1) ∷ step 4294967298 (events.IsrEnter 5) ∷
    step 1 events.IsrExit ∷ []

abbrev load : Load
load = load_of 64 script

abbrev items : List Item
items =
    at 0 0 (Call 0 0) Handled ∷
    at 0 0 Sync Stored ∷
    at 0 0 (Reply kinds.TraceStart 0) Stored ∷
    at 0 0 (Reply kinds.Init 0) Stored ∷
    at 0 0 (Reply kinds.Systime 0) Stored ∷
    at 0 0 (Reply kinds.ModuleCount 0) Stored ∷
    at 1 0 (Call 0 1) Stored ∷
    at 4294967299 0 (Call 0 2) Stored ∷
    at 4294967300 0 (Call 0 3) Stored ∷ []

legal : IsLegal load items
legal = search rules

steps : AreSteps script
steps = search rules

within : IsWithinLimits load
within = limits script steps (omega arith) (omega arith)

-- the deltas tell two ticks between the task and the interrupt
abbrev read : List TimedEvent
read =
    told 0 events.TraceStart ∷ told 0 (events.Init 1000000 1000000 536870912 2) ∷
    told 0 (events.SystimeCycles 0) ∷ told 0 (events.NumModules 0) ∷
    told 1 (events.TaskStart 1) ∷ told 3 (events.IsrEnter 5) ∷ told 4 events.IsrExit ∷ []

are_read : timed (sent_packets load items) ≡ read
are_read = refl

-- so the stream names the interrupt at tick 3, where the task ran
differs : (context_at read 3 ≡ Isr 5) × (truth_at load items 3 ≡ Task 1)
differs = (refl, refl)

untrue : TellsContexts load items → ⊥
untrue tells =
    let said : Isr 5 ≡ Task 1 =
    tells (map Whole (sent_packets load items)) Clean (read_as load items legal within refl) 3
    (omega arith)
    ((λ e. absurd cc), (λ e. absurd cc)) in
    absurd cc

-- and it is not calm
stormy : IsCalm load items → ⊥
stormy calm = let near = calm.0.1 refl in omega (arith, near)
