-- What streams of journals worked out by hand are read as.
use Rattle.std.proofs.Common.{◌≡◌, ℕ, ◌≤◌, true, false, List, [], ◌∷◌, refl, ap, arith, rules, inl}
use Rattle.std.proofs.Common.{length, map}
use Rattle.std.specs.Prelude.{All, slice_index_or}
use Rattle.std.proofs.lemmas.List.Elements.{All-cons, All-nil}
use Rattle.sv_prim.specs.Text.{AreBytes}
use Rattle.sv_packet.specs.declared.event.Event.{Event}
use Rattle.sv_packet.specs.declared.event.Event.TheVariants as events
use Rattle.sv_packet.specs.declared.event.Packet.{Packet}
use Rattle.sv_packet.specs.declared.event.TimedEvent.{TimedEvent}
use Rattle.sv_packet.specs.Time.{timed}
use Rattle.sv_stream.specs.declared.end.End.TheVariants.{Clean, NoSync}
use Rattle.sv_stream.specs.Input.{Whole}
use Rattle.sv_stream.specs.Reads.{Reads}
use Rattle.sv_load.specs.declared.load.Step.{Step}
use Rattle.sv_load.specs.declared.load.Task.{Task}
use Rattle.sv_load.specs.Load.{Load}
use Rattle.sv_load.specs.Limits.{most_ticks}
use Rattle.sv_load.specs.Need.{HasWords, IsAsked, IsStepAct, IsTask, IsTurn, IsWithinLimits}
use Rattle.sv_desc.specs.Modules.{ModuleRow}
use Rattle.sv_journal.specs.declared.journal.Kind.TheVariants as kinds
use Rattle.sv_journal.specs.declared.journal.Origin.TheVariants.{Call, Sync, Reply}
use Rattle.sv_journal.specs.declared.journal.Outcome.TheVariants.{Stored, Ignored, Handled}
use Rattle.sv_journal.specs.declared.journal.Item.{Item}
use Rattle.sv_journal.specs.Legal.{IsLegal}
use Rattle.sv_journal.specs.Stream.{stream_of, sent_events}
use Rattle.sv_journal.proofs.Shared.{load_of, refused_items, refused_legal, refused_load, Same, at}
use Rattle.sv_journal.proofs.Shared.{mark, start}
use Rattle.sv_sent.specs.Sent.{sent_packets}
use Rattle.sv_sent.specs.Start.{has_start}
use Rattle.sv_sent.proofs.reads.Streams.{read_as}

abbrev packet : Event → ℕ → Packet
packet event delta = record { event = event; delta = delta }

abbrev marked : ℕ → Packet
marked delta = packet (events.MarkStart 5) delta

-- A RING THAT WAS FULL

-- the overflow has the ticks since the last mark that was stored, and the mark after it has none
packets : sent_packets refused_load refused_items ≡
    packet events.TraceStart 0 ∷ packet (events.Init 1000000 1000000 536870912 2) 0 ∷
    packet (events.SystimeCycles 0) 0 ∷ packet (events.NumModules 0) 0 ∷ marked 1 ∷ marked 1 ∷
    marked 1 ∷ marked 1 ∷ marked 1 ∷ marked 1 ∷ marked 1 ∷ marked 1 ∷ marked 1 ∷
    packet (events.Overflow 3) 4 ∷ marked 0 ∷ []
packets = refl

times : timed (sent_packets refused_load refused_items) ≡ sent_events refused_load refused_items
times = refl

begun : has_start refused_load refused_items ≡ true
begun = refl

abbrev script : List Step
script = slice_index_or refused_load.scripts 0 []

abbrev AreSteps : List Step → Type 0
AreSteps [] = Unit {0}
AreSteps (s ∷ steps) = (s.advance ≤ most_ticks) × IsStepAct s.act × AreSteps steps

steps : AreSteps script
steps = search rules

ticks : (steps : List Step) → AreSteps steps → All (λ s. s.advance ≤ most_ticks) steps
ticks [] are = All-nil (λ (s : Step). s.advance ≤ most_ticks)
ticks (s ∷ steps) are =
    All-cons (λ (x : Step). x.advance ≤ most_ticks) s steps are.0 (ticks steps are.2)

acts : (steps : List Step) → AreSteps steps → All (λ s. IsStepAct s.act) steps
acts [] are = All-nil (λ (s : Step). IsStepAct s.act)
acts (s ∷ steps) are = All-cons (λ (x : Step). IsStepAct x.act) s steps are.1 (acts steps are.2)

limits : IsWithinLimits refused_load
limits = record {
  ring_least = omega arith;
  ring_most = omega arith;
  clock = omega arith;
  clock_most = omega arith;
  cpu = omega arith;
  cpu_most = omega arith;
  base = omega arith;
  shift = omega arith;
  writers = omega arith;
  steps = omega arith;
  starts = omega arith;
  commands = omega arith;
  lines = omega arith;
  tasks = omega arith;
  modules = omega arith;
  turns = omega arith;
  advances = All-cons (λ (xs : List Step). All (λ (s : Step). s.advance ≤ most_ticks) xs) script []
      (ticks script steps)
      (All-nil (λ (xs : List Step). All (λ (s : Step). s.advance ≤ most_ticks) xs));
  acts = All-cons (λ (xs : List Step). All (λ (s : Step). IsStepAct s.act) xs) script []
      (acts script steps)
      (All-nil (λ (xs : List Step). All (λ (s : Step). IsStepAct s.act) xs));
  texts = record {
    lines = All-nil (λ (text : List ℕ). length text ≤ 128);
    tasks = All-nil (λ (task : Task). length task.name ≤ 128);
    modules = All-nil (λ (row : ModuleRow). length row.name ≤ 128);
  };
  bytes = record {
    lines = All-nil AreBytes;
    tasks = All-nil (λ (task : Task). AreBytes task.name);
    modules = All-nil (λ (row : ModuleRow). AreBytes row.name);
  };
  line_texts = All-nil (λ (text : List ℕ). 1 ≤ length text);
  task_names = All-nil IsTask;
  task_words = All-nil HasWords;
  module_names = All-nil (λ (row : ModuleRow). 1 ≤ length row.name);
  module_events = omega arith;
  asked = All-nil IsAsked;
  schedule = All-nil (IsTurn 1);
}

-- so by the law its stream is read to a clean end
read :
    Reads (stream_of refused_load refused_items)
    (map Whole (sent_packets refused_load refused_items)) Clean
read = read_as refused_load refused_items refused_legal limits begun

-- A MARK A WHOLE ROUND OF THE COUNTER LATER

abbrev late : Load
late = load_of 64 (start 0 ∷ mark 7 5 ∷ mark 4294967298 5 ∷ [])

abbrev late_items : List Item
late_items =
    at 0 0 (Call 0 0) Handled ∷
    at 0 0 Sync Stored ∷
    at 0 0 (Reply kinds.TraceStart 0) Stored ∷
    at 0 0 (Reply kinds.Init 0) Stored ∷
    at 0 0 (Reply kinds.Systime 0) Stored ∷
    at 0 0 (Reply kinds.ModuleCount 0) Stored ∷
    at 7 0 (Call 0 1) Stored ∷
    at 4294967305 0 (Call 0 2) Stored ∷ []

late_legal : IsLegal late late_items
late_legal = search rules

abbrev time_at : ℕ → List TimedEvent → ℕ
time_at index told = (slice_index_or told index (record { time = 0; event = events.Nop })).time

-- the deltas tell two ticks between the marks
early : timed (sent_packets late late_items) ≡ sent_events late late_items → ⊥
early e = let h : Same 9 4294967305 = ap (time_at 5) e in omega arith

-- A RECORDER THAT IS NEVER STARTED

abbrev idle : Load
idle = load_of 64 (mark 1 5 ∷ [])

abbrev idle_items : List Item
idle_items = at 1 0 (Call 0 0) Ignored ∷ []

idle_legal : IsLegal idle idle_items
idle_legal = search rules

never_begun : has_start idle idle_items ≡ false
never_begun = refl

nothing_read :
    Reads (stream_of idle idle_items) (map Whole (sent_packets idle idle_items)) NoSync
nothing_read = inl (refl, refl, refl)
