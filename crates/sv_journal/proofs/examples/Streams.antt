-- What streams tell, and what they do not.
use Rattle.std.proofs.Common.{◌≡◌, ℕ, ◌<◌, ◌-◌, List, [], ◌∷◌, ◌++◌, ap, arith, refl, rules}
use Rattle.std.specs.Prelude.{slice_index, slice_set}
use Rattle.sv_packet.specs.declared.event.Event.{Event}
use Rattle.sv_packet.specs.declared.event.Event.TheVariants as events
use Rattle.sv_packet.specs.declared.event.TimedEvent.{TimedEvent}
use Rattle.sv_load.specs.declared.load.Command.{Command as Asked}
use Rattle.sv_load.specs.Load.{Load}
use Rattle.sv_load.specs.Need.{need_items, need_bytes}
use Rattle.sv_journal.specs.declared.journal.Origin.TheVariants.{Call}
use Rattle.sv_journal.specs.declared.journal.Outcome.TheVariants.{Stored}
use Rattle.sv_journal.specs.declared.journal.Item.{Item}
use Rattle.sv_journal.specs.Legal.{IsLegal, IsWhole}
use Rattle.sv_journal.specs.Stream.{stream_of, sent_events, IsCalm}
use Rattle.sv_journal.proofs.examples.Alone as alone
use Rattle.sv_journal.proofs.examples.Commands as commands
use Rattle.sv_journal.proofs.examples.Refusals as refusals
use Rattle.sv_journal.proofs.examples.Restarted as restarted
use Rattle.sv_journal.proofs.examples.Words.{Same, at, load_of, mark, start, started}

abbrev first_byte : List Asked → ℕ
first_byte [] = 0
first_byte (c ∷ cs) = c.byte

abbrev timed : ℕ → Event → TimedEvent
timed time event = record { time = time; event = event }

abbrev marked : ℕ → ℕ → TimedEvent
marked time id = timed time (events.MarkStart id)

-- what a start's packets tell
abbrev described : ℕ → List TimedEvent
described time =
    timed time events.TraceStart ∷ timed time (events.Init 1000000 1000000 536870912 2)
    ∷ timed time (events.SystimeCycles time) ∷ timed time (events.NumModules 0) ∷ []

sent_refusals : sent_events refusals.load refusals.items ≡ described 0 ++ (
    marked 1 5 ∷ marked 2 5 ∷ marked 3 5 ∷ marked 4 5 ∷ marked 5 5 ∷ marked 6 5 ∷ marked 7 5
    ∷ marked 8 5 ∷ marked 9 5 ∷ timed 13 (events.Overflow 3) ∷ marked 13 5 ∷ [])
sent_refusals = refl

-- the second sync is read as five packets at the time of the packet before it
sent_restarted : sent_events restarted.load restarted.items ≡ described 0 ++ (
    marked 1 300 ∷ marked 2 300 ∷ marked 3 300 ∷ marked 4 300 ∷ marked 5 300 ∷ marked 6 300
    ∷ marked 7 300 ∷ timed 7 events.Nop ∷ timed 7 events.Nop ∷ timed 7 events.Nop
    ∷ timed 7 events.Nop ∷ timed 7 events.Nop ∷ timed 10 (events.Overflow 1) ∷ described 10)
sent_restarted = refl

-- a refused packet does not move the time: the overflow's delta is 4 and not 1
moved : stream_of refusals.load refusals.items ≡ slice_set refusals.bytes 63 1 → ⊥
moved e = let h : Same 4 1 = ap (λ (bs : List ℕ). slice_index bs 63) e in omega arith

-- an empty journal has not the whole script
not_whole : IsWhole refusals.load [] → ⊥
not_whole w = let h : Same 0 14 = w.scripts 0 (omega arith) in omega arith

abbrev other_load : Load
other_load = record commands.load {
  commands = record { byte = 9; param = 0 } ∷ record { byte = 128; param = 0 } ∷ [];
}

-- the commands in another order than the workload's
not_first : IsWhole other_load commands.items → ⊥
not_first w =
    let h : Same 128 9 = ap (λ (cs : List Asked). first_byte cs) w.commands in omega arith

-- start, 13 marks: 3 * 14 + 1 * (2 + 2 * 4); 16 + 13 * (3 + 15) + 27 + 156 * 4
needs : (need_items refusals.load ≡ 52) × (need_bytes refusals.load ≡ 901)
needs = (refl, refl)

abbrev far : Load
far = load_of 1024 (start 0 ∷ mark 4294967295 1 ∷ mark 4294967296 1 ∷ [])

abbrev far_items : List Item
far_items =
    started 0 0 0 ++ (at 4294967295 0 (Call 0 1) Stored ∷ at 8589934591 0 (Call 0 2) Stored ∷ [])

far_legal : IsLegal far far_items
far_legal = search rules

far_stream : stream_of far far_items ≡ alone.bytes ++ (
    15 ∷ 1 ∷ 255 ∷ 255 ∷ 255 ∷ 255 ∷ 15 ∷ 15 ∷ 1 ∷ 0 ∷ [])
far_stream = refl

-- the second gap is a whole period of the counter
not_calm : IsCalm far far_items → ⊥
not_calm c = let h : 8589934591 - 4294967295 < 4294967296 = c.1 refl in omega arith
