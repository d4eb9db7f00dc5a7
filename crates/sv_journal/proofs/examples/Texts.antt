-- A journal of events with texts, arguments and payloads, its stream and what that needs, and that
-- it is legal.
use Rattle.std.proofs.Common.{◌≡◌, List, [], ◌∷◌, ◌++◌, Some, refl, rules}
use Rattle.std.specs.Prelude.{codes}
use Rattle.sv_packet.specs.declared.event.Event.TheVariants.{NameResource, Print, Opaque, EndCall}
use Rattle.sv_load.specs.declared.load.Act.TheVariants.{Event}
use Rattle.sv_load.specs.Load.{Load}
use Rattle.sv_load.specs.Need.{need_bytes}
use Rattle.sv_journal.specs.declared.journal.Origin.TheVariants.{Call}
use Rattle.sv_journal.specs.declared.journal.Outcome.TheVariants.{Stored}
use Rattle.sv_journal.specs.declared.journal.Item.{Item}
use Rattle.sv_journal.specs.Legal.{IsLegal}
use Rattle.sv_journal.specs.Stream.{stream_of}
use Rattle.sv_journal.proofs.examples.Alone as alone
use Rattle.sv_journal.proofs.examples.Words.{at, load_of, start}

abbrev load : Load
load = load_of 1024 (
    start 0
    ∷ record { advance = 1; act = Event (NameResource 4096 (codes "ab")) }
    ∷ record { advance = 2; act = Event (Print (codes "hi") 0 (5 ∷ [])) }
    ∷ record { advance = 1; act = Event (Opaque 512 (7 ∷ [])) }
    ∷ record { advance = 1; act = Event (EndCall 512 (Some 0)) }
    ∷ [])

abbrev items : List Item
items = alone.items ++ (at 1 0 (Call 0 1) Stored ∷ at 3 0 (Call 0 2) Stored
    ∷ at 4 0 (Call 0 3) Stored ∷ at 5 0 (Call 0 4) Stored ∷ [])

-- each packet has its length after its identifier; 4096 is 0, 32 and 512 is 0, 4 by sevens of bits
stream : stream_of load items ≡ alone.bytes ++ (25 ∷ 5 ∷ 128 ∷ 32 ∷ 2 ∷ 97 ∷ 98 ∷ 1 ∷ 26 ∷ 6 ∷ 2
    ∷ 104 ∷ 105 ∷ 0 ∷ 1 ∷ 5 ∷ 2 ∷ 128 ∷ 4 ∷ 1 ∷ 7 ∷ 1 ∷ 28 ∷ 3 ∷ 128 ∷ 4 ∷ 0 ∷ 1 ∷ [])
stream = refl

legal : IsLegal load items
legal = search rules

-- the packets have 8, 9, 5 and 6 bytes with a delta of one byte: 16 + 28 + 4 * 15 + 27 + 156 * 4
needs : need_bytes load ≡ 755
needs = refl
