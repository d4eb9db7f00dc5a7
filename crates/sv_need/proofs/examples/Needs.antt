-- Needs worked out, and a workload whose texts are too long for its need.
use Rattle.std.proofs.Common.{◌≡◌, ◌<◌, ◌≤◌, List, [], ◌∷◌, length, replicate, refl, arith, rules}
use Rattle.sv_load.specs.Load.{Load}
use Rattle.sv_load.specs.Need.{need_items, need_bytes}
use Rattle.sv_journal.specs.declared.journal.Kind.TheVariants.{TraceStart, Init, Line, Systime}
use Rattle.sv_journal.specs.declared.journal.Kind.TheVariants.{ModuleCount}
use Rattle.sv_journal.specs.declared.journal.Origin.TheVariants.{Call, Sync, Reply}
use Rattle.sv_journal.specs.declared.journal.Outcome.TheVariants.{Stored, Handled}
use Rattle.sv_journal.specs.declared.journal.Item.{Item}
use Rattle.sv_journal.specs.Legal.{IsLegal, group_of}
use Rattle.sv_journal.specs.Stream.{stream_of}
use Rattle.sv_journal.proofs.Shared.{at, load_of, start}
use Rattle.sv_journal.proofs.Shared.{refused_load, refused_items, refused_legal}
use Rattle.sv_need.specs.Weights.{items_ahead, bytes_ahead}
use Rattle.sv_need.proofs.ItemCounts.{within_items}

-- the group of a start, with an overflow before each of its four packets: 2 + 2 * 4 items, 27 + 156
-- * 3 bytes
a_start : (items_ahead refused_load (group_of refused_load (Call 0 0)) ≡ 10)
    × (bytes_ahead refused_load (group_of refused_load (Call 0 0)) ≡ 495)
a_start = (refl, refl)

-- the law at a journal with refused packets and overflows: 22 items of at most 52
counted : length refused_items ≤ need_items refused_load
counted = within_items refused_load refused_items refused_legal

-- a line of a thousand bytes
abbrev long : Load
long = record (load_of 4096 (start 0 ∷ [])) { lines = replicate 1000 65 ∷ [] }

abbrev described : List Item
described =
    at 0 0 (Call 0 0) Handled ∷ at 0 0 Sync Stored ∷ at 0 0 (Reply TraceStart 0) Stored
    ∷ at 0 0 (Reply Init 0) Stored ∷ at 0 0 (Reply Line 0) Stored ∷ at 0 0 (Reply Systime 0) Stored
    ∷ at 0 0 (Reply ModuleCount 0) Stored ∷ []

legal : IsLegal long described
legal = search rules

-- it has more bytes than the need: so the law has to ask for short texts
too_long : need_bytes long < length (stream_of long described)
too_long =
    let is : need_bytes long ≡ 823 = refl in
    let has : length (stream_of long described) ≡ 1039 = refl in
    omega (arith, is, has)
