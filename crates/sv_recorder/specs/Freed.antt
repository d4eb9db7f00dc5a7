-- How the bytes that a ring's end knows to be freed move over the items of a journal. Each item
-- keeps their number.
use Rattle.std.specs.Prelude.{◌≡◌, ℕ, Bool, true, false, List, [], ◌∷◌, IsTrue, if◌then◌else◌}
use Rattle.sv_ring.specs.declared.wrote.Wrote.{Wrote}
use Rattle.sv_ring.specs.declared.wrote.Wrote.TheVariants.{Stored, Refused}
use Rattle.sv_ring.specs.Ring.{Way, way_after, Moves}
use Rattle.sv_load.specs.Load.{Load}
use Rattle.sv_journal.specs.declared.journal.Item.{Item}
use Rattle.sv_journal.specs.Items.{is_stored, is_written, block_of, stream_before, room_at}

-- the ring's answer to a block
abbrev pub wrote_if : Bool → ℕ → Wrote
wrote_if true room = Stored
wrote_if false room = Refused room

-- an item that is written moves their number by the ring's way, and any other leaves it
abbrev pub IsFreed : Load → List Item → Way → ℕ → Item → Type 0
IsFreed load earlier way freed item =
    (IsTrue (is_written earlier item) → Moves way load.ring freed item.freed
    (stream_before load earlier) (block_of load earlier item)
    (wrote_if (is_stored item.outcome) (room_at load earlier item)))
    × (is_written earlier item ≡ false → item.freed ≡ freed)

-- the way that is left after an item
abbrev pub way_left : List Item → Item → Way → Way
way_left earlier item way = if is_written earlier item then way_after way else way

-- from one way and number to another, over items that follow the earlier ones
abbrev pub AreFreed : Load → List Item → List Item → Way → ℕ → Way → ℕ → Type 0
AreFreed load earlier [] way freed way_now freed_now = (way_now ≡ way) × (freed_now ≡ freed)
AreFreed load earlier (i ∷ more) way freed way_now freed_now =
    IsFreed load earlier way freed i
    × AreFreed load (i ∷ earlier) more (way_left earlier i way) i.freed way_now freed_now
