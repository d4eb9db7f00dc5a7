-- The entries that a decoder gives one after another, and what is made of them.
use Rattle.std.specs.Prelude.{◌≡◌, ℕ, ◌≤◌, List, ◌++◌, length}
use Rattle.sv_packet.specs.declared.event.Packet.{Packet}
use Rattle.sv_stream.specs.declared.end.End.{End}
use Rattle.sv_stream.specs.declared.seen.Seen.{Seen}
use Rattle.sv_stream.specs.Decoding.{Decoding, StandsFor, IsSettled, pushed}
use Rattle.sv_stream.specs.Entries.{timed_entries}
use Rattle.sv_stream.specs.Input.{Entry}
use Rattle.sv_stream.specs.Reads.{Reads}

-- the items were added that are made of these entries, after those made of the earlier ones
abbrev pub GrowsBy : {T : Type 0} → (List Seen → List T) → List Seen → List Seen →
    List T → List T → Type 0
GrowsBy {T} made earlier entries before after =
    (more : List T) × (after ≡ before ++ more) × (made (earlier ++ entries) ≡ made earlier ++ more)

-- a decoder has given these entries and no others since
pub record AreGiven (old new : Decoding) (entries : List Seen) : Type 0 where
  pub stands : (input : List ℕ) (given : List Seen) → StandsFor old input given →
      StandsFor new input (given ++ entries)
  pub held : length new.held ≤ length old.held
  pub pushed_same : pushed new ≡ pushed old

-- these entries were taken, and what is made of them was added
pub record AreTaken {T G : Type 0} (made : List Seen → List T)
    (taken : G → List Seen → Type 0) (old new : G) (before after : List T)
    (entries : List Seen) : Type 0 where
  pub took : (given : List Seen) → taken old given → taken new (given ++ entries)
  pub items : (given : List Seen) → taken old given → GrowsBy made given entries before after

-- of the entries that were given the first were taken, and then memory was wanting: what is made of
-- these was added
pub record IsStopped {T G : Type 0} (made : List Seen → List T)
    (taken : G → List Seen → Type 0) (failed : G → List T → List T → Type 0)
    (old new : G) (before after : List T) (entries : List Seen) : Type 0 where
  pub first : List Seen
  pub left : List Seen
  pub entries_are : entries ≡ first ++ left
  pub so_far : List T
  pub items : (given : List Seen) → taken old given → GrowsBy made given first before so_far
  pub fails : failed new so_far after

-- the entries are all that the input has, and the decoder is settled
pub record IsDrained (old new : Decoding) (seen : List Seen) : Type 0 where
  pub settled : IsSettled new
  pub all : (input : List ℕ) (given : List Seen) → StandsFor old input given →
      (entries : List (Entry Packet)) (end : End) → Reads input entries end →
      given ++ seen ≡ timed_entries entries
