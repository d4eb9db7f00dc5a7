-- The ends of a ring as values.
use Rattle.std.specs.Prelude.{◌≡◌, ℕ, ◌+◌, ◌%◌, ◌^◌, ◌<◌, ◌≤◌, List, [], ◌∷◌, length}
use Rattle.std.specs.Prelude.{Option, None}
use Rattle.sv_ring.specs.declared.story.Story.{Story}
use Rattle.atomic_table.specs.Seated.{TableId}
use Rattle.atomic_table.specs.Table.{Me}
use Rattle.sv_ring_rtt.specs.declared.view.Sizes.{Sizes}
use Rattle.sv_ring_rtt.specs.declared.view.Writing.{Writing}
use Rattle.sv_ring_rtt.specs.declared.view.Reading.{Reading}
use Rattle.sv_ring_rtt.specs.declared.view.View.{View}
use Rattle.sv_ring_rtt.specs.declared.view.View.TheVariants.{Both, Writer, Reader}
use Rattle.sv_ring_rtt.specs.Rule.{reading_of, laid, writing_of}

-- the numbers of a table that tell it from every other
abbrev pub name_of : TableId → List (List ℕ)
name_of z =
    (z.words ∷ z.slots ∷ z.views_name ∷ z.atom ∷ z.block ∷ z.offset ∷ []) ∷ z.slot_names ∷ []

-- a writer: which ring it is of, and what it knows
pub record Writes : Type 0 where
  pub name : List (List ℕ)
  pub writing : Writing

pub record Reads : Type 0 where
  pub name : List (List ℕ)
  pub reading : Reading

-- the table of a ring of this size and limit
pub record IsRing (table_id : TableId) (key : Sizes) (size limit : ℕ) : Type 0 where
  pub some_size : 0 < size
  pub most_size : size ≤ 65536
  pub most_limit : limit ≤ 2 ^ 33
  pub words : table_id.words ≡ size + 2
  pub slots : table_id.slots ≡ 0
  pub key_size : key.size ≡ size
  pub key_limit : key.limit ≡ limit

-- the fields of a writer
pub record FitsWriter (table_id : TableId) (key : Sizes) (seat_table : TableId) (me : Me ℕ View)
    (size limit stored at freed freed_at : ℕ) : Type 0 where
  pub ring : IsRing table_id key size limit
  pub same : seat_table ≡ table_id
  pub me_is : me ≡ (Writer (writing_of me.0), [])
  pub size_is : (writing_of me.0).size ≡ size
  pub limit_is : (writing_of me.0).limit ≡ limit
  pub stored_is : laid (writing_of me.0) ≡ stored
  pub at_is : stored % size ≡ at
  pub freed_is : (writing_of me.0).seen_freed ≡ freed
  pub freed_at_is : freed % size ≡ freed_at
  pub freed_within : freed ≤ length (writing_of me.0).sent
  pub held : stored < freed + size
  pub within : stored ≤ limit

-- the fields of a reader
pub record FitsReader (table_id : TableId) (key : Sizes) (seat_table : TableId) (me : Me ℕ View)
    (size limit taken at seen : ℕ) : Type 0 where
  pub ring : IsRing table_id key size limit
  pub same : seat_table ≡ table_id
  pub me_is : me ≡ (Reader (reading_of me.0), [])
  pub size_is : (reading_of me.0).size ≡ size
  pub limit_is : (reading_of me.0).limit ≡ limit
  pub taken_is : length (reading_of me.0).got ≡ taken
  pub at_is : taken % size ≡ at
  pub seen_is : (reading_of me.0).seen_sent ≡ seen
  pub order : taken ≤ seen
  pub within : seen ≤ limit

-- a reader of commands: how often it found none, too
pub record Takes : Type 0 where
  pub name : List (List ℕ)
  pub reading : Reading
  pub empties : ℕ

-- both ends in one
pub record Joined : Type 0 where
  pub writing : Writing
  pub reading : Reading

-- the fields of both ends in one
pub record FitsWhole (table_id : TableId) (seat_table : TableId) (me : Me ℕ View)
    (size stored taken at : ℕ) : Type 0 where
  pub some_size : 0 < size
  pub most_size : size ≤ 65536
  pub words : table_id.words ≡ size + 2
  pub same : seat_table ≡ table_id
  pub me_is : me ≡ (Both (writing_of me.0) (reading_of me.0), [])
  pub size_is : (reading_of me.0).size ≡ size
  pub stored_is : length (writing_of me.0).sent ≡ stored
  pub taken_is : length (reading_of me.0).got ≡ taken
  pub at_is : taken % size ≡ at
  pub seen_is : (reading_of me.0).seen_sent ≡ stored

-- these docks tell no stories
abbrev pub untold : Option (List Story)
untold = None
