-- The ends of a ring as values.
use Rattle.std.specs.Prelude.{◌≡◌, ℕ, ◌-◌, ◌<◌, ◌≤◌, List, [], ◌∷◌, Option, None}
use denote.RawPtr.{Ptr, block_ptr, null_ptr}
use Rattle.sv_ring.specs.declared.story.Story.{Story}
use Rattle.rtrb.specs.declared.end.End.{End}

-- a place in memory, as numbers
abbrev pub place_of : Ptr → List ℕ
place_of (block_ptr block offset) = 1 ∷ block ∷ offset ∷ []
place_of null_ptr = 0 ∷ 0 ∷ 0 ∷ []

module _ {T A P : Type 0} where
  -- what tells the ring of an end from every other: where it lies, and its own numbers
  abbrev pub name_of : End T A P → List (List ℕ)
  name_of e =
      place_of e.words
      ∷ place_of e.slots
      ∷ (e.names.0 ∷ e.names.1.0 ∷ e.names.1.1 ∷ [])
      ∷ []

-- a writer of blocks
pub record Stores : Type 0 where
  pub name : List (List ℕ)
  pub size : ℕ
  pub limit : ℕ
  pub sent : List ℕ
  pub freed : ℕ

-- a reader of bytes: how many bytes it knows to be stored, too
pub record Reads : Type 0 where
  pub name : List (List ℕ)
  pub limit : ℕ
  pub taken : List ℕ
  pub seen : ℕ

-- a writer of commands
pub record Sends : Type 0 where
  pub name : List (List ℕ)
  pub asked : List ℕ

-- a reader of commands: how often it found none, and how many bytes it knows to be sent, too
pub record Takes : Type 0 where
  pub name : List (List ℕ)
  pub answered : List ℕ
  pub empties : ℕ
  pub seen : ℕ

-- the counts of a writer, against its end of the ring: how many bytes went through it, and for how
-- many more it knows there to be place
pub record FitsWriter (sent known size limit stored freed : ℕ) : Type 0 where
  pub some_size : 0 < size
  pub most_size : size ≤ 65536
  pub stored_is : stored ≡ sent
  pub within : stored ≤ limit
  pub freed_within : freed ≤ stored
  pub held : stored - freed ≤ size - 1
  pub room : size - 1 - (stored - freed) ≤ known

-- these docks tell no stories
abbrev pub untold : Option (List Story)
untold = None
