-- What the calls of a source and of a sink do.
use Rattle.std.specs.Prelude.{◌≡◌, ℕ, ◌<◌, ◌↔◌, Bool, false, nat_lt, List, length, take}
use Rattle.std.specs.Prelude.{Option, Result, Ok, Err}
use Rattle.std.specs.Io.KnownBytes.{Appends, Consumes}

-- the bytes that stand under each name, and the names that are sure, are as before
pub record IsSameFiles
    (held_old held_new : List ℕ → Option (List ℕ)) (sure_old sure_new : List ℕ → Type 0) : Type 0
  where
    pub held : (name : List ℕ) → held_new name ≡ held_old name
    pub sure : (name : List ℕ) → sure_old name ↔ sure_new name

-- a read leaves the file open while bytes come
abbrev pub goes_on : {E : Type 0} → Result ℕ E → Bool
goes_on (Ok count) = nat_lt 0 count
goes_on (Err e) = false

-- a front of the bytes was written, or nothing, or all
abbrev pub AppendsPart : Option (List ℕ) → Option (List ℕ) → List ℕ → Type 0
AppendsPart old new bytes = (count : ℕ) × Appends old new (take count bytes)

-- bytes were read, fewer than the limit
abbrev pub ConsumesFewer : Option (List ℕ) → Option (List ℕ) → ℕ → Type 0
ConsumesFewer old new limit = (bytes : List ℕ) × Consumes old new bytes × (length bytes < limit)

-- bytes were read, more than the limit
abbrev pub ConsumesMore : Option (List ℕ) → Option (List ℕ) → ℕ → Type 0
ConsumesMore old new limit = (bytes : List ℕ) × Consumes old new bytes × (limit < length bytes)
