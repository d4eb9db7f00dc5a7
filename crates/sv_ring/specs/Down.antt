-- Rings of commands: what one call of the reader does.
use Rattle.std.specs.Prelude.{◌≡◌, ℕ, ◌+◌, ◌-◌, ◌^◌, min, List, [], ◌∷◌, length, take, Option}
use Rattle.std.specs.Prelude.{Some, None}

-- the bytes that a call gave
abbrev pub given : Option ℕ → List ℕ
given None = []
given (Some byte) = byte ∷ []

-- how often None came, counted up to the end of a u64
abbrev pub empties_after : Option ℕ → ℕ → ℕ
empties_after None before = min (before + 1) (2 ^ 64 - 1)
empties_after (Some byte) before = before

-- the whole begins with the front
abbrev pub IsFront : List ℕ → List ℕ → Type 0
IsFront front whole = front ≡ take (length front) whole
