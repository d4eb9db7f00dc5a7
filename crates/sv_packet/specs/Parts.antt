-- What a packet is read from, one part after another.
use Rattle.std.specs.Prelude.{◌≡◌, ◌≢◌, ℕ, Bool, true, false, List, [], map, length}
use Rattle.sv_prim.specs.Text.{AreBytes, IsText}
use Rattle.sv_packet.specs.Table.{Number}
use Rattle.sv_packet.specs.Packet.{IsShortNumber, AreFields}

-- the bytes spell an identifier: there is none that is 23
abbrev pub IsIdentifier : ℕ → List ℕ → Type 0
IsIdentifier id bytes = IsShortNumber id bytes × (id ≢ 23)

-- the bytes spell so many numbers
abbrev pub AreNumbers : ℕ → List ℕ → List ℕ → Type 0
AreNumbers count numbers bytes = (length numbers ≡ count) × AreFields (map Number numbers) bytes

-- the bytes spell a text, or there is none and they are none
abbrev pub IsTextIf : Bool → List ℕ → List ℕ → Type 0
IsTextIf true text bytes = IsText text bytes
IsTextIf false text bytes = (text ≡ []) × (bytes ≡ [])

-- so many bytes, as they stand
abbrev pub IsOfSize : ℕ → List ℕ → List ℕ → Type 0
IsOfSize size payload bytes = (length payload ≡ size) × AreBytes payload × (bytes ≡ payload)
