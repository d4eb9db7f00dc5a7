-- A packet's spelling as a function, and which events have one.
use Rattle.std.specs.Prelude.{ℕ, ◌/◌, ◌%◌, ◌+◌, ◌^◌, ◌<◌, ◌≤◌, List, [], ◌∷◌, ◌++◌, length, nat_lt}
use Rattle.std.specs.Prelude.{nat_le, if◌then◌else◌}
use Rattle.std.specs.List.{flat_map, AllByRecursion}
use Rattle.sv_prim.specs.Number.{number_spelling}
use Rattle.sv_prim.specs.Text.{AreBytes, text_spelling}
use Rattle.sv_packet.specs.declared.event.Event.{Event}
use Rattle.sv_packet.specs.declared.event.Event.TheVariants.{Print, Opaque}
use Rattle.sv_packet.specs.Table.{identifier, fields, print_fields, Field, Number, Text, Raw}
use Rattle.sv_packet.specs.Packet.{IsKeptAsBytes}

abbrev pub field_spelling : Field → List ℕ
field_spelling (Number value) = number_spelling value
field_spelling (Text text) = text_spelling text
field_spelling (Raw bytes) = bytes

-- the fields' spellings, one after another
abbrev pub fields_spelling : List Field → List ℕ
fields_spelling fs = flat_map field_spelling fs

-- an identifier or a length: one byte, or from 128 on two with the low seven bits first
abbrev pub short_spelling : ℕ → List ℕ
short_spelling n = if nat_lt n 128 then n ∷ [] else (n % 128 + 128) ∷ (n / 128) ∷ []

-- what stands before the payload: from identifier 24 on a packet says how long its payload is
abbrev pub head_spelling : ℕ → ℕ → List ℕ
head_spelling id size = if nat_le 24 id then short_spelling id ++ short_spelling size else id ∷ []

-- the spelling of an identifier, fields and a delta
abbrev pub parts_spelling : ℕ → List Field → ℕ → List ℕ
parts_spelling id fs delta =
    head_spelling id (length (fields_spelling fs)) ++ (fields_spelling fs ++ number_spelling delta)

abbrev pub print_payload : List ℕ → ℕ → List ℕ → List ℕ
print_payload text options args = fields_spelling (print_fields text options args)

abbrev pub payload_of : Event → List ℕ
payload_of event = fields_spelling (fields event)

-- the one spelling of an event with a delta
abbrev pub spelling_of : Event → ℕ → List ℕ
spelling_of event delta = parts_spelling (identifier event) (fields event) delta

-- a field holds what its type can hold: a number below 2 ^ 32, or bytes
abbrev pub IsInRange : Field → Type 0
IsInRange (Number value) = value < 2 ^ 32
IsInRange (Text text) = AreBytes text
IsInRange (Raw bytes) = AreBytes bytes

-- the fields hold what their types can hold, as those of each event in a program do
abbrev pub HasRange : Event → Type 0
HasRange event = AllByRecursion IsInRange (fields event)

abbrev pub IsTextWithin : ℕ → Field → Type 0
IsTextWithin most (Text text) = length text ≤ most
IsTextWithin most other = Unit {0}

-- each text has at most so many bytes
abbrev pub HasTexts : ℕ → Event → Type 0
HasTexts most event = AllByRecursion (IsTextWithin most) (fields event)

-- an event that has a spelling
pub record IsValid (event : Event) : Type 0 where
  pub texts : HasTexts 65535 event
  pub payload : 24 ≤ identifier event → length (payload_of event) ≤ 16383
  pub as_bytes : IsKeptAsBytes event

-- a print has at most eight arguments, and an opaque event 64 bytes
abbrev pub IsShort : Event → Type 0
IsShort (Print text options args) = length args ≤ 8
IsShort (Opaque id payload) = length payload ≤ 64
IsShort other = Unit {0}

-- an event that a recorder takes: its spelling is at most 256 bytes
pub record IsRecordable (event : Event) : Type 0 where
  pub valid : IsValid event
  pub texts : HasTexts 128 event
  pub short : IsShort event
