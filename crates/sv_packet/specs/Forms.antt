-- Payloads under a length field, as they are read.
use Rattle.std.specs.Prelude.{◌≡◌, ℕ, ◌≤◌, ◌⊎◌, List}
use Rattle.sv_packet.specs.declared.event.Event.TheVariants as event
use Rattle.sv_packet.specs.declared.counted.Form.{Form}
use Rattle.sv_packet.specs.declared.counted.Form.TheVariants.{Regular, Print, EndCall}
use Rattle.sv_packet.specs.Table.{fields}
use Rattle.sv_packet.specs.Packet.{AreFields}
use Rattle.sv_packet.specs.Shape.{number_count, fields_by}
use Rattle.sv_packet.specs.Parts.{AreNumbers}
use Rattle.sv_packet.specs.Reader.{numbers_in}

-- the identifiers whose forms are numbers and a text or none
abbrev pub IsRegularForm : ℕ → Type 0
IsRegularForm id = (id ≡ 24) ⊎ (id ≡ 25) ⊎ (id ≡ 27) ⊎ (id ≡ 29)

-- the identifiers of packets with a length field
abbrev pub IsCountedId : ℕ → Type 0
IsCountedId id = (24 ≤ id) × (id ≤ 16383)

-- the payload spells what was read of it
abbrev pub IsFormOf : ℕ → List ℕ → Form → Type 0
IsFormOf id payload (Regular four text) =
    IsRegularForm id × AreFields (fields_by id (numbers_in (number_count id) four) text.now) payload
IsFormOf id payload (Print text options count args) =
    (id ≡ 26) × (numbers : List ℕ) × AreNumbers count numbers args.now ×
    AreFields (fields (event.Print text.now options numbers)) payload
IsFormOf id payload (EndCall call value) =
    (id ≡ 28) × AreFields (fields (event.EndCall call value)) payload
