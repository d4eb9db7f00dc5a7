-- Events from what they are read from.
use Rattle.std.specs.Prelude.{◌≡◌, ℕ, List}
use Rattle.sv_packet.specs.declared.event.Event.{Event}
use Rattle.sv_packet.specs.declared.event.Event.TheVariants.{TaskInfo, SysDesc, ModuleDesc}
use Rattle.sv_packet.specs.declared.event.Event.TheVariants.{NameResource, Print, Opaque}
use Rattle.sv_packet.specs.Table.{identifier, fields}
use Rattle.sv_packet.specs.Packet.{AreFields, IsKeptAsBytes}
use Rattle.sv_packet.specs.Shape.{fields_by}

-- the event has the identifier, the numbers and the text
pub record IsMade (id : ℕ) (numbers text : List ℕ) (event : Event) : Type 0 where
  pub same : identifier event ≡ id
  pub parts : fields event ≡ fields_by id numbers text

-- the event has the identifier and the payload, known or kept as bytes
pub record IsEventOf (id : ℕ) (payload : List ℕ) (event : Event) : Type 0 where
  pub same : identifier event ≡ id
  pub kept : IsKeptAsBytes event
  pub spelled : AreFields (fields event) payload

-- the event owns memory: a text, arguments or a payload
abbrev pub HasList : Event → Type 0
HasList (TaskInfo task priority name) = Unit {0}
HasList (SysDesc text) = Unit {0}
HasList (ModuleDesc number offset text) = Unit {0}
HasList (NameResource resource text) = Unit {0}
HasList (Print text options args) = Unit {0}
HasList (Opaque id payload) = Unit {0}
HasList other = ⊥
