-- What is read of a packet, before its event takes memory.
use Rattle.std.specs.Prelude.{◌≢◌, ◌<◌, ◌≤◌, ◌⊎◌, Result, Ok, Err}
use Rattle.sv_prim.specs.declared.got.Got.{Got}
use Rattle.sv_prim.specs.declared.got.Got.TheVariants as got
use Rattle.sv_packet.specs.declared.decoding.Parts.{Parts}
use Rattle.sv_packet.specs.declared.event.Event.{Event}
use Rattle.sv_packet.specs.declared.event.Packet.{Packet}
use Rattle.sv_packet.specs.declared.reader.Reader.{Reader}
use Rattle.sv_packet.specs.declared.reader.Stop.{Stop}
use Rattle.sv_packet.specs.declared.reader.Stop.TheVariants.{Short, Bad}
use Rattle.sv_packet.specs.Packet.{IsPacket}
use Rattle.sv_packet.specs.Shape.{number_count}
use Rattle.sv_packet.specs.Made.{IsMade, IsEventOf}
use Rattle.sv_packet.specs.Reason.{packet_reason}
use Rattle.sv_packet.specs.Reader.{TakesPart, Stops, numbers_in}

-- the parts tell the event
abbrev pub IsToldBy : Parts → Event → Type 0
IsToldBy parts event =
    ((parts.id < 24) ×
    IsMade parts.id (numbers_in (number_count parts.id) parts.four) parts.bytes.now event)
    ⊎ ((24 ≤ parts.id) × IsEventOf parts.id parts.bytes.now event)

-- the reader took a packet of these parts
pub record TakesParts (old new : Reader) (parts : Parts) : Type 0 where
  pub known : parts.id ≢ 23
  pub fits : parts.id ≤ 16383
  pub packet : (event : Event) → IsToldBy parts event →
      TakesPart IsPacket old new (record { event = event; delta = parts.delta })

abbrev pub ReadsParts : Reader → Reader → Result Parts Stop → Type 0
ReadsParts old new (Ok parts) = TakesParts old new parts
ReadsParts old new (Err stop) = Stops IsPacket packet_reason old stop

-- what a stop says of the bytes
abbrev pub told_by : Stop → Got Packet
told_by Short = got.Short
told_by (Bad place reason) = got.Bad place reason
