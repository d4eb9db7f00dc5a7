use Rattle.std.proofs.Common.{refl, arith}
use Rattle.sv_prim.proofs.Shared.{told_only}
use Rattle.sv_packet.specs.Packet.{IsPacket}
use Rattle.sv_packet.specs.Reason.{packet_reason}
use Rattle.sv_packet.specs.EventRef.{seen, got_seen}
use Rattle.sv_packet.proofs.one_spelling.Free.{packet_free}
use Rattle.sv_packet.proofs.told_of_parts.Bodies.{packet_of}
use Rattle.sv_packet.proofs.told_of_parts.Stopping.{begins_slice, told_slice}
use Rattle.sv_packet.proofs.decoding.decode_ref.Goals as goal

pub returns-in-Ok-clause-told : goal.returns-in-Ok-clause-told
returns-in-Ok-clause-told c =
    let event = seen c.event_of.result in
    begins_slice IsPacket _ c.read_parts.new.reader (packet_of event c.in-Ok.parts.delta) refl
    (c.in-Ok.ensures.packet event c.event_of.ensures)

pub returns-in-Ok-clause-only : goal.returns-in-Ok-clause-only
returns-in-Ok-clause-only c =
    told_only IsPacket packet_free packet_reason c.args.bytes.now _ (returns-in-Ok-clause-told c)

pub returns-in-Err-clause-told : goal.returns-in-Err-clause-told
returns-in-Err-clause-told c =
    rw c.stopped.ensures
    (told_slice (record { bytes = c.args.bytes; at = 0; within = omega arith })
    c.in-Err.stop refl c.in-Err.ensures)

pub returns-in-Err-clause-only : goal.returns-in-Err-clause-only
returns-in-Err-clause-only c =
    told_only IsPacket packet_free packet_reason c.args.bytes.now (got_seen c.stopped.result)
    (returns-in-Err-clause-told c)
