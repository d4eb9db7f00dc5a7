use Rattle.std.proofs.Common.{◌∙◌, ◌++◌, List, ℕ, length, sym, ap, subst, arith}
use Rattle.sv_packet.specs.Packet.{IsPacket}
use Rattle.sv_packet.specs.Spelling.{spelling_of}
use Rattle.sv_packet.proofs.how_long.Sizes.{payload_small}
use Rattle.sv_packet.proofs.one_spelling.Spelled.{packet_spelled}
use Rattle.sv_packet.proofs.encoding.encode.Goals as goal

pub put_packet-requires-clause-room : goal.put_packet-requires-clause-room
put_packet-requires-clause-room c = omega (
  arith,
  payload_small c.args.event.now c.requires.recordable.texts c.requires.recordable.short,
  ap length c.requires.empty,
)

pub returns-clause-packet : goal.returns-clause-packet
returns-clause-packet c =
    let written =
    c.put_packet.ensures.written
    ∙ ap (λ (k : List ℕ). k ++ spelling_of c.args.event.now c.args.delta)
    c.requires.empty in
    subst (IsPacket (record { event = c.args.event.now; delta = c.args.delta })) (sym written)
    (packet_spelled (record { event = c.args.event.now; delta = c.args.delta })
    c.put_packet.ensures.range c.requires.recordable.valid c.ranges.delta.fits)
