use Rattle.sv_packet.proofs.one_spelling.Spelled.{packet_spelled}
use Rattle.sv_packet.proofs.spelling.spell.Goals as goal

pub returns-clause-packet : goal.returns-clause-packet
returns-clause-packet c =
    packet_spelled (record { event = c.args.event.now; delta = c.args.delta })
    c.put_packet.ensures.range c.requires.valid c.ranges.delta.fits
