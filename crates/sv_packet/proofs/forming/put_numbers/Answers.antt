use Rattle.std.proofs.Common.{arith}
use Rattle.sv_packet.proofs.lists.Adding.{has_room, are_words}
use Rattle.sv_packet.proofs.forming.put_numbers.Goals as goal

pub number-requires : goal.number-requires
number-requires g c =
    has_room (g.P.Pen.written c.args.pen.now) (g.P.Pen.written c.loop-number.pen)
    (g.P.Pen.room c.args.pen.now) (g.P.Pen.room c.loop-number.pen) c.args.numbers.now
    c.loop-number.number-index
    c.loop-number.invariant (omega (arith, c.loop-number-test.true)) c.requires.room

pub returns-clause-range : goal.returns-clause-range
returns-clause-range g c = are_words c.args.numbers.now c.type_inv.numbers
