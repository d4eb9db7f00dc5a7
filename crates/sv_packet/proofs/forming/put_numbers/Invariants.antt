use Rattle.sv_packet.proofs.lists.Adding.{Progress}
use Rattle.sv_packet.proofs.forming.put_numbers.Given as goal

abbrev pub invariant-loop-number : goal.invariant-loop-number
invariant-loop-number g l =
    Progress (g.P.Pen.written l.fn.pen) (g.P.Pen.written l.pen) (g.P.Pen.room l.fn.pen)
    (g.P.Pen.room l.pen) l.numbers l.number-index
