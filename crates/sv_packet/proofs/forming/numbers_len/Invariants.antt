use Rattle.sv_packet.proofs.lists.Adding.{Counted}
use Rattle.sv_packet.proofs.forming.numbers_len.Given as goal

abbrev pub invariant-loop-number : goal.invariant-loop-number
invariant-loop-number l = Counted l.numbers l.number-index l.len
