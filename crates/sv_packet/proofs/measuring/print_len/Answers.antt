use Rattle.std.proofs.Common.{arith}
use Rattle.sv_packet.proofs.one_spelling.Parts.{print_len, few_args}
use Rattle.sv_packet.proofs.measuring.print_len.Goals as goal

pub overflow_cast-count : goal.overflow_cast-count
overflow_cast-count c =
    omega (arith, few_args c.args.text.now c.args.options c.args.args.now, c.requires.small)

pub returns : goal.returns
returns c = omega (
  arith,
  print_len c.args.text.now c.args.options c.args.args.now,
  c.text_len.ensures,
  c.number_len.ensures.len,
  c.number_len-2.ensures.len,
  c.numbers_len.ensures.len,
)
