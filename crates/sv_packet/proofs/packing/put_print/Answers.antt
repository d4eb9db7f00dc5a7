use Rattle.std.proofs.Common.{◌≡◌, ◌+◌, length, arith}
use Rattle.sv_packet.specs.Spelling.{print_payload}
use Rattle.sv_packet.proofs.one_spelling.Parts.{print_len, few_args, print_range, print_written}
use Rattle.sv_packet.proofs.packing.put_print.Goals as goal

pub overflow_cast-count : goal.overflow_cast-count
overflow_cast-count g c =
    omega (arith, few_args c.args.text.now c.args.options c.args.args.now, c.requires.small)

pub put_head-requires-clause-small : goal.put_head-requires-clause-small
put_head-requires-clause-small g c = λ high.
    omega (
      arith,
      c.requires.small,
      print_len c.args.text.now c.args.options c.args.args.now,
      c.text_len.ensures,
      c.number_len.ensures.len,
      c.number_len-2.ensures.len,
      c.numbers_len.ensures.len,
    )

pub put_numbers-requires : goal.put_numbers-requires
put_numbers-requires g c = record {
  room = omega (
    arith,
    c.requires.room,
    c.put_head.ensures.room,
    c.text.ensures.room,
    c.number.ensures.room,
    c.number-2.ensures.room,
    print_len c.args.text.now c.args.options c.args.args.now,
  );
}

pub number-requires-3 : goal.number-requires-3
number-requires-3 g c =
    omega (
      arith,
      c.requires.room,
      c.put_head.ensures.room,
      c.text.ensures.room,
      c.number.ensures.room,
      c.number-2.ensures.room,
      c.put_numbers.ensures.room,
      print_len c.args.text.now c.args.options c.args.args.now,
    )

pub returns-clause-written : goal.returns-clause-written
returns-clause-written g c =
    let size =
    c.text_len.result + (c.number_len.result + c.number_len-2.result + c.numbers_len.result) in
    let same : size ≡ length (print_payload c.args.text.now c.args.options c.args.args.now)
    = omega (
      arith,
      print_len c.args.text.now c.args.options c.args.args.now,
      c.text_len.ensures,
      c.number_len.ensures.len,
      c.number_len-2.ensures.len,
      c.numbers_len.ensures.len,
    ) in
    print_written size c.args.delta c.args.options c.args.text.now c.args.args.now
    (g.P.Pen.written c.args.pen.now) (g.P.Pen.written c.put_head.new.pen)
    (g.P.Pen.written c.text.new.self) (g.P.Pen.written c.number.new.self)
    (g.P.Pen.written c.number-2.new.self) (g.P.Pen.written c.put_numbers.new.pen)
    (g.P.Pen.written c.number-3.new.self)
    same c.put_head.ensures.written c.text.ensures.written c.number.ensures.written
    c.number-2.ensures.written c.put_numbers.ensures.written c.number-3.ensures.written

pub returns-clause-range : goal.returns-clause-range
returns-clause-range g c =
    print_range c.args.text.now c.args.options c.args.args.now c.requires.bytes
    c.ranges.options.fits
    (omega (arith, few_args c.args.text.now c.args.options c.args.args.now, c.requires.small))
    c.put_numbers.ensures.range
