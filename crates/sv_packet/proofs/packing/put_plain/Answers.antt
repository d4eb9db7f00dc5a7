use Rattle.std.proofs.Common.{ℕ, ◌++◌, ap, ◌∙◌, length, arith}
use Rattle.sv_packet.specs.Spelling.{head_spelling}
use Rattle.sv_packet.proofs.one_spelling.Parts.{numbers_fields, numbers_range, plain_written}
use Rattle.sv_packet.proofs.packing.put_plain.Goals as goal

pub put_head-requires-clause-small : goal.put_head-requires-clause-small
put_head-requires-clause-small g c = λ high. let small =
    c.requires.small (omega (arith, c.from.ensures, high)) in
    omega (
      arith,
      small,
      ap length (numbers_fields c.args.numbers.now),
      c.numbers_len.ensures.len,
    )

pub put_numbers-requires : goal.put_numbers-requires
put_numbers-requires g c = record {
  room = omega (
    arith,
    c.requires.room,
    c.put_head.ensures.room,
    ap length (numbers_fields c.args.numbers.now),
  );
}

pub number-requires : goal.number-requires
number-requires g c = omega (
  arith,
  c.requires.room,
  c.put_head.ensures.room,
  c.put_numbers.ensures.room,
  ap length (numbers_fields c.args.numbers.now),
)

pub returns-clause-written : goal.returns-clause-written
returns-clause-written g c =
    plain_written c.args.id c.numbers_len.result c.args.delta c.args.numbers.now
    (g.P.Pen.written c.args.pen.now) (g.P.Pen.written c.put_head.new.pen)
    (g.P.Pen.written c.put_numbers.new.pen) (g.P.Pen.written c.number.new.self)
    c.numbers_len.ensures.len
    (c.put_head.ensures.written
    ∙ ap (λ (k : ℕ). g.P.Pen.written c.args.pen.now ++ head_spelling k c.numbers_len.result)
    c.from.ensures) c.put_numbers.ensures.written c.number.ensures.written

pub returns-clause-range : goal.returns-clause-range
returns-clause-range g c = numbers_range c.args.numbers.now c.put_numbers.ensures.range
