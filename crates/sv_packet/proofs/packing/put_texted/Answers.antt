use Rattle.std.proofs.Common.{◌≡◌, ℕ, ◌+◌, ◌++◌, ap, ◌∙◌, length, arith}
use Rattle.sv_packet.specs.Spelling.{head_spelling}
use Rattle.sv_packet.proofs.one_spelling.Parts.{texted_len, texted_range, texted_written}
use Rattle.sv_prim.specs.Number.{numbers_spelling}
use Rattle.sv_prim.specs.Text.{text_spelling}
use Rattle.sv_packet.proofs.how_long.Sizes.{text_small}
use Rattle.sv_packet.proofs.packing.put_texted.Goals as goal

pub overflow_add-numbers_len : goal.overflow_add-numbers_len
overflow_add-numbers_len g c = omega (
  arith,
  c.numbers_len.ensures.most,
  c.requires.few,
  c.text_len.ensures,
  text_small c.args.text.now,
  c.requires.most.1,
)

pub put_head-requires-clause-small : goal.put_head-requires-clause-small
put_head-requires-clause-small g c = λ high.
    let small = c.requires.small (omega (arith, c.from.ensures, high)) in omega (
      arith,
      small,
      texted_len c.args.numbers.now c.args.text.now,
      c.numbers_len.ensures.len,
      c.text_len.ensures,
    )

pub put_numbers-requires : goal.put_numbers-requires
put_numbers-requires g c = record {
  room = omega (
    arith,
    c.requires.room,
    c.put_head.ensures.room,
    texted_len c.args.numbers.now c.args.text.now,
  );
}

pub text-requires-clause-room : goal.text-requires-clause-room
text-requires-clause-room g c = omega (
  arith,
  c.requires.room,
  c.put_head.ensures.room,
  c.put_numbers.ensures.room,
  texted_len c.args.numbers.now c.args.text.now,
)

pub number-requires : goal.number-requires
number-requires g c = omega (
  arith,
  c.requires.room,
  c.put_head.ensures.room,
  c.put_numbers.ensures.room,
  c.text.ensures.room,
  texted_len c.args.numbers.now c.args.text.now,
)

pub returns-clause-written : goal.returns-clause-written
returns-clause-written g c =
    let size : c.numbers_len.result + c.text_len.result
    ≡ length (numbers_spelling c.args.numbers.now) + length (text_spelling c.args.text.now) =
    omega (arith, c.numbers_len.ensures.len, c.text_len.ensures) in
    texted_written c.args.id (c.numbers_len.result + c.text_len.result) c.args.delta
    c.args.numbers.now c.args.text.now (g.P.Pen.written c.args.pen.now)
    (g.P.Pen.written c.put_head.new.pen) (g.P.Pen.written c.put_numbers.new.pen)
    (g.P.Pen.written c.text.new.self) (g.P.Pen.written c.number.new.self) size
    (c.put_head.ensures.written
    ∙ ap
    (λ (k : ℕ). g.P.Pen.written c.args.pen.now
    ++ head_spelling k (c.numbers_len.result + c.text_len.result)) c.from.ensures)
    c.put_numbers.ensures.written c.text.ensures.written c.number.ensures.written

pub returns-clause-range : goal.returns-clause-range
returns-clause-range g c =
    texted_range c.args.numbers.now c.args.text.now c.put_numbers.ensures.range c.requires.bytes
