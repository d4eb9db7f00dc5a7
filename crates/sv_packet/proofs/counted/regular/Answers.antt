use Rattle.sv_packet.specs.Reader.{numbers_in}
use Rattle.std.proofs.Common.{refl, subst, ℕ, arith}
use Rattle.sv_packet.specs.Packet.{AreFields}
use Rattle.sv_packet.specs.Shape.{ends_in_text, fields_by}
use Rattle.sv_packet.proofs.told_of_parts.Formed.{regular_numbers_stop, regular_text_stop, regular_less}
use Rattle.sv_packet.proofs.told_of_parts.Formed.{regular_all}
use Rattle.sv_packet.proofs.counted.regular.Goals as goal

pub returns-in_default : goal.returns-in_default
returns-in_default c =
    regular_numbers_stop c.args.id c.shape_of-count.result.0 (ends_in_text c.args.id)
    c.shape_of-count.ensures.numbers refl c.requires
    (record { bytes = c.args.payload; at = 0; within = omega arith }) c.in_default.field-0
    c.in_default.ensures

pub returns-in_default-text_if : goal.returns-in_default-text_if
returns-in_default-text_if c =
    regular_text_stop c.args.id c.shape_of-count.result.0 c.shape_of-count.result.1
    c.shape_of-count.ensures.numbers c.shape_of-count.ensures.text c.requires _ c.numbers.new.self
    (numbers_in c.shape_of-count.result.0 c.in-Ok.four) c.in_default-text_if.field-0
    c.in-Ok.ensures c.in_default-text_if.ensures

pub returns-then-payload-reader : goal.returns-then-payload-reader
returns-then-payload-reader c =
    regular_less c.args.id c.shape_of-count.result.0 c.shape_of-count.result.1
    c.shape_of-count.ensures.numbers
    c.shape_of-count.ensures.text c.requires _ c.numbers.new.self c.text_if.new.self
    (numbers_in c.shape_of-count.result.0 c.in-Ok.four) c.in-Ok-text_if.text.now
    c.in-Ok.ensures c.in-Ok-text_if.ensures (omega (arith, c.if-payload-reader.true))

pub returns : goal.returns
returns c = (
  c.requires,
  subst
      (λ (k : ℕ).
      AreFields (fields_by c.args.id (numbers_in k c.in-Ok.four) c.in-Ok-text_if.text.now)
      c.args.payload.now) c.shape_of-count.ensures.numbers
      (regular_all c.args.id c.shape_of-count.result.0 c.shape_of-count.result.1
      c.shape_of-count.ensures.numbers
      c.shape_of-count.ensures.text c.requires _ c.numbers.new.self c.text_if.new.self
      (numbers_in c.shape_of-count.result.0 c.in-Ok.four) c.in-Ok-text_if.text.now
      c.in-Ok.ensures c.in-Ok-text_if.ensures (omega (arith, c.if-payload-reader.false))),
)
