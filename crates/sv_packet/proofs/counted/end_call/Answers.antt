use Rattle.std.proofs.Common.{refl, arith}
use Rattle.sv_packet.proofs.told_of_parts.Formed.{end_stop, end_value_stop, end_less, end_all}
use Rattle.sv_packet.proofs.counted.end_call.Goals as goal

pub returns-in_default : goal.returns-in_default
returns-in_default c =
    end_stop (record { bytes = c.args.payload; at = 0; within = omega arith }) c.in_default.field-0
    c.in_default.ensures

pub returns-in_default-number : goal.returns-in_default-number
returns-in_default-number c =
    end_value_stop _ c.number.new.self c.in-Ok.event c.in_default-number.field-0 c.in-Ok.ensures
    (λ e. c.if-reader-payload.false (omega (arith, e))) c.in_default-number.ensures

pub returns-then-reader-payload-2 : goal.returns-then-reader-payload-2
returns-then-reader-payload-2 c =
    end_less _ c.number.new.self c.number-2.new.self c.in-Ok.event c.in-Ok-number.value
    c.in-Ok.ensures c.in-Ok-number.ensures (omega (arith, c.if-reader-payload-2.true))

pub returns : goal.returns
returns c = (
  refl,
  end_all _ c.number.new.self c.number-2.new.self c.in-Ok.event c.in-Ok-number.value c.in-Ok.ensures
      c.in-Ok-number.ensures (omega (arith, c.if-reader-payload-2.false)),
)
