use Rattle.std.proofs.Common.{arith, refl}
use Rattle.sv_packet.proofs.how_long.Taken.{print_law, numbers_recordable}
use Rattle.sv_packet.proofs.recording.recordable.Goals as goal

pub returns-then-bytes-le128 : goal.returns-then-bytes-le128
returns-then-bytes-le128 c =
    rw c.in-Print.is
    (print_law c.in-Print.text c.bytes-in-Print.result.now c.in-Print.args c.numbers.result.now
    c.in-Print.options c.bytes-in-Print.ensures.items c.numbers.ensures.items
    (omega (arith, c.if-bytes-le128.true)))

pub returns-in_default : goal.returns-in_default
returns-in_default c = (
  λ yes.
      numbers_recordable c.args.event.now c.in_default.not-TaskInfo c.in_default.not-SysDesc
      c.in_default.not-ModuleDesc c.in_default.not-NameResource c.in_default.not-Print
      c.in_default.not-Opaque,
  λ r. refl,
)
