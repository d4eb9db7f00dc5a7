use Rattle.std.proofs.Common.{◌∙◌, refl, sym, arith}
use Rattle.sv_packet.proofs.told_of_parts.ReadNumbers.{first_taken, not_first}
use Rattle.sv_packet.proofs.numbers_ref.NumbersRef.first.Goals as goal

pub invariant_of-result : goal.invariant_of-result
invariant_of-result c =
    (first_taken c.self.inside.count _ c.number.new.self c.in-Ok.number refl
    (omega (arith, c.if-self-eq0.false)) c.self.invariant c.in-Ok.ensures).others

pub unreachable-requires : goal.unreachable-requires
unreachable-requires c =
    not_first c.self.inside.count
    (record { bytes = c.self.inside.bytes; at = 0; within = omega arith }) c.in-Err.field-0 refl
    (omega (arith, c.if-self-eq0.false))
    c.self.invariant c.in-Err.ensures

pub returns : goal.returns
returns c =
    sym c.self.view_is
    ∙ (first_taken c.self.inside.count _ c.number.new.self c.in-Ok.number refl
    (omega (arith, c.if-self-eq0.false)) c.self.invariant c.in-Ok.ensures).first
