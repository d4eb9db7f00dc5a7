use Rattle.std.proofs.Common.{◌≤◌, length, ap, subst, arith}
use Rattle.sv_packet.specs.declared.event.Event.{Event}
use Rattle.sv_packet.specs.Spelling.{payload_of, print_payload, IsValid}
use Rattle.sv_prim.specs.Number.{numbers_spelling}
use Rattle.sv_packet.proofs.one_spelling.Parts.{print_len}
use Rattle.sv_packet.proofs.how_long.Sizes.{text_small, numbers_small}
use Rattle.sv_prim.proofs.Shared.{of_few}
use Rattle.sv_packet.proofs.spelling.most_len.Goals as goal

pub returns-in-Print-clause-len : goal.returns-in-Print-clause-len
returns-in-Print-clause-len c =
    let text = c.in-Print.text in
    let args = c.in-Print.args in
    let whole = ap (λ (k : Event). length (payload_of k)) c.in-Print.is in
    omega (
      arith,
      whole,
      print_len text c.in-Print.options args,
      text_small text,
      of_few 4 c.in-Print.options,
      of_few 4 (length args),
      ap length c.bytes-in-Print.ensures.items,
      c.numbers_len.ensures.len,
      ap (λ k. length (numbers_spelling k)) c.numbers.ensures.items,
    )

pub returns-in-Print-clause-bound : goal.returns-in-Print-clause-bound
returns-in-Print-clause-bound c =
    let text = c.in-Print.text in
    let args = c.in-Print.args in
    let valid = subst IsValid c.in-Print.is c.requires in
    let small : length (print_payload text c.in-Print.options args) ≤ 16383 =
    valid.payload (omega arith) in
    omega (
      arith,
      small,
      valid.texts.0,
      print_len text c.in-Print.options args,
      ap length c.bytes-in-Print.ensures.items,
      c.numbers_len.ensures.len,
      ap (λ k. length (numbers_spelling k)) c.numbers.ensures.items,
    )

pub returns-in_default : goal.returns-in_default
returns-in_default c = record {
  len =
      numbers_small c.args.event.now c.in_default.not-TaskInfo c.in_default.not-SysDesc
      c.in_default.not-ModuleDesc c.in_default.not-NameResource c.in_default.not-Print
      c.in_default.not-Opaque;
  bound = omega arith;
}
