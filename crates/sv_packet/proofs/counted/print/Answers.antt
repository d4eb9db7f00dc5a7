use Rattle.std.proofs.Common.{refl, sym, subst, arith}
use Rattle.sv_packet.specs.Parts.{AreNumbers}
use Rattle.sv_packet.proofs.one_spelling.Shorts.{is_not}
use Rattle.sv_packet.proofs.told_of_parts.Known.{behind_three}
use Rattle.sv_packet.proofs.told_of_parts.Formed.{print_text_stop, print_options_stop, print_count_stop}
use Rattle.sv_packet.proofs.told_of_parts.Formed.{print_args, print_all}
use Rattle.sv_packet.proofs.counted.print.Goals as goal

pub returns-in_default : goal.returns-in_default
returns-in_default c =
    print_text_stop (record { bytes = c.args.payload; at = 0; within = omega arith })
    c.in_default.field-0 c.in_default.ensures

pub returns-in_default-number : goal.returns-in_default-number
returns-in_default-number c =
    print_options_stop _ c.text.new.self c.in-Ok.text.now c.in_default-number.field-0
    c.in-Ok.ensures c.in_default-number.ensures

pub returns-in_default-number-2 : goal.returns-in_default-number-2
returns-in_default-number-2 c =
    print_count_stop _ c.text.new.self c.number.new.self c.in-Ok.text.now c.in-Ok-number.options
    c.in_default-number-2.field-0 c.in-Ok.ensures c.in-Ok-number.ensures
    c.in_default-number-2.ensures

pub returns-then-not-are_numbers : goal.returns-then-not-are_numbers
returns-then-not-are_numbers c =
    let rest =
    behind_three _ c.text.new.self c.number.new.self c.number-2.new.self c.in-Ok.text.now
    c.in-Ok-number.options c.in-Ok-number-2.count c.in-Ok.ensures c.in-Ok-number.ensures
    c.in-Ok-number-2.ensures in
    (λ form.
    let args =
    print_args _ c.text.new.self c.number.new.self c.number-2.new.self c.in-Ok.text.now
    c.in-Ok-number.options c.in-Ok-number-2.count c.in-Ok.ensures c.in-Ok-number.ensures
    c.in-Ok-number-2.ensures form in
    is_not c.are_numbers.result c.if-not-are_numbers.true
    (c.are_numbers.ensures.1
    (args.0, subst (AreNumbers c.in-Ok-number-2.count args.0) (sym rest) args.1)))

pub returns : goal.returns
returns c =
    let rest =
    behind_three _ c.text.new.self c.number.new.self c.number-2.new.self c.in-Ok.text.now
    c.in-Ok-number.options c.in-Ok-number-2.count c.in-Ok.ensures c.in-Ok-number.ensures
    c.in-Ok-number-2.ensures in
    let args = c.are_numbers.ensures.0 c.if-not-are_numbers.false in (
      refl,
      args.0,
      args.1,
      print_all _ c.text.new.self c.number.new.self c.number-2.new.self c.in-Ok.text.now
          c.in-Ok-number.options c.in-Ok-number-2.count c.in-Ok.ensures c.in-Ok-number.ensures
          c.in-Ok-number-2.ensures args.0
          (subst (AreNumbers c.in-Ok-number-2.count args.0) rest args.1),
    )
