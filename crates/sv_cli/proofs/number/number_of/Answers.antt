use Rattle.std.proofs.Common.{sym, ap, ◌∙◌, arith}
use Rattle.std.specs.Fmt.{decimal}
use Rattle.std.specs.Str.{bytes_eq}
use Rattle.std.proofs.lemmas.Bool.Decides.{not_from_Decides}
use Rattle.std.proofs.lemmas.Slice.Eq.{bytes_eq-Decides}
use Rattle.sv_cli.proofs.Sizes.{no_number, that_number, not_false, not_true, says_none}
use Rattle.sv_cli.proofs.Sizes.{says_number}
use Rattle.sv_cli.proofs.number.number_of.Goals as goal

pub returns-in_default-clause-number : goal.returns-in_default-clause-number
returns-in_default-clause-number c = says_none c.args.most c.args.word.now (λ n size is.
    no_number c.args.most c.ranges.most.fits c.args.word.now c.parse.result
    c.in_default.field-0 c.parse.ensures.value.0
    c.in_default.is n size is)

pub returns-then-number-lt1-clause-number : goal.returns-then-number-lt1-clause-number
returns-then-number-lt1-clause-number c = says_none c.args.most c.args.word.now (λ n size is.
    let same = that_number c.args.most c.ranges.most.fits c.args.word.now c.parse.result
    c.in-Ok.number c.parse.ensures.value.0
    c.in-Ok.is n size is in
    omega (arith, size.0, same, c.if-number-lt1.true))

pub returns-then-most-number-clause-number : goal.returns-then-most-number-clause-number
returns-then-most-number-clause-number c = says_none c.args.most c.args.word.now (λ n size is.
    let same = that_number c.args.most c.ranges.most.fits c.args.word.now c.parse.result
    c.in-Ok.number c.parse.ensures.value.0
    c.in-Ok.is n size is in
    omega (arith, size.1, same, c.if-most-number.true))

pub returns-then-ne-clause-number : goal.returns-then-ne-clause-number
returns-then-ne-clause-number c = says_none c.args.most c.args.word.now (λ n size is.
    let same = that_number c.args.most c.ranges.most.fits c.args.word.now c.parse.result
    c.in-Ok.number c.parse.ensures.value.0
    c.in-Ok.is n size is in
    not_from_Decides (bytes_eq c.format.result.now c.args.word.now)
    (bytes_eq-Decides c.format.result.now c.args.word.now)
    (not_true (bytes_eq c.format.result.now c.args.word.now) (sym c.ne.ensures ∙ c.if-ne.true))
    (c.format.ensures.text ∙ ap decimal (sym same) ∙ is))

pub returns-clause-number : goal.returns-clause-number
returns-clause-number c =
    sym (says_number c.args.most c.ranges.most.fits c.args.word.now c.in-Ok.number
    (omega (arith, c.if-number-lt1.false), omega (arith, c.if-most-number.false))
    (sym c.format.ensures.text ∙ (bytes_eq-Decides c.format.result.now c.args.word.now).0
    (not_false (bytes_eq c.format.result.now c.args.word.now)
    (sym c.ne.ensures ∙ c.if-ne.false))))
