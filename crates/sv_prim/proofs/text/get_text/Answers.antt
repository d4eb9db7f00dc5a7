use Rattle.std.proofs.Common.{◌≡◌, [], refl, sym, subst, arith}
use Rattle.std.proofs.lemmas.List.{nil_from_length}
use Rattle.std.proofs.lemmas.Bool.{eqb-true}
use Rattle.sv_prim.specs.Code.{IsCutShort}
use Rattle.sv_prim.specs.TextAt.{IsTextAt}
use Rattle.sv_prim.proofs.Below.{are_bytes}
use Rattle.sv_prim.proofs.TextsAt.{length_short, length_breaks, at_only, at_short, none_short}
use Rattle.sv_prim.proofs.text.get_text.Goals as goal

pub returns-then-is_empty-clause-told : goal.returns-then-is_empty-clause-told
returns-then-is_empty-clause-told c =
    let none : c.args.bytes.now ≡ [] =
    nil_from_length c.args.bytes.now (eqb-true _ _ (sym c.if-is_empty.ensures)) in
    subst (IsCutShort IsTextAt) (sym none) (at_short [] none_short)

pub returns-then-bytes-lt255-clause-only : goal.returns-then-bytes-lt255-clause-only
returns-then-bytes-lt255-clause-only c =
    at_only c.args.bytes.now c.text_from.result c.text_from.ensures

pub returns-then-bytes-lt3-clause-told : goal.returns-then-bytes-lt3-clause-told
returns-then-bytes-lt3-clause-told c =
    length_short c.args.bytes.now (are_bytes c.args.bytes.now c.type_inv.bytes) c.if-bytes-lt3.true
    (λ some. omega (arith, c.if-bytes-lt255.false))

pub returns-then-bytes-lt3-clause-only : goal.returns-then-bytes-lt3-clause-only
returns-then-bytes-lt3-clause-only c =
    at_only c.args.bytes.now _ (returns-then-bytes-lt3-clause-told c)

pub returns-then-len-lt255-clause-told : goal.returns-then-len-lt255-clause-told
returns-then-len-lt255-clause-told c = (
  length_breaks c.args.bytes.now (are_bytes c.args.bytes.now c.type_inv.bytes)
      (omega (arith, c.if-bytes-lt3.false)) (omega (arith, c.if-bytes-lt255.false)) (omega (
        arith,
        c.if-len-lt255.true,
        c.from-2.ensures,
        c.from-3.ensures,
      )),
  refl,
)

pub returns-then-len-lt255-clause-only : goal.returns-then-len-lt255-clause-only
returns-then-len-lt255-clause-only c =
    at_only c.args.bytes.now _ (returns-then-len-lt255-clause-told c)

pub returns-clause-only : goal.returns-clause-only
returns-clause-only c = at_only c.args.bytes.now c.text_from-2.result c.text_from-2.ensures
