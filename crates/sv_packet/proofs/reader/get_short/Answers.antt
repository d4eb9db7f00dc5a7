use Rattle.std.proofs.Common.{refl, sym, arith}
use Rattle.std.proofs.lemmas.Bool.{eqb-true}
use Rattle.sv_prim.proofs.Shared.{are_bytes}
use Rattle.sv_packet.proofs.one_spelling.Shorts.{cut_short, breaks, is_not}
use Rattle.sv_packet.proofs.reader.get_short.Goals as goal

pub returns-then-is_empty : goal.returns-then-is_empty
returns-then-is_empty c =
    let none = eqb-true _ _ (sym c.if-is_empty.ensures) in
    cut_short c.args.bytes.now (are_bytes c.args.bytes.now c.type_inv.bytes) (omega (arith, none))
    (λ some. absurd (omega (arith, none, some)))

pub returns-then-bytes-lt2 : goal.returns-then-bytes-lt2
returns-then-bytes-lt2 c =
    cut_short c.args.bytes.now (are_bytes c.args.bytes.now c.type_inv.bytes) c.if-bytes-lt2.true
    (λ some. omega (arith, c.if-bytes-lt128.false))

pub returns-then-not-is_second : goal.returns-then-not-is_second
returns-then-not-is_second c = (
  breaks c.args.bytes.now (are_bytes c.args.bytes.now c.type_inv.bytes) c.if-bytes-lt2.false
      c.if-bytes-lt128.false
      (λ is. is_not c.is_second.result c.if-not-is_second.true (c.is_second.ensures.1 is)),
  refl,
)
