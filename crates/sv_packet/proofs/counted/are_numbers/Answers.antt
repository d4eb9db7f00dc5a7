use Rattle.std.proofs.Common.{◌++◌, ◌∷◌, [], refl, arith}
use Rattle.sv_packet.proofs.one_spelling.Shorts.{is_not}
use Rattle.sv_packet.proofs.how_long.Counts.{takes_more, not_numbers, numbers_whole, is_same, same_is}
use Rattle.sv_packet.proofs.counted.are_numbers.Goals as goal

pub returns-in_default : goal.returns-in_default
returns-in_default c = (
  (λ is. absurd (is_not _ refl is)),
  (λ is.
      absurd
      (not_numbers c.args.count c.loop.counter _ c.loop.reader c.loop.invariant.0
      c.in_default.field-0 (omega (arith, c.loop-test.true)) c.loop.invariant.1 c.in_default.ensures
      is)),
)

pub loop-preserved : goal.loop-preserved
loop-preserved c = (
  c.loop.invariant.0 ++ c.in-Ok.field-0 ∷ [],
  takes_more c.loop.counter _ c.loop.reader c.number.new.self c.loop.invariant.0 c.in-Ok.field-0
      c.loop.invariant.1 c.in-Ok.ensures,
)

pub returns : goal.returns
returns c =
    let whole =
    numbers_whole c.args.count c.loop.counter _ c.loop.reader c.loop.invariant.0
    (omega (arith, c.loop-test.false, c.loop.auto.counter-end)) c.loop.invariant.1 in (
      (λ is. whole.0 (omega (arith, is_same _ _ is))),
      (λ is. same_is _ _ (omega (arith, whole.1 is))),
    )
