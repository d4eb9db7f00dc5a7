use Rattle.std.proofs.Common.{arith}
use Rattle.sv_packet.proofs.how_long.Counts.{takes_more, not_numbers, numbers_taken}
use Rattle.sv_packet.proofs.numbers_ref.numbers.Goals as goal

pub unreachable-requires : goal.unreachable-requires
unreachable-requires c =
    not_numbers c.args.count c.loop.counter _ c.loop.reader c.loop.items.items c.in-Err.field-0
    c.loop-test.true c.loop.invariant.2 c.in-Err.ensures c.requires

pub loop-preserved : goal.loop-preserved
loop-preserved c = (
  omega (arith, c.push_reserved.ensures.len, c.loop.invariant.0),
  omega (arith, c.push_reserved.ensures.capacity, c.loop.invariant.1),
  rw c.push_reserved.ensures.items
      (takes_more c.loop.counter _ c.loop.reader c.number.new.self c.loop.items.items c.in-Ok.number
      c.loop.invariant.2 c.in-Ok.ensures),
)

pub returns : goal.returns
returns c =
    let all =
    numbers_taken c.args.count c.loop.counter _ c.loop.reader c.loop.items.items
    (omega (arith, c.loop-test.false, c.loop.auto.counter-end)) c.loop.invariant.2
    c.requires in
    rw c.from.ensures all
