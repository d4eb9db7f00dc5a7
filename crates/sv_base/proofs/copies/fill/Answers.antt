use Rattle.std.proofs.Common.{◌-◌, length, arith, rules}
use Rattle.sv_base.proofs.Reading.{filled_further}
use Rattle.sv_base.proofs.copies.fill.Goals as goal

pub loop-filled-preserved : goal.loop-filled-preserved
loop-filled-preserved g c =
    let left = g.S.Source.left in
    let i = c.loop-filled.invariant in
    record {
      files = search rules;
      same = search rules;
      bytes = filled_further (left c.args.src.now) (left c.loop-filled.src) (left c.read.new.self)
          c.loop-filled.buf c.read.new.buf c.loop-filled.filled
          (length c.loop-filled.buf - c.loop-filled.filled) c.in_ok-count.count
          i.bytes c.in_ok-count.ensures.bytes.0 (omega (arith, i.within, i.same))
          c.in_ok-count.ensures.bound.0;
      within = search rules;
      opened = search rules;
      begins = search rules;
      safe = search rules;
      kept = search rules;
    }
