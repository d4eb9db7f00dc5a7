use Rattle.std.proofs.Common.{◌+◌, arith}
use Rattle.sv_base.proofs.Reading.{ConsumesFewer-from, ConsumesMore-from}
use Rattle.sv_base.proofs.copies.read_all.Goals as goal

pub returns-then-limit-len-clause-long : goal.returns-then-limit-len-clause-long
returns-then-limit-len-clause-long g c =
    let left = g.S.Source.left in
    λ _. ConsumesMore-from (left c.args.src.now) (left c.loop-count.src) (left c.read.new.self)
    c.loop-count.bytes.items c.read.new.buf c.in-Ok.count c.args.limit
    c.loop-count.invariant.bytes c.in-Ok.ensures.bytes.0 c.in-Ok.ensures.bound.0 (omega arith)

pub returns-then-is_err-clause-memory : goal.returns-then-is_err-clause-memory
returns-then-is_err-clause-memory g c =
    let left = g.S.Source.left in
    λ _. ConsumesMore-from (left c.args.src.now) (left c.loop-count.src) (left c.read.new.self)
    c.loop-count.bytes.items c.read.new.buf c.in-Ok.count 0 c.loop-count.invariant.bytes
    c.in-Ok.ensures.bytes.0 c.in-Ok.ensures.bound.0 (omega arith)

pub returns-then-is_err-clause-memory_within : goal.returns-then-is_err-clause-memory_within
returns-then-is_err-clause-memory_within g c =
    let left = g.S.Source.left in
    λ _. ConsumesFewer-from (left c.args.src.now) (left c.loop-count.src) (left c.read.new.self)
    c.loop-count.bytes.items c.read.new.buf c.in-Ok.count (c.args.limit + 1)
    c.loop-count.invariant.bytes c.in-Ok.ensures.bytes.0 c.in-Ok.ensures.bound.0 (omega arith)
