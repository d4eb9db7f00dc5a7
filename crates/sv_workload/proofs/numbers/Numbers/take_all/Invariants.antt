use Rattle.std.proofs.Common.{◌≡◌, ◌+◌, ◌≤◌, drop, length}
use Rattle.sv_workload.proofs.words_read.Passing.{passed}
use Rattle.sv_workload.proofs.numbers.Numbers.take_all.Given as goal

-- from here the pass ends as it does from its beginning
abbrev pub invariant-loop-range : goal.invariant-loop-range
invariant-loop-range l =
    (passed (drop l.range-index l.ranges) l.words l.self.values.items l.self.filled l.self.ranged ≡
    passed l.ranges l.initial.words l.initial.self.values.items l.initial.self.filled
    l.initial.self.ranged) ×
    (length l.self.values.items ≤ length l.initial.self.values.items + l.range-index)
