use Rattle.std.proofs.Common.{◌≡◌, ◌+◌, ◌-◌, ◌≤◌, ◌++◌, length, vec_capacity}
use Rattle.sv_ring.specs.Down.{IsFront}
use Rattle.sv_ring_rtt.proofs.whole.Whole.take_rest.Given as goal

abbrev pub invariant-loop-place : goal.invariant-loop-place
invariant-loop-place l =
    (l.self.writing ≡ l.initial.self.writing)
    × (l.initial.self.reading.got ++ l.rest.items ≡ l.self.reading.got)
    × IsFront l.self.reading.got l.self.writing.sent
    × (length l.self.reading.got ≡ l._place)
    × (length l.rest.items + (l.end - l._place) ≤ vec_capacity l.rest)
