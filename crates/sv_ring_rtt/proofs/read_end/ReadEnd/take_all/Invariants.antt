use Rattle.std.proofs.Common.{◌≡◌, ◌++◌, length, take}
use Rattle.sv_ring_rtt.proofs.read_end.ReadEnd.take_all.Given as goal

abbrev pub invariant-loop-place : goal.invariant-loop-place
invariant-loop-place l = (l.self.name ≡ l.initial.self.name)
    × (l.self.reading
    ≡ record l.initial.self.reading { got = l.initial.self.reading.got ++ take l.place l.buf })
    × (length l.buf ≡ length l.initial.buf)
