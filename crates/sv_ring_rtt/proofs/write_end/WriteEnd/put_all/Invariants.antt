use Rattle.std.proofs.Common.{◌≡◌, ◌++◌, take}
use Rattle.sv_ring_rtt.proofs.write_end.WriteEnd.put_all.Given as goal

abbrev pub invariant-loop-byte : goal.invariant-loop-byte
invariant-loop-byte l = (l.self.name ≡ l.initial.self.name)
    × (l.self.writing
    ≡ record l.initial.self.writing {
      pend =
          l.initial.self.writing.pend ++ take l.byte-index l.block;
    })
