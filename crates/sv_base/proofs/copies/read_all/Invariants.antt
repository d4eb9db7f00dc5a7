use Rattle.std.proofs.Common.{◌≡◌, ◌≤◌, ◌-◌, true, vec_len}
use Rattle.std.specs.Io.KnownBytes.{Consumes}
use Rattle.sv_base.specs.Streams.{IsSameFiles}
use Rattle.sv_base.proofs.copies.read_all.Given as goal

abbrev pub invariant-loop-count : goal.invariant-loop-count
invariant-loop-count g l = record {
  files : IsSameFiles (g.S.Source.held l.fn.src) (g.S.Source.held l.src) (g.S.Source.sure l.fn.src)
      (g.S.Source.sure l.src);
  bytes : Consumes (g.S.Source.left l.fn.src) (g.S.Source.left l.src) l.bytes.items;
  within : vec_len l.bytes ≤ l.limit;
  opened : g.S.Source.opened l.src ≡ true;
  begins : g.S.Source.begins l.src ≡ g.S.Source.begins l.fn.src;
  safe : g.S.Source.safe l.fn.src → g.S.Source.safe l.src;
  kept : g.S.Source.faults l.src ≡ g.S.Source.faults l.fn.src;
}

abbrev pub decreases-loop-count : goal.decreases-loop-count
decreases-loop-count g l = l.limit - vec_len l.bytes
