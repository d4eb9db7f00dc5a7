use Rattle.std.proofs.Common.{◌≡◌, ◌≤◌, ◌-◌, true, take, length}
use Rattle.std.specs.Io.KnownBytes.{Consumes}
use Rattle.sv_base.specs.Streams.{IsSameFiles}
use Rattle.sv_base.proofs.copies.fill.Given as goal

abbrev pub invariant-loop-filled : goal.invariant-loop-filled
invariant-loop-filled g l = record {
  files : IsSameFiles (g.S.Source.held l.fn.src) (g.S.Source.held l.src) (g.S.Source.sure l.fn.src)
      (g.S.Source.sure l.src);
  same : length l.buf ≡ length l.fn.buf;
  bytes : Consumes (g.S.Source.left l.fn.src) (g.S.Source.left l.src) (take l.filled l.buf);
  within : l.filled ≤ length l.fn.buf;
  opened : g.S.Source.opened l.src ≡ true;
  begins : g.S.Source.begins l.src ≡ g.S.Source.begins l.fn.src;
  safe : g.S.Source.safe l.fn.src → g.S.Source.safe l.src;
  kept : g.S.Source.faults l.src ≡ g.S.Source.faults l.fn.src;
}

abbrev pub decreases-loop-filled : goal.decreases-loop-filled
decreases-loop-filled g l = length l.fn.buf - l.filled
