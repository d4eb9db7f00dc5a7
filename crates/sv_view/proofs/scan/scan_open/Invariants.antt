use Rattle.std.proofs.Common.{◌≡◌, ◌-◌, ◌^◌, true, length}
use Rattle.sv_view.specs.Answer.{piece_size}
use Rattle.sv_view.specs.Scan.{IsBetween}
use Rattle.sv_view.proofs.scan.scan_open.Given as goal

abbrev pub invariant-loop-scan : goal.invariant-loop-scan
invariant-loop-scan g l = record {
  between : IsBetween g.V.View.text g.V.View.shown (g.S.Source.left l.fn.src)
      (g.S.Source.left l.src) (g.K.Sink.written l.fn.out) (g.K.Sink.written l.out) l.scan;
  opened : g.S.Source.opened l.src ≡ true;
  room : length l.buf ≡ piece_size;
  begins : g.S.Source.begins l.src ≡ g.S.Source.begins l.fn.src;
  safe : g.S.Source.safe l.fn.src → g.S.Source.safe l.src;
  read_kept : g.S.Source.faults l.src ≡ g.S.Source.faults l.fn.src;
  write_kept : g.K.Sink.faults l.out ≡ g.K.Sink.faults l.fn.out;
}

abbrev pub decreases-loop-scan : goal.decreases-loop-scan
decreases-loop-scan g l = 2 ^ 33 - l.scan.total
