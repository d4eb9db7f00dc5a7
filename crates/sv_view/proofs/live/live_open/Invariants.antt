use Rattle.std.proofs.Common.{◌≡◌, ◌-◌, ◌^◌, true, length}
use Rattle.sv_view.specs.Live.{IsBetweenReports}
use Rattle.sv_view.proofs.live.live_open.Given as goal

abbrev pub invariant-loop-end : goal.invariant-loop-end
invariant-loop-end g l = record {
  between : IsBetweenReports (length l.fn.buf) (g.S.Source.left l.fn.src)
      (g.S.Source.left l.src) (g.K.Sink.written l.fn.out) (g.K.Sink.written l.out) l.scan;
  opened : g.S.Source.opened l.src ≡ true;
  room : length l.buf ≡ length l.fn.buf;
  begins : g.S.Source.begins l.src ≡ g.S.Source.begins l.fn.src;
  safe : g.S.Source.safe l.fn.src → g.S.Source.safe l.src;
  read_kept : g.S.Source.faults l.src ≡ g.S.Source.faults l.fn.src;
  write_kept : g.K.Sink.faults l.out ≡ g.K.Sink.faults l.fn.out;
}

abbrev pub decreases-loop-end : goal.decreases-loop-end
decreases-loop-end g l = 2 ^ 33 - l.scan.total
