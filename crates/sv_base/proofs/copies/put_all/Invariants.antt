use Rattle.std.proofs.Common.{◌≡◌, ℕ, true, length, take, drop}
use Rattle.std.specs.Io.KnownBytes.{Appends}
use Rattle.sv_base.proofs.copies.put_all.Given as goal

abbrev pub invariant-loop-rest : goal.invariant-loop-rest
invariant-loop-rest g l = record {
  count : ℕ;
  rest : l.rest ≡ drop count l.bytes;
  bytes : Appends (g.K.Sink.written l.fn.out) (g.K.Sink.written l.out) (take count l.bytes);
  kept : g.K.Sink.faults l.out ≡ g.K.Sink.faults l.fn.out;
  sound : g.K.Sink.broken l.out ≡ true → g.K.Sink.broken l.fn.out ≡ true;
}

abbrev pub decreases-loop-rest : goal.decreases-loop-rest
decreases-loop-rest g l = length l.rest
