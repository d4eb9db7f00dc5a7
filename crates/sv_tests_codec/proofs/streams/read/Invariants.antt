use Rattle.std.proofs.Common.{◌≡◌, ◌+◌, length}
use Rattle.sv_stream.specs.Decoding.{IsSettled, pushed}
use Rattle.sv_tests_codec.proofs.streams.read.Given as goal

abbrev pub invariant-loop-rest : goal.invariant-loop-rest
invariant-loop-rest l = record {
  all : pushed l.decoder + length l.rest ≡ length l.input;
  settled : IsSettled l.decoder;
}

abbrev pub decreases-loop-rest : goal.decreases-loop-rest
decreases-loop-rest l = length l.rest
