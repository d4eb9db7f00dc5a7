use Rattle.std.proofs.Common.{◌≡◌, length}
use Rattle.sv_stream.specs.Decoding.{pushed}
use Rattle.sv_tests_codec.proofs.streams.give.Given as goal

abbrev pub invariant-loop-event : goal.invariant-loop-event
invariant-loop-event l = pushed l.decoder ≡ pushed l.fn.decoder

abbrev pub decreases-loop-event : goal.decreases-loop-event
decreases-loop-event l = length l.decoder.held
