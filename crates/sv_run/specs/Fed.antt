-- What an analyser was fed with.
use Rattle.std.specs.Prelude.{◌≡◌, ℕ, List, false, length}
use Rattle.sv_stream.specs.Decoding.{pushed}
use Rattle.sv_timeline.specs.declared.span.Span.{Span}
use Rattle.sv_analyse.specs.State.{State, StandsFor}

-- it stands for the input, of which it has each byte, and memory was never wanting
pub record IsFed (analyser : State) (input : List ℕ) : Type 0 where
  pub given : List Span
  pub stands : StandsFor analyser input given
  pub bytes : pushed analyser.decoder ≡ length input
  pub live : analyser.analysis.failed ≡ false
