-- What a program knows of a device: how often it was begun and failed, and no byte of its content.
use Rattle.std.specs.Prelude.{ℕ, Bool}
use Rattle.sv_base.specs.declared.out_sink.Stream.{Stream}

-- files by their paths
pub record FileState : Type 0 where
  pub opened : Bool
  pub begins : ℕ
  pub faults : ℕ

-- a standard stream, with whether its latest write failed
pub record StreamState : Type 0 where
  pub stream : Stream
  pub faults : ℕ
  pub broken : Bool
