-- The host of a run: what it sent, what it took, and what it made of that.
use Rattle.std.specs.Prelude.{◌≡◌, ℕ, ◌^◌, ◌≤◌, List, length}
use Rattle.sv_load.specs.Load.{Load}
use Rattle.sv_core.specs.Played.{sent_bytes}
use Rattle.sv_analyse.specs.State.{State}
use Rattle.sv_run.specs.Fed.{IsFed}

-- the workload, the names of the rings, the bytes that were taken, how many commands were sent, and
-- the analyser
pub record Hosting : Type 0 where
  pub load : Load
  pub ring : List (List ℕ)
  pub down : List (List ℕ)
  pub taken : List ℕ
  pub asked : List ℕ
  pub sends : ℕ
  pub analyser : State

-- what a host keeps: it sent the first of the workload's commands, and its analyser has all that it
-- took
pub record IsHost (load : Load) (limit sends : ℕ) (taken asked : List ℕ) (analyser : State)
    : Type 0 where
  pub few : sends ≤ length load.commands
  pub most : length load.commands ≤ 256
  pub asked_is : asked ≡ sent_bytes load sends
  pub limit_most : limit ≤ 2 ^ 33
  pub within : length taken ≤ limit
  pub fed : IsFed analyser taken

-- the host of the same rings and workload
pub record IsSameHost (old new : Hosting) : Type 0 where
  pub load : new.load ≡ old.load
  pub ring : new.ring ≡ old.ring
  pub down : new.down ≡ old.down
