-- What the type of the value under the lock keeps.
use Rattle.std.specs.Prelude.{◌≡◌, ℕ, List, [], false}
use Rattle.sv_load.specs.Load.{Load}
use Rattle.sv_recorder.specs.Recording.{Recording}

-- the recorder is of this workload and these rings
pub record IsRecorderOf (load : Load) (up down : List (List ℕ))
    (recorder : Recording) : Type 0 where
  pub load_is : recorder.load ≡ load
  pub up_is : recorder.ring ≡ up
  pub down_is : recorder.down ≡ down
  pub size_is : recorder.size ≡ load.ring

-- a workload with nothing in it
abbrev pub no_load : Load
no_load = record {
  ring = 0;
  clock = 0;
  cpu = 0;
  base = 0;
  shift = 0;
  timed = false;
  lines = [];
  tasks = [];
  modules = [];
  commands = [];
  scripts = [];
  scheduled = false;
  schedule = [];
}
