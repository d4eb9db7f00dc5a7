-- A workload in the making.
use Rattle.std.specs.Prelude.{ℕ, ◌^◌, ◌<◌, ◌≤◌, false, List, [], length, All}
use Rattle.sv_prim.specs.Text.{AreBytes}
use Rattle.sv_load.specs.Load.{Load}
use Rattle.sv_load.specs.Limits.{most_steps, most_writers}
use Rattle.sv_load.specs.Need.{IsTask, HasWords, IsAsked, IsTurn}

-- no writer and nothing to describe, in the settings that hold where none is told
abbrev pub bare_load : Load
bare_load = record {
  ring = 1024;
  clock = 1000000;
  cpu = 1000000;
  base = 536870912;
  shift = 2;
  timed = false;
  lines = [];
  tasks = [];
  modules = [];
  commands = [];
  scripts = [];
  scheduled = false;
  schedule = [];
}

-- the settings, texts, tasks, commands and turns are of their ranges, and all but the steps are
-- few. Of steps and modules the rest holds by themselves
pub record IsLimited (load : Load) : Type 0 where
  pub ring_least : 64 ≤ load.ring
  pub ring_most : load.ring ≤ 65536
  pub clock : 1 ≤ load.clock
  pub clock_most : load.clock < 2 ^ 32
  pub cpu : 1 ≤ load.cpu
  pub cpu_most : load.cpu < 2 ^ 32
  pub base : load.base < 2 ^ 32
  pub shift : load.shift ≤ 31
  pub few_lines : length load.lines ≤ 4
  pub some_lines : All (λ text. 1 ≤ length text) load.lines
  pub short_lines : All (λ text. length text ≤ 128) load.lines
  pub byte_lines : All AreBytes load.lines
  pub few_tasks : length load.tasks ≤ 32
  pub tasks_are : All IsTask load.tasks
  pub tasks_hold : All HasWords load.tasks
  pub short_names : All (λ task. length task.name ≤ 128) load.tasks
  pub byte_names : All (λ task. AreBytes task.name) load.tasks
  pub few_commands : length load.commands ≤ 256
  pub commands_are : All IsAsked load.commands
  pub few_scripts : length load.scripts ≤ most_writers
  pub few_turns : length load.schedule ≤ most_steps
  pub turns_are : All (IsTurn (length load.scripts)) load.schedule
