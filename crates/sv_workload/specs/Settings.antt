-- The settings that lines told, and what holds where a line doesn't tell one.
use Rattle.std.specs.Prelude.{ℕ, ◌^◌, ◌<◌, ◌≤◌, Some, None, unwrap_or}
use Rattle.sv_workload.specs.declared.keyword.SetupWord.{SetupWord}
use Rattle.sv_workload.specs.declared.keyword.SetupWord.TheVariants.{Ring, Clock, Cpu, Base, Shift}
use Rattle.sv_workload.specs.declared.settings.Settings.{Settings}

abbrev pub nothing_told : Settings
nothing_told = record { ring = None; clock = None; cpu = None; base = None; shift = None }

abbrev pub ring_told : Settings → ℕ
ring_told settings = unwrap_or settings.ring 1024

abbrev pub clock_told : Settings → ℕ
clock_told settings = unwrap_or settings.clock 1000000

abbrev pub cpu_told : Settings → ℕ
cpu_told settings = unwrap_or settings.cpu 1000000

abbrev pub base_told : Settings → ℕ
base_told settings = unwrap_or settings.base 536870912

abbrev pub shift_told : Settings → ℕ
shift_told settings = unwrap_or settings.shift 2

-- each setting is of its range
pub record AreInRange (settings : Settings) : Type 0 where
  pub ring_least : 64 ≤ ring_told settings
  pub ring_most : ring_told settings ≤ 65536
  pub clock : 1 ≤ clock_told settings
  pub clock_most : clock_told settings < 2 ^ 32
  pub cpu : 1 ≤ cpu_told settings
  pub cpu_most : cpu_told settings < 2 ^ 32
  pub base : base_told settings < 2 ^ 32
  pub shift : shift_told settings ≤ 31

-- one more setting is told; other words tell none
abbrev pub tell : SetupWord → ℕ → Settings → Settings
tell Ring n settings = record settings { ring = Some n }
tell Clock n settings = record settings { clock = Some n }
tell Cpu n settings = record settings { cpu = Some n }
tell Base n settings = record settings { base = Some n }
tell Shift n settings = record settings { shift = Some n }
tell _ n settings = settings
