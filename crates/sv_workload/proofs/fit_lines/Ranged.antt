-- The words that tell a setting: each wants one number, of a range that 32 bits hold.
use Rattle.std.proofs.Common.{◌≡◌, ℕ, ◌-◌, ◌^◌, true, false, [], ◌∷◌, refl, nat_le}
use Rattle.std.specs.List.{list_any}
use Rattle.sv_workload.specs.declared.keyword.SetupWord.{SetupWord}
use Rattle.sv_workload.specs.declared.keyword.SetupWord.TheVariants.{Ring, Clock, Cpu, Base, Shift}
use Rattle.sv_workload.specs.declared.keyword.SetupWord.TheVariants as setup
use Rattle.sv_workload.specs.declared.keyword.ActWord.TheVariants.{Start}
use Rattle.sv_workload.specs.declared.keyword.Keyword.TheVariants as keyword
use Rattle.sv_workload.specs.Keywords.{is_same}
use Rattle.sv_workload.specs.Forms.{between, of_numbers, form_of}
use Rattle.sv_workload.specs.Checks.{single_keywords}
use Rattle.sv_workload.proofs.lines_told.Steady.{DescribesNothing}

-- the word tells a setting, once, and is no word of another kind
pub record TellsOne (word : SetupWord) : Type 0 where
  pub least : ℕ
  pub most : ℕ
  pub form : form_of (keyword.Setup word) ≡ of_numbers (between least most ∷ [])
  pub low : nat_le most (2 ^ 32 - 1) ≡ true
  pub single : list_any (is_same (keyword.Setup word)) single_keywords ≡ true
  pub itself : is_same (keyword.Setup word) (keyword.Setup word) ≡ true
  pub task : is_same (keyword.Setup setup.Task) (keyword.Setup word) ≡ false
  pub describes : DescribesNothing (keyword.Setup word)
  pub writer : is_same keyword.Writer (keyword.Setup word) ≡ false
  pub start : is_same (keyword.Act Start) (keyword.Setup word) ≡ false
  pub schedule : is_same keyword.Schedule (keyword.Setup word) ≡ false

-- all setup words but a task's and those that describe the target or the host tell a setting
pub tells_one : (word : SetupWord) → (word ≡ setup.Task → ⊥) → (word ≡ setup.Time → ⊥)
    → (word ≡ setup.Desc → ⊥) → (word ≡ setup.Module → ⊥) → (word ≡ setup.Command → ⊥)
    → TellsOne word
tells_one Ring other time desc modules commands =
    record {
      least = 64;
      most = 65536;
      form = refl;
      low = refl;
      single = refl;
      itself = refl;
      task = refl;
      describes = record { time = refl; desc = refl; modules = refl; commands = refl };
      writer = refl;
      start = refl;
      schedule = refl;
    }
tells_one Clock other time desc modules commands =
    record {
      least = 1;
      most = 4294967295;
      form = refl;
      low = refl;
      single = refl;
      itself = refl;
      task = refl;
      describes = record { time = refl; desc = refl; modules = refl; commands = refl };
      writer = refl;
      start = refl;
      schedule = refl;
    }
tells_one Cpu other time desc modules commands =
    record {
      least = 1;
      most = 4294967295;
      form = refl;
      low = refl;
      single = refl;
      itself = refl;
      task = refl;
      describes = record { time = refl; desc = refl; modules = refl; commands = refl };
      writer = refl;
      start = refl;
      schedule = refl;
    }
tells_one Base other time desc modules commands =
    record {
      least = 0;
      most = 4294967295;
      form = refl;
      low = refl;
      single = refl;
      itself = refl;
      task = refl;
      describes = record { time = refl; desc = refl; modules = refl; commands = refl };
      writer = refl;
      start = refl;
      schedule = refl;
    }
tells_one Shift other time desc modules commands =
    record {
      least = 0;
      most = 31;
      form = refl;
      low = refl;
      single = refl;
      itself = refl;
      task = refl;
      describes = record { time = refl; desc = refl; modules = refl; commands = refl };
      writer = refl;
      start = refl;
      schedule = refl;
    }
tells_one setup.Task other time desc modules commands = absurd (other refl)
tells_one setup.Time other time desc modules commands = absurd (time refl)
tells_one setup.Desc other time desc modules commands = absurd (desc refl)
tells_one setup.Module other time desc modules commands = absurd (modules refl)
tells_one setup.Command other time desc modules commands = absurd (commands refl)
