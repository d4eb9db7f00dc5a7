-- Short words for journals worked out by hand, and when they are whole.
use Rattle.std.proofs.Common.{◌≡◌, ℕ, ◌<◌, zero, suc, false, List, [], ◌∷◌, length, replicate}
use Rattle.std.proofs.Common.{arith}
use Rattle.std.specs.Prelude.{count_by}
use Rattle.sv_packet.specs.declared.event.Event.TheVariants.{MarkStart}
use Rattle.sv_load.specs.declared.load.Act.TheVariants as acts
use Rattle.sv_load.specs.declared.load.Step.{Step}
use Rattle.sv_load.specs.Load.{Load, script_of}
use Rattle.sv_journal.specs.declared.journal.Kind.TheVariants as kinds
use Rattle.sv_journal.specs.declared.journal.Origin.{Origin}
use Rattle.sv_journal.specs.declared.journal.Origin.TheVariants.{Call, Sync, Reply}
use Rattle.sv_journal.specs.declared.journal.Outcome.{Outcome}
use Rattle.sv_journal.specs.declared.journal.Outcome.TheVariants.{Stored, Handled}
use Rattle.sv_journal.specs.declared.journal.Item.{Item}
use Rattle.sv_journal.specs.Items.{is_call_of}
use Rattle.sv_journal.specs.Legal.{IsWhole, AreFirstCommands}

-- a workload of one script that describes nothing
abbrev pub load_of : ℕ → List Step → Load
load_of ring script = record {
  ring = ring;
  clock = 1000000;
  cpu = 1000000;
  base = 536870912;
  shift = 2;
  timed = false;
  lines = [];
  tasks = [];
  modules = [];
  commands = [];
  scripts = script ∷ [];
  scheduled = false;
  schedule = [];
}

abbrev pub start : ℕ → Step
start advance = record { advance = advance; act = acts.Start }

abbrev pub stop : ℕ → Step
stop advance = record { advance = advance; act = acts.Stop }

abbrev pub mark : ℕ → ℕ → Step
mark advance id = record { advance = advance; act = acts.Event (MarkStart id) }

-- so many marks, a tick apart
abbrev pub marks : ℕ → ℕ → List Step
marks count id = replicate count (mark 1 id)

-- an item by its moment and by what is known to be freed
abbrev pub at : ℕ → ℕ → Origin → Outcome → Item
at moment freed origin outcome = record {
  origin = origin;
  moment = moment;
  freed = freed;
  outcome = outcome;
}

-- the group of a start that describes nothing, all of it stored
abbrev pub started : ℕ → ℕ → ℕ → List Item
started moment freed step =
    at moment freed (Call 0 step) Handled ∷ at moment freed Sync Stored
    ∷ at moment freed (Reply kinds.TraceStart 0) Stored
    ∷ at moment freed (Reply kinds.Init 0) Stored
    ∷ at moment freed (Reply kinds.Systime 0) Stored
    ∷ at moment freed (Reply kinds.ModuleCount 0) Stored ∷ []

-- two equal numbers
abbrev pub Same : ℕ → ℕ → Type 0
Same m n = m ≡ n

-- of one script, a journal is whole with each of its calls and the first of the commands
pub whole_of : (load : Load) (items : List Item) → length load.scripts ≡ 1
    → count_by (λ i. is_call_of 0 i.origin) items ≡ length (script_of load 0)
    → AreFirstCommands load items → IsWhole load items
whole_of load items one calls commands = record { scripts = scripts; commands = commands }
  where
    scripts : (writer : ℕ) → writer < length load.scripts
        → count_by (λ i. is_call_of writer i.origin) items ≡ length (script_of load writer)
    scripts zero h = calls
    scripts (suc writer) h = absurd (omega (arith, h, one))
