-- A simulated journal of two writers and a schedule, worked out by hand, and its turns.
use Rattle.std.proofs.Common.{◌≡◌, ℕ, zero, suc, ◌<◌, true, false, List, [], ◌∷◌, length, refl}
use Rattle.std.proofs.Common.{arith, rules}
use Rattle.std.specs.Prelude.{count_by}
use Rattle.sv_load.specs.declared.load.Action.TheVariants.{Step, Read}
use Rattle.sv_load.specs.Load.{Load, script_of}
use Rattle.sv_journal.specs.declared.journal.Kind.TheVariants as kinds
use Rattle.sv_journal.specs.declared.journal.Origin.TheVariants.{Call, Sync, Reply}
use Rattle.sv_journal.specs.declared.journal.Outcome.TheVariants.{Stored, Ignored, Handled}
use Rattle.sv_journal.specs.declared.journal.Item.{Item}
use Rattle.sv_journal.specs.Items.{is_call_of}
use Rattle.sv_journal.specs.Legal.{IsLegal, IsWhole}
use Rattle.sv_journal.proofs.Shared.{at, start, mark, Same}
use Rattle.sv_core.specs.Turns.{Turns, turns_of}
use Rattle.sv_core.specs.Simulated.{IsSimulated}
use Rattle.sv_core.proofs.examples.Short.{turn}

-- the first writer is through before its line of the schedule ends
abbrev pub load : Load
load =
    record {
      ring = 1024;
      clock = 1000000;
      cpu = 1000000;
      base = 536870912;
      shift = 2;
      timed = false;
      lines = [];
      tasks = [];
      modules = [];
      commands = [];
      scripts = (start 0 ∷ mark 1 5 ∷ []) ∷ (mark 2 7 ∷ mark 3 8 ∷ []) ∷ [];
      scheduled = true;
      schedule = Step 1 1 ∷ Step 0 1 ∷ Read 10 ∷ Step 0 9 ∷ [];
    }

abbrev pub items : List Item
items =
    at 2 0 (Call 1 0) Ignored ∷
    at 2 0 (Call 0 0) Handled ∷
    at 2 0 (Sync) Stored ∷
    at 2 0 (Reply kinds.TraceStart 0) Stored ∷
    at 2 0 (Reply kinds.Init 0) Stored ∷
    at 2 0 (Reply kinds.Systime 0) Stored ∷
    at 2 0 (Reply kinds.ModuleCount 0) Stored ∷
    at 3 10 (Call 0 1) Stored ∷
    at 6 10 (Call 1 1) Stored ∷ []

abbrev pub turns : Turns
turns =
    record {
      steps = turn 1 false ∷ turn 0 false ∷ turn 0 false ∷ turn 1 false ∷ [];
      frees = 0 ∷ 0 ∷ 0 ∷ 0 ∷ 0 ∷ 10 ∷ 0 ∷ [];
    }

turned : turns_of items ≡ turns
turned = refl

whole : IsWhole load items
whole = record { scripts = scripts; commands = refl } where
  scripts : (writer : ℕ) → writer < 2
      → count_by (λ i. is_call_of writer i.origin) items ≡ length (script_of load writer)
  scripts zero h = refl
  scripts (suc zero) h = refl
  scripts (suc (suc writer)) h = absurd (omega (arith, h))

pub simulated : IsSimulated load items
simulated =
    record {
      legal = search rules;
      whole = whole;
      ordered = record { steps = refl; freed = search rules };
    }

-- as if the host had read everything before the last step
abbrev ahead : List Item
ahead =
    at 2 0 (Call 1 0) Ignored ∷
    at 2 0 (Call 0 0) Handled ∷
    at 2 0 (Sync) Stored ∷
    at 2 0 (Reply kinds.TraceStart 0) Stored ∷
    at 2 0 (Reply kinds.Init 0) Stored ∷
    at 2 0 (Reply kinds.Systime 0) Stored ∷
    at 2 0 (Reply kinds.ModuleCount 0) Stored ∷
    at 3 10 (Call 0 1) Stored ∷
    at 6 37 (Call 1 1) Stored ∷ []

ahead_legal : IsLegal load ahead
ahead_legal = search rules

not_ahead : IsSimulated load ahead → ⊥
not_ahead s = let h : Same 37 10 = s.ordered.freed.1.taken in omega arith
