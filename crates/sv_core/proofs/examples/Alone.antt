-- A simulated journal worked out by hand, and its turns.
use Rattle.std.proofs.Common.{◌≡◌, false, List, [], ◌∷◌, refl, rules}
use Rattle.sv_load.specs.Load.{Load}
use Rattle.sv_journal.specs.declared.journal.Kind.TheVariants as kinds
use Rattle.sv_journal.specs.declared.journal.Origin.TheVariants.{Call, Sync, Reply}
use Rattle.sv_journal.specs.declared.journal.Outcome.TheVariants.{Stored, Handled}
use Rattle.sv_journal.specs.declared.journal.Item.{Item}
use Rattle.sv_journal.specs.Legal.{IsWhole}
use Rattle.sv_journal.proofs.Shared.{whole_of, at, start}
use Rattle.sv_core.specs.Turns.{Turns, turns_of}
use Rattle.sv_core.specs.Simulated.{IsSimulated}
use Rattle.sv_core.proofs.examples.Short.{turn}

abbrev pub load : Load
load =
    record {
      ring = 1024;
      clock = 1000000;
      cpu = 1000000;
      base = 536870912;
      shift = 2;
      timed =
          false;
      lines = [];
      tasks = [];
      modules = [];
      commands = [];
      scripts = (start 0 ∷ []) ∷ [];
      scheduled = false;
      schedule = [];
    }

abbrev pub items : List Item
items =
    at 0 0 (Call 0 0) Handled ∷
    at 0 0 (Sync) Stored ∷
    at 0 0 (Reply kinds.TraceStart 0) Stored ∷
    at 0 0 (Reply kinds.Init 0) Stored ∷
    at 0 0 (Reply kinds.Systime 0) Stored ∷
    at 0 0 (Reply kinds.ModuleCount 0) Stored ∷ []

abbrev pub turns : Turns
turns = record { steps = turn 0 false ∷ []; frees = 0 ∷ 0 ∷ 0 ∷ 0 ∷ 0 ∷ [] }

turned : turns_of items ≡ turns
turned = refl

whole : IsWhole load items
whole = whole_of load items refl refl refl

pub simulated : IsSimulated load items
simulated =
    record {
      legal = search rules;
      whole = whole;
      ordered = record
          { steps = refl; freed = search rules };
    }
