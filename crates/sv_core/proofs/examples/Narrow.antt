-- A run of one writer over a ring that is too short for a start's answers: an overflow within a
-- section, and one before a call.
use Rattle.std.proofs.Common.{false, List, [], ◌∷◌, refl, arith, rules}
use Rattle.sv_load.specs.declared.load.Step.{Step}
use Rattle.sv_load.specs.Load.{Load}
use Rattle.sv_journal.specs.declared.journal.Kind.TheVariants as kinds
use Rattle.sv_journal.specs.declared.journal.Origin.TheVariants.{Call, Sync, Reply, Overflow}
use Rattle.sv_journal.specs.declared.journal.Outcome.TheVariants.{Stored, Refused, Handled}
use Rattle.sv_journal.specs.declared.journal.Item.{Item}
use Rattle.sv_journal.specs.Legal.{IsLegal, IsWhole}
use Rattle.sv_journal.proofs.Shared.{whole_of, at, start, mark, Same}
use Rattle.sv_core.specs.Simulated.{IsSimulated}

abbrev pub script : List Step
script = start 0 ∷ mark 1 5 ∷ []

abbrev pub load : Load
load =
    record {
      ring = 20;
      clock = 1000000;
      cpu = 1000000;
      base = 536870912;
      shift = 2;
      timed = false;
      lines = [];
      tasks = [];
      modules = [];
      commands = [];
      scripts = script ∷ [];
      scheduled =
          false;
      schedule = [];
    }

abbrev pub items : List Item
items =
    at 0 0 (Call 0 0) Handled ∷
    at 0 0 (Sync) Stored ∷
    at 0 0 (Reply kinds.TraceStart 0) Stored ∷
    at 0 0 (Reply kinds.Init 0) Refused ∷
    at 0 0 (Overflow 1) Stored ∷
    at 0 0 (Reply kinds.Systime 0) Stored ∷
    at 0 0 (Reply kinds.ModuleCount 0) Refused ∷
    at 1 18 (Overflow 1) Stored ∷
    at 1 18 (Call 0 1) Stored ∷ []

legal : IsLegal load items
legal = search rules

whole : IsWhole load items
whole = whole_of load items refl refl refl

simulated : IsSimulated load items
simulated =
    record {
      legal = legal;
      whole = whole;
      ordered = record { steps = refl; freed = search rules };
    }

-- as if nothing had been read
abbrev unread : List Item
unread =
    at 0 0 (Call 0 0) Handled ∷
    at 0 0 (Sync) Stored ∷
    at 0 0 (Reply kinds.TraceStart 0) Stored ∷
    at 0 0 (Reply kinds.Init 0) Refused ∷
    at 0 0 (Overflow 1) Stored ∷
    at 0 0 (Reply kinds.Systime 0) Stored ∷
    at 0 0 (Reply kinds.ModuleCount 0) Refused ∷
    at 1 0 (Overflow 1) Refused ∷
    at 1 0 (Call 0 1) Refused ∷ []

unread_legal : IsLegal load unread
unread_legal = search rules

not_unread : IsSimulated load unread → ⊥
not_unread s = let h : Same 0 18 = s.ordered.freed.1.taken in omega arith
