-- Journals of the stopped run whose frees are not those of its order.
use Rattle.std.proofs.Common.{List, [], ◌∷◌, arith, rules}
use Rattle.sv_journal.specs.declared.journal.Kind.TheVariants as kinds
use Rattle.sv_journal.specs.declared.journal.Origin.TheVariants.{Call, Sync, Reply}
use Rattle.sv_journal.specs.declared.journal.Outcome.TheVariants.{Stored, Ignored, Handled}
use Rattle.sv_journal.specs.declared.journal.Item.{Item}
use Rattle.sv_journal.specs.Legal.{IsLegal}
use Rattle.sv_journal.proofs.Shared.{at, Same}
use Rattle.sv_core.specs.Simulated.{IsSimulated}
use Rattle.sv_core.proofs.examples.Stopped as stopped

-- as if the host had not read the stop's packet to its end
abbrev behind : List Item
behind =
    at 5 0 (Call 0 0) Ignored ∷
    at 5 0 (Call 0 1) Handled ∷
    at 5 0 (Sync) Stored ∷
    at 5 0 (Reply kinds.TraceStart 0) Stored ∷
    at 5 0 (Reply kinds.Init 0) Stored ∷
    at 5 0 (Reply kinds.Systime 0) Stored ∷
    at 5 0 (Reply kinds.ModuleCount 0) Stored ∷
    at 7 34 (Call 0 2) Stored ∷
    at 10 37 (Call 0 3) Handled ∷
    at 10 37 (Reply kinds.TraceStop 0) Stored ∷
    at 11 38 (Call 0 4) Ignored ∷ []

behind_legal : IsLegal stopped.load behind
behind_legal = search rules

not_behind : IsSimulated stopped.load behind → ⊥
not_behind s = let h : Same 38 39 = s.ordered.freed.1.taken in omega arith

-- as if it had read within a section
abbrev ahead : List Item
ahead =
    at 5 0 (Call 0 0) Ignored ∷
    at 5 0 (Call 0 1) Handled ∷
    at 5 0 (Sync) Stored ∷
    at 5 10 (Reply kinds.TraceStart 0) Stored ∷
    at 5 10 (Reply kinds.Init 0) Stored ∷
    at 5 10 (Reply kinds.Systime 0) Stored ∷
    at 5 10 (Reply kinds.ModuleCount 0) Stored ∷
    at 7 34 (Call 0 2) Stored ∷
    at 10 37 (Call 0 3) Handled ∷
    at 10 37 (Reply kinds.TraceStop 0) Stored ∷
    at 11 39 (Call 0 4) Ignored ∷ []

ahead_legal : IsLegal stopped.load ahead
ahead_legal = search rules

not_ahead : IsSimulated stopped.load ahead → ⊥
not_ahead s = let h : Same 10 0 = s.ordered.freed.0.0.0.0.1.taken in omega arith
