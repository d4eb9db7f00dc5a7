-- A recorder that is stopped and started again, its stream, and that its journal is legal and
-- whole.
use Rattle.std.proofs.Common.{◌≡◌, ℕ, List, [], ◌∷◌, ◌++◌, length, refl, rules}
use Rattle.sv_load.specs.Load.{Load}
use Rattle.sv_journal.specs.declared.journal.Kind.TheVariants as kinds
use Rattle.sv_journal.specs.declared.journal.Origin.TheVariants.{Call, Sync, Reply, Overflow}
use Rattle.sv_journal.specs.declared.journal.Outcome.TheVariants.{Stored, Refused, Ignored}
use Rattle.sv_journal.specs.declared.journal.Outcome.TheVariants.{Handled}
use Rattle.sv_journal.specs.declared.journal.Item.{Item}
use Rattle.sv_journal.specs.Legal.{IsLegal, IsWhole}
use Rattle.sv_journal.specs.Stream.{stream_of, IsCalm}
use Rattle.sv_journal.proofs.examples.Words.{at, load_of, mark, marks, start, started, stop}
use Rattle.sv_journal.proofs.examples.Words.{whole_of}

abbrev pub load : Load
load = load_of 64 (start 0 ∷ marks 7 300 ++ (stop 1 ∷ mark 1 300 ∷ start 1 ∷ []))

abbrev pub items : List Item
items = started 0 0 0 ++ (
    at 1 0 (Call 0 1) Stored ∷ at 2 0 (Call 0 2) Stored ∷ at 3 0 (Call 0 3) Stored ∷
    at 4 0 (Call 0 4) Stored ∷ at 5 0 (Call 0 5) Stored ∷ at 6 0 (Call 0 6) Stored ∷
    at 7 0 (Call 0 7) Stored ∷ at 8 0 (Call 0 8) Handled ∷
    at 8 0 (Reply kinds.TraceStop 0) Refused ∷ at 9 0 (Call 0 9) Ignored ∷
    at 10 40 (Call 0 10) Handled ∷ at 10 40 Sync Stored ∷ at 10 40 (Overflow 1) Stored ∷
    at 10 40 (Reply kinds.TraceStart 0) Stored ∷ at 10 40 (Reply kinds.Init 0) Stored ∷
    at 10 40 (Reply kinds.Systime 0) Stored ∷ at 10 40 (Reply kinds.ModuleCount 0) Stored ∷ [])

abbrev pub bytes : List ℕ
bytes =
    0 ∷ 0 ∷ 0 ∷ 0 ∷ 0 ∷ 0 ∷ 0 ∷ 0 ∷ 0 ∷ 0 ∷ 10 ∷ 0 ∷ 24 ∷ 12 ∷ 192 ∷ 132 ∷ 61 ∷ 192 ∷ 132 ∷ 61 ∷
    128 ∷ 128 ∷ 128 ∷ 128 ∷ 2 ∷ 2 ∷ 0 ∷ 12 ∷ 0 ∷ 0 ∷ 27 ∷ 1 ∷ 0 ∷ 0 ∷ 15 ∷ 172 ∷ 2 ∷ 1 ∷ 15 ∷
    172 ∷ 2 ∷ 1 ∷ 15 ∷ 172 ∷ 2 ∷ 1 ∷ 15 ∷ 172 ∷ 2 ∷ 1 ∷ 15 ∷ 172 ∷ 2 ∷ 1 ∷ 15 ∷ 172 ∷ 2 ∷ 1 ∷ 15 ∷
    172 ∷ 2 ∷ 1 ∷ 0 ∷ 0 ∷ 0 ∷ 0 ∷ 0 ∷ 0 ∷ 0 ∷ 0 ∷ 0 ∷ 0 ∷ 1 ∷ 1 ∷ 3 ∷ 10 ∷ 0 ∷ 24 ∷ 12 ∷ 192 ∷
    132 ∷ 61 ∷ 192 ∷ 132 ∷ 61 ∷ 128 ∷ 128 ∷ 128 ∷ 128 ∷ 2 ∷ 2 ∷ 0 ∷ 12 ∷ 10 ∷ 0 ∷ 27 ∷ 1 ∷ 0 ∷ 0 ∷
    []

count : length items ≡ 23
count = refl

stream : stream_of load items ≡ bytes
stream = refl

pub legal : IsLegal load items
legal = search rules

pub whole : IsWhole load items
whole = whole_of load items refl refl refl

calm : IsCalm load items
calm = search rules
