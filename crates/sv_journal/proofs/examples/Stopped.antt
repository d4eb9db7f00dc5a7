-- A recorder that is stopped again, its stream, and that its journal is legal and whole.
use Rattle.std.proofs.Common.{◌≡◌, ℕ, List, [], ◌∷◌, ◌++◌, length, refl, rules}
use Rattle.sv_load.specs.Load.{Load}
use Rattle.sv_journal.specs.declared.journal.Kind.TheVariants as kinds
use Rattle.sv_journal.specs.declared.journal.Origin.TheVariants.{Call, Reply}
use Rattle.sv_journal.specs.declared.journal.Outcome.TheVariants.{Stored, Ignored, Handled}
use Rattle.sv_journal.specs.declared.journal.Item.{Item}
use Rattle.sv_journal.specs.Legal.{IsLegal, IsWhole}
use Rattle.sv_journal.specs.Stream.{stream_of, IsCalm}
use Rattle.sv_journal.proofs.examples.Words.{at, load_of, mark, start, started, stop, whole_of}

abbrev pub load : Load
load = load_of 1024 (mark 5 9 ∷ start 0 ∷ mark 2 9 ∷ stop 3 ∷ mark 1 9 ∷ [])

abbrev pub items : List Item
items =
    at 5 0 (Call 0 0) Ignored ∷ started 5 0 1 ++ (
    at 7 34 (Call 0 2) Stored ∷ at 10 37 (Call 0 3) Handled ∷
    at 10 37 (Reply kinds.TraceStop 0) Stored ∷ at 11 39 (Call 0 4) Ignored ∷ [])

abbrev pub bytes : List ℕ
bytes =
    0 ∷ 0 ∷ 0 ∷ 0 ∷ 0 ∷ 0 ∷ 0 ∷ 0 ∷ 0 ∷ 0 ∷ 10 ∷ 5 ∷ 24 ∷ 12 ∷ 192 ∷ 132 ∷ 61 ∷ 192 ∷ 132 ∷ 61 ∷
    128 ∷ 128 ∷ 128 ∷ 128 ∷ 2 ∷ 2 ∷ 0 ∷ 12 ∷ 5 ∷ 0 ∷ 27 ∷ 1 ∷ 0 ∷ 0 ∷ 15 ∷ 9 ∷ 2 ∷ 11 ∷ 3 ∷ []

count : length items ≡ 11
count = refl

stream : stream_of load items ≡ bytes
stream = refl

pub legal : IsLegal load items
legal = search rules

pub whole : IsWhole load items
whole = whole_of load items refl refl refl

calm : IsCalm load items
calm = search rules
