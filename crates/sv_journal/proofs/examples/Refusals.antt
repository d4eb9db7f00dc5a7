-- A ring that is full until it is read once, its stream, and that its journal is legal and whole.
use Rattle.std.proofs.Common.{◌≡◌, ℕ, List, [], ◌∷◌, ◌++◌, length, refl, rules}
use Rattle.sv_load.specs.Load.{Load}
use Rattle.sv_journal.specs.declared.journal.Origin.TheVariants.{Call, Overflow}
use Rattle.sv_journal.specs.declared.journal.Outcome.TheVariants.{Stored, Refused}
use Rattle.sv_journal.specs.declared.journal.Item.{Item}
use Rattle.sv_journal.specs.Legal.{IsLegal, IsWhole}
use Rattle.sv_journal.specs.Stream.{stream_of, IsCalm}
use Rattle.sv_journal.proofs.examples.Words.{at, load_of, marks, start, started, whole_of}

abbrev pub load : Load
load = load_of 64 (start 0 ∷ marks 13 5)

abbrev pub items : List Item
items = started 0 0 0 ++ (
    at 1 0 (Call 0 1) Stored ∷ at 2 0 (Call 0 2) Stored ∷ at 3 0 (Call 0 3) Stored ∷
    at 4 0 (Call 0 4) Stored ∷ at 5 0 (Call 0 5) Stored ∷ at 6 0 (Call 0 6) Stored ∷
    at 7 0 (Call 0 7) Stored ∷ at 8 0 (Call 0 8) Stored ∷ at 9 0 (Call 0 9) Stored ∷
    at 10 0 (Call 0 10) Refused ∷ at 11 0 (Overflow 1) Refused ∷ at 11 0 (Call 0 11) Refused ∷
    at 12 0 (Overflow 2) Refused ∷ at 12 0 (Call 0 12) Refused ∷ at 13 20 (Overflow 3) Stored ∷
    at 13 20 (Call 0 13) Stored ∷ [])

abbrev pub bytes : List ℕ
bytes =
    0 ∷ 0 ∷ 0 ∷ 0 ∷ 0 ∷ 0 ∷ 0 ∷ 0 ∷ 0 ∷ 0 ∷ 10 ∷ 0 ∷ 24 ∷ 12 ∷ 192 ∷ 132 ∷ 61 ∷ 192 ∷ 132 ∷ 61 ∷
    128 ∷ 128 ∷ 128 ∷ 128 ∷ 2 ∷ 2 ∷ 0 ∷ 12 ∷ 0 ∷ 0 ∷ 27 ∷ 1 ∷ 0 ∷ 0 ∷ 15 ∷ 5 ∷ 1 ∷ 15 ∷ 5 ∷ 1 ∷
    15 ∷ 5 ∷ 1 ∷ 15 ∷ 5 ∷ 1 ∷ 15 ∷ 5 ∷ 1 ∷ 15 ∷ 5 ∷ 1 ∷ 15 ∷ 5 ∷ 1 ∷ 15 ∷ 5 ∷ 1 ∷ 15 ∷ 5 ∷ 1 ∷ 1 ∷
    3 ∷ 4 ∷ 15 ∷ 5 ∷ 0 ∷ []

count : length items ≡ 22
count = refl

stream : stream_of load items ≡ bytes
stream = refl

pub legal : IsLegal load items
legal = search rules

pub whole : IsWhole load items
whole = whole_of load items refl refl refl

calm : IsCalm load items
calm = search rules
