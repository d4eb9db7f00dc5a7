-- A start that tells the time in microseconds, its stream, and that it is legal and whole.
use Rattle.std.proofs.Common.{◌≡◌, ℕ, true, List, [], ◌∷◌, length, refl, rules}
use Rattle.sv_load.specs.Load.{Load}
use Rattle.sv_journal.specs.declared.journal.Item.{Item}
use Rattle.sv_journal.specs.Legal.{IsLegal, IsWhole}
use Rattle.sv_journal.specs.Stream.{stream_of, IsCalm}
use Rattle.sv_journal.proofs.examples.Words.{load_of, start, started, whole_of}

abbrev pub load : Load
load = record (load_of 1024 (start 3 ∷ [])) { clock = 2; timed = true }

abbrev pub items : List Item
items = started 3 0 0

abbrev pub bytes : List ℕ
bytes =
    0 ∷ 0 ∷ 0 ∷ 0 ∷ 0 ∷ 0 ∷ 0 ∷ 0 ∷ 0 ∷ 0 ∷ 10 ∷ 3 ∷ 24 ∷ 10 ∷ 2 ∷ 192 ∷ 132 ∷ 61 ∷ 128 ∷ 128 ∷
    128 ∷ 128 ∷ 2 ∷ 2 ∷ 0 ∷ 13 ∷ 224 ∷ 198 ∷ 91 ∷ 0 ∷ 0 ∷ 27 ∷ 1 ∷ 0 ∷ 0 ∷ []

count : length items ≡ 6
count = refl

stream : stream_of load items ≡ bytes
stream = refl

pub legal : IsLegal load items
legal = search rules

pub whole : IsWhole load items
whole = whole_of load items refl refl refl

calm : IsCalm load items
calm = search rules
