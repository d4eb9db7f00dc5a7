-- Two commands, one of which answers nothing, the stream, and that the journal is legal and whole.
use Rattle.std.proofs.Common.{◌≡◌, ℕ, List, [], ◌∷◌, ◌++◌, length, refl, rules}
use Rattle.std.specs.Prelude.{codes}
use Rattle.sv_load.specs.Load.{Load}
use Rattle.sv_journal.specs.declared.journal.Kind.TheVariants as kinds
use Rattle.sv_journal.specs.declared.journal.Origin.TheVariants.{Call, Reply, Command}
use Rattle.sv_journal.specs.declared.journal.Outcome.TheVariants.{Stored, Handled}
use Rattle.sv_journal.specs.declared.journal.Item.{Item}
use Rattle.sv_journal.specs.Legal.{IsLegal, IsWhole}
use Rattle.sv_journal.specs.Stream.{stream_of, IsCalm}
use Rattle.sv_journal.proofs.examples.Words.{at, load_of, mark, start, started, whole_of}

abbrev pub load : Load
load = record (load_of 1024 (start 0 ∷ mark 1 5 ∷ mark 1 6 ∷ [])) {
  modules = record { events = 3; name = codes "M=Net" } ∷ [];
  commands = record { byte = 128; param = 0 } ∷ record { byte = 9; param = 0 } ∷ [];
}

abbrev pub items : List Item
items = started 0 0 0 ++ (
    at 1 0 (Call 0 1) Stored ∷ at 1 0 (Command 128 0) Handled ∷
    at 1 0 (Reply kinds.Module 0) Stored ∷ at 2 0 (Call 0 2) Stored ∷
    at 2 0 (Command 9 0) Handled ∷ [])

abbrev pub bytes : List ℕ
bytes =
    0 ∷ 0 ∷ 0 ∷ 0 ∷ 0 ∷ 0 ∷ 0 ∷ 0 ∷ 0 ∷ 0 ∷ 10 ∷ 0 ∷ 24 ∷ 12 ∷ 192 ∷ 132 ∷ 61 ∷ 192 ∷ 132 ∷ 61 ∷
    128 ∷ 128 ∷ 128 ∷ 128 ∷ 2 ∷ 2 ∷ 0 ∷ 12 ∷ 0 ∷ 0 ∷ 27 ∷ 1 ∷ 1 ∷ 0 ∷ 15 ∷ 5 ∷ 1 ∷ 22 ∷ 0 ∷ 128 ∷
    4 ∷ 5 ∷ 77 ∷ 61 ∷ 78 ∷ 101 ∷ 116 ∷ 0 ∷ 15 ∷ 6 ∷ 1 ∷ []

count : length items ≡ 11
count = refl

stream : stream_of load items ≡ bytes
stream = refl

pub legal : IsLegal load items
legal = search rules

pub whole : IsWhole load items
whole = whole_of load items refl refl refl

calm : IsCalm load items
calm = search rules
