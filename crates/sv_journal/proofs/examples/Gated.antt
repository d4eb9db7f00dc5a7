-- A full ring that nobody reads for thirty calls.
use Rattle.std.proofs.Common.{◌≡◌, List, [], ◌∷◌, ◌++◌, refl, rules}
use Rattle.sv_load.specs.Load.{Load}
use Rattle.sv_journal.specs.declared.journal.Origin.TheVariants.{Call, Overflow}
use Rattle.sv_journal.specs.declared.journal.Outcome.TheVariants.{Stored, Refused}
use Rattle.sv_journal.specs.declared.journal.Item.{Item}
use Rattle.sv_journal.specs.Legal.{IsLegal}
use Rattle.sv_journal.specs.Stream.{stream_of}
use Rattle.sv_journal.proofs.examples.Words.{at, load_of, marks, start, started}

abbrev pub load : Load
load = load_of 64 (start 0 ∷ marks 40 5)

abbrev pub items : List Item
items = started 0 0 0 ++ (
    at 1 0 (Call 0 1) Stored ∷ at 2 0 (Call 0 2) Stored ∷ at 3 0 (Call 0 3) Stored ∷
    at 4 0 (Call 0 4) Stored ∷ at 5 0 (Call 0 5) Stored ∷ at 6 0 (Call 0 6) Stored ∷
    at 7 0 (Call 0 7) Stored ∷ at 8 0 (Call 0 8) Stored ∷ at 9 0 (Call 0 9) Stored ∷
    at 10 0 (Call 0 10) Refused ∷ at 11 0 (Overflow 1) Refused ∷ at 11 0 (Call 0 11) Refused ∷
    at 12 0 (Overflow 2) Refused ∷ at 12 0 (Call 0 12) Refused ∷ at 13 0 (Overflow 3) Refused ∷
    at 13 0 (Call 0 13) Refused ∷ at 14 0 (Overflow 4) Refused ∷ at 14 0 (Call 0 14) Refused ∷
    at 15 0 (Overflow 5) Refused ∷ at 15 0 (Call 0 15) Refused ∷ at 16 0 (Overflow 6) Refused ∷
    at 16 0 (Call 0 16) Refused ∷ at 17 0 (Overflow 7) Refused ∷ at 17 0 (Call 0 17) Refused ∷
    at 18 0 (Overflow 8) Refused ∷ at 18 0 (Call 0 18) Refused ∷ at 19 0 (Overflow 9) Refused ∷
    at 19 0 (Call 0 19) Refused ∷ at 20 0 (Overflow 10) Refused ∷ at 20 0 (Call 0 20) Refused ∷
    at 21 0 (Overflow 11) Refused ∷ at 21 0 (Call 0 21) Refused ∷ at 22 0 (Overflow 12) Refused ∷
    at 22 0 (Call 0 22) Refused ∷ at 23 0 (Overflow 13) Refused ∷ at 23 0 (Call 0 23) Refused ∷
    at 24 0 (Overflow 14) Refused ∷ at 24 0 (Call 0 24) Refused ∷ at 25 0 (Overflow 15) Refused ∷
    at 25 0 (Call 0 25) Refused ∷ at 26 0 (Overflow 16) Refused ∷ at 26 0 (Call 0 26) Refused ∷
    at 27 0 (Overflow 17) Refused ∷ at 27 0 (Call 0 27) Refused ∷ at 28 0 (Overflow 18) Refused ∷
    at 28 0 (Call 0 28) Refused ∷ at 29 0 (Overflow 19) Refused ∷ at 29 0 (Call 0 29) Refused ∷
    at 30 0 (Overflow 20) Refused ∷ at 30 0 (Call 0 30) Refused ∷ at 31 0 (Overflow 21) Refused ∷
    at 31 0 (Call 0 31) Refused ∷ at 32 0 (Overflow 22) Refused ∷ at 32 0 (Call 0 32) Refused ∷
    at 33 0 (Overflow 23) Refused ∷ at 33 0 (Call 0 33) Refused ∷ at 34 0 (Overflow 24) Refused ∷
    at 34 0 (Call 0 34) Refused ∷ at 35 0 (Overflow 25) Refused ∷ at 35 0 (Call 0 35) Refused ∷
    at 36 0 (Overflow 26) Refused ∷ at 36 0 (Call 0 36) Refused ∷ at 37 0 (Overflow 27) Refused ∷
    at 37 0 (Call 0 37) Refused ∷ at 38 0 (Overflow 28) Refused ∷ at 38 0 (Call 0 38) Refused ∷
    at 39 0 (Overflow 29) Refused ∷ at 39 0 (Call 0 39) Refused ∷ at 40 61 (Overflow 30) Stored ∷
    at 40 61 (Call 0 40) Stored ∷ [])

stream : stream_of load items ≡
    0 ∷ 0 ∷ 0 ∷ 0 ∷ 0 ∷ 0 ∷ 0 ∷ 0 ∷ 0 ∷ 0 ∷ 10 ∷ 0 ∷ 24 ∷ 12 ∷ 192 ∷ 132 ∷ 61 ∷ 192 ∷ 132 ∷ 61 ∷
    128 ∷ 128 ∷ 128 ∷ 128 ∷ 2 ∷ 2 ∷ 0 ∷ 12 ∷ 0 ∷ 0 ∷ 27 ∷ 1 ∷ 0 ∷ 0 ∷ 15 ∷ 5 ∷ 1 ∷ 15 ∷ 5 ∷ 1 ∷
    15 ∷ 5 ∷ 1 ∷ 15 ∷ 5 ∷ 1 ∷ 15 ∷ 5 ∷ 1 ∷ 15 ∷ 5 ∷ 1 ∷ 15 ∷ 5 ∷ 1 ∷ 15 ∷ 5 ∷ 1 ∷ 15 ∷ 5 ∷ 1 ∷ 1 ∷
    30 ∷ 31 ∷ 15 ∷ 5 ∷ 0 ∷ []
stream = refl

pub legal : IsLegal load items
legal = search rules
