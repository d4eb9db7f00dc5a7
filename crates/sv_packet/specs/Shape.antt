-- Payloads whose fields go by the identifier: some numbers, and behind them a text or none.
use Rattle.std.specs.Prelude.{◌≡◌, ℕ, ◌≤◌, ◌⊎◌, Bool, List, [], ◌∷◌, ◌++◌, map, ◌==◌, if◌then◌else◌}
use Rattle.std.specs.List.{list_any}
use Rattle.sv_packet.specs.Table.{Field, Number, Text}

abbrev pub is_one_of : ℕ → List ℕ → Bool
is_one_of id ids = list_any (λ other. id == other) ids

-- how many numbers a payload begins with
abbrev pub number_count : ℕ → ℕ
number_count id =
    if is_one_of id (1 ∷ 2 ∷ 4 ∷ 6 ∷ 8 ∷ 12 ∷ 15 ∷ 16 ∷ 19 ∷ 25 ∷ 27 ∷ 29 ∷ []) then 1
    else if is_one_of id (7 ∷ 9 ∷ 13 ∷ 22 ∷ []) then 2
    else if is_one_of id (21 ∷ 24 ∷ []) then 4
    else 0

-- whether a text ends the payload
abbrev pub ends_in_text : ℕ → Bool
ends_in_text id = is_one_of id (9 ∷ 14 ∷ 22 ∷ 25 ∷ [])

-- the fields of such a payload
abbrev pub fields_by : ℕ → List ℕ → List ℕ → List Field
fields_by id numbers text = map Number numbers ++ (if ends_in_text id then Text text ∷ [] else [])

-- the identifiers that tell it: all but those of prints, of ends of calls, and of opaque events
-- alone
abbrev pub IsRegularId : ℕ → Type 0
IsRegularId id = (id ≤ 22) ⊎ (id ≡ 24) ⊎ (id ≡ 25) ⊎ (id ≡ 27) ⊎ (id ≡ 29)
