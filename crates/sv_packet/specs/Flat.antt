-- Flat packets: those that a recorder forms from an identifier, some numbers and a text.
use Rattle.std.specs.Prelude.{◌≡◌, ℕ, Bool, List, [], ◌∷◌, ◌++◌, map, Option, Some, None, ◌==◌}
use Rattle.std.specs.Prelude.{◌||◌, if◌then◌else◌}
use Rattle.sv_packet.specs.declared.event.Event.{Event}
use Rattle.sv_packet.specs.Table.{identifier, fields, Number, Text}

-- how many numbers a flat packet with the identifier has
abbrev pub flat_count : ℕ → Option ℕ
flat_count id =
    if id == 1 then Some 1
    else if id == 9 then Some 2
    else if id == 10 then Some 0
    else if id == 11 then Some 0
    else if id == 12 then Some 1
    else if id == 13 then Some 2
    else if id == 14 then Some 0
    else if id == 21 then Some 4
    else if id == 22 then Some 2
    else if id == 24 then Some 4
    else if id == 27 then Some 1
    else None

-- whether a text stands behind the numbers
abbrev pub has_text : ℕ → Bool
has_text id = id == 9 || id == 14 || id == 22

-- how long that text may be, in bytes
abbrev pub text_most : ℕ → ℕ
text_most id = if has_text id then 128 else 0

-- the event has the identifier, the numbers in their order, and the text where it has one
pub record IsFlat (id : ℕ) (numbers text : List ℕ) (event : Event) : Type 0 where
  pub same : identifier event ≡ id
  pub parts : fields event ≡ map Number numbers ++ (if has_text id then Text text ∷ [] else [])
