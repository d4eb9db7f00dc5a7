-- The words that a line of the table tells.
use Rattle.std.specs.Prelude.{ℕ, ◌-◌, List, [], ◌∷◌, ◌++◌, map, take, drop, length}
use Rattle.std.specs.Fmt.{decimal}
use Rattle.sv_report.specs.declared.table.Told.{Told}
use Rattle.sv_report.specs.declared.table.Rest.{Rest}
use Rattle.sv_report.specs.declared.table.Rest.TheVariants.{Nothing, Text, Payload, Print}
use Rattle.sv_report.specs.Lines.{quoted, hex_of}

-- what follows the numbers
abbrev pub rest_words : Rest → List (List ℕ)
rest_words Nothing = []
rest_words (Text text) = quoted text.now ∷ []
rest_words (Payload bytes) = hex_of bytes.now ∷ []
rest_words (Print text options args) =
    quoted text.now ∷ decimal options ∷ decimal (length args.now) ∷ map decimal args.now

-- the name, the numbers, and what follows them
abbrev pub told_words : Told → List (List ℕ)
told_words told =
    drop (16 - told.size) told.name.now
    ∷ (map decimal (take told.count told.numbers) ++ rest_words told.rest)
