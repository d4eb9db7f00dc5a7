-- The numbers of a line as the program holds them.
use Rattle.std.specs.Prelude.{ℕ, ◌-◌, ◌^◌, List, min, unwrap_or}
use Rattle.sv_text.specs.Words.{number_of}

-- in 32 bits; a greater number counts as the greatest that they hold
abbrev pub capped : ℕ → ℕ
capped n = min n (2 ^ 32 - 1)

-- the number that a word counts as; a word that is none counts as 0
abbrev pub counts_as : List ℕ → ℕ
counts_as word = capped (unwrap_or (number_of word) 0)
