-- The numbers in bytes that spell some, one after another (UM08027, encoding of U32).
use Rattle.std.specs.Prelude.{ℕ, ◌+◌, ◌*◌, ◌%◌, List, [], ◌∷◌, nat_lt, if◌then◌else◌}

-- the first number begins with one more group of seven bits, the lowest
abbrev pub with_low_group : ℕ → List ℕ → List ℕ
with_low_group byte [] = []
with_low_group byte (number ∷ numbers) = (byte % 128 + 128 * number) ∷ numbers

-- a byte below 128 ends a number, and any other begins or continues the number of the next byte
abbrev pub numbers_read : List ℕ → List ℕ
numbers_read [] = []
numbers_read (b ∷ bs) =
    if nat_lt b 128 then b ∷ numbers_read bs else with_low_group b (numbers_read bs)
