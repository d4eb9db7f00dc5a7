-- How a file is left that was read to its end, or not.
use Rattle.std.specs.Prelude.{ℕ, Bool, true, false, nat_le, Result, Ok, Err}
use Rattle.sv_base.specs.declared.copies.ReadAll.{ReadAll}
use Rattle.sv_base.specs.declared.copies.ReadAll.TheVariants.{Failed, TooLong, NoMemory}

-- whether the file is still open: its end and a failure close it
abbrev pub is_left_open : {T : Type 0} → Result T ReadAll → Bool
is_left_open (Ok bytes) = false
is_left_open (Err Failed) = false
is_left_open (Err TooLong) = true
is_left_open (Err NoMemory) = true

-- whether the file is still open after a read that fills so much room: it is where all is filled
abbrev pub is_filled : {E : Type 0} → ℕ → Result ℕ E → Bool
is_filled room (Ok count) = nat_le room count
is_filled room (Err e) = false
