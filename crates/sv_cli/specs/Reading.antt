-- Files that are read whole.
use Rattle.std.specs.Prelude.{◌≡◌, ℕ, ◌<◌, ◌≤◌, List, length, Result, Ok, Err}
use Rattle.std.specs.Global.{Vec}
use Rattle.sv_base.specs.declared.copies.ReadAll.{ReadAll}
use Rattle.sv_base.specs.declared.copies.ReadAll.TheVariants.{Failed, TooLong, NoMemory}

-- of a file so many bytes were taken: all of them, which are no more than the limit, or fewer, and
-- why
abbrev pub IsReadWhole : ℕ → List ℕ → List ℕ → Result (Vec ℕ) ReadAll → Type 0
IsReadWhole limit file taken (Ok bytes) =
    (taken ≡ file) × (bytes.items ≡ file) × (length file ≤ limit)
IsReadWhole limit file taken (Err Failed) = length taken ≤ limit
IsReadWhole limit file taken (Err TooLong) = limit < length taken
IsReadWhole limit file taken (Err NoMemory) = Unit {0}
