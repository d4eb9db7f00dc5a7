-- How many bytes fields have.
use Rattle.std.proofs.Common.{◌≡◌, ℕ, ◌+◌, List, ◌++◌, length}
use Rattle.std.proofs.lemmas.List.{length-append}

pub appended : (a b : List ℕ) → length (a ++ b) ≡ length a + length b
appended a b = length-append a b
