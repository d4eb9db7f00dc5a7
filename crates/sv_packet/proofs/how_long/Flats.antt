-- Flat packets: how many numbers they have, and how long their text is.
use Rattle.std.proofs.Common.{◌≡◌, ℕ, ◌≤◌, Some, arith}
use Rattle.std.proofs.lemmas.Bool.Decides.{nat_tests}
use Rattle.sv_packet.specs.Flat.{flat_count, text_most}

pub flat_few : (id count : ℕ) → flat_count id ≡ Some count → count ≤ 4
flat_few id count form = grind (arith, nat_tests)

pub text_few : (id : ℕ) → text_most id ≤ 128
text_few id = grind (arith, nat_tests)
