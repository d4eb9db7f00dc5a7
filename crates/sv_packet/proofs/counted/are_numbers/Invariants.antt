use Rattle.std.proofs.Common.{List, ℕ}
use Rattle.sv_packet.specs.Parts.{AreNumbers}
use Rattle.sv_packet.specs.Reader.{TakesPart}
use Rattle.sv_packet.proofs.counted.are_numbers.Given as goal

abbrev pub invariant-loop : goal.invariant-loop
invariant-loop l =
    (numbers : List ℕ) × TakesPart (AreNumbers l.counter) l.initial.reader l.reader numbers
