use Rattle.std.proofs.Common.{◌≡◌, ◌≤◌, vec_len, vec_capacity}
use Rattle.sv_packet.specs.Parts.{AreNumbers}
use Rattle.sv_packet.specs.Reader.{TakesPart}
use Rattle.sv_packet.proofs.numbers_ref.numbers.Given as goal

abbrev pub invariant-loop : goal.invariant-loop
invariant-loop l =
    (vec_len l.items ≡ l.counter) × (l.count ≤ vec_capacity l.items) ×
    TakesPart (AreNumbers l.counter) l.initial.reader l.reader l.items.items
