use Rattle.std.proofs.Common.{◌≡◌, length, take}
use Rattle.sv_prim.specs.Number.{numbers_spelling}
use Rattle.sv_packet.proofs.Shared.{Counted}
use Rattle.sv_workload.proofs.acts.payload.Given as goal

-- the first numbers are spelled
abbrev pub invariant-loop-number : goal.invariant-loop-number
invariant-loop-number l =
    (l.spelled.items ≡ numbers_spelling (take l.number-index l.numbers)) × Counted l.numbers
    l.number-index (length l.spelled.items)
