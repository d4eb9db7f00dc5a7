use Rattle.std.proofs.Common.{◌≡◌, length}
use Rattle.sv_tests_rings.proofs.queue.fill_from.Given as goal

abbrev pub invariant-loop-index : goal.invariant-loop-index
invariant-loop-index l = length l.block ≡ length l.initial.block
