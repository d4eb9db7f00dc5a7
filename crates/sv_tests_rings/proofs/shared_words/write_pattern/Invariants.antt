use Rattle.std.proofs.Common.{◌≡◌, ◌≤◌, length}
use Rattle.sv_tests_rings.proofs.shared_words.write_pattern.Given as goal

abbrev pub invariant-loop : goal.invariant-loop
invariant-loop g l =
    (goal.iterator-loop g).can_next l.iterator' × (goal.iterator-loop g).is_finite l.iterator'
    × (l.stored ≡ length l.up.writing.sent) × (l.up.name ≡ l.initial.up.name)
    × (length l.block ≡ 63) × (l.most ≤ 63)
