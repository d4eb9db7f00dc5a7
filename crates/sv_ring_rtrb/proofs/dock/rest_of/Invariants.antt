use Rattle.std.proofs.Common.{◌≡◌, ◌+◌, ◌≤◌, ◌++◌, length, vec_capacity}
use Rattle.rtrb.specs.Ring.{received, known_items}
use Rattle.sv_ring_rtrb.proofs.dock.rest_of.Given as goal

abbrev pub invariant-loop-place : goal.invariant-loop-place
invariant-loop-place l =
    (received l.consumer ≡ received l.initial.consumer ++ l.rest.items)
    × (received l.consumer ++ known_items l.consumer
    ≡ received l.initial.consumer ++ known_items l.initial.consumer)
    × (length (known_items l.consumer) + l._place ≡ l.left)
    × (length l.rest.items ≡ l._place)
    × (l.left ≤ vec_capacity l.rest)
