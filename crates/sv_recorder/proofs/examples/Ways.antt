-- What is known to be freed over a journal worked out by hand: which ways of a ring it follows, and
-- which it does not.
use Rattle.std.proofs.Common.{◌≡◌, ℕ, ◌<◌, [], ◌∷◌, ◌⊎◌, inl, inr, refl, arith, rules}
use Rattle.sv_ring.specs.Ring.{Way, Still, Oldest, Plan, Beside}
use Rattle.sv_recorder.specs.Freed.{AreFreed}
use Rattle.sv_journal.proofs.Shared.{alone_load as load, alone_items as items}

apart : (n m : ℕ) → n ≡ m → (n < m) ⊎ (m < n) → ⊥
apart n m same (inl less) = omega (arith, same, less)
apart n m same (inr more) = omega (arith, same, more)

still : AreFreed load [] items Still 0 Still 0
still = search rules

oldest : AreFreed load [] items Oldest 0 Oldest 0
oldest = search rules

beside : AreFreed load [] items Beside 0 Beside 0
beside = search rules

-- five writes use up five numbers; before the first there is nothing to free
planned : AreFreed load [] items (Plan (7 ∷ 0 ∷ 0 ∷ 0 ∷ 0 ∷ 9 ∷ [])) 0 (Plan (9 ∷ [])) 0
planned = search rules

-- a plan that frees three of the ten zeros before the second write
not_planned : (last : Way) (now : ℕ) → AreFreed load [] items (Plan (0 ∷ 3 ∷ [])) 0 last now → ⊥
not_planned last now moves = apart 0 3 (moves.1.1.0.0 refl) (inl (omega arith))

not_left : (way last : Way) → AreFreed load [] items way 0 last 1 → ⊥
not_left way last moves = apart 1 0 (moves.1.1.1.1.1.1.1) (inr (omega arith))
