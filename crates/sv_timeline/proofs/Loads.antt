-- What one more event does to loads.
use Rattle.std.proofs.Common.{◌≡◌, ℕ, ◌+◌, ◌-◌, ◌*◌, ◌≤◌, refl, arith}
use Rattle.std.specs.Prelude.{Bool, true, false, not, cond, ◌&&◌, if◌then◌else◌}

-- later: ticks came; same: they are of the run's context; begun: the run has ticks; sr, sn: the
-- context is the run's, the new ticks'
pub load_arith : (later same begun sr sn : Bool) (total new_total start last time : ℕ)
    → (same ≡ true → sr ≡ sn) → (later ≡ false → time ≤ last) → (begun ≡ false → last ≤ start)
    → start ≤ last → last ≤ time
    → new_total ≡ total + (if ((later && not same) && begun) && sr then last - start else 0)
    → new_total + (if (if later && not same then sn else sr) then time - (if later && not same
    then last else start) else 0) ≡ (total + (if sr then last - start else 0)) + (time - last) *
    cond sn 1 0
load_arith true true true true true total new_total start last time alike still fresh within le is =
    omega arith
load_arith true true true true false total new_total start last time alike still fresh within le
    is = let wrong = alike refl in absurd cc
load_arith true true true false true total new_total start last time alike still fresh within le
    is = let wrong = alike refl in absurd cc
load_arith true true true false false total new_total start last time alike still fresh within le
    is = omega arith
load_arith true true false true true total new_total start last time alike still fresh within le
    is = let back2 = fresh refl in omega arith
load_arith true true false true false total new_total start last time alike still fresh within le
    is = let back2 = fresh refl in let wrong = alike refl in absurd cc
load_arith true true false false true total new_total start last time alike still fresh within le
    is = let back2 = fresh refl in let wrong = alike refl in absurd cc
load_arith true true false false false total new_total start last time alike still fresh within le
    is = let back2 = fresh refl in omega arith
load_arith true false true true true total new_total start last time alike still fresh within le
    is = omega arith
load_arith true false true true false total new_total start last time alike still fresh within le
    is = omega arith
load_arith true false true false true total new_total start last time alike still fresh within le
    is = omega arith
load_arith true false true false false total new_total start last time alike still fresh within le
    is = omega arith
load_arith true false false true true total new_total start last time alike still fresh within le
    is = let back2 = fresh refl in omega arith
load_arith true false false true false total new_total start last time alike still fresh within le
    is = let back2 = fresh refl in omega arith
load_arith true false false false true total new_total start last time alike still fresh within le
    is = let back2 = fresh refl in omega arith
load_arith true false false false false total new_total start last time alike still fresh within le
    is = let back2 = fresh refl in omega arith
load_arith false true true true true total new_total start last time alike still fresh within le
    is = let back = still refl in omega arith
load_arith false true true true false total new_total start last time alike still fresh within le
    is = let back = still refl in let wrong = alike refl in absurd cc
load_arith false true true false true total new_total start last time alike still fresh within le
    is = let back = still refl in let wrong = alike refl in absurd cc
load_arith false true true false false total new_total start last time alike still fresh within le
    is = let back = still refl in omega arith
load_arith false true false true true total new_total start last time alike still fresh within le
    is = let back = still refl in let back2 = fresh refl in omega arith
load_arith false true false true false total new_total start last time alike still fresh within le
    is = let back = still refl in let back2 = fresh refl in let wrong = alike refl in absurd cc
load_arith false true false false true total new_total start last time alike still fresh within le
    is = let back = still refl in let back2 = fresh refl in let wrong = alike refl in absurd cc
load_arith false true false false false total new_total start last time alike still fresh within le
    is = let back = still refl in let back2 = fresh refl in omega arith
load_arith false false true true true total new_total start last time alike still fresh within le
    is = let back = still refl in omega arith
load_arith false false true true false total new_total start last time alike still fresh within le
    is = let back = still refl in omega arith
load_arith false false true false true total new_total start last time alike still fresh within le
    is = let back = still refl in omega arith
load_arith false false true false false total new_total start last time alike still fresh within le
    is = let back = still refl in omega arith
load_arith false false false true true total new_total start last time alike still fresh within le
    is = let back = still refl in let back2 = fresh refl in omega arith
load_arith false false false true false total new_total start last time alike still fresh within le
    is = let back = still refl in let back2 = fresh refl in omega arith
load_arith false false false false true total new_total start last time alike still fresh within le
    is = let back = still refl in let back2 = fresh refl in omega arith
load_arith false false false false false total new_total start last time alike still fresh within le
    is = let back = still refl in let back2 = fresh refl in omega arith
