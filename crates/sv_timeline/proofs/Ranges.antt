-- Ranges of numbers, and what stands at each of them.
use Rattle.std.proofs.Common.{◌≡◌, ℕ, zero, suc, ◌+◌, ◌<◌, ◌≤◌, ◌∷◌, ◌++◌, map, refl, ap, ◌∙◌}
use Rattle.std.proofs.Common.{arith}
use Rattle.std.specs.Prelude.{replicate}
use Rattle.std.specs.List.{range_with_len}

pub range-add : (a n m : ℕ) → range_with_len a (n + m) ≡ range_with_len a n ++ range_with_len
    (a + n) m
range-add a zero m =
    let e : zero + m ≡ m = omega arith in
    let f : a ≡ a + zero = omega arith in
    ap (λ (k : ℕ). range_with_len a k) e ∙ ap (λ (b : ℕ). range_with_len b m) f
range-add a (suc n) m =
    let e : suc n + m ≡ suc (n + m) = omega arith in
    let f : (a + 1) + n ≡ a + suc n = omega arith in
    ap (λ (k : ℕ). range_with_len a k) e ∙ ap (λ rest. a ∷ rest) (range-add (a + 1) n m
    ∙ ap (λ (b : ℕ). range_with_len (a + 1) n ++ range_with_len b m) f)

pub map-range : {A : Type 0} (f g : ℕ → A) (a n : ℕ) → ((k : ℕ) → a ≤ k → k < a + n → f k ≡ g k)
    → map f (range_with_len a n) ≡ map g (range_with_len a n)
map-range f g a zero same = refl
map-range f g a (suc n) same =
    let head : f a ≡ g a = same a (omega arith) (omega arith) in
    let rest : map f (range_with_len (a + 1) n) ≡ map g (range_with_len (a + 1) n) =
    map-range f g (a + 1) n (λ k low high. same k (omega arith) (omega arith)) in
    cc

pub map-constant : {A : Type 0} (x : A) (a n : ℕ) → map (λ k. x) (range_with_len a n)
    ≡ replicate n x
map-constant x a zero = refl
map-constant x a (suc n) = ap (λ rest. x ∷ rest) (map-constant x (a + 1) n)
