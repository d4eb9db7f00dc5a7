-- Counts and the offsets that they have in a ring.
use Rattle.std.proofs.Common.{◌≡◌, ℕ, ◌+◌, ◌-◌, ◌*◌, ◌/◌, ◌%◌, ◌<◌, ◌≤◌, sym, refl, ap, ◌∙◌, arith}
use Rattle.std.proofs.Common.{lt_of_not-le}
use Rattle.std.proofs.Math.Nat.{mod-lt, mod-add-div'}
use Rattle.std.proofs.lemmas.Nat.{mod-mul-add}
use native.Mathlib.Decide.{dec_le}
use Rattle.atomic_table.proofs.Lists.{one_turn}
use Rattle.sv_ring_rtt.specs.Steps.{Shows}

-- two numbers less than n apart, with one remainder, are one number
pub same_turn : (a b n : ℕ) → a < b + n → b < a + n → a % n ≡ b % n → a ≡ b
same_turn a b n ab ba e = go (dec_le a b)
  where
    go : Dec (a ≤ b) → a ≡ b
    go (yes le) = one_turn a b n le ba e
    go (no more) = let less = lt_of_not-le more in sym (one_turn b a n (omega arith) ab (sym e))

-- the offset of a number that is k above one whose offset is known
rest_of : (size first k old n : ℕ) → first % size ≡ old → old + k ≡ n → n < size
    → (first + k) % size ≡ n
rest_of size first k old n is sum small =
    let q : ℕ = first / size * size in
    let whole : old + q ≡ first = ap (λ (o : ℕ). o + q) (sym is) ∙ mod-add-div' first size in
    let e : first + k ≡ q + n = omega arith in
    ap (λ (m : ℕ). m % size) e ∙ mod-mul-add (first / size) size n small

-- a number within one turn, by its offset: the offset has not come round, or it has
pub number_ahead : (size first number n old : ℕ) → 0 < size → Shows size first number n
    → first % size ≡ old → old ≤ n → number ≡ first + (n - old)
number_ahead size first number n old some s is le =
    let small : n < size = let m = mod-lt number some in let e = s.shown in omega arith in
    let r = rest_of size first (n - old) old n is (omega arith) small in
    let a = s.least in let b = s.most in
    same_turn number (first + (n - old)) size (omega arith) (omega arith) (s.shown ∙ sym r)

pub number_round : (size first number n old : ℕ) → 0 < size → Shows size first number n
    → first % size ≡ old → n < old → number ≡ first + (n + size - old)
number_round size first number n old some s is lt =
    let small : n < size = let m = mod-lt number some in let e = s.shown in omega arith in
    let below : old < size = let m = mod-lt first some in omega arith in
    let q : ℕ = first / size * size in
    let whole : old + q ≡ first = ap (λ (o : ℕ). o + q) (sym is) ∙ mod-add-div' first size in
    let e : first + (n + size - old) ≡ (q + size) + n = omega arith in
    let r : (first + (n + size - old)) % size ≡ n = ap (λ (m : ℕ). m % size) (e ∙ turn)
    ∙ mod-mul-add (first / size + 1) size n small in
    let a = s.least in let b = s.most in
    same_turn number (first + (n + size - old)) size (omega arith) (omega arith) (s.shown ∙ sym r)
  where
    turn : (first / size * size + size) + n ≡ (first / size + 1) * size + n
    turn = grind arith

-- the offset after the next byte
pub next_at : (size count at : ℕ) → count % size ≡ at → at + 1 < size → (count + 1) % size ≡ at + 1
next_at size count at is small = rest_of size count 1 at (at + 1) is refl small

pub next_round : (size count at : ℕ) → 0 < size → count % size ≡ at → at + 1 ≡ size
    → (count + 1) % size ≡ 0
next_round size count at some is last =
    let q : ℕ = count / size * size in
    let whole : at + q ≡ count = ap (λ (o : ℕ). o + q) (sym is) ∙ mod-add-div' count size in
    let e : count + 1 ≡ (q + size) + 0 = omega arith in
    ap (λ (m : ℕ). m % size) (e ∙ turn) ∙ mod-mul-add (count / size + 1) size 0 some
  where
    turn : (count / size * size + size) + 0 ≡ (count / size + 1) * size + 0
    turn = grind arith
