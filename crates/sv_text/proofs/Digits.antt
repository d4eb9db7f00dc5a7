-- A running value of digits, one that stops at a greatest number among them.
use Rattle.std.proofs.Common.{◌≡◌, ℕ, suc, ◌+◌, ◌*◌, ◌-◌, ◌^◌, ◌%◌, ◌≤◌, ◌<◌, min, true, ap, arith}
use Rattle.std.proofs.Common.{rules}
use Rattle.std.specs.Char.{is_ascii_digit, digit_value}
use Rattle.std.specs.Int.{IsInRange}
use Rattle.std.proofs.Math.Nat.{pow-le-pow_right, pow-succ'}
use Rattle.std.proofs.lemmas.Str.{digit_value_digit}

pub in_range : (c : ℕ) → is_ascii_digit c ≡ true → IsInRange 48 57 c
in_range c e = search rules

-- one more digit
pub one_more : (most sum kept digit code times now next : ℕ) → kept ≡ min sum most
    → times ≡ min (kept * 10) most → now ≡ min (times + (code - 48)) most
    → digit + 48 ≡ code → next ≡ sum * 10 + digit → now ≡ min next most
one_more most sum kept digit code times now next a b c d e = omega arith

-- the digit of a byte, by a difference that wraps around
pub digit_by : (c : ℕ) → c < 256 → (c + 208) % 256 ≤ 9
    → (is_ascii_digit c ≡ true) × ((c + 208) % 256 ≡ digit_value c)
digit_by c low small =
    let least : 48 ≤ c = omega (arith, low, small) in
    let most : c ≤ 57 = omega (arith, low, small) in
    let range : IsInRange 48 57 c = (least, most) in
    let digit : is_ascii_digit c ≡ true = search rules in
    (digit, omega (arith, digit_value_digit c range, low, least, most))

-- what fewer than 19 digits write, and one more
pub few_digits : (value i : ℕ) → value < 10 ^ i → i < 19 → value < 10 ^ 18
few_digits value i below few =
    let ten : 0 < 10 = omega arith in
    let le : i ≤ 18 = omega (arith, few) in
    omega (arith, below, pow-le-pow_right ten le)

pub one_digit_more : (value digit i : ℕ) → value < 10 ^ i → digit ≤ 9
    → value * 10 + digit < 10 ^ (i + 1)
one_digit_more value digit i below small =
    let next : i + 1 ≡ suc i = omega arith in
    omega (arith, below, small, ap (λ (k : ℕ). 10 ^ k) next, pow-succ' 10 i)
