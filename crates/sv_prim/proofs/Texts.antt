-- The one spelling of a text: the function's bytes spell it, and no others do.
use Rattle.std.proofs.Common.{◌≡◌, ℕ, ◌/◌, ◌%◌, ◌<◌, ◌≤◌, List, ◌∷◌, ◌++◌, length, refl, sym, ap}
use Rattle.std.proofs.Common.{◌∙◌, arith, inl, inr}
use Rattle.std.proofs.lemmas.Bool.{cases_lt}
use Rattle.std.proofs.lemmas.Bool.Decides.{nat_tests}
use Rattle.sv_prim.specs.Code.{IsPrefixFree}
use Rattle.sv_prim.specs.Text.{AreBytes, IsShortText, IsLongText, IsText, text_spelling}
use Rattle.sv_prim.proofs.Sequence.{fronts_same}

pub text_spelling-short : (text : List ℕ) → length text < 255 →
    text_spelling text ≡ length text ∷ text
text_spelling-short text short = grind (arith, nat_tests)

pub text_spelling-long : (text : List ℕ) → 255 ≤ length text →
    text_spelling text ≡ 255 ∷ (length text % 256) ∷ (length text / 256) ∷ text
text_spelling-long text long = grind (arith, nat_tests)

pub text_fits : (text bytes : List ℕ) → IsText text bytes → length text ≤ 65535
text_fits text bytes (are, inl short) = omega (arith, short.most)
text_fits text bytes (are, inr long) = omega (arith, long.low_byte, long.high_byte, long.number)

pub text_once : (text bytes : List ℕ) → IsText text bytes → bytes ≡ text_spelling text
text_once text bytes (are, inl short) =
    short.whole ∙ sym (text_spelling-short text (omega (arith, short.most)))
text_once text bytes (are, inr long) =
    let low : length text % 256 ≡ long.low = omega (arith, long.low_byte, long.number) in
    let high : length text / 256 ≡ long.high = omega (arith, long.low_byte, long.number) in
    long.whole ∙ sym (text_spelling-long text long.least ∙ rw (low, high) refl)

pub text_spelled : (text : List ℕ) → length text ≤ 65535 → AreBytes text →
    IsText text (text_spelling text)
text_spelled text most are = (
  are,
  elim (cases_lt (length text) 255) [
    | inl short ↦ inl (record { most = omega arith; whole = text_spelling-short text short })
    | inr long ↦ inr (record {
      low = length text % 256;
      high = length text / 256;
      low_byte = omega arith;
      high_byte = omega arith;
      number = omega arith;
      least = long;
      whole = text_spelling-long text long;
    })
  ],
)

shorts_free : (u v a b x y : List ℕ) → IsShortText u a → IsShortText v b → a ++ x ≡ b ++ y →
    (a ≡ b) × (u ≡ v)
shorts_free u v a b x y s t e =
    let whole : length u ∷ (u ++ x) ≡ length v ∷ (v ++ y) =
    ap (λ (k : List ℕ). k ++ x) (sym s.whole) ∙ e ∙ ap (λ (k : List ℕ). k ++ y) t.whole in
    let same : length u ≡ length v = cc in
    let tails : u ++ x ≡ v ++ y = cc in
    let texts = fronts_same u x v y tails same in
    (s.whole ∙ ap (λ (k : List ℕ). length k ∷ k) texts.0 ∙ sym t.whole, texts.0)

longs_free : (u v a b x y : List ℕ) → IsLongText u a → IsLongText v b → a ++ x ≡ b ++ y →
    (a ≡ b) × (u ≡ v)
longs_free u v a b x y s t e =
    let whole : 255 ∷ s.low ∷ s.high ∷ (u ++ x) ≡ 255 ∷ t.low ∷ t.high ∷ (v ++ y) =
    ap (λ (k : List ℕ). k ++ x) (sym s.whole) ∙ e ∙ ap (λ (k : List ℕ). k ++ y) t.whole in
    let low : s.low ≡ t.low = cc in
    let high : s.high ≡ t.high = cc in
    let tails : u ++ x ≡ v ++ y = cc in
    let texts = fronts_same u x v y tails (omega (arith, s.number, t.number, low, high)) in
    let text : u ≡ v = texts.0 in
    let front : a ≡ 255 ∷ s.low ∷ s.high ∷ u = s.whole in
    let other : b ≡ 255 ∷ t.low ∷ t.high ∷ v = t.whole in
    (cc, text)

mixed : (u v a b x y : List ℕ) → IsShortText u a → IsLongText v b → a ++ x ≡ b ++ y → ⊥
mixed u v a b x y s t e =
    let whole : length u ∷ (u ++ x) ≡ 255 ∷ t.low ∷ t.high ∷ (v ++ y) =
    ap (λ (k : List ℕ). k ++ x) (sym s.whole) ∙ e ∙ ap (λ (k : List ℕ). k ++ y) t.whole in
    let first : length u ≡ 255 = cc in
    omega (arith, first, s.most)

-- no text's spelling begins another's, and each spells one text
pub text_free : IsPrefixFree IsText
text_free u v a b x y (are, inl s) (are2, inl t) e = shorts_free u v a b x y s t e
text_free u v a b x y (are, inl s) (are2, inr t) e = absurd (mixed u v a b x y s t e)
text_free u v a b x y (are, inr s) (are2, inl t) e = absurd (mixed v u b a y x t s (sym e))
text_free u v a b x y (are, inr s) (are2, inr t) e = longs_free u v a b x y s t e
