-- Texts in a slice: what is told of them is told of their spellings.
use Rattle.std.proofs.Common.{◌≡◌, ℕ, ◌+◌, ◌-◌, ◌*◌, ◌<◌, ◌≤◌, List, [], ◌∷◌, ◌++◌, length, get_or}
use Rattle.std.proofs.Common.{take, drop, replicate, refl, sym, ap, subst, ◌∙◌, append_assoc, arith}
use Rattle.std.proofs.Common.{inl, inr}
use Rattle.std.proofs.lemmas.List.{length-append, length-take, length-drop, length-replicate}
use Rattle.std.proofs.lemmas.List.{take-append-drop, take-take}
use Rattle.sv_prim.specs.declared.text.TextAt.{TextAt}
use Rattle.std.proofs.lemmas.Bool.{cases_lt}
use Rattle.sv_prim.specs.declared.got.Reason.TheVariants.{BadText}
use Rattle.sv_prim.specs.declared.got.Got.{Got}
use Rattle.sv_prim.specs.declared.got.Got.TheVariants.{Value, Short, Bad}
use Rattle.sv_prim.specs.Code.{Begins, GoesOn, IsCutShort, BreaksAt, Tells, IsOnly, IsPrefixFree}
use Rattle.sv_prim.specs.Code.{IsTotal}
use Rattle.sv_prim.specs.Text.{AreBytes, IsText}
use Rattle.sv_prim.specs.TextAt.{IsTextAt, IsTextLength, text_reason}
use Rattle.sv_prim.proofs.Codes.{told_only}
use Rattle.sv_prim.proofs.Carried.{carried_total}
use Rattle.sv_prim.proofs.Below.{bytes_behind, bytes_front, bytes_both, zeros}
use Rattle.sv_prim.proofs.Texts.{text_free}

-- ---- the text's own bytes

own_bytes : (text bytes : List ℕ) → IsText text bytes →
    (start : ℕ) × (start + length text ≡ length bytes) × (drop start bytes ≡ text)
own_bytes text bytes (are, inl short) =
    (1, omega (arith, ap length short.whole), ap (drop 1) short.whole)
own_bytes text bytes (are, inr long) =
    (3, omega (arith, ap length long.whole), ap (drop 3) long.whole)

pub at_of : (text bytes : List ℕ) → IsText text bytes → (at : TextAt) × IsTextAt at bytes
at_of text bytes s =
    let (start, whole, same) = own_bytes text bytes s in (
      record { start = start; len = length text },
      record { spelled = subst (λ (t : List ℕ). IsText t bytes) (sym same) s; whole = whole },
    )

pub at_free : IsPrefixFree IsTextAt
at_free u v a b x y p q e =
    let (same, texts) = text_free (drop u.start a) (drop v.start b) a b x y p.spelled q.spelled e in
    let size : u.len ≡ v.len = omega (
      arith,
      length-drop u.start a,
      length-drop v.start b,
      ap length texts,
      p.whole,
      q.whole,
    ) in
    let start : u.start ≡ v.start = omega (arith, size, p.whole, q.whole, ap length same) in
    (same, at_is u.start v.start u.len v.len start size)
  where
    made : ℕ → ℕ → TextAt
    made i m = record { start = i; len = m }

    at_is : (i j m n : ℕ) → i ≡ j → m ≡ n → made i m ≡ made j n
    at_is i j m n p q = cc

pub at_short : (bytes : List ℕ) → IsCutShort IsText bytes → IsCutShort IsTextAt bytes
at_short bytes (text, more, some, s) = let (at, is) = at_of text (bytes ++ more) s in
    (at, more, some, is)

pub at_breaks : (bytes : List ℕ) (place : ℕ) → BreaksAt IsText bytes place →
    BreaksAt IsTextAt bytes place
at_breaks bytes place p = record {
  within = p.within;
  before = at_short (take place bytes) p.before;
  here =
      λ (at, more, is). p.here (drop at.start (take (place + 1) bytes ++ more), more, is.spelled);
}

-- ---- a text behind its length

behind_length : (text head : List ℕ) → AreBytes text → IsTextLength (length text) head →
    IsText text (head ++ text)
behind_length text head are (inl (most, e)) =
    (are, inl (record { most = most; whole = ap (λ (k : List ℕ). k ++ text) e }))
behind_length text head are (inr (least, low, high, low_byte, high_byte, number, e)) = (
  are,
  inr (record {
    low = low;
    high = high;
    low_byte = low_byte;
    high_byte = high_byte;
    number = number;
    least = least;
    whole = ap (λ (k : List ℕ). k ++ text) e;
  }),
)

-- fewer bytes than the length says
pub fewer : (bytes : List ℕ) (start size : ℕ) → AreBytes bytes → start ≤ length bytes →
    IsTextLength size (take start bytes) → length bytes - start < size → IsCutShort IsTextAt bytes
fewer bytes start size are within is less =
    let rest = drop start bytes in
    let len : length rest ≡ length bytes - start = length-drop start bytes in
    let more : List ℕ = replicate (size - length rest) 0 in
    let count : length more ≡ size - length rest =
    length-replicate {A = ℕ} (size - length rest) 0 in
    let all : length (rest ++ more) ≡ size = omega (arith, length-append rest more, count, len) in
    let s =
    behind_length (rest ++ more) (take start bytes)
    (bytes_both rest more (bytes_behind start bytes are) (zeros (size - length rest)))
    (subst (λ (k : ℕ). IsTextLength k (take start bytes)) (sym all) is) in
    let parts : take start bytes ++ (rest ++ more) ≡ bytes ++ more =
    sym (append_assoc (take start bytes) rest more)
    ∙ ap (λ (k : List ℕ). k ++ more) (take-append-drop start bytes) in
    at_short bytes (
      rest ++ more,
      more,
      (λ e. omega (arith, ap length e, count, len)),
      subst (IsText (rest ++ more)) parts s,
    )

-- as many bytes as the length says, or more
pub enough : (bytes : List ℕ) (start size : ℕ) → AreBytes bytes → start ≤ length bytes →
    IsTextLength size (take start bytes) → size ≤ length bytes - start
    → Begins IsTextAt bytes (record { start = start; len = size }) (start + size)
enough bytes start size are within is le =
    let used = take (start + size) bytes in
    let text = drop start used in
    let len : length used ≡ start + size = omega (arith, length-take (start + size) bytes) in
    let size_is : length text ≡ size = omega (arith, length-drop start used, len) in
    let front : take start used ≡ take start bytes =
    take-take start (start + size) bytes (omega arith) in
    let text_are : AreBytes text = bytes_behind start used (bytes_front (start + size) bytes are) in
    let head : IsTextLength (length text) (take start used) =
    subst (λ (k : List ℕ). IsTextLength (length text) k) (sym front)
    (subst (λ (k : ℕ). IsTextLength k (take start bytes)) (sym size_is) is) in
    let s : IsText text (take start used ++ text) =
    behind_length text (take start used) text_are head in
    record {
      within = omega arith;
      spelled =
          record { spelled = subst (IsText text) (take-append-drop start used) s; whole = sym len };
    }

-- ---- the length

-- a text of zeros behind its length
of_zeros : (size : ℕ) (head : List ℕ) → IsTextLength size head →
    IsText (replicate size 0) (head ++ replicate size 0)
of_zeros size head is =
    behind_length (replicate size 0) head (zeros size)
    (subst (λ (k : ℕ). IsTextLength k head) (sym (length-replicate size 0)) is)

pub none_short : IsCutShort IsText []
none_short = ([], 0 ∷ [], (λ e. absurd cc), of_zeros 0 (0 ∷ []) (inl (omega arith, refl)))

pub low_short : (low : ℕ) → low < 256 → IsCutShort IsText (255 ∷ low ∷ [])
low_short low fits = (
  replicate (low + 256 * 1) 0,
  1 ∷ replicate (low + 256 * 1) 0,
  (λ e. absurd cc),
  of_zeros (low + 256 * 1) (255 ∷ low ∷ 1 ∷ []) (inr (
    omega arith,
    low,
    1,
    fits,
    omega arith,
    refl,
    refl,
  )),
)

pub one_short : IsCutShort IsText (255 ∷ [])
one_short = let (text, more, some, s) = low_short 0 (omega arith) in
    (text, 0 ∷ more, (λ e. absurd cc), s)

pub length_short : (bytes : List ℕ) → AreBytes bytes → length bytes < 3 →
    (0 < length bytes → 255 ≤ get_or bytes 0 0) → IsCutShort IsTextAt bytes
length_short [] are few long = at_short [] none_short
length_short (b ∷ []) are few long =
    let is : 255 ≡ b = omega (arith, are.0, long (omega arith)) in
    at_short (b ∷ []) (subst (λ (k : ℕ). IsCutShort IsText (k ∷ [])) is one_short)
length_short (b ∷ c ∷ []) are few long =
    let is : 255 ≡ b = omega (arith, are.0, long (omega arith)) in
    at_short (b ∷ c ∷ [])
    (subst (λ (k : ℕ). IsCutShort IsText (k ∷ c ∷ [])) is (low_short c are.1.0))
length_short (b ∷ c ∷ d ∷ bytes) are few long = absurd (omega arith)

not_long : (low high : ℕ) → low + 256 * high < 255 → GoesOn IsText (255 ∷ low ∷ high ∷ []) → ⊥
not_long low high small (text, more, (are, inl s)) =
    let whole : 255 ∷ low ∷ high ∷ more ≡ length text ∷ text = s.whole in
    let size : length text ≡ 255 = cc in
    omega (arith, s.most)
not_long low high small (text, more, (are, inr s)) =
    let whole : 255 ∷ low ∷ high ∷ more ≡ 255 ∷ s.low ∷ s.high ∷ text = s.whole in
    let one : low ≡ s.low = cc in
    let two : high ≡ s.high = cc in
    omega (arith, s.least, s.number)

pub length_breaks : (bytes : List ℕ) → AreBytes bytes → 3 ≤ length bytes → 255 ≤ get_or bytes 0 0 →
    get_or bytes 1 0 + 256 * get_or bytes 2 0 < 255 → BreaksAt IsTextAt bytes 2
length_breaks [] are some long small = absurd (omega arith)
length_breaks (b ∷ []) are some long small = absurd (omega arith)
length_breaks (b ∷ c ∷ []) are some long small = absurd (omega arith)
length_breaks (b ∷ c ∷ d ∷ bytes) are some long small =
    let is : 255 ≡ b = omega (arith, are.0) in
    at_breaks (b ∷ c ∷ d ∷ bytes) 2 (record {
      within = omega arith;
      before = subst (λ (k : ℕ). IsCutShort IsText (k ∷ c ∷ [])) is (low_short c are.1.0);
      here =
          λ goes.
          not_long c d small (subst (λ (k : ℕ). GoesOn IsText (k ∷ c ∷ d ∷ [])) (sym is) goes);
    })

pub at_only : (bytes : List ℕ) (got : Got TextAt) → Tells IsTextAt text_reason bytes got →
    IsOnly IsTextAt bytes got
at_only bytes got told = told_only IsTextAt at_free text_reason bytes got told

-- ---- what is told of any bytes

from_length : (bytes : List ℕ) (start size : ℕ) → AreBytes bytes → start ≤ length bytes →
    IsTextLength size (take start bytes) → (got : Got TextAt) × Tells IsTextAt text_reason bytes got
from_length bytes start size are within is = elim (cases_lt (length bytes - start) size) [
  | inl less ↦ (Short, fewer bytes start size are within is less)
  | inr le ↦ (
    Value (record { start = start; len = size }) (start + size),
    enough bytes start size are within is le,
  )
]

long_told : (b c d : ℕ) (rest : List ℕ) → AreBytes (b ∷ c ∷ d ∷ rest) → 255 ≤ b →
    (got : Got TextAt) × Tells IsTextAt text_reason (b ∷ c ∷ d ∷ rest) got
long_told b c d rest are long = elim (cases_lt (c + 256 * d) 255) [
  | inl small ↦
      (Bad 2 BadText, (length_breaks (b ∷ c ∷ d ∷ rest) are (omega arith) long small, refl))
  | inr least ↦
      let is : b ≡ 255 = omega (arith, are.0) in
      from_length (b ∷ c ∷ d ∷ rest) 3 (c + 256 * d) are (omega arith) (inr (
        least,
        c,
        d,
        are.1.0,
        are.1.1.0,
        refl,
        ap (λ (k : ℕ). k ∷ c ∷ d ∷ []) is,
      ))
]

at_total : IsTotal IsTextAt text_reason
at_total [] are = (Short, length_short [] are (omega arith) (λ some. absurd (omega arith)))
at_total (b ∷ rest) are = elim (cases_lt b 255) [
  | inl low ↦ from_length (b ∷ rest) 1 b are (omega arith) (inl (omega arith, refl))
  | inr high ↦ behind rest are high
]
  where
    behind : (rest : List ℕ) → AreBytes (b ∷ rest) → 255 ≤ b →
        (got : Got TextAt) × Tells IsTextAt text_reason (b ∷ rest) got
    behind [] are high = (Short, length_short (b ∷ []) are (omega arith) (λ some. high))
    behind (c ∷ []) are high = (Short, length_short (b ∷ c ∷ []) are (omega arith) (λ some. high))
    behind (c ∷ d ∷ rest) are high = long_told b c d rest are high

pub text_total : IsTotal IsText text_reason
text_total =
    carried_total IsTextAt IsText at_of (λ at bytes s. (drop at.start bytes, s.spelled)) text_reason
    text_reason (λ front reason is. is) at_total
