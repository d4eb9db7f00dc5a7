-- Identifiers and lengths: one byte or two.
use Rattle.std.proofs.Common.{◌≡◌, ◌≢◌, Bool, false, IsTrue, ℕ, ◌+◌, ◌-◌, ◌*◌, ◌<◌, ◌≤◌, List, []}
use Rattle.std.proofs.Common.{◌∷◌, ◌++◌, length, get_or, take, drop, refl, sym, ap, subst, ◌∙◌}
use Rattle.std.proofs.Common.{arith, inl, inr}
use Rattle.std.proofs.lemmas.Bool.{cases_eq}
use Rattle.std.proofs.lemmas.List.{length-append, nil_from_length, take-append-drop}
use Rattle.sv_prim.specs.declared.got.Reason.TheVariants.{BadId}
use Rattle.sv_prim.specs.Code.{GoesOn, IsCutShort, BreaksAt, IsPrefixFree, Always}
use Rattle.sv_prim.specs.Text.{AreBytes}
use Rattle.sv_prim.proofs.Shared.{not_nil}
use Rattle.sv_packet.specs.Packet.{IsShortNumber}
use Rattle.sv_packet.specs.declared.reader.Reader.{Reader}
use Rattle.sv_packet.specs.declared.reader.Stop.{Stop}
use Rattle.sv_packet.specs.declared.reader.Stop.TheVariants.{Short, Bad}
use Rattle.sv_packet.specs.Parts.{IsIdentifier}
use Rattle.sv_packet.specs.Reader.{left, TakesPart, Stops}
use Rattle.sv_packet.proofs.one_spelling.Free.{short_free}

-- ---- either

pub is_not : (b : Bool) → b ≡ false → IsTrue b → ⊥
is_not b e h = cc

none_short : IsCutShort IsShortNumber []
none_short = (0, 0 ∷ [], (λ e. absurd cc), inl (omega arith, refl))

one_short : (b : ℕ) → 128 ≤ b → b < 256 → IsCutShort IsShortNumber (b ∷ [])
one_short b high fits =
    let first : b - 128 + 128 ≡ b = omega arith in (
      b - 128 + 128 * 1,
      1 ∷ [],
      (λ e. absurd cc),
      inr (record {
        low = b - 128;
        rest = 1;
        low_bits = omega arith;
        rest_bits = omega arith;
        sum = refl;
        least = omega arith;
        whole = ap (λ (k : ℕ). k ∷ 1 ∷ []) (sym first);
      }),
    )

-- fewer than two bytes, the first of which is no whole spelling
pub cut_short : (bytes : List ℕ) → AreBytes bytes → length bytes < 2 →
    (0 < length bytes → 128 ≤ get_or bytes 0 0) → IsCutShort IsShortNumber bytes
cut_short [] are few high = none_short
cut_short (b ∷ []) are few high = one_short b (high (omega arith)) are.0
cut_short (b ∷ c ∷ bytes) are few high = absurd (omega arith)

not_second : (b c : ℕ) → 128 ≤ b → ((0 < c) × (c < 128) → ⊥) → GoesOn IsShortNumber (b ∷ c ∷ []) → ⊥
not_second b c high none (n, more, inl (low, e)) =
    let same : b ≡ n = cc in
    omega (arith, same, low)
not_second b c high none (n, more, inr two) =
    let whole : b ∷ c ∷ more ≡ (two.low + 128) ∷ two.rest ∷ [] = two.whole in
    let second : c ≡ two.rest = cc in
    none (
      omega (arith, second, two.low_bits, two.sum, two.least),
      omega (arith, second, two.rest_bits),
    )

-- a second byte that is none
pub breaks : (bytes : List ℕ) → AreBytes bytes → 2 ≤ length bytes → 128 ≤ get_or bytes 0 0 →
    ((0 < get_or bytes 1 0) × (get_or bytes 1 0 < 128) → ⊥) → BreaksAt IsShortNumber bytes 1
breaks [] are some high none = absurd (omega arith)
breaks (b ∷ []) are some high none = absurd (omega arith)
breaks (b ∷ c ∷ bytes) are some high none = record {
  within = omega arith;
  before = one_short b high are.0;
  here = not_second b c high none;
}

-- ---- identifiers

pub identifier_free : IsPrefixFree IsIdentifier
identifier_free u v a b x y p q e = short_free u v a b x y p.0 q.0 e

-- 23 has one byte
one_byte : (bytes : List ℕ) → IsShortNumber 23 bytes → bytes ≡ 23 ∷ []
one_byte bytes (inl p) = p.1
one_byte bytes (inr two) = absurd (omega (arith, two.least))

-- what is cut short of identifiers and lengths is so of identifiers
pub identifier_short : (bytes : List ℕ) → IsCutShort IsShortNumber bytes →
    IsCutShort IsIdentifier bytes
identifier_short bytes (n, more, some, s) =
    elim (cases_eq n 23) [
      | inl is ↦
          let whole =
          one_byte (bytes ++ more) (subst (λ (k : ℕ). IsShortNumber k (bytes ++ more)) is s) in
          let none : bytes ≡ [] = nil_from_length bytes (omega (
            arith,
            not_nil more some,
            length-append bytes more,
            ap length whole,
          )) in
          subst (IsCutShort IsIdentifier) (sym none) (
            0,
            0 ∷ [],
            (λ e. absurd cc),
            (inl (omega arith, refl), λ e. omega (arith, e)),
          )
      | inr other ↦ (n, more, some, (s, other))
    ]

pub identifier_breaks : (bytes : List ℕ) (place : ℕ) → BreaksAt IsShortNumber bytes place →
    BreaksAt IsIdentifier bytes place
identifier_breaks bytes place p = record {
  within = p.within;
  before = identifier_short (take place bytes) p.before;
  here = λ (n, more, s). p.here (n, more, s.0);
}

-- no identifier begins with the byte 23
not_23 : GoesOn IsIdentifier (23 ∷ []) → ⊥
not_23 (n, more, (inl (low, e), other)) = let same : 23 ≡ n = cc in other (sym same)
not_23 (n, more, (inr two, other)) =
    let whole : 23 ∷ more ≡ (two.low + 128) ∷ two.rest ∷ [] = two.whole in
    let first : 23 ≡ two.low + 128 = cc in
    omega (arith, first)

-- where 23 is spelled at the front, its byte is refused
pub breaks_at_23 : (bytes first rest : List ℕ) → IsShortNumber 23 first → first ++ rest ≡ bytes →
    BreaksAt IsIdentifier bytes 0
breaks_at_23 bytes first rest s whole =
    let all : 23 ∷ rest ≡ bytes = ap (λ (k : List ℕ). k ++ rest) (sym (one_byte first s)) ∙ whole in
    subst (λ (x : List ℕ). BreaksAt IsIdentifier x 0) all (record {
      within = omega arith;
      before = identifier_short [] none_short;
      here = not_23;
    })

-- ---- a reader at an identifier

pub takes_identifier : (old new : Reader) (id : ℕ) → id ≢ 23 → TakesPart IsShortNumber old new id →
    TakesPart IsIdentifier old new id
takes_identifier old new id known t = record {
  used = t.used;
  same = t.same;
  further = t.further;
  spelled = record { within = t.spelled.within; spelled = (t.spelled.spelled, known) };
}

pub refuses_23 : (old new : Reader) (id : ℕ) → id ≡ 23 → TakesPart IsShortNumber old new id →
    Stops IsIdentifier (Always BadId) old (Bad old.at BadId)
refuses_23 old new id is t =
    let first = take t.used (left old) in
    let s : IsShortNumber 23 first =
    subst (λ (k : ℕ). IsShortNumber k first) is t.spelled.spelled in (
      0,
      omega arith,
      breaks_at_23 (left old) first (drop t.used (left old)) s (take-append-drop t.used (left old)),
      refl,
    )

pub stops_identifier : (old : Reader) (stop : Stop) → Stops IsShortNumber (Always BadId) old stop →
    Stops IsIdentifier (Always BadId) old stop
stops_identifier old Short p = identifier_short (left old) p
stops_identifier old (Bad place reason) (ahead, is_place, p, is_why) =
    (ahead, is_place, identifier_breaks (left old) ahead p, is_why)
