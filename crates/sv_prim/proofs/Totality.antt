-- Of any bytes something can be told: that they begin with a spelling, end inside one, or break
-- off.
use Rattle.std.proofs.Common.{◌≡◌, ℕ, ◌+◌, ◌<◌, ◌≤◌, List, [], ◌∷◌, ◌++◌, length, take, drop, refl}
use Rattle.std.proofs.Common.{sym, ap, subst, ◌∙◌, append_assoc, arith, inl, inr}
use Rattle.std.proofs.lemmas.Bool.{cases_lt}
use Rattle.std.proofs.lemmas.List.{length-append, append-nil}
use Rattle.std.proofs.Math.Seq.{take-append_seam}
use Rattle.sv_prim.specs.declared.got.Reason.{Reason}
use Rattle.sv_prim.specs.declared.got.Reason.TheVariants.{BadNumber}
use Rattle.sv_prim.specs.declared.got.Got.{Got}
use Rattle.sv_prim.specs.declared.got.Got.TheVariants.{Value, Short, Bad}
use Rattle.sv_prim.specs.Code.{GoesOn, IsCutShort, Tells, IsPrefixFree, IsTotal, IsPair, PairReason}
use Rattle.sv_prim.specs.Number.{IsGroups, IsNumber, number_reason}
use Rattle.sv_prim.proofs.Groups.{AreFlagged, AreFlagged-push, groups_behind, number_is, cut_short}
use Rattle.sv_prim.proofs.Groups.{padding_breaks, beyond_breaks}
use Rattle.sv_prim.specs.Text.{AreBytes}
use Rattle.sv_prim.proofs.Below.{bytes_behind}
use Rattle.sv_prim.proofs.Sequence.{behind, pair_tells_first, pair_tells_second}

-- what is told of the front of some bytes
abbrev pub IsTold : {V : Type 0} → (V → List ℕ → Type 0) → (List ℕ → Reason → Type 0) → List ℕ →
    Type 0
IsTold {V} S why bytes = (got : Got V) × Tells S why bytes got

-- a byte is below 256
wide_breaks : (front : List ℕ) (b : ℕ) → AreFlagged front → 256 ≤ b →
    GoesOn IsNumber (front ++ b ∷ []) → ⊥
wide_breaks front b flagged wide (v, [], n) =
    let low : b < 128 =
    groups_behind front (b ∷ []) flagged
    (subst IsGroups (append-nil (front ++ b ∷ [])) n.groups) in
    omega arith
wide_breaks front b flagged wide (v, x ∷ more, n) =
    let rest =
    groups_behind front (b ∷ x ∷ more) flagged
    (subst IsGroups (append_assoc front (b ∷ []) (x ∷ more)) n.groups) in
    omega (arith, rest.1)

-- the front and one more byte are that many of the bytes
one_more : (front : List ℕ) (b : ℕ) (rest : List ℕ) →
    take (length front + 1) (front ++ b ∷ rest) ≡ front ++ b ∷ []
one_more front b rest =
    let same : length front + 1 ≡ length (front ++ b ∷ []) =
    omega (arith, length-append front (b ∷ [])) in
    ap (λ (k : ℕ). take k (front ++ b ∷ rest)) same
    ∙ ap (take (length (front ++ b ∷ []))) (sym (append_assoc front (b ∷ []) rest))
    ∙ take-append_seam (front ++ b ∷ []) rest

ends : (front : List ℕ) (b : ℕ) (rest : List ℕ) (value : ℕ) → IsNumber value (front ++ b ∷ []) →
    IsTold IsNumber number_reason (front ++ b ∷ rest)
ends front b rest value n = (
  Value value (length front + 1),
  record {
    within = omega (arith, length-append front (b ∷ rest));
    spelled = subst (IsNumber value) (sym (one_more front b rest)) n;
  },
)

breaks : (front : List ℕ) (b : ℕ) (rest : List ℕ) → AreFlagged front → length front ≤ 4 →
    (GoesOn IsNumber (front ++ b ∷ []) → ⊥) → IsTold IsNumber number_reason (front ++ b ∷ rest)
breaks front b rest flagged few stops = (
  Bad (length front) BadNumber,
  (
    record {
      within = omega (arith, length-append front (b ∷ rest));
      before =
          subst (IsCutShort IsNumber) (sym (take-append_seam front (b ∷ rest)))
          (cut_short front flagged few);
      here = λ goes. stops (subst (GoesOn IsNumber) (one_more front b rest) goes);
    },
    refl,
  ),
)

-- a byte below 128 ends the number, or none goes on with it
last_told : (front : List ℕ) (b : ℕ) (rest : List ℕ) → AreFlagged front → length front ≤ 4 →
    b < 128 → IsTold IsNumber number_reason (front ++ b ∷ rest)
last_told front b rest flagged few low =
    elim (cases_lt 0 b) [
      | inl some ↦ elim (cases_lt b 16) [
        | inl fits ↦ ends front b rest _ (number_is front b flagged few low (λ _. some) (λ _. fits))
        | inr big ↦ elim (cases_lt (length front) 4) [
          | inl fewer ↦
              ends front b rest _
              (number_is front b flagged few low (λ _. some) (λ four. absurd (omega arith)))
          | inr four ↦
              breaks front b rest flagged few (beyond_breaks front b flagged (omega arith) big)
        ]
      ]
      | inr zero ↦ elim (cases_lt 0 (length front)) [
        | inl padding ↦
            let none : 0 ≡ b = omega arith in
            breaks front b rest flagged few
            (subst (λ (k : ℕ). GoesOn IsNumber (front ++ k ∷ []) → ⊥) none
            (padding_breaks front flagged padding))
        | inr alone ↦
            ends front b rest _
            (number_is front b flagged few low (λ more. absurd (omega arith))
            (λ four. absurd (omega arith)))
      ]
    ]

-- what is told of flagged bytes and a rest, by the first byte of the rest
number_told : (rest front : List ℕ) → AreFlagged front → length front ≤ 4 →
    IsTold IsNumber number_reason (front ++ rest)
number_told [] front flagged few =
    (Short, subst (IsCutShort IsNumber) (sym (append-nil front)) (cut_short front flagged few))
number_told (b ∷ rest) front flagged few =
    elim (cases_lt b 128) [
      | inl low ↦ last_told front b rest flagged few low
      | inr high ↦ elim (cases_lt b 256) [
        | inr wide ↦ breaks front b rest flagged few (wide_breaks front b flagged wide)
        | inl byte ↦ elim (cases_lt (length front) 4) [
          | inr four ↦
              breaks front b rest flagged few
              (beyond_breaks front b flagged (omega arith) (omega arith))
          | inl fewer ↦
              let further =
              number_told rest (front ++ b ∷ []) (AreFlagged-push front b flagged high byte)
              (omega (arith, length-append front (b ∷ []))) in
              subst (IsTold IsNumber number_reason) (append_assoc front (b ∷ []) rest) further
        ]
      ]
    ]

pub number_total : IsTotal IsNumber number_reason
number_total bytes are = number_told bytes [] tt (omega arith)

module _ {A B : Type 0} (S : A → List ℕ → Type 0) (T : A → B → List ℕ → Type 0)
    (free : IsPrefixFree S)
    (some : (a : A) (front : List ℕ) → S a front → (b : B) × (text : List ℕ) × T a b text)
    (why : List ℕ → Reason → Type 0) (next : A → List ℕ → Reason → Type 0) where
  pair_told : (bytes : List ℕ) → AreBytes bytes →
      ((a : A) (front : List ℕ) → S a front → IsTotal (T a) (next a)) → (got : Got A) →
      Tells S why bytes got → IsTold (IsPair S T) (PairReason S why next) bytes
  pair_told bytes are total (Value a m) p =
      let (got, told) =
      total a (take m bytes) p.spelled (drop m bytes) (bytes_behind m bytes are) in (
        behind S T free some why next a m got,
        pair_tells_second S T free some why next bytes a m p got told,
      )
  pair_told bytes are total Short p =
      (Short, pair_tells_first S T free some why next bytes Short Short p refl)
  pair_told bytes are total (Bad place reason) p = (
    Bad place reason,
    pair_tells_first S T free some why next bytes (Bad place reason) (Bad place reason) p refl,
  )

  pub pair_total : IsTotal S why → ((a : A) (front : List ℕ) → S a front → IsTotal (T a) (next a)) →
      IsTotal (IsPair S T) (PairReason S why next)
  pair_total first second bytes are = let front = first bytes are in
      pair_told bytes are second front.0 front.1
