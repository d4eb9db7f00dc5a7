use Rattle.std.proofs.Common.{◌≡◌, ℕ, ◌+◌, ◌<◌, ◌≤◌, ◌^◌, ◌*◌, ◌%◌, ◌⊎◌, Bool, false, IsTrue, List}
use Rattle.std.proofs.Common.{[], ◌∷◌, ◌++◌, length, get_or, take, refl, sym, ap, subst, ◌∙◌, arith}
use Rattle.std.proofs.Common.{inl, inr, add-one}
use Rattle.std.proofs.lemmas.Bool.{cases_lt}
use Rattle.std.proofs.lemmas.List.{length-take, take_all}
use Rattle.std.proofs.Math.Seq.{take-suc}
use Rattle.sv_prim.specs.Code.{Begins, GoesOn, BreaksAt}
use Rattle.sv_prim.specs.Number.{IsNumber, number_reason, groups_sum}
use Rattle.sv_prim.proofs.Groups.{AreFlagged, number_free, cut_short, padding_breaks, beyond_breaks}
use Rattle.sv_prim.proofs.Groups.{groups_sum_below, number_is, groups_sum-push}
use Rattle.sv_prim.proofs.Codes.{told_only}
use Rattle.sv_prim.proofs.number.get_u32.Goals as goal

-- the byte at the place breaks the number that the bytes before it begin
breaks : (bytes : List ℕ) (place : ℕ) → place < length bytes → place ≤ 4 →
    AreFlagged (take place bytes)
    → (((0 < place) × (get_or bytes place 0 ≡ 0)) ⊎ ((place ≡ 4) × (16 ≤ get_or bytes place 0))) →
    BreaksAt IsNumber bytes place
breaks bytes place lt few flagged how =
    let len : length (take place bytes) ≡ place = omega (arith, length-take place bytes) in
    let next : take (place + 1) bytes ≡ take place bytes ++ get_or bytes place 0 ∷ [] =
    rw add-one (take-suc bytes place 0 lt) in
    record {
      within = lt;
      before = cut_short (take place bytes) flagged (omega arith);
      here = λ goes.
          let on : GoesOn IsNumber (take place bytes ++ get_or bytes place 0 ∷ []) =
          subst (GoesOn IsNumber) next goes in
          elim how [
            | inl zero ↦
                padding_breaks (take place bytes) flagged (omega (arith, zero.0))
                (subst (λ (b : ℕ). GoesOn IsNumber (take place bytes ++ b ∷ [])) zero.1 on)
            | inr big ↦
                beyond_breaks (take place bytes) (get_or bytes place 0) flagged
                (omega (arith, big.0)) big.1 on
          ];
    }

is_not : (b : Bool) → b ≡ false → IsTrue b → ⊥
is_not b e h = cc

-- the byte at the place ends the number
spelled : (bytes : List ℕ) (place value new : ℕ) → place < length bytes → place ≤ 4 →
    AreFlagged (take place bytes) → value ≡ groups_sum (take place bytes)
    → new ≡ value + 2 ^ (7 * place) * (get_or bytes place 0 % 128) → get_or bytes place 0 < 128
    → ((((0 < place) × (get_or bytes place 0 ≡ 0)) ⊎ ((place ≡ 4) × (16 ≤ get_or bytes place 0))) →
    ⊥) → Begins IsNumber bytes new (place + 1)
spelled bytes place value new lt few flagged so_far sum low fine =
    let b = get_or bytes place 0 in
    let front = take place bytes in
    let len : length front ≡ place = omega (arith, length-take place bytes) in
    let next : take (place + 1) bytes ≡ front ++ b ∷ [] = rw add-one (take-suc bytes place 0 lt) in
    let pos : 0 < length front → 0 < b = λ some. elim (cases_lt 0 b) [
      | inl more ↦ more
      | inr none ↦ absurd (fine (inl (omega (arith, len, some), omega (arith, none))))
    ] in
    let small : length front ≡ 4 → b < 16 = λ four. elim (cases_lt b 16) [
      | inl more ↦ more
      | inr big ↦ absurd (fine (inr (omega (arith, len, four), big)))
    ] in
    let n = number_is front b flagged (omega (arith, len, few)) low pos small in
    let same : groups_sum (front ++ b ∷ []) ≡ new =
    groups_sum-push front b ∙ rw (len, ← so_far) (sym sum) in
    record {
      within = omega arith;
      spelled = rw next (subst (λ (v : ℕ). IsNumber v (front ++ b ∷ [])) same n);
    }

pub returns-then-is_refused-clause-told : goal.returns-then-is_refused-clause-told
returns-then-is_refused-clause-told c = (
  breaks c.args.bytes.now c.loop-place.place c.loop-place-test.true c.loop-place.invariant.0
      c.loop-place.invariant.1 (c.is_refused.ensures.0 c.if-is_refused.true),
  refl,
)

pub returns-then-is_refused-clause-only : goal.returns-then-is_refused-clause-only
returns-then-is_refused-clause-only c =
    told_only IsNumber number_free number_reason c.args.bytes.now _
    (returns-then-is_refused-clause-told c)

pub with_group-value-requires-clause-below : goal.with_group-value-requires-clause-below
with_group-value-requires-clause-below c =
    let place = c.loop-place.place in
    let bytes = c.args.bytes.now in
    let len : length (take place bytes) ≡ place = omega (arith, length-take place bytes) in
    rw c.loop-place.invariant.2
    (subst (λ (k : ℕ). groups_sum (take place bytes) < 2 ^ (7 * k)) len
    (groups_sum_below (take place bytes)))

pub returns-then-byte-lt128-clause-told : goal.returns-then-byte-lt128-clause-told
returns-then-byte-lt128-clause-told c =
    spelled c.args.bytes.now c.loop-place.place c.loop-place.value c.with_group-value.result
    c.loop-place-test.true c.loop-place.invariant.0 c.loop-place.invariant.1
    c.loop-place.invariant.2 c.with_group-value.ensures c.if-byte-lt128.true
    (λ how. absurd (is_not c.is_refused.result c.if-is_refused.false (c.is_refused.ensures.1 how)))

pub returns-then-byte-lt128-clause-only : goal.returns-then-byte-lt128-clause-only
returns-then-byte-lt128-clause-only c =
    told_only IsNumber number_free number_reason c.args.bytes.now _
    (returns-then-byte-lt128-clause-told c)

pub returns-clause-told : goal.returns-clause-told
returns-clause-told c =
    let whole : take c.loop-place.place c.args.bytes.now ≡ c.args.bytes.now =
    take_all c.loop-place.place c.args.bytes.now (omega arith) in
    let flagged : AreFlagged c.args.bytes.now = subst AreFlagged whole c.loop-place.invariant.1 in
    cut_short c.args.bytes.now flagged (omega (
      arith,
      length-take c.loop-place.place c.args.bytes.now,
      ap length whole,
    ))

pub returns-clause-only : goal.returns-clause-only
returns-clause-only c =
    told_only IsNumber number_free number_reason c.args.bytes.now _ (returns-clause-told c)
