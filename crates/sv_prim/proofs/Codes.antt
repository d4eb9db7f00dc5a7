-- What is told of the front of some bytes is the only thing that can be told.
use Rattle.std.proofs.Common.{◌≡◌, ◌≢◌, ℕ, ◌+◌, ◌<◌, ◌≤◌, List, [], ◌∷◌, ◌++◌, length, take, drop}
use Rattle.std.proofs.Common.{refl, sym, ap, subst, ◌∙◌, append_assoc, arith, inl, inr}
use Rattle.std.proofs.lemmas.Bool.{cases_lt}
use Rattle.std.proofs.lemmas.List.{take-append-drop, length-append, length-take, append-nil}
use Rattle.std.proofs.lemmas.List.{take-take}
use Rattle.sv_prim.specs.declared.got.Reason.{Reason}
use Rattle.sv_prim.specs.declared.got.Got.{Got}
use Rattle.sv_prim.specs.declared.got.Got.TheVariants.{Value, Short, Bad}
use Rattle.sv_prim.specs.Code.{Begins, IsCutShort, BreaksAt, Tells, IsOnly, IsPrefixFree}

pub not_nil : (more : List ℕ) → more ≢ [] → 0 < length more
not_nil [] h = absurd (h refl)
not_nil (x ∷ xs) h = omega arith

-- a front of a front
pub take_front : (m n : ℕ) (bytes : List ℕ) → m ≤ n →
    (rest : List ℕ) × (take n bytes ≡ take m bytes ++ rest)
take_front m n bytes le =
    let same : take m (take n bytes) ≡ take m bytes = take-take m n bytes le in (
      drop m (take n bytes),
      sym (take-append-drop m (take n bytes))
          ∙ ap (λ (x : List ℕ). x ++ drop m (take n bytes)) same,
    )

module _ {V : Type 0} (S : V → List ℕ → Type 0) (free : IsPrefixFree S) where
  pub begins_once : (bytes : List ℕ) (u v : V) (m n : ℕ) → Begins S bytes u m → Begins S bytes v n →
      (u ≡ v) × (m ≡ n)
  begins_once bytes u v m n p q =
      let e =
      free u v (take m bytes) (take n bytes) (drop m bytes) (drop n bytes) p.spelled q.spelled
      (take-append-drop m bytes ∙ sym (take-append-drop n bytes)) in (
        e.1,
        omega (arith, p.within, q.within, ap length e.0, length-take m bytes, length-take n bytes),
      )

  pub begins_not_cut : (bytes : List ℕ) (u : V) (m : ℕ) → Begins S bytes u m → IsCutShort S bytes →
      ⊥
  begins_not_cut bytes u m p q =
      let long = not_nil q.1 q.2 in
      let whole : take m bytes ++ (drop m bytes ++ q.1) ≡ (bytes ++ q.1) ++ [] =
      sym (append_assoc (take m bytes) (drop m bytes) q.1)
      ∙ ap (λ (x : List ℕ). x ++ q.1) (take-append-drop m bytes)
      ∙ sym (append-nil (bytes ++ q.1)) in
      let e =
      free u q.0 (take m bytes) (bytes ++ q.1) (drop m bytes ++ q.1) [] p.spelled q.3 whole in
      omega (arith, long, p.within, ap length e.0, length-take m bytes, length-append bytes q.1)

  pub begins_not_breaks : (bytes : List ℕ) (u : V) (m place : ℕ) → Begins S bytes u m →
      BreaksAt S bytes place → ⊥
  begins_not_breaks bytes u m place p q =
      elim (cases_lt place m) [
        | inl lt ↦
            let f = take_front (place + 1) m bytes (omega arith) in
            q.here (u, f.0, subst (S u) f.1 p.spelled)
        | inr le ↦
            let f = take_front m place bytes le in
            let b : Begins S (take place bytes) u m = record {
              within = omega (arith, q.within, length-take place bytes);
              spelled = subst (S u) (sym (take-take m place bytes le)) p.spelled;
            } in
            begins_not_cut (take place bytes) u m b q.before
      ]

  pub cut_not_breaks : (bytes : List ℕ) (place : ℕ) → IsCutShort S bytes → BreaksAt S bytes place →
      ⊥
  cut_not_breaks bytes place p q =
      let again : take (place + 1) bytes ++ (drop (place + 1) bytes ++ p.1) ≡ bytes ++ p.1 =
      sym (append_assoc (take (place + 1) bytes) (drop (place + 1) bytes) p.1)
      ∙ ap (λ (x : List ℕ). x ++ p.1) (take-append-drop (place + 1) bytes) in
      q.here (p.0, drop (place + 1) bytes ++ p.1, subst (S p.0) (sym again) p.3)

  pub breaks_before : (bytes : List ℕ) (m n : ℕ) → m < n → BreaksAt S bytes m → BreaksAt S bytes n →
      ⊥
  breaks_before bytes m n lt p q =
      let f = take_front (m + 1) n bytes (omega arith) in
      let c = q.before in
      let again : take (m + 1) bytes ++ (f.0 ++ c.1) ≡ take n bytes ++ c.1 =
      sym (append_assoc (take (m + 1) bytes) f.0 c.1)
      ∙ ap (λ (x : List ℕ). x ++ c.1) (sym f.1) in
      p.here (c.0, f.0 ++ c.1, subst (S c.0) (sym again) c.3)

  pub breaks_once : (bytes : List ℕ) (m n : ℕ) → BreaksAt S bytes m → BreaksAt S bytes n → m ≡ n
  breaks_once bytes m n p q =
      elim (cases_lt m n) [
        | inl lt ↦ absurd (breaks_before bytes m n lt p q)
        | inr le ↦ elim (cases_lt n m) [
          | inl lt ↦ absurd (breaks_before bytes n m lt q p)
          | inr ge ↦ omega arith
        ]
      ]

  pub told_only : (why : List ℕ → Reason → Type 0) (bytes : List ℕ) (got : Got V) →
      Tells S why bytes got → IsOnly S bytes got
  told_only why bytes (Value u m) told = record {
    value = λ v n q. let e = begins_once bytes u v m n told q in cc;
    short = λ q. absurd (begins_not_cut bytes u m told q);
    bad = λ place q. absurd (begins_not_breaks bytes u m place told q);
  }
  told_only why bytes Short told = record {
    value = λ v n q. absurd (begins_not_cut bytes v n q told);
    short = λ q. refl;
    bad = λ place q. absurd (cut_not_breaks bytes place told q);
  }
  told_only why bytes (Bad m reason) told = record {
    value = λ v n q. absurd (begins_not_breaks bytes v n m q told.0);
    short = λ q. absurd (cut_not_breaks bytes m q told.0);
    bad = λ place q. (reason, ap (λ (k : ℕ). Bad k reason) (breaks_once bytes m place told.0 q));
  }
