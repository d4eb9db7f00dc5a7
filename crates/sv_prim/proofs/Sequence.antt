-- What can be told of one spelling and then another, from what can be told of each.
use Rattle.std.proofs.Common.{◌≡◌, ℕ, ◌+◌, ◌≤◌, List, [], ◌∷◌, ◌++◌, length, take, drop, refl, sym}
use Rattle.std.proofs.Common.{ap, subst, ◌∙◌, append_assoc, arith, inl, inr}
use Rattle.std.proofs.lemmas.Bool.{cases_lt}
use Rattle.std.proofs.lemmas.List.{take-append-drop, length-append, length-take, length-drop}
use Rattle.std.proofs.lemmas.List.{append-nil, append_cancel_left, nil_from_length, take-take}
use Rattle.std.proofs.lemmas.List.{drop-take}
use Rattle.std.proofs.Math.Seq.{take-add}
use Rattle.sv_prim.specs.declared.got.Reason.{Reason}
use Rattle.sv_prim.specs.declared.got.Got.{Got}
use Rattle.sv_prim.specs.declared.got.Got.TheVariants.{Value, Short, Bad}
use Rattle.sv_prim.specs.Code.{Begins, GoesOn, IsCutShort, BreaksAt, Tells, IsPrefixFree}
use Rattle.sv_prim.specs.Code.{IsOneReason, IsPair, PairReason}
use Rattle.sv_prim.proofs.Codes.{not_nil, take_front, begins_once, begins_not_cut}

-- of two fronts of a list the longer one begins with the other
pub longer : (u v x y : List ℕ) → u ++ v ≡ x ++ y → length u ≤ length x →
    (r : List ℕ) × (x ≡ u ++ r) × (v ≡ r ++ y)
longer [] v x y e le = (x, refl, e)
longer (c ∷ u) v [] y e le = absurd (omega arith)
longer (c ∷ u) v (d ∷ x) y e le =
    let tails : u ++ v ≡ x ++ y = cc in
    let same : c ≡ d = cc in
    let r = longer u v x y tails (omega arith) in
    let tail : x ≡ u ++ r.0 = r.1 in
    (r.0, cc, r.2)

-- two fronts of a list that are equally long are the same
pub fronts_same : (u v x y : List ℕ) → u ++ v ≡ x ++ y → length u ≡ length x → (u ≡ x) × (v ≡ y)
fronts_same [] v [] y e same = (refl, e)
fronts_same [] v (d ∷ x) y e same = absurd (omega arith)
fronts_same (c ∷ u) v [] y e same = absurd (omega arith)
fronts_same (c ∷ u) v (d ∷ x) y e same =
    let tails : u ++ v ≡ x ++ y = cc in
    let first : c ≡ d = cc in
    let r = fronts_same u v x y tails (omega arith) in
    let rest : u ≡ x = r.0 in
    (cc, r.1)

module _ {A B : Type 0} (S : A → List ℕ → Type 0) (T : A → B → List ℕ → Type 0)
    (free : IsPrefixFree S)
    (some : (a : A) (front : List ℕ) → S a front → (b : B) × (text : List ℕ) × T a b text) where
  pub pair_begins : (bytes : List ℕ) (a : A) (b : B) (m n : ℕ) → Begins S bytes a m →
      Begins (T a) (drop m bytes) b n → Begins (IsPair S T) bytes (a, b) (m + n)
  pair_begins bytes a b m n p q = record {
    within = omega (arith, p.within, q.within, length-drop m bytes);
    spelled = record {
      first = take m bytes;
      second = take n (drop m bytes);
      first_spelled = p.spelled;
      second_spelled = q.spelled;
      whole = take-add m n bytes;
    };
  }

  pub pair_short_first : (bytes : List ℕ) → IsCutShort S bytes → IsCutShort (IsPair S T) bytes
  pair_short_first bytes (a, more, some_more, s) =
      let (b, text, spelled) = some a (bytes ++ more) s in (
        (a, b),
        more ++ text,
        (λ e. let n = not_nil more some_more in omega (
          arith,
          length-append more text,
          ap length e,
        )),
        record {
          first = bytes ++ more;
          second = text;
          first_spelled = s;
          second_spelled = spelled;
          whole = sym (append_assoc bytes more text);
        },
      )

  pub pair_short_second : (bytes : List ℕ) (a : A) (m : ℕ) → Begins S bytes a m →
      IsCutShort (T a) (drop m bytes) → IsCutShort (IsPair S T) bytes
  pair_short_second bytes a m p (b, more, some_more, t) = (
    (a, b),
    more,
    some_more,
    record {
      first = take m bytes;
      second = drop m bytes ++ more;
      first_spelled = p.spelled;
      second_spelled = t;
      whole =
          ap (λ (x : List ℕ). x ++ more) (sym (take-append-drop m bytes))
          ∙ append_assoc (take m bytes) (drop m bytes) more;
    },
  )

  not_on_first : (bytes : List ℕ) (place : ℕ) → BreaksAt S bytes place →
      GoesOn (IsPair S T) (take (place + 1) bytes) → ⊥
  not_on_first bytes place p (pair, more, both) =
      let c = p.before in
      let len : length (take (place + 1) bytes) ≡ place + 1 =
      omega (arith, p.within, length-take (place + 1) bytes) in
      let len0 : length (take place bytes) ≡ place =
      omega (arith, p.within, length-take place bytes) in
      elim (cases_lt place (length both.first)) [
        | inl lt ↦
            let r =
            longer (take (place + 1) bytes) more both.first both.second both.whole
            (omega arith) in
            p.here (pair.0, r.0, subst (S pair.0) r.1 both.first_spelled)
        | inr le ↦
            let f = take_front place (place + 1) bytes (omega arith) in
            let again : both.first ++ both.second ≡ take place bytes ++ (f.0 ++ more) =
            sym both.whole ∙ ap (λ (x : List ℕ). x ++ more) f.1
            ∙ append_assoc (take place bytes) f.0 more in
            let r =
            longer both.first both.second (take place bytes) (f.0 ++ more) again
            (omega arith) in
            let whole : both.first ++ (r.0 ++ c.1) ≡ (take place bytes ++ c.1) ++ [] =
            sym (append_assoc both.first r.0 c.1) ∙ ap (λ (x : List ℕ). x ++ c.1) (sym r.1)
            ∙ sym (append-nil (take place bytes ++ c.1)) in
            let e =
            free pair.0 c.0 both.first (take place bytes ++ c.1) (r.0 ++ c.1) []
            both.first_spelled c.3 whole in
            let n = not_nil c.1 c.2 in
            omega (arith, ap length e.0, length-append (take place bytes) c.1)
      ]

  pub pair_breaks_first : (bytes : List ℕ) (place : ℕ) → BreaksAt S bytes place →
      BreaksAt (IsPair S T) bytes place
  pair_breaks_first bytes place p = record {
    within = p.within;
    before = pair_short_first (take place bytes) p.before;
    here = not_on_first bytes place p;
  }

  pub begins_in_front : (bytes : List ℕ) (a : A) (m n : ℕ) → m ≤ n → Begins S bytes a m →
      Begins S (take n bytes) a m
  begins_in_front bytes a m n le p = record {
    within = omega (arith, p.within, length-take n bytes);
    spelled = subst (S a) (sym (take-take m n bytes le)) p.spelled;
  }

  not_on_second : (bytes : List ℕ) (a : A) (m place : ℕ) → Begins S bytes a m →
      BreaksAt (T a) (drop m bytes) place → GoesOn (IsPair S T) (take (m + (place + 1)) bytes) → ⊥
  not_on_second bytes a m place p q (pair, more, both) =
      let split : take (m + (place + 1)) bytes ++ more
      ≡ take m bytes ++ (take (place + 1) (drop m bytes) ++ more) =
      ap (λ (x : List ℕ). x ++ more) (take-add m (place + 1) bytes)
      ∙ append_assoc (take m bytes) (take (place + 1) (drop m bytes)) more in
      let e =
      free a pair.0 (take m bytes) both.first (take (place + 1) (drop m bytes) ++ more)
      both.second p.spelled both.first_spelled (sym split ∙ both.whole) in
      let r =
      longer (take m bytes) (take (place + 1) (drop m bytes) ++ more) both.first both.second
      (sym split ∙ both.whole) (omega (arith, ap length e.0)) in
      let nothing : r.0 ≡ [] = nil (take m bytes) both.first r.0 e.0 r.1 in
      let second : both.second ≡ take (place + 1) (drop m bytes) ++ more =
      sym (r.2 ∙ ap (λ (x : List ℕ). x ++ both.second) nothing) in
      q.here (
        pair.1,
        more,
        subst (T a pair.1) second
            (subst (λ (k : A). T k pair.1 both.second) (sym e.1) both.second_spelled),
      )
    where
      nil : (u x r : List ℕ) → u ≡ x → x ≡ u ++ r → r ≡ []
      nil u x r same e =
          nil_from_length r (omega (arith, ap length same, ap length e, length-append u r))

  pub pair_breaks_second : (bytes : List ℕ) (a : A) (m place : ℕ) → Begins S bytes a m →
      BreaksAt (T a) (drop m bytes) place → BreaksAt (IsPair S T) bytes (m + place)
  pair_breaks_second bytes a m place p q =
      let front : Begins S (take (m + place) bytes) a m =
      begins_in_front bytes a m (m + place) (omega arith) p in
      let cut : IsCutShort (T a) (drop m (take (m + place) bytes)) =
      subst (IsCutShort (T a)) (sym (drop-take m place bytes)) q.before in
      record {
        within = omega (arith, p.within, q.within, length-drop m bytes);
        before = pair_short_second (take (m + place) bytes) a m front cut;
        here =
            λ goes.
            not_on_second bytes a m place p q
            (subst (λ (k : ℕ). GoesOn (IsPair S T) (take k bytes)) (omega arith) goes);
      }

  module _ (why : List ℕ → Reason → Type 0) (next : A → List ℕ → Reason → Type 0) where
    -- behind the first spelling the answer is that on the second
    abbrev pub behind : A → ℕ → Got B → Got (A × B)
    behind a m (Value b n) = Value (a, b) (m + n)
    behind a m Short = Short
    behind a m (Bad place reason) = Bad (m + place) reason

    pub pair_tells_second : (bytes : List ℕ) (a : A) (m : ℕ) → Begins S bytes a m → (got : Got B) →
        Tells (T a) (next a) (drop m bytes) got →
        Tells (IsPair S T) (PairReason S why next) bytes (behind a m got)
    pair_tells_second bytes a m p (Value b n) q = pair_begins bytes a b m n p q
    pair_tells_second bytes a m p Short q = pair_short_second bytes a m p q
    pair_tells_second bytes a m p (Bad place reason) q = (
      pair_breaks_second bytes a m place p q.0,
      inr (
        a,
        m,
        begins_in_front bytes a m (m + place) (omega arith) p,
        subst (λ (x : List ℕ). next a x reason) (sym (drop-take m place bytes)) q.1,
      ),
    )

    -- where no first spelling stands at the front the answer is that on the first
    abbrev pub instead : Got A → Got (A × B) → Type 0
    instead (Value a m) got = ⊥
    instead Short got = got ≡ Short
    instead (Bad place reason) got = got ≡ Bad place reason

    pub pair_tells_first : (bytes : List ℕ) (got : Got A) (whole : Got (A × B)) →
        Tells S why bytes got → instead got whole →
        Tells (IsPair S T) (PairReason S why next) bytes whole
    pair_tells_first bytes (Value a m) whole p e = absurd e
    pair_tells_first bytes Short whole p e =
        subst (Tells (IsPair S T) (PairReason S why next) bytes) (sym e) (pair_short_first bytes p)
    pair_tells_first bytes (Bad place reason) whole p e =
        subst (Tells (IsPair S T) (PairReason S why next) bytes) (sym e) (
          pair_breaks_first bytes
              place p.0,
          inl (p.0.before, p.1),
        )

  pub pair_free : ((a : A) → IsPrefixFree (T a)) → IsPrefixFree (IsPair S T)
  pair_free free_t u v a b x y p q e =
      let whole : p.first ++ (p.second ++ x) ≡ q.first ++ (q.second ++ y) =
      sym (append_assoc p.first p.second x) ∙ ap (λ (k : List ℕ). k ++ x) (sym p.whole) ∙ e
      ∙ ap (λ (k : List ℕ). k ++ y) q.whole ∙ append_assoc q.first q.second y in
      let one =
      free u.0 v.0 p.first q.first (p.second ++ x) (q.second ++ y) p.first_spelled
      q.first_spelled whole in
      let tails : p.second ++ x ≡ q.second ++ y =
      append_cancel_left q.first (p.second ++ x) (q.second ++ y)
      (ap (λ (k : List ℕ). k ++ (p.second ++ x)) (sym one.0) ∙ whole) in
      let second : T v.0 u.1 p.second =
      subst (λ (k : A). T k u.1 p.second) one.1 p.second_spelled in
      let two = free_t v.0 u.1 v.1 p.second q.second x y second q.second_spelled tails in (
        p.whole ∙ ap (λ (k : List ℕ). k ++ p.second) one.0 ∙ ap (λ (k : List ℕ). q.first ++ k) two.0
            ∙ sym q.whole,
        pair_is u v one.1 two.1,
      )
    where
      pair_is : {A B : Type 0} (u v : A × B) → u.0 ≡ v.0 → u.1 ≡ v.1 → u ≡ v
      pair_is (a, b) (c, d) p q = cc

-- a pair has one reason where its parts have
pub pair_reason :
    {A : Type 0} (S : A → List ℕ → Type 0) (free : IsPrefixFree S) (why : List ℕ → Reason → Type 0)
    (next : A → List ℕ → Reason → Type 0) → IsOneReason why → ((a : A) → IsOneReason (next a)) →
    IsOneReason (PairReason S why next)
pair_reason S free why next one others front p q (inl x) (inl y) = one front p q x.1 y.1
pair_reason S free why next one others front p q (inl x) (inr (b, n, begins, y)) =
    absurd (begins_not_cut S free front b n begins x.0)
pair_reason S free why next one others front p q (inr (a, m, begins, x)) (inl y) =
    absurd (begins_not_cut S free front a m begins y.0)
pair_reason {A} S free why next one others front p q (inr (a, m, begins, x))
    (inr (b, n, begins2, y)) =
    let (same, used) = begins_once S free front a b m n begins begins2 in
    let x2 : next b (drop n front) p =
    subst (λ (k : ℕ). next b (drop k front) p) used
    (subst (λ (k : A). next k (drop m front) p) same x) in
    others b (drop n front) p q x2 y
