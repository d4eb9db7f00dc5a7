-- A reader at the whole of some bytes: what it takes or where it stops tells whether they are one
-- spelling.
use Rattle.std.proofs.Common.{◌≡◌, ℕ, ◌+◌, ◌<◌, ◌≤◌, ◌⊎◌, List, ◌++◌, length, take, drop, sym, ap}
use Rattle.std.proofs.Common.{subst, ◌∙◌, arith, inl, inr}
use Rattle.std.proofs.lemmas.Bool.{cases_lt}
use Rattle.std.proofs.lemmas.List.{length-append, length-drop, take_all, append_cancel_left}
use Rattle.std.proofs.lemmas.List.{take-append-drop}
use Rattle.std.proofs.Math.Seq.{take-append_seam}
use Rattle.sv_prim.specs.declared.got.Reason.{Reason}
use Rattle.sv_prim.specs.declared.got.Got.{Got}
use Rattle.sv_prim.specs.declared.got.Got.TheVariants as got
use Rattle.sv_prim.specs.Code.{Begins, Tells, IsPrefixFree, IsTotal, IsPair}
use Rattle.sv_prim.specs.Text.{AreBytes}
use Rattle.sv_prim.proofs.Shared.{begins_not_breaks, begins_not_cut, begins_once}
use Rattle.sv_packet.specs.declared.reader.Reader.{Reader}
use Rattle.sv_packet.specs.declared.reader.Stop.{Stop}
use Rattle.sv_packet.specs.declared.reader.Stop.TheVariants.{Short, Bad}
use Rattle.sv_packet.specs.Reader.{left, TakesPart, Stops}
use Rattle.sv_packet.proofs.told_of_parts.Reading.{left_behind}

module _ {V : Type 0} (S : V → List ℕ → Type 0) (free : IsPrefixFree S) where
  whole_begins : (bytes : List ℕ) (v : V) → S v bytes → Begins S bytes v (length bytes)
  whole_begins bytes v s = record {
    within = omega arith;
    spelled = subst (S v) (sym (take_all (length bytes) bytes (omega arith))) s;
  }

  not_begun : (why : List ℕ → Reason → Type 0) (old : Reader) (stop : Stop) → Stops S why old stop →
      (v : V) (used : ℕ) → Begins S (left old) v used → ⊥
  not_begun why old Short p v used b = begins_not_cut S free (left old) v used b p
  not_begun why old (Bad place reason) (ahead, is_place, p, is_why) v used b =
      begins_not_breaks S free (left old) v used ahead b p

  -- a stop: the bytes are no spelling
  pub stops_none : (why : List ℕ → Reason → Type 0) (old : Reader) (stop : Stop) →
      Stops S why old stop → (v : V) → S v (left old) → ⊥
  stops_none why old stop p v s =
      not_begun why old stop p v (length (left old)) (whole_begins (left old) v s)

  -- a spelling that ends before the bytes do: they are none
  pub takes_less : (old new : Reader) (v : V) → TakesPart S old new v →
      new.at < old.at + length (left old) → (w : V) → S w (left old) → ⊥
  takes_less old new v t less w s =
      let once =
      begins_once S free (left old) v w t.used (length (left old)) t.spelled
      (whole_begins (left old) w s) in
      omega (arith, once.1, t.further)

  -- a spelling that ends where they do: they are it
  pub takes_all : (old new : Reader) (v : V) → TakesPart S old new v →
      old.at + length (left old) ≤ new.at → S v (left old)
  takes_all old new v t all =
      subst (S v) (take_all t.used (left old) (omega (arith, t.further))) t.spelled.spelled

  -- whether bytes are a spelling
  pub whole_decided : (why : List ℕ → Reason → Type 0) → IsTotal S why → (bytes : List ℕ) →
      AreBytes bytes → ((v : V) × S v bytes) ⊎ ((v : V) → S v bytes → ⊥)
  whole_decided why total bytes are = let (got, told) = total bytes are in decided got told
    where
      decided : (got : Got V) → Tells S why bytes got →
          ((v : V) × S v bytes) ⊎ ((v : V) → S v bytes → ⊥)
      decided (got.Value v used) told = elim (cases_lt used (length bytes)) [
        | inl less ↦
            inr
            (λ w s. let once =
            begins_once S free bytes v w used (length bytes) told (whole_begins bytes w s) in
            omega (arith, once.1, less))
        | inr all ↦ inl (v, subst (S v) (take_all used bytes all) told.spelled)
      ]
      decided got.Short told =
          inr (λ w s. begins_not_cut S free bytes w (length bytes) (whole_begins bytes w s) told)
      decided (got.Bad place reason) told =
          inr
          (λ w s.
          begins_not_breaks S free bytes w (length bytes) place (whole_begins bytes w s) told.0)

module _ {A B : Type 0} (S : A → List ℕ → Type 0) (T : A → B → List ℕ → Type 0)
    (free : IsPrefixFree S) where
  front_begins : (bytes : List ℕ) (w : A × B) (p : IsPair S T w bytes) →
      Begins S bytes w.0 (length p.first)
  front_begins bytes w p = record {
    within = omega (arith, ap length p.whole, length-append p.first p.second);
    spelled =
        subst (S w.0) (sym (ap (take (length p.first)) p.whole ∙ take-append_seam p.first p.second))
        p.first_spelled;
  }

  -- a stop in the first spelling: the bytes are no pair
  pub stops_pair : (why : List ℕ → Reason → Type 0) (old : Reader) (stop : Stop) →
      Stops S why old stop → (w : A × B) → IsPair S T w (left old) → ⊥
  stops_pair why old stop p w pair =
      not_begun S free why old stop p w.0 (length pair.first) (front_begins (left old) w pair)

  -- behind the first spelling stands the second
  pub rest_after : (old mid : Reader) (a : A) → TakesPart S old mid a → (w : A × B) →
      IsPair S T w (left old) → T a w.1 (left mid)
  rest_after old mid a t w pair =
      let once =
      begins_once S free (left old) a w.0 t.used (length pair.first) t.spelled
      (front_begins (left old) w pair) in
      let front : take t.used (left old) ≡ pair.first =
      ap (λ (k : ℕ). take k (left old)) once.1 ∙ ap (take (length pair.first)) pair.whole
      ∙ take-append_seam pair.first pair.second in
      let parts : pair.first ++ drop t.used (left old) ≡ pair.first ++ pair.second =
      ap (λ (x : List ℕ). x ++ drop t.used (left old)) (sym front)
      ∙ take-append-drop t.used (left old) ∙ pair.whole in
      let rest : pair.second ≡ left mid =
      sym (append_cancel_left pair.first (drop t.used (left old)) pair.second parts)
      ∙ left_behind S old mid a t in
      subst (T a w.1) rest (subst (λ (k : A). T k w.1 pair.second) (sym once.0) pair.second_spelled)

  -- the first spelling and all that stands behind it
  pub pair_all : (old mid : Reader) (a : A) (b : B) → TakesPart S old mid a → T a b (left mid) →
      IsPair S T (a, b) (left old)
  pair_all old mid a b t s = record {
    first = take t.used (left old);
    second = left mid;
    first_spelled = t.spelled.spelled;
    second_spelled = s;
    whole =
        sym (take-append-drop t.used (left old))
        ∙ ap (λ (x : List ℕ). take t.used (left old) ++ x) (left_behind S old mid a t);
  }

-- a reader's end stays where it is
pub end_stays : {V : Type 0} (S : V → List ℕ → Type 0) (old mid : Reader) (v : V) →
    TakesPart S old mid v → mid.at + length (left mid) ≡ old.at + length (left old)
end_stays S old mid v t = omega (
  arith,
  t.further,
  t.spelled.within,
  ap length (left_behind S old mid v t),
  length-drop t.used (left old),
)
