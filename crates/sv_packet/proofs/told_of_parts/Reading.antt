-- A reader at one part of a packet after another: what is told of the parts is told of the whole.
use Rattle.std.proofs.Common.{◌≡◌, ℕ, ◌+◌, List, take, drop, sym, ap, subst, ◌∙◌, arith, inl, inr}
use Rattle.std.proofs.lemmas.List.{drop-drop, drop-take}
use Rattle.sv_prim.specs.declared.got.Reason.{Reason}
use Rattle.sv_prim.specs.Code.{Begins, IsCutShort, BreaksAt, IsPrefixFree, IsPair, PairReason}
use Rattle.sv_prim.proofs.Shared.{begins_in_front, carried_breaks, carried_short, pair_begins}
use Rattle.sv_prim.proofs.Shared.{pair_breaks_first, pair_breaks_second, pair_short_first}
use Rattle.sv_prim.proofs.Shared.{pair_short_second}
use Rattle.sv_packet.specs.declared.reader.Reader.{Reader}
use Rattle.sv_packet.specs.declared.reader.Stop.{Stop}
use Rattle.sv_packet.specs.declared.reader.Stop.TheVariants.{Short, Bad}
use Rattle.sv_packet.specs.Reader.{left, TakesPart, Stops}

-- what is left behind a spelling
pub left_behind :
    {V : Type 0} (S : V → List ℕ → Type 0) (old mid : Reader) (value : V)
    (t : TakesPart S old mid value) → drop t.used (left old) ≡ left mid
left_behind S old mid value t =
    drop-drop t.used old.at old.bytes.now ∙ ap (λ (k : ℕ). drop k old.bytes.now) (sym t.further)
    ∙ ap (λ (b : List ℕ). drop mid.at b) (sym t.same)

module _ {A B : Type 0} (S : A → List ℕ → Type 0) (T : A → B → List ℕ → Type 0)
    (free : IsPrefixFree S)
    (some : (a : A) (front : List ℕ) → S a front → (b : B) × (text : List ℕ) × T a b text) where
  pub takes_both : (old mid new : Reader) (a : A) (b : B) → TakesPart S old mid a →
      TakesPart (T a) mid new b → TakesPart (IsPair S T) old new (a, b)
  takes_both old mid new a b t u = record {
    used = t.used + u.used;
    same = u.same ∙ t.same;
    further = omega (arith, t.further, u.further);
    spelled =
        pair_begins S T free some (left old) a b t.used u.used t.spelled
        (subst (λ (x : List ℕ). Begins (T a) x b u.used) (sym (left_behind S old mid a t))
        u.spelled);
  }

  module _ (why : List ℕ → Reason → Type 0) (next : A → List ℕ → Reason → Type 0) where
    pub stops_first : (old : Reader) (stop : Stop) → Stops S why old stop →
        Stops (IsPair S T) (PairReason S why next) old stop
    stops_first old Short p = pair_short_first S T free some (left old) p
    stops_first old (Bad place reason) (ahead, is_place, p, is_why) = (
      ahead,
      is_place,
      pair_breaks_first S T free some (left old) ahead p,
      inl (p.before, is_why),
    )

    pub stops_second : (old mid : Reader) (a : A) (stop : Stop) → TakesPart S old mid a →
        Stops (T a) (next a) mid stop → Stops (IsPair S T) (PairReason S why next) old stop
    stops_second old mid a Short t p =
        pair_short_second S T free some (left old) a t.used t.spelled
        (subst (IsCutShort (T a)) (sym (left_behind S old mid a t)) p)
    stops_second old mid a (Bad place reason) t (ahead, is_place, p, is_why) =
        let behind = sym (left_behind S old mid a t) in
        let breaks = subst (λ (x : List ℕ). BreaksAt (T a) x ahead) behind p in
        let front : take ahead (left mid) ≡ drop t.used (take (t.used + ahead) (left old)) =
        ap (take ahead) behind ∙ sym (drop-take t.used ahead (left old)) in (
          t.used + ahead,
          omega (arith, is_place, t.further),
          pair_breaks_second S T free some (left old) a t.used ahead t.spelled breaks,
          inr (
            a,
            t.used,
            begins_in_front S T free some (left old) a t.used (t.used + ahead) (omega arith)
                t.spelled,
            subst (λ (x : List ℕ). next a x reason) front is_why,
          ),
        )

-- what is told of a code is told of another that the same bytes spell
pub stops_carried : {U V : Type 0} (S : U → List ℕ → Type 0) (T : V → List ℕ → Type 0)
    (to : (v : V) (bytes : List ℕ) → T v bytes → (u : U) × S u bytes)
    (from : (u : U) (bytes : List ℕ) → S u bytes → (v : V) × T v bytes)
    (why other : List ℕ → Reason → Type 0) →
    ((front : List ℕ) (reason : Reason) → why front reason → other front reason)
    → (old : Reader) (stop : Stop) → Stops S why old stop → Stops T other old stop
stops_carried S T to from why other as_other old Short p = carried_short S T to from (left old) p
stops_carried S T to from why other as_other old (Bad place reason) (ahead, is_place, p, is_why) = (
  ahead,
  is_place,
  carried_breaks S T to from (left old) ahead p,
  as_other (take ahead (left old)) reason is_why,
)
