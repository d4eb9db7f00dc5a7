-- What is told of a code is told of another that the same bytes spell.
use Rattle.std.proofs.Common.{ℕ, ◌+◌, List, ◌++◌, take}
use Rattle.sv_prim.specs.declared.got.Reason.{Reason}
use Rattle.sv_prim.specs.declared.got.Got.{Got}
use Rattle.sv_prim.specs.declared.got.Got.TheVariants.{Value, Short, Bad}
use Rattle.sv_prim.specs.Code.{Begins, GoesOn, IsCutShort, BreaksAt, Tells, IsTotal}

module _ {U V : Type 0} (S : U → List ℕ → Type 0) (T : V → List ℕ → Type 0)
    (to : (v : V) (bytes : List ℕ) → T v bytes → (u : U) × S u bytes)
    (from : (u : U) (bytes : List ℕ) → S u bytes → (v : V) × T v bytes) where
  pub carried_short : (bytes : List ℕ) → IsCutShort S bytes → IsCutShort T bytes
  carried_short bytes (u, more, some, s) = let (v, t) = from u (bytes ++ more) s in
      (v, more, some, t)

  carried_goes : (bytes : List ℕ) → GoesOn T bytes → GoesOn S bytes
  carried_goes bytes (v, more, t) = let (u, s) = to v (bytes ++ more) t in (u, more, s)

  pub carried_breaks : (bytes : List ℕ) (place : ℕ) → BreaksAt S bytes place →
      BreaksAt T bytes place
  carried_breaks bytes place p = record {
    within = p.within;
    before = carried_short (take place bytes) p.before;
    here = λ goes. p.here (carried_goes (take (place + 1) bytes) goes);
  }

  pub carried_begins : (bytes : List ℕ) (u : U) (used : ℕ) → Begins S bytes u used →
      (v : V) × Begins T bytes v used
  carried_begins bytes u used p = let (v, t) = from u (take used bytes) p.spelled in
      (v, record { within = p.within; spelled = t })

  module _ (why other : List ℕ → Reason → Type 0)
      (as_other : (front : List ℕ) (reason : Reason) → why front reason → other front reason) where
    pub carried_told : (bytes : List ℕ) (got : Got U) → Tells S why bytes got →
        (told : Got V) × Tells T other bytes told
    carried_told bytes (Value u used) p = let (v, begins) = carried_begins bytes u used p in
        (Value v used, begins)
    carried_told bytes Short p = (Short, carried_short bytes p)
    carried_told bytes (Bad place reason) p =
        (Bad place reason, (carried_breaks bytes place p.0, as_other (take place bytes) reason p.1))

    pub carried_total : IsTotal S why → IsTotal T other
    carried_total total bytes are = let (got, told) = total bytes are in carried_told bytes got told
