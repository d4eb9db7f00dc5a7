-- Who is blamed for a count that rose, over calls that follow each other.
use Rattle.std.proofs.Common.{◌≡◌, ℕ, Bool, true, refl}
use Rattle.std.proofs.lemmas.Bool.{false≢true}
use Rattle.std.specs.Prelude.{Result, Ok, Err, IsErr}
use Rattle.sv_prim.specs.Counts.{Rose}
use Rattle.sv_base.specs.Causes.{Blames, BlamesLast, HasCause, one_more}

-- the device is blamed
pub Blames-yes : (blamed : Type 0) (before now : ℕ) → blamed → Rose before now
    → Blames blamed before now
Blames-yes blamed before now guilty rose =
    record { rose = λ _. rose; kept = λ clear. absurd (clear guilty) }

-- the device is not blamed
pub Blames-no : (blamed : Type 0) (before now : ℕ) → (blamed → ⊥) → now ≡ before
    → Blames blamed before now
Blames-no blamed before now clear kept =
    record { rose = λ guilty. absurd (clear guilty); kept = λ _. kept }

-- the same blame in other words
pub Blames-as : (this that : Type 0) (before now : ℕ) → (this → that) → (that → this)
    → Blames this before now → Blames that before now
Blames-as this that before now to from blames =
    record {
      rose = λ guilty. blames.rose (from guilty);
      kept = λ clear. blames.kept
          (λ guilty. clear (to guilty));
    }

-- what a call says of its cause
pub Blames-of : {T E : Type 0} (before now : ℕ) (result : Result T E) → HasCause before now result
    → Blames (IsErr result) before now
Blames-of before now (Ok x) cause =
    record { rose = λ guilty. absurd (false≢true guilty); kept = λ _. cause.kept }
Blames-of before now (Err e) cause =
    record { rose = λ _. cause.failed; kept = λ clear. absurd (clear refl) }

-- the sink is blamed
pub BlamesLast-yes : (blamed : Type 0) (broken : Bool) (before now : ℕ) → blamed
    → now ≡ one_more before → broken ≡ true → BlamesLast blamed broken before now
BlamesLast-yes blamed broken before now guilty one last =
    record { one = λ _. one; last = λ _. last; kept = λ clear. absurd (clear guilty) }

-- the sink is not blamed
pub BlamesLast-no : (blamed : Type 0) (broken : Bool) (before now : ℕ) → (blamed → ⊥) → now ≡ before
    → BlamesLast blamed broken before now
BlamesLast-no blamed broken before now clear kept =
    record {
      one = λ guilty. absurd (clear guilty);
      last = λ guilty. absurd (clear guilty);
      kept =
          λ _. kept;
    }

-- the same blame in other words
pub BlamesLast-as : (this that : Type 0) (broken : Bool) (before now : ℕ) → (this → that)
    → (that → this) → BlamesLast this broken before now → BlamesLast that broken before now
BlamesLast-as this that broken before now to from blames = record {
  one = λ guilty. blames.one (from guilty);
  last = λ guilty. blames.last (from guilty);
  kept = λ clear. blames.kept (λ guilty. clear (to guilty));
}
