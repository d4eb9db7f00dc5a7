-- Counts, and the faults that they count: a fault is answered only where its object's count rose.
use Rattle.std.specs.Prelude.{◌≡◌, ℕ, ◌+◌, ◌-◌, ◌^◌, ◌≤◌, Bool, true, max, min, Result, OnOk, OnErr}
use Rattle.sv_prim.specs.Counts.{Rose}

-- one more, as far as a u64 goes: at its end a count stays
abbrev pub one_more : ℕ → ℕ
one_more n = max n (min (n + 1) (2 ^ 64 - 1))

-- the count of an object over one call: it never falls, an error makes it rise, and an answer
-- leaves it
pub record HasCause {T E : Type 0} (before now : ℕ) (result : Result T E) : Type 0 where
  pub later : before ≤ now
  pub failed : OnErr result (Rose before now)
  pub kept : OnOk result (now ≡ before)

-- a device is blamed only where its count rose, and else its count is as before
pub record Blames (blamed : Type 0) (before now : ℕ) : Type 0 where
  pub rose : blamed → Rose before now
  pub kept : (blamed → ⊥) → now ≡ before

-- a sink is blamed only for one fault, its latest call, and else its count is as before
pub record BlamesLast (blamed : Type 0) (broken : Bool) (before now : ℕ) : Type 0 where
  pub one : blamed → now ≡ one_more before
  pub last : blamed → broken ≡ true
  pub kept : (blamed → ⊥) → now ≡ before
