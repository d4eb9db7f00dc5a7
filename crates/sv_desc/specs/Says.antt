-- What may be asked of a stored callback, and what it then answers.
use Rattle.std.specs.Prelude.{◌≡◌, ℕ, ◌*◌, ◌^◌, ◌/◌, ◌%◌, ◌<◌, ◌≤◌, List, [], length, All}
use Rattle.std.specs.Prelude.{slice_index_or}
use denote.Ref.{MutBor}
use denote.Param.Members.{Shared}

-- the microseconds after so many ticks of a clock, as a u64 keeps them (UM08027, SYSTIME_US)
abbrev pub micros_at : (clock moment : ℕ) → ℕ
micros_at clock moment = (moment * 1000000 / clock) % 2 ^ 64

-- at most four lines, of 1 to 128 bytes
pub record AreLines (lines : List (List ℕ)) : Type 0 where
  pub few : length lines ≤ 4
  pub some : All (λ line. 1 ≤ length line) lines
  pub short : All (λ line. length line ≤ 128) lines

-- called with the index of one of these lines and an empty buffer, it leaves that line in it
pub record SaysLines {F B : Type 0}
    (g : Shared F (ℕ × (MutBor B × Unit {0})) (Unit {0} × (MutBor B × Unit {0})))
    (items : B → List ℕ) (f : F) (lines : List (List ℕ)) : Type 0 where
  pub takes : (i : ℕ) (b : MutBor B) → i < length lines → items b.now ≡ [] → g.pre f (i, (b, tt))
  pub leaves : (i : ℕ) (b c : MutBor B) → i < length lines → items b.now ≡ [] →
      g.post f (i, (b, tt)) (tt, (c, tt)) → items c.now ≡ slice_index_or lines i []

-- called with a moment of at most 2 ^ 54 ticks, it gives the microseconds
pub record SaysTime {F : Type 0} (g : Shared F (ℕ × Unit {0}) ℕ) (f : F) (clock : ℕ) : Type 0 where
  pub takes : (m : ℕ) → m ≤ 2 ^ 54 → g.pre f (m, tt)
  pub gives : (m r : ℕ) → m ≤ 2 ^ 54 → g.post f (m, tt) r → r ≡ micros_at clock m
