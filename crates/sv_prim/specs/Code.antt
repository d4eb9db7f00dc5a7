-- Codes: which bytes spell which value. S v b says that the bytes b spell the value v.
-- A code here is read from the front, so what can be told of some bytes is told of a spelling at
-- their front: it stands there whole, the bytes end inside it, or it breaks off at some byte.
use Rattle.std.specs.Prelude.{◌≡◌, ◌≢◌, ℕ, ◌+◌, ◌<◌, ◌≤◌, ◌⊎◌, List, [], ◌++◌, length, take, drop}
use Rattle.sv_prim.specs.declared.got.Reason.{Reason}
use Rattle.sv_prim.specs.declared.got.Got.{Got}
use Rattle.sv_prim.specs.declared.got.Got.TheVariants.{Value, Short, Bad}
use Rattle.sv_prim.specs.Text.{AreBytes}

-- a spelling of the value stands at the front of the bytes, and has so many bytes
pub record Begins {V : Type 0} (S : V → List ℕ → Type 0) (bytes : List ℕ) (value : V) (used : ℕ) :
    Type 0 where
  pub within : used ≤ length bytes
  pub spelled : S value (take used bytes)

-- some spelling begins with the bytes
abbrev pub GoesOn : {V : Type 0} → (V → List ℕ → Type 0) → List ℕ → Type 0
GoesOn {V} S bytes = (value : V) × (more : List ℕ) × S value (bytes ++ more)

-- the bytes are less than a whole spelling
abbrev pub IsCutShort : {V : Type 0} → (V → List ℕ → Type 0) → List ℕ → Type 0
IsCutShort {V} S bytes = (value : V) × (more : List ℕ) × (more ≢ []) × S value (bytes ++ more)

-- the bytes before the place are less than a whole spelling, and no spelling goes on with the byte
-- there
pub record BreaksAt {V : Type 0} (S : V → List ℕ → Type 0) (bytes : List ℕ) (place : ℕ) :
    Type 0 where
  pub within : place < length bytes
  pub before : IsCutShort S (take place bytes)
  pub here : GoesOn S (take (place + 1) bytes) → ⊥

-- what an answer says of the bytes; `why` has the reason behind the bytes before the place
abbrev pub Tells : {V : Type 0} → (V → List ℕ → Type 0) → (List ℕ → Reason → Type 0) → List ℕ →
    Got V → Type 0
Tells S why bytes (Value value used) = Begins S bytes value used
Tells S why bytes Short = IsCutShort S bytes
Tells S why bytes (Bad place reason) = BreaksAt S bytes place × why (take place bytes) reason

-- nothing else could have been said of the bytes
pub record IsOnly {V : Type 0} (S : V → List ℕ → Type 0) (bytes : List ℕ) (got : Got V) :
    Type 0 where
  pub value : (value : V) (used : ℕ) → Begins S bytes value used → got ≡ Value value used
  pub short : IsCutShort S bytes → got ≡ Short
  pub bad : (place : ℕ) → BreaksAt S bytes place → (reason : Reason) × (got ≡ Bad place reason)

-- no spelling begins another, and each spells one value
abbrev pub IsPrefixFree : {V : Type 0} → (V → List ℕ → Type 0) → Type 0
IsPrefixFree {V} S =
    (u v : V) (a b x y : List ℕ) → S u a → S v b → a ++ x ≡ b ++ y → (a ≡ b) × (u ≡ v)

-- behind any bytes there is at most one reason
abbrev pub IsOneReason : (List ℕ → Reason → Type 0) → Type 0
IsOneReason why = (front : List ℕ) (p q : Reason) → why front p → why front q → p ≡ q

-- of any bytes something can be told
abbrev pub IsTotal : {V : Type 0} → (V → List ℕ → Type 0) → (List ℕ → Reason → Type 0) → Type 0
IsTotal {V} S why = (bytes : List ℕ) → AreBytes bytes → (got : Got V) × Tells S why bytes got

-- one spelling, and then another, of a code that the first value chooses
pub record IsPair {A B : Type 0} (S : A → List ℕ → Type 0) (T : A → B → List ℕ → Type 0)
    (pair : A × B) (bytes : List ℕ) : Type 0 where
  pub first : List ℕ
  pub second : List ℕ
  pub first_spelled : S pair.0 first
  pub second_spelled : T pair.0 pair.1 second
  pub whole : bytes ≡ first ++ second

-- behind less than the first spelling the reason is the first code's, and behind that spelling it
-- is the second code's
abbrev pub PairReason : {A : Type 0} → (A → List ℕ → Type 0) → (List ℕ → Reason → Type 0) →
    (A → List ℕ → Reason → Type 0) → List ℕ → Reason → Type 0
PairReason {A} S why next front reason =
    (IsCutShort S front × why front reason) ⊎
    ((value : A) × (used : ℕ) × Begins S front value used × next value (drop used front) reason)

-- behind any bytes the same reason
abbrev pub Always : Reason → List ℕ → Reason → Type 0
Always same front reason = reason ≡ same
