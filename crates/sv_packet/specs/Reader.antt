-- What a reader does: it takes a spelling from the front of the bytes that are left, or says where
-- it stops.
use Rattle.std.specs.Prelude.{◌≡◌, ℕ, ◌+◌, List, [], ◌∷◌, drop, take, Result, Ok, Err}
use Rattle.sv_prim.specs.declared.got.Reason.{Reason}
use Rattle.sv_prim.specs.Code.{Begins, IsCutShort, BreaksAt}
use Rattle.sv_packet.specs.declared.reader.Four.{Four}
use Rattle.sv_packet.specs.declared.reader.Reader.{Reader}
use Rattle.sv_packet.specs.declared.reader.Stop.{Stop}
use Rattle.sv_packet.specs.declared.reader.Stop.TheVariants.{Short, Bad}

abbrev pub left : Reader → List ℕ
left reader = drop reader.at reader.bytes.now

-- the reader took a spelling of the value
pub record TakesPart {V : Type 0} (S : V → List ℕ → Type 0) (old new : Reader) (value : V) :
    Type 0 where
  pub used : ℕ
  pub same : new.bytes.now ≡ old.bytes.now
  pub further : new.at ≡ old.at + used
  pub spelled : Begins S (left old) value used

-- the bytes that are left end inside a spelling, or no spelling goes on at the place
abbrev pub Stops : {V : Type 0} → (V → List ℕ → Type 0) → (List ℕ → Reason → Type 0) → Reader →
    Stop → Type 0
Stops S why old Short = IsCutShort S (left old)
Stops S why old (Bad place reason) =
    (ahead : ℕ) × (place ≡ old.at + ahead) × BreaksAt S (left old) ahead ×
    why (take ahead (left old)) reason

-- what a read answers
abbrev pub ReadsPart : {V : Type 0} → (V → List ℕ → Type 0) → (List ℕ → Reason → Type 0) → Reader →
    Reader → Result V Stop → Type 0
ReadsPart S why old new (Ok value) = TakesPart S old new value
ReadsPart S why old new (Err stop) = Stops S why old stop

-- the same where the answer stands for the value
abbrev pub ReadsAs : {R V : Type 0} → (R → V) → (V → List ℕ → Type 0) → (List ℕ → Reason → Type 0) →
    Reader → Reader → Result R Stop → Type 0
ReadsAs as_value S why old new (Ok answer) = TakesPart S old new (as_value answer)
ReadsAs as_value S why old new (Err stop) = Stops S why old stop

-- the first of four numbers
abbrev pub numbers_in : ℕ → Four → List ℕ
numbers_in count four = take count (four.a ∷ four.b ∷ four.c ∷ four.d ∷ [])
