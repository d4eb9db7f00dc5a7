-- The numbers that bytes spell are those that are read from them.
use Rattle.std.proofs.Common.{◌≡◌, ℕ, ◌-◌, ◌%◌, ◌<◌, ◌≤◌, List, [], ◌∷◌, ◌++◌, length, take, drop}
use Rattle.std.proofs.Common.{map, refl, sym, ap, subst, ◌∙◌, arith}
use Rattle.std.proofs.lemmas.List.{append_cancel_left, take-append-drop}
use Rattle.std.proofs.Math.Nat.{mod-eq_of_lt}
use Rattle.std.proofs.lemmas.Bool.Decides.{nat_tests}
use Rattle.sv_prim.specs.Code.{Begins}
use Rattle.sv_prim.specs.Number.{groups_sum, IsGroups, IsNumber, number_reason}
use Rattle.sv_prim.proofs.Shared.{number_free}
use Rattle.sv_packet.specs.declared.reader.Reader.{Reader}
use Rattle.sv_packet.specs.declared.reader.Stop.{Stop}
use Rattle.sv_packet.specs.Table.{Number}
use Rattle.sv_packet.specs.Packet.{AreFields}
use Rattle.sv_packet.specs.Parts.{AreNumbers}
use Rattle.sv_packet.specs.Numbers.{numbers_read, with_low_group}
use Rattle.sv_packet.specs.Reader.{left, TakesPart, Stops}
use Rattle.std.specs.Prelude.{nat_lt, false, Result, Ok, Err, IfOk}
use Rattle.sv_packet.proofs.how_long.Counts.{not_numbers, takes_none}
use Rattle.sv_packet.proofs.told_of_parts.Pieces.{slice_from}

-- the groups of a number, and what is read after them
groups_read : (bytes rest : List ℕ) → IsGroups bytes
    → numbers_read (bytes ++ rest) ≡ groups_sum bytes ∷ numbers_read rest
groups_read [] rest groups = absurd groups
groups_read (b ∷ []) rest last =
    let small : b % 128 ≡ b = mod-eq_of_lt last in
    rw small (grind (arith, nat_tests))
groups_read (b ∷ c ∷ bs) rest (flagged, byte, more) =
    let others = groups_read (c ∷ bs) rest more in
    let not_last : nat_lt b 128 ≡ false = grind (arith, nat_tests) in
    rw not_last (ap (with_low_group b) others)

fields_read : (numbers bytes : List ℕ) → AreFields (map Number numbers) bytes
    → numbers_read bytes ≡ numbers
fields_read [] bytes none = ap numbers_read none
fields_read (number ∷ numbers) bytes (first, rest, spelled, others, whole) =
    ap numbers_read whole ∙ groups_read first rest spelled.groups
    ∙ ap (λ (k : ℕ). k ∷ numbers_read rest) (sym spelled.sum)
    ∙ ap (λ (k : List ℕ). number ∷ k) (fields_read numbers rest others)

pub are_read : (count : ℕ) (numbers bytes : List ℕ) → AreNumbers count numbers bytes
    → numbers_read bytes ≡ numbers
are_read count numbers bytes are = fields_read numbers bytes are.1

pub read_are : (count : ℕ) (bytes : List ℕ) → ((numbers : List ℕ) × AreNumbers count numbers bytes)
    → AreNumbers count (numbers_read bytes) bytes
read_are count bytes (numbers, are) =
    subst (λ (k : List ℕ). AreNumbers count k bytes) (sym (are_read count numbers bytes are)) are

pub none_read : (numbers : List ℕ) → length numbers ≡ 0 → numbers ≡ []
none_read [] len = refl
none_read (number ∷ numbers) len = absurd (omega arith)

-- a first number, and the bytes of those after it
pub record HasFirst (count : ℕ) (bytes rest : List ℕ) (number : ℕ) : Type 0 where
  pub first : numbers_read bytes ≡ number ∷ numbers_read rest
  pub others : AreNumbers (count - 1) (numbers_read rest) rest

first_among : (count : ℕ) (numbers bytes : List ℕ) (used number : ℕ) → 0 < count
    → AreNumbers count numbers bytes → Begins IsNumber bytes number used
    → HasFirst count bytes (drop used bytes) number
first_among count [] bytes used number some are begins = absurd (omega (arith, are.0))
first_among count (m ∷ ms) bytes used number some are begins =
    let (len, (first, rest, spelled, others, whole)) = are in
    let cut : first ++ rest ≡ take used bytes ++ drop used bytes =
    sym whole ∙ sym (take-append-drop used bytes) in
    let (same, value) = number_free m number first (take used bytes) rest (drop used bytes)
    spelled begins.spelled cut in
    let after : rest ≡ drop used bytes = append_cancel_left first rest (drop used bytes)
    (cut ∙ ap (λ (k : List ℕ). k ++ drop used bytes) (sym same)) in
    let behind : AreNumbers (count - 1) ms (drop used bytes) =
    (omega (arith, len), subst (λ (k : List ℕ). AreFields (map Number ms) k) after others) in
    let read = are_read (count - 1) ms (drop used bytes) behind in
    record {
      first = are_read count (m ∷ ms) bytes are ∙ ap (λ (k : ℕ). k ∷ ms) value
          ∙ ap (λ (k : List ℕ). number ∷ k) (sym read);
      others = subst (λ (k : List ℕ). AreNumbers (count - 1) k (drop used bytes)) (sym read) behind;
    }

-- what a reader at the front takes
pub first_taken : (count : ℕ) (old new : Reader) (number : ℕ) → old.at ≡ 0 → 0 < count
    → AreNumbers count (numbers_read old.bytes.now) old.bytes.now → TakesPart IsNumber old new number
    → HasFirst count old.bytes.now
    (take (length old.bytes.now - new.at) (drop new.at old.bytes.now)) number
first_taken count old new number start some are takes =
    let front : left old ≡ old.bytes.now = ap (λ (k : ℕ). drop k old.bytes.now) start in
    let begins = subst (λ (k : List ℕ). Begins IsNumber k number takes.used) front takes.spelled in
    let at : takes.used ≡ new.at = omega (arith, takes.further, start) in
    let within : new.at ≤ length old.bytes.now = omega (arith, new.within, ap length takes.same) in
    subst (λ (k : List ℕ). HasFirst count old.bytes.now k number)
    (ap (λ (k : ℕ). drop k old.bytes.now) at ∙ sym (slice_from old.bytes.now new.at within))
    (first_among count (numbers_read old.bytes.now) old.bytes.now takes.used number some are begins)

-- where there is a first number a reader does not stop at it
pub not_first : (count : ℕ) (old : Reader) (stop : Stop) → old.at ≡ 0 → 0 < count
    → AreNumbers count (numbers_read old.bytes.now) old.bytes.now
    → Stops IsNumber number_reason old stop → ⊥
not_first count old stop start some are stops =
    let front : left old ≡ old.bytes.now = ap (λ (k : ℕ). drop k old.bytes.now) start in
    not_numbers count 0 old old [] stop some (takes_none old) stops (
      numbers_read old.bytes.now,
      subst (λ (k : List ℕ). AreNumbers count (numbers_read old.bytes.now) k) (sym front) are,
    )

-- a list that was made of them
pub ok_read : {E : Type 0} (result : Result (List ℕ) E) (count : ℕ) (bytes now : List ℕ)
    → numbers_read bytes ≡ now → IfOk result (λ numbers. AreNumbers count numbers bytes)
    → IfOk result (λ numbers. numbers ≡ now)
ok_read (Ok numbers) count bytes now is are = sym (are_read count numbers bytes are) ∙ is
ok_read (Err e) count bytes now is are = tt
