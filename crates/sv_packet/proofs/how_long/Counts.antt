-- So many numbers, one after another.
use Rattle.std.proofs.Common.{◌≡◌, ℕ, zero, suc, ◌+◌, ◌-◌, ◌<◌, List, [], ◌∷◌, ◌++◌, length, take}
use Rattle.std.proofs.Common.{drop, map, refl, sym, ap, subst, ◌∙◌, append_assoc, arith, inl, inr}
use Rattle.std.specs.Prelude.{IsTrue, nat_eq}
use Rattle.std.proofs.lemmas.Bool.{cases_lt}
use Rattle.std.proofs.lemmas.Bool.Decides.{nat_tests}
use Rattle.std.proofs.lemmas.List.{length-append, append-nil, map-append, length-take, length-drop}
use Rattle.std.proofs.lemmas.List.{take-append-drop}
use Rattle.sv_prim.specs.declared.got.Reason.{Reason}
use Rattle.sv_prim.specs.declared.got.Reason.TheVariants.{BadNumber}
use Rattle.sv_prim.specs.Code.{IsPrefixFree, IsPair, PairReason, Always}
use Rattle.sv_prim.specs.Number.{IsNumber, number_reason}
use Rattle.sv_prim.proofs.Shared.{zero_number}
use Rattle.sv_packet.specs.declared.reader.Reader.{Reader}
use Rattle.sv_packet.specs.declared.reader.Stop.{Stop}
use Rattle.sv_packet.specs.Table.{Field, Number}
use Rattle.sv_packet.specs.Packet.{AreFields}
use Rattle.sv_packet.specs.Parts.{AreNumbers}
use Rattle.sv_packet.specs.Reader.{left, TakesPart, Stops}
use Rattle.sv_packet.proofs.one_spelling.Fields.{fields_free, numbers_like}
use Rattle.sv_packet.proofs.one_spelling.Regular.{value_of}
use Rattle.sv_packet.proofs.told_of_parts.Whole.{stops_none, takes_all, takes_less}
use Rattle.sv_packet.proofs.told_of_parts.Reading.{takes_both, stops_first, stops_second, stops_carried}

-- ---- fields

pub fields_both : (fs gs : List Field) (a b : List ℕ) → AreFields fs a → AreFields gs b →
    AreFields (fs ++ gs) (a ++ b)
fields_both [] gs a b p q = subst (λ (k : List ℕ). AreFields gs (k ++ b)) (sym p) q
fields_both (f ∷ fs) gs a b (first, rest, s, others, whole) q = (
  first,
  rest ++ b,
  s,
  fields_both fs gs rest b others q,
  ap (λ (k : List ℕ). k ++ b) whole ∙ append_assoc first rest b,
)

pub fields_split : (fs gs : List Field) (bytes : List ℕ) → AreFields (fs ++ gs) bytes →
    (a : List ℕ) × (b : List ℕ) × AreFields fs a × AreFields gs b × (bytes ≡ a ++ b)
fields_split [] gs bytes p = ([], bytes, refl, p, refl)
fields_split (f ∷ fs) gs bytes (first, rest, s, others, whole) =
    let (a, b, p, q, e) = fields_split fs gs rest others in (
      first ++ a,
      b,
      (first, a, s, p, refl),
      q,
      whole ∙ ap (λ (k : List ℕ). first ++ k) e ∙ sym (append_assoc first a b),
    )

-- ---- numbers

pub values_same : (ns ms : List ℕ) → map Number ns ≡ map Number ms → ns ≡ ms
values_same ns ms e = sym (values ns) ∙ ap (map value_of) e ∙ values ms
  where
    values : (ns : List ℕ) → map value_of (map Number ns) ≡ ns
    values [] = refl
    values (n ∷ ns) = ap (λ (k : List ℕ). n ∷ k) (values ns)

pub numbers_free : (count : ℕ) → IsPrefixFree (AreNumbers count)
numbers_free count ns ms a b x y p q e =
    let (same, fields) =
    fields_free (map Number ns) (map Number ms) (numbers_like ns ms (p.0 ∙ sym q.0)) a b x y p.1
    q.1 e in
    (same, values_same ns ms fields)

-- any so many numbers have a spelling
pub numbers_some : (count : ℕ) → (ns : List ℕ) × (bytes : List ℕ) × AreNumbers count ns bytes
numbers_some zero = ([], [], (refl, refl))
numbers_some (suc count) =
    let (ns, bytes, (len, s)) = numbers_some count in
    (0 ∷ ns, 0 ∷ bytes, (ap suc len, (0 ∷ [], bytes, zero_number, s, refl)))

numbers_both : (i k : ℕ) (ns ms a b : List ℕ) → AreNumbers i ns a → AreNumbers k ms b →
    AreNumbers (i + k) (ns ++ ms) (a ++ b)
numbers_both i k ns ms a b p q = (
  omega (arith, p.0, q.0, length-append ns ms),
  subst (λ (fs : List Field). AreFields fs (a ++ b)) (sym (map-append Number ns ms))
      (fields_both (map Number ns) (map Number ms) a b p.1 q.1),
)

-- the first so many numbers, and the others
abbrev pub FirstNumbers : ℕ → ℕ → List ℕ × List ℕ → List ℕ → Type 0
FirstNumbers i k = IsPair (AreNumbers i) (λ (ns : List ℕ). AreNumbers k)

pub numbers_of_first : (i k : ℕ) (v : List ℕ × List ℕ) (bytes : List ℕ) → FirstNumbers i k v bytes →
    (ns : List ℕ) × AreNumbers (i + k) ns bytes
numbers_of_first i k v bytes p = (
  v.0 ++ v.1,
  subst (AreNumbers (i + k) (v.0 ++ v.1)) (sym p.whole)
      (numbers_both i k v.0 v.1 p.first p.second p.first_spelled p.second_spelled),
)

pub first_of_numbers : (i k : ℕ) (ns bytes : List ℕ) → AreNumbers (i + k) ns bytes →
    (v : List ℕ × List ℕ) × FirstNumbers i k v bytes
first_of_numbers i k ns bytes p =
    let split : map Number ns ≡ map Number (take i ns) ++ map Number (drop i ns) =
    ap (map Number) (sym (take-append-drop i ns)) ∙ map-append Number (take i ns) (drop i ns) in
    let (a, b, s, t, whole) =
    fields_split (map Number (take i ns)) (map Number (drop i ns)) bytes
    (subst (λ (fs : List Field). AreFields fs bytes) split p.1) in (
      (take i ns, drop i ns),
      record {
        first = a;
        second = b;
        first_spelled = (omega (arith, p.0, length-take i ns), s);
        second_spelled = (omega (arith, p.0, length-drop i ns), t);
        whole = whole;
      },
    )

-- one number
pub numbers_of_one : (n : ℕ) (bytes : List ℕ) → IsNumber n bytes → AreNumbers 1 (n ∷ []) bytes
numbers_of_one n bytes s = (refl, (bytes, [], s, refl, sym (append-nil bytes)))

pub one_of_numbers : (ns bytes : List ℕ) → AreNumbers 1 ns bytes → (n : ℕ) × IsNumber n bytes
one_of_numbers [] bytes p = absurd (omega (arith, p.0))
one_of_numbers (n ∷ []) bytes (len, (first, rest, s, nothing, whole)) = (
  n,
  subst (IsNumber n) (sym (whole ∙ ap (λ (k : List ℕ). first ++ k) nothing ∙ append-nil first)) s,
)
one_of_numbers (n ∷ m ∷ ns) bytes p = absurd (omega (arith, p.0))

-- ---- a reader at numbers

-- a pair has the one reason of its parts
pub same_reason :
    {A : Type 0} (S : A → List ℕ → Type 0) (the : Reason) (front : List ℕ) (reason : Reason) →
    PairReason S (Always the) (λ (a : A). Always the) front reason → Always the front reason
same_reason S the front reason (inl p) = p.1
same_reason S the front reason (inr (a, used, begins, p)) = p

pub takes_none : (old : Reader) → TakesPart (AreNumbers 0) old old []
takes_none old = record {
  used = 0;
  same = refl;
  further = omega arith;
  spelled = record { within = omega arith; spelled = (refl, refl) };
}

pub takes_more : (i : ℕ) (old mid new : Reader) (ns : List ℕ) (n : ℕ) →
    TakesPart (AreNumbers i) old mid ns → TakesPart IsNumber mid new n →
    TakesPart (AreNumbers (i + 1)) old new (ns ++ n ∷ [])
takes_more i old mid new ns n t u =
    let both =
    takes_both (AreNumbers i) (λ (ns : List ℕ). IsNumber) (numbers_free i)
    (λ (ns front : List ℕ) (s : AreNumbers i ns front). (0, 0 ∷ [], zero_number)) old mid
    new ns n t u in
    let s = both.spelled.spelled in
    record {
      used = both.used;
      same = both.same;
      further = both.further;
      spelled = record {
        within = both.spelled.within;
        spelled =
            subst (AreNumbers (i + 1) (ns ++ n ∷ [])) (sym s.whole)
            (numbers_both i 1 ns (n ∷ []) s.first s.second s.first_spelled
            (numbers_of_one n s.second s.second_spelled));
      };
    }

some_numbers : {A : Type 0} (S : A → List ℕ → Type 0) (k : ℕ) (a : A) (front : List ℕ) → S a front →
    (ns : List ℕ) × (bytes : List ℕ) × AreNumbers k ns bytes
some_numbers S k a front s = numbers_some k

-- a stop at the first of some numbers
stops_at_first : (k : ℕ) (old : Reader) (stop : Stop) → Stops IsNumber number_reason old stop →
    Stops (AreNumbers (1 + k)) number_reason old stop
stops_at_first k old stop p =
    let one =
    stops_carried IsNumber (AreNumbers 1) one_of_numbers
    (λ n bytes s. (n ∷ [], numbers_of_one n bytes s)) number_reason number_reason
    (λ front reason is. is) old stop p in
    let pair =
    stops_first (AreNumbers 1) (λ (ns : List ℕ). AreNumbers k) (numbers_free 1)
    (some_numbers (AreNumbers 1) k) number_reason (λ (ns : List ℕ). number_reason) old stop
    one in
    stops_carried (FirstNumbers 1 k) (AreNumbers (1 + k)) (first_of_numbers 1 k)
    (numbers_of_first 1 k) _ number_reason (same_reason (AreNumbers 1) BadNumber) old stop pair

-- a stop at one of some numbers
pub stops_among : (count i : ℕ) (old mid : Reader) (ns : List ℕ) (stop : Stop) → i < count →
    TakesPart (AreNumbers i) old mid ns → Stops IsNumber number_reason mid stop →
    Stops (AreNumbers count) number_reason old stop
stops_among count i old mid ns stop lt t p =
    let k : ℕ = count - i - 1 in
    let pair =
    stops_second (AreNumbers i) (λ (ns : List ℕ). AreNumbers (1 + k)) (numbers_free i)
    (some_numbers (AreNumbers i) (1 + k)) number_reason (λ (ns : List ℕ). number_reason) old
    mid ns stop t (stops_at_first k mid stop p) in
    let all : i + (1 + k) ≡ count = omega arith in
    subst (λ (c : ℕ). Stops (AreNumbers c) number_reason old stop) all
    (stops_carried (FirstNumbers i (1 + k)) (AreNumbers (i + (1 + k))) (first_of_numbers i (1 + k))
    (numbers_of_first i (1 + k)) _ number_reason (same_reason (AreNumbers i) BadNumber) old stop
    pair)

-- the first numbers that a reader took, one after another
module _ (old : Reader) where
  pub takes_one : (m1 : Reader) (a : ℕ) → TakesPart IsNumber old m1 a →
      TakesPart (AreNumbers 1) old m1 (a ∷ [])
  takes_one m1 a t = takes_more 0 old old m1 [] a (takes_none old) t

  pub takes_two : (m1 m2 : Reader) (a b : ℕ) → TakesPart IsNumber old m1 a → TakesPart IsNumber m1 m2 b →
      TakesPart (AreNumbers 2) old m2 (a ∷ b ∷ [])
  takes_two m1 m2 a b t u = takes_more 1 old m1 m2 (a ∷ []) b (takes_one m1 a t) u

  pub takes_three : (m1 m2 m3 : Reader) (a b c : ℕ) → TakesPart IsNumber old m1 a →
      TakesPart IsNumber m1 m2 b → TakesPart IsNumber m2 m3 c → TakesPart (AreNumbers 3) old m3 (a ∷ b ∷ c ∷ [])
  takes_three m1 m2 m3 a b c t u v =
      takes_more 2 old m2 m3 (a ∷ b ∷ []) c (takes_two m1 m2 a b t u) v

-- ---- a reader at the whole of some bytes

pub is_same : (a b : ℕ) → IsTrue (nat_eq a b) → a ≡ b
is_same a b is = grind (arith, nat_tests)

pub same_is : (a b : ℕ) → a ≡ b → IsTrue (nat_eq a b)
same_is a b e = grind (arith, nat_tests)

-- a stop before the last of so many numbers: the bytes do not spell them
pub not_numbers : (count i : ℕ) (old mid : Reader) (ns : List ℕ) (stop : Stop) → i < count →
    TakesPart (AreNumbers i) old mid ns → Stops IsNumber number_reason mid stop →
    ((ms : List ℕ) × AreNumbers count ms (left old)) → ⊥
not_numbers count i old mid ns stop lt t p (ms, s) =
    stops_none (AreNumbers count) (numbers_free count) number_reason old stop
    (stops_among count i old mid ns stop lt t p) ms s

-- whether so many numbers end where the bytes do
pub numbers_whole : (count i : ℕ) (old new : Reader) (ns : List ℕ) → i ≡ count →
    TakesPart (AreNumbers i) old new ns
    → (new.at ≡ old.at + length (left old) → (ms : List ℕ) × AreNumbers count ms (left old)) ×
    (((ms : List ℕ) × AreNumbers count ms (left old)) → new.at ≡ old.at + length (left old))
numbers_whole count i old new ns all t =
    let u = subst (λ (k : ℕ). TakesPart (AreNumbers k) old new ns) all t in (
      (λ e. (
        ns,
        takes_all (AreNumbers count) (numbers_free count) old new ns u (omega (arith, e)),
      )),
      λ (ms, s). elim (cases_lt new.at (old.at + length (left old))) [
        | inl less ↦
            absurd (takes_less (AreNumbers count) (numbers_free count) old new ns u less ms s)
        | inr le ↦ omega (arith, u.further, u.spelled.within, le)
      ],
    )

-- numbers that the bytes spell are those that were taken
pub numbers_taken : (count i : ℕ) (old new : Reader) (ns : List ℕ) → i ≡ count →
    TakesPart (AreNumbers i) old new ns → ((ms : List ℕ) × AreNumbers count ms (left old)) →
    AreNumbers count ns (left old)
numbers_taken count i old new ns all t (ms, s) =
    let u = subst (λ (k : ℕ). TakesPart (AreNumbers k) old new ns) all t in
    elim (cases_lt new.at (old.at + length (left old))) [
      | inl less ↦
          absurd (takes_less (AreNumbers count) (numbers_free count) old new ns u less ms s)
      | inr le ↦ takes_all (AreNumbers count) (numbers_free count) old new ns u le
    ]
