-- What the loops over numbers keep.
use Rattle.std.proofs.Common.{◌≡◌, ℕ, suc, ◌+◌, ◌*◌, ◌<◌, ◌≤◌, List, [], ◌∷◌, ◌++◌, length, get_or}
use Rattle.std.proofs.Common.{take, drop, sym, ap, ◌∙◌, append_assoc, Fits, w32, arith, inl, inr}
use Rattle.std.proofs.lemmas.Bool.{cases_lt}
use Rattle.std.proofs.lemmas.List.{length-append, append-nil, take_more, take-append-drop}
use Rattle.std.proofs.lemmas.List.Concat.{flat_map-append}
use Rattle.sv_prim.specs.Number.{number_spelling, numbers_spelling, AreWords}
use Rattle.sv_prim.proofs.Shared.{groups_of-last, groups_of-next, of_few}

pub of_some : (number : ℕ) → 0 < length (number_spelling number)
of_some number = elim (cases_lt number 128) [
  | inl low ↦ omega (arith, ap length (groups_of-last 4 number low))
  | inr high ↦ omega (arith, ap length (groups_of-next 3 number high))
]

-- one more number
pub one_more : (numbers : List ℕ) (count : ℕ) → count < length numbers →
    numbers_spelling (take (count + 1) numbers)
    ≡ numbers_spelling (take count numbers) ++ number_spelling (get_or numbers count 0)
one_more numbers count within =
    let number = get_or numbers count 0 in
    let front = numbers_spelling (take count numbers) in
    ap numbers_spelling (take_more numbers count 0 within)
    ∙ flat_map-append number_spelling (take count numbers) (number ∷ [])
    ∙ ap (λ (k : List ℕ). front ++ k) (append-nil (number_spelling number))

-- the first numbers have at most as many bytes as all
first_len : (numbers : List ℕ) (count : ℕ) →
    length (numbers_spelling (take count numbers)) ≤ length (numbers_spelling numbers)
first_len numbers count =
    let parted = flat_map-append number_spelling (take count numbers) (drop count numbers) in
    let whole = ap (λ (k : List ℕ). length (numbers_spelling k)) (take-append-drop count numbers) in
    omega (
      arith,
      whole,
      ap length parted,
      length-append (numbers_spelling (take count numbers)) (numbers_spelling (drop count numbers)),
    )

-- so many bytes of the first so many numbers
pub record Counted (numbers : List ℕ) (count len : ℕ) : Type 0 where
  pub len_is : len ≡ length (numbers_spelling (take count numbers))
  pub bound : len ≤ 5 * count

pub counts_on : (numbers : List ℕ) (count len more : ℕ) → Counted numbers count len →
    count < length numbers → more ≡ length (number_spelling (get_or numbers count 0)) →
    Counted numbers (count + 1) (len + more)
counts_on numbers count len more p within is =
    let number = get_or numbers count 0 in
    record {
      len_is = omega (
        arith,
        p.len_is,
        is,
        ap length (one_more numbers count within),
        length-append (numbers_spelling (take count numbers)) (number_spelling number),
      );
      bound = omega (arith, p.bound, is, of_few 4 number);
    }

-- a pen has gained the first so many numbers
pub record Progress (old now : List ℕ) (old_room room : ℕ) (numbers : List ℕ) (count : ℕ) :
    Type 0 where
  pub added : now ≡ old ++ numbers_spelling (take count numbers)
  pub left : old_room ≤ room + length (numbers_spelling (take count numbers))

pub has_room : (old now : List ℕ) (old_room room : ℕ) (numbers : List ℕ) (count : ℕ) →
    Progress old now old_room room numbers count → count < length numbers →
    length (numbers_spelling numbers) + 4 ≤ old_room → 5 ≤ room
has_room old now old_room room numbers count p within wide =
    let number = get_or numbers count 0 in
    omega (
      arith,
      p.left,
      first_len numbers (count + 1),
      ap length (one_more numbers count within),
      length-append (numbers_spelling (take count numbers)) (number_spelling number),
      of_some number,
    )

pub goes_on : (old now : List ℕ) (old_room room : ℕ) (numbers : List ℕ) (count : ℕ) →
    Progress old now old_room room numbers count → count < length numbers
    → (new : List ℕ) (new_room : ℕ) → new ≡ now ++ number_spelling (get_or numbers count 0) →
    room ≤ new_room + length (number_spelling (get_or numbers count 0)) →
    Progress old new old_room new_room numbers (count + 1)
goes_on old now old_room room numbers count p within new new_room e r =
    let number = get_or numbers count 0 in
    let front = numbers_spelling (take count numbers) in
    let more = one_more numbers count within in
    record {
      added =
          e ∙ ap (λ (k : List ℕ). k ++ number_spelling number) p.added
          ∙ append_assoc old front (number_spelling number)
          ∙ ap (λ (k : List ℕ). old ++ k) (sym more);
      left = omega (arith, p.left, r, ap length more, length-append front (number_spelling number));
    }

-- the numbers of a slice are in range
pub are_words : (numbers : List ℕ) → ((i : ℕ) → Fits w32 (get_or numbers i 0)) → AreWords numbers
are_words [] fit = tt
are_words (number ∷ numbers) fit = (omega (arith, fit 0), are_words numbers (λ i. fit (suc i)))
