-- What is written is read back: the lines of a text, and a number in decimal.
use Rattle.std.proofs.Common.{◌≡◌, ℕ, zero, suc, ◌^◌, ◌<◌, Bool, true, false, ◌||◌, ◌==◌}
use Rattle.std.proofs.Common.{List, [], ◌∷◌, length, get_or, Some, refl, ap}
use Rattle.std.proofs.Common.{◌∙◌, append_assoc, arith, rules, All}
use Rattle.std.specs.List.{slice_split, list_all, list_any}
use Rattle.std.specs.Char.{is_ascii_digit}
use Rattle.std.specs.Fmt.{decimal}
use Rattle.std.specs.Str.Parse.{digits_value}
use Rattle.std.proofs.lemmas.Bool.{and_parts}
use Rattle.std.proofs.lemmas.Fmt.{decimal_nonempty, first_decimal, digits_decimal}
use Rattle.std.proofs.lemmas.Fmt.{digits_value-decimal, decimal-digits_value}
use Rattle.std.proofs.lemmas.List.Elements.{All-nil, All-cons, All-head, All-tail}
use Rattle.std.proofs.lemmas.List.Splits.{slice_split_at, length-slice_split}
use Rattle.std.proofs.lemmas.Str.Parse.{IsDigitsTest, IsNumeralModel, numerals_by_value}
use Rattle.sv_text.specs.Lines.{lines_of, without_empty_end, text_from, IsOneLine}
use Rattle.sv_text.specs.Words.{begins_well, is_number, number_of}
use Rattle.sv_text.proofs.Digits.{in_range}
use Rattle.sv_text.proofs.FirstLine.{is_end, one_more}

none_at : (p : ℕ → Bool) (xs : List ℕ) → list_any p xs ≡ false → All (λ x. p x ≡ false) xs
none_at p [] e = All-nil (λ (x : ℕ). p x ≡ false)
none_at p (x ∷ xs) e =
    let both = neither (p x) (list_any p xs) e in
    All-cons (λ (x : ℕ). p x ≡ false) x xs both.0 (none_at p xs both.1)
  where
    neither : (a b : Bool) → (a || b) ≡ false → (a ≡ false) × (b ≡ false)
    neither true b e = cc
    neither false b e = (refl, e)

-- the lines of a text that was made of lines
pub lines_back : (lines : List (List ℕ)) → All IsOneLine lines → lines_of (text_from lines) ≡ lines
lines_back [] all = refl
lines_back (line ∷ lines) all =
    let rest = text_from lines in
    let parts = slice_split is_end rest in
    ap lines_of (append_assoc line (10 ∷ []) rest)
    ∙ ap without_empty_end
    (slice_split_at is_end line 10 rest (none_at is_end line (All-head IsOneLine line lines all)) refl)
    ∙ one_more line parts (omega (arith, length-slice_split is_end rest))
    ∙ ap (λ (l : List (List ℕ)). line ∷ l) (lines_back lines (All-tail IsOneLine line lines all))

-- the digits of a number
abbrev AreDigits : List ℕ → Type 0
AreDigits word = list_all is_ascii_digit word ≡ true

tells : IsDigitsTest AreDigits
tells = record {
  empty = refl;
  parts = λ c cs e. let both = and_parts (is_ascii_digit c) (list_all is_ascii_digit cs) e in
      (in_range c both.0, both.1);
  more = λ c cs range rest. let digit : is_ascii_digit c ≡ true = search rules in
      rw (digit, rest) refl;
}

numerals : IsNumeralModel AreDigits (digits_value 10)
numerals = numerals_by_value AreDigits tells

well : (word : List ℕ) → 0 < length word → 48 < get_or word 0 0 → begins_well word ≡ true
well [] some high = absurd (omega (arith, some))
well (b ∷ []) some high = refl
well (b ∷ c ∷ bytes) some high = let other : (b == 48) ≡ false = search (rules, high) in rw other refl

zero_is : decimal 0 ≡ 48 ∷ []
zero_is =
    decimal-digits_value numerals (48 ∷ []) refl (omega arith) (λ alone. refl) (omega arith)

begins : (n : ℕ) → n < 2 ^ 64 → begins_well (decimal n) ≡ true
begins zero small = rw zero_is refl
begins (suc n) small =
    well (decimal (suc n)) (decimal_nonempty (suc n) small) (first_decimal (suc n) (omega arith) small)

pub decimal_digits : (n : ℕ) → n < 2 ^ 64 → list_all is_ascii_digit (decimal n) ≡ true
decimal_digits n small = digits_decimal numerals n small

-- the number of a word that was made of a number
pub number_back : (n : ℕ) → n < 2 ^ 64 → number_of (decimal n) ≡ Some n
number_back n small =
    let number : is_number (decimal n) ≡ true = rw (begins n small, decimal_digits n small) refl in
    rw number (ap (λ (m : ℕ). Some m) (digits_value-decimal numerals n small))
