-- A step's line that begins with its ticks in decimal.
use Rattle.std.proofs.Common.{◌≡◌, ℕ, ◌^◌, ◌<◌, true, false, ◌==◌, List, [], ◌∷◌, ◌++◌}
use Rattle.std.proofs.Common.{length, refl, arith, rules, All}
use Rattle.std.specs.Prelude.{slice_index}
use Rattle.std.specs.List.{list_all}
use Rattle.std.specs.Char.{is_ascii_digit}
use Rattle.std.specs.Fmt.{decimal}
use Rattle.std.proofs.lemmas.Bool.{and_parts}
use Rattle.std.proofs.lemmas.Fmt.{decimal_nonempty}
use Rattle.std.proofs.lemmas.List.Elements.{All-nil, All-cons}
use Rattle.std.proofs.lemmas.List.Splits.{slice_split_at}
use Rattle.sv_text.specs.Lines.{is_remark, IsOneLine}
use Rattle.sv_text.specs.Words.{words_of}
use Rattle.sv_text.proofs.Shared.{decimal_digits, in_range}
use Rattle.sv_workload.specs.Line.{line_from, step_line}

-- a digit is no space, no line feed and no `;`
no_space : (b : ℕ) → is_ascii_digit b ≡ true → (b == 32) ≡ false
no_space b e = let range = in_range b e in search (rules, range)

all_by : (P : ℕ → Type 0) (word : List ℕ) → ((b : ℕ) → is_ascii_digit b ≡ true → P b)
    → list_all is_ascii_digit word ≡ true → All P word
all_by P [] each e = All-nil P
all_by P (b ∷ word) each e =
    let both = and_parts (is_ascii_digit b) (list_all is_ascii_digit word) e in
    All-cons P b word (each b both.0) (all_by P word each both.1)

first_digit : (word rest : List ℕ) → 0 < length word → list_all is_ascii_digit word ≡ true
    → is_ascii_digit (slice_index (word ++ rest) 0) ≡ true
first_digit [] rest some e = absurd (omega (arith, some))
first_digit (b ∷ word) rest some e =
    (and_parts (is_ascii_digit b) (list_all is_ascii_digit word) e).0

no_remark : (word rest : List ℕ) → 0 < length word → list_all is_ascii_digit word ≡ true
    → is_remark (word ++ rest) ≡ false
no_remark [] rest some e = absurd (omega (arith, some))
no_remark (b ∷ word) rest some e =
    let range = in_range b (and_parts (is_ascii_digit b) (list_all is_ascii_digit word) e).0 in
    search (rules, range)

feedless : (word rest : List ℕ) → list_all is_ascii_digit word ≡ true → IsOneLine rest
    → IsOneLine (word ++ 32 ∷ rest)
feedless [] rest e more = more
feedless (b ∷ word) rest e more =
    let both = and_parts (is_ascii_digit b) (list_all is_ascii_digit word) e in
    let range = in_range b both.0 in
    let other : (b == 10) ≡ false = search (rules, range) in
    rw other (feedless word rest both.1 more)

-- the line of these ticks
abbrev pub with_ticks : ℕ → List ℕ → List ℕ
with_ticks ticks rest = decimal ticks ++ 32 ∷ rest

module _ (ticks : ℕ) (small : ticks < 2 ^ 64) (rest : List ℕ) where
  pub is_said : is_remark (with_ticks ticks rest) ≡ false
  is_said = no_remark (decimal ticks) (32 ∷ rest) (decimal_nonempty ticks small)
      (decimal_digits ticks small)

  pub is_cut : line_from (with_ticks ticks rest) ≡ step_line (decimal ticks ∷ words_of rest)
  is_cut =
      let digit = first_digit (decimal ticks) (32 ∷ rest) (decimal_nonempty ticks small)
      (decimal_digits ticks small) in
      let cut : words_of (with_ticks ticks rest) ≡ decimal ticks ∷ words_of rest = slice_split_at
      (λ (b : ℕ). b == 32) (decimal ticks) 32 rest
      (all_by (λ (b : ℕ). (b == 32) ≡ false) (decimal ticks) no_space (decimal_digits ticks small))
      refl in
      rw (digit, cut) refl

  pub is_one_line : IsOneLine rest → IsOneLine (with_ticks ticks rest)
  is_one_line more = feedless (decimal ticks) rest (decimal_digits ticks small) more
