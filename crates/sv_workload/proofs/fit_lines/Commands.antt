-- The words of a line that says a command: bytes, and a parameter from the byte 128 on.
use Rattle.std.proofs.Common.{◌≡◌, ℕ, ◌<◌, Bool, true, false, cond, ◌&&◌, ◌==◌, List, [], ◌∷◌}
use Rattle.std.proofs.Common.{length, map, take, get_or, Option, Some, None, sym, subst, arith}
use Rattle.std.proofs.Common.{nat_le, nat_lt, refl, ap}
use Rattle.std.specs.Prelude.{unwrap_or, option_map, min, ◌-◌, ◌^◌}
use Rattle.std.specs.List.{list_all}
use Rattle.std.specs.Option.{option_map_or}
use Rattle.std.proofs.lemmas.Bool.{and_parts, leb-true, lt-ltb, not-false, false≢true}
use Rattle.std.proofs.lemmas.Bool.{eqb-true}
use Rattle.std.proofs.lemmas.Bool.Decides.{nat_tests}
use Rattle.sv_workload.specs.declared.keyword.SetupWord.TheVariants as setup
use Rattle.sv_workload.specs.declared.keyword.Keyword.{Keyword}
use Rattle.sv_workload.specs.declared.keyword.Keyword.TheVariants as keyword
use Rattle.sv_workload.specs.Forms.{between, is_in}
use Rattle.sv_text.specs.Words.{number_of}
use Rattle.sv_workload.specs.Line.{Line, numbers_of}
use Rattle.sv_workload.specs.Fit.{FitsForm}
use Rattle.sv_workload.specs.Checks.{is_word, is_within, are_within, fits_command}
use Rattle.sv_workload.proofs.fit_lines.Capping.{number_or_0, numbers_behind, in_ranges}

-- the numbers of a command
pub record AreAsked (numbers : List ℕ) : Type 0 where
  pub byte : get_or numbers 0 0 < 256
  pub param : get_or numbers 1 0 < 256
  pub plain : get_or numbers 0 0 < 128 → get_or numbers 1 0 ≡ 0

small : (number : Option ℕ) → option_map_or (is_in (between 0 255)) number false ≡ true
    → unwrap_or number 0 < 256
small None e = absurd (false≢true e)
small (Some n) e = omega (arith, leb-true n 255 (and_parts (nat_le 0 n) (nat_le n 255) e).1)

-- a byte below 128 has no parameter
no_param : (number : Option ℕ) (param : List ℕ) (more : List (List ℕ))
    → option_map_or (is_in (between 0 255)) number false ≡ true
    → option_map_or (λ n. list_all is_word (param ∷ more) &&
    (length (param ∷ more) == cond {A = ℕ} (nat_lt n 128) 0 1)) number true ≡ true
    → unwrap_or number 0 < 128 → ⊥
no_param None param more e shape low = false≢true e
no_param (Some n) param more e shape low =
    let count : (length (param ∷ more) == cond {A = ℕ} (nat_lt n 128) 0 1) ≡ true =
    (and_parts (list_all is_word (param ∷ more))
    (length (param ∷ more) == cond {A = ℕ} (nat_lt n 128) 0 1) shape).1 in
    let none : (length (param ∷ more) == 0) ≡ true = subst
    (λ (b : Bool). (length (param ∷ more) == cond {A = ℕ} b 0 1) ≡ true) (lt-ltb n 128 low) count
    in
    let zero : length (param ∷ more) ≡ 0 = eqb-true (length (param ∷ more)) 0 none in
    omega (arith, zero)

asked_by : (words : List (List ℕ)) → fits_command words ≡ true
    → are_within (between 0 255 ∷ between 0 255 ∷ []) words ≡ true
    → AreAsked (map number_or_0 (take 2 words))
asked_by [] shape e = absurd (false≢true shape)
asked_by (byte ∷ []) shape e =
    let first = and_parts (is_within (between 0 255) byte) (are_within (between 0 255 ∷ []) []) e
    in
    record {
      byte = small (number_of byte) first.0;
      param = omega arith;
      plain = λ low. refl;
    }
asked_by (byte ∷ param ∷ more) shape e =
    let first = and_parts (is_within (between 0 255) byte)
    (are_within (between 0 255 ∷ []) (param ∷ more)) e in
    let second = and_parts (is_within (between 0 255) param) (are_within [] more) first.1 in
    record {
      byte = small (number_of byte) first.0;
      param = small (number_of param) second.0;
      plain = λ low. absurd (no_param (number_of byte) param more first.0 shape low);
    }

-- the numbers of a fit line
pub are_asked : (line : Line) → line.keyword ≡ keyword.Setup setup.Command → FitsForm line
    → AreAsked (numbers_of line)
are_asked line e fit =
    let shape : fits_command line.words ≡ true = not-false _ (rw e at fit.shape) in
    subst (λ (k : Keyword). AreAsked (numbers_behind k line.words)) (sym e)
    (asked_by line.words shape (in_ranges line (keyword.Setup setup.Command) e fit))

-- a number that is capped is below 128 where it is

low_capped : (k n : ℕ) → n ≡ min k (2 ^ 64 - 1) → nat_lt n 128 ≡ nat_lt k 128
low_capped k n e = grind (arith, nat_tests)

pub fits_by : (byte : List ℕ) (params : List (List ℕ)) (n : ℕ)
    → option_map (λ k. min k (2 ^ 64 - 1)) (number_of byte) ≡ Some n
    → (list_all is_word params && (length params == cond {A = ℕ} (nat_lt n 128) 0 1)) ≡ fits_command
    (byte ∷ params)
fits_by byte params n e = by (number_of byte) e
  where
    by : (number : Option ℕ) → option_map (λ k. min k (2 ^ 64 - 1)) number ≡ Some n
        → (list_all is_word params && (length params == cond {A = ℕ} (nat_lt n 128) 0 1)) ≡
        option_map_or (λ k. list_all is_word params &&
        (length params == cond {A = ℕ} (nat_lt k 128) 0 1)) number true
    by None e = absurd cc
    by (Some k) e =
        let same : n ≡ min k (2 ^ 64 - 1) = cc in
        ap (λ (b : Bool). list_all is_word params && (length params == cond {A = ℕ} b 0 1))
        (low_capped k n same)
