-- Words for numbers, each against its range.
use Rattle.std.proofs.Common.{◌≡◌, ℕ, Bool, true, ◌&&◌, List, [], ◌∷◌, ◌++◌, length, drop}
use Rattle.std.proofs.Common.{refl, sym, ap, ◌∙◌}
use Rattle.std.proofs.Math.Bool.{and_assoc}
use Rattle.sv_workload.specs.declared.range.Range.{Range}
use Rattle.sv_workload.specs.Checks.{is_within, are_within}

-- where there are no words, none is out of its range
pub within_nothing : (ranges : List Range) → are_within ranges [] ≡ true
within_nothing [] = refl
within_nothing (range ∷ ranges) = refl

-- the ranges of a first list, and then those of a second
pub within_both : (first second : List Range) (words : List (List ℕ))
    → are_within (first ++ second) words ≡
    (are_within first words && are_within second (drop (length first) words))
within_both [] second words = refl
within_both (range ∷ first) second [] = sym (within_nothing second)
within_both (range ∷ first) second (word ∷ words) =
    ap (λ (t : Bool). is_within range word && t) (within_both first second words) ∙ sym
    (and_assoc (is_within range word) (are_within first words)
    (are_within second (drop (length first) words)))
