-- The arguments of a print, one after another.
use Rattle.std.proofs.Common.{◌≡◌, ℕ, ◌<◌, List, [], ◌∷◌, ◌++◌, length, flat_map, Option, Some}
use Rattle.std.proofs.Common.{None}
use Rattle.std.proofs.Common.{sym, ap, ◌∙◌, arith, append_assoc, append-nil}
use Rattle.std.proofs.lemmas.List.Concat.{flat_map-append}
use Rattle.std.specs.Prelude.{MatchOption}
use Rattle.sv_report.specs.Words.{spaced_number}

-- those that are left: the next one, and the others
abbrev pub numbers_left : Option (ℕ × List ℕ) → List ℕ
numbers_left None = []
numbers_left (Some (number, others)) = number ∷ others

pub all_left : (numbers : List ℕ) (left : Option (ℕ × List ℕ))
    → MatchOption left (numbers ≡ []) (λ pair. numbers ≡ pair.0 ∷ pair.1)
    → numbers ≡ numbers_left left
all_left numbers None is = is
all_left numbers (Some pair) is = is

-- some were put, and the rest is left
pub record ArePut (before now args : List ℕ) (left : Option (ℕ × List ℕ)) : Type 0 where
  pub done : List ℕ
  pub put : now ≡ before ++ flat_map spaced_number (length args ∷ done)
  pub all : args ≡ done ++ numbers_left left

pub none_put : (before now args : List ℕ) (left : Option (ℕ × List ℕ))
    → now ≡ before ++ spaced_number (length args)
    → MatchOption left (args ≡ []) (λ pair. args ≡ pair.0 ∷ pair.1) → ArePut before now args left
none_put before now args left put is = record {
  done = [];
  put = put ∙ ap (λ (k : List ℕ). before ++ k) (sym (append-nil (spaced_number (length args))));
  all = all_left args left is;
}

pub one_put : (before now next args : List ℕ) (left after : Option (ℕ × List ℕ)) (number : ℕ)
    (others : List ℕ) → ArePut before now args left → left ≡ Some (number, others)
    → next ≡ now ++ spaced_number number
    → MatchOption after (others ≡ []) (λ pair. others ≡ pair.0 ∷ pair.1)
    → ArePut before next args after
one_put before now next args left after number others are some put is = record {
  done = are.done ++ number ∷ [];
  put =
      put ∙ ap (λ (k : List ℕ). k ++ spaced_number number) are.put
      ∙ append_assoc before (flat_map spaced_number (length args ∷ are.done)) (spaced_number number)
      ∙ ap (λ (k : List ℕ). before ++ k)
      (ap (λ (k : List ℕ). flat_map spaced_number (length args ∷ are.done) ++ k)
      (sym (append-nil (spaced_number number)))
      ∙ sym (flat_map-append spaced_number (length args ∷ are.done) (number ∷ [])));
  all =
      are.all ∙ ap (λ (k : Option (ℕ × List ℕ)). are.done ++ numbers_left k) some
      ∙ ap (λ (k : List ℕ). are.done ++ number ∷ k) (all_left others after is)
      ∙ sym (append_assoc are.done (number ∷ []) (numbers_left after));
}

pub fewer_left : (left after : Option (ℕ × List ℕ)) (number : ℕ) (others : List ℕ)
    → left ≡ Some (number, others)
    → MatchOption after (others ≡ []) (λ pair. others ≡ pair.0 ∷ pair.1)
    → length (numbers_left after) < length (numbers_left left)
fewer_left left after number others some is =
    omega (
      arith,
      ap length (all_left others after is),
      ap (λ (k : Option (ℕ × List ℕ)). length (numbers_left k)) some,
    )

pub all_put : (before now args : List ℕ) (left : Option (ℕ × List ℕ)) → ArePut before now args left
    → left ≡ None → now ≡ before ++ flat_map spaced_number (length args ∷ args)
all_put before now args left are none =
    let whole : args ≡ are.done =
    are.all ∙ ap (λ (k : Option (ℕ × List ℕ)). are.done ++ numbers_left k) none
    ∙ append-nil are.done in
    are.put
    ∙ ap (λ (k : List ℕ). before ++ flat_map spaced_number (length args ∷ k)) (sym whole)
