-- A pass over the words of a line, one word for each range.
use Rattle.std.proofs.Common.{◌≡◌, ℕ, ◌+◌, ◌<◌, Bool, ◌&&◌, List, [], ◌∷◌, ◌++◌, length, take}
use Rattle.std.proofs.Common.{drop, get_or, map, refl, sym, ap, subst, ◌∙◌, append_assoc}
use Rattle.std.proofs.Common.{append-nil}
use Rattle.std.specs.List.{list_all}
use Rattle.std.proofs.Math.Bool.{and_assoc, and-true}
use Rattle.std.proofs.lemmas.List.{at_drop_more}
use Rattle.sv_workload.specs.declared.range.Range.{Range}
use Rattle.sv_workload.specs.Numbers.{counts_as}
use Rattle.sv_workload.specs.Checks.{is_word, is_within, are_within}

-- what stands at one place of the pass
pub record State : Type 0 where
  pub values : List ℕ
  pub filled : Bool
  pub ranged : Bool
  pub words : List (List ℕ)

abbrev pub the_state : List ℕ → Bool → Bool → List (List ℕ) → State
the_state values filled ranged words =
    record { values = values; filled = filled; ranged = ranged; words = words }

-- the end of the pass over these ranges and words
abbrev pub passed : List Range → List (List ℕ) → List ℕ → Bool → Bool → State
passed [] words values filled ranged = the_state values filled ranged words
passed (range ∷ ranges) [] values filled ranged = the_state values filled ranged []
passed (range ∷ ranges) (word ∷ words) values filled ranged =
    passed ranges words (values ++ counts_as word ∷ []) (filled && is_word word)
    (ranged && is_within range word)

-- without words nothing changes
pub passed_nothing : (ranges : List Range) (values : List ℕ) (filled ranged : Bool)
    → passed ranges [] values filled ranged ≡ the_state values filled ranged []
passed_nothing [] values filled ranged = refl
passed_nothing (range ∷ ranges) values filled ranged = refl

-- one more word
pub passed_more : (ranges : List Range) (place : ℕ) (d : Range) (word : List ℕ)
    (words : List (List ℕ)) (values : List ℕ) (filled ranged : Bool) → place < length ranges
    → passed (drop place ranges) (word ∷ words) values filled ranged ≡
    passed (drop (place + 1) ranges) words (values ++ counts_as word ∷ []) (filled && is_word word)
    (ranged && is_within (get_or ranges place d) word)
passed_more ranges place d word words values filled ranged within =
    at_drop_more (λ (l : List Range). passed l (word ∷ words) values filled ranged) ranges place d
    within

-- what the whole pass leaves
pub record Leaves (end : State) (ranges : List Range) (words : List (List ℕ)) (values : List ℕ)
    (filled ranged : Bool) : Type 0 where
  pub values_are : end.values ≡ values ++ map counts_as (take (length ranges) words)
  pub filled_is : end.filled ≡ (filled && list_all is_word (take (length ranges) words))
  pub ranged_is : end.ranged ≡ (ranged && are_within ranges words)
  pub words_are : end.words ≡ drop (length ranges) words

pub leaves : (ranges : List Range) (words : List (List ℕ)) (values : List ℕ) (filled ranged : Bool)
    → Leaves (passed ranges words values filled ranged) ranges words values filled ranged
leaves [] words values filled ranged =
    record {
      values_are = sym (append-nil values);
      filled_is = sym (and-true filled);
      ranged_is = sym (and-true ranged);
      words_are = refl;
    }
leaves (range ∷ ranges) [] values filled ranged =
    record {
      values_are = sym (append-nil values);
      filled_is = sym (and-true filled);
      ranged_is = sym (and-true ranged);
      words_are = refl;
    }
leaves (range ∷ ranges) (word ∷ words) values filled ranged =
    let rest = leaves ranges words (values ++ counts_as word ∷ []) (filled && is_word word)
    (ranged && is_within range word) in
    record {
      values_are = rest.values_are ∙ append_assoc values (counts_as word ∷ [])
          (map counts_as (take (length ranges) words));
      filled_is = rest.filled_is ∙ and_assoc filled (is_word word)
          (list_all is_word (take (length ranges) words));
      ranged_is = rest.ranged_is ∙ and_assoc ranged (is_within range word)
          (are_within ranges words);
      words_are = rest.words_are;
    }

module _ (ranges : List Range) (words : List (List ℕ)) (values : List ℕ) (filled ranged : Bool)
    (now : State) where
  -- the pass stops where there are no words
  pub ended : (left : List Range) → now.words ≡ []
      → passed left now.words now.values now.filled now.ranged ≡
      passed ranges words values filled ranged
      → Leaves now ranges words values filled ranged
  ended left none same =
      let here : passed left now.words now.values now.filled now.ranged ≡ now =
      stays left now none in
      subst (λ (s : State). Leaves s ranges words values filled ranged) (sym same ∙ here)
      (leaves ranges words values filled ranged)
    where
      stays : (left : List Range) (s : State) → s.words ≡ [] → passed left s.words s.values s.filled
          s.ranged ≡ s
      stays left s none =
          ap (λ (l : List (List ℕ)). passed left l s.values s.filled s.ranged) none ∙
          passed_nothing left s.values s.filled s.ranged ∙
          ap (λ (l : List (List ℕ)). the_state s.values s.filled s.ranged l) (sym none)

  -- it stops after the last range
  pub through : (left : List Range) → left ≡ []
      → passed left now.words now.values now.filled now.ranged ≡
      passed ranges words values filled ranged
      → Leaves now ranges words values filled ranged
  through left none same =
      let here : passed left now.words now.values now.filled now.ranged ≡ now = ap
      (λ (l : List Range). passed l now.words now.values now.filled now.ranged) none in
      subst (λ (s : State). Leaves s ranges words values filled ranged) (sym same ∙ here)
      (leaves ranges words values filled ranged)
