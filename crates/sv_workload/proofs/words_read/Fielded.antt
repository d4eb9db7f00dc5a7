-- Two passes over the words of a line, for the numbers that it can't be without and for those that
-- it can, give all that its checks ask of its words.
use Rattle.std.proofs.Common.{◌≡◌, ℕ, ◌+◌, Bool, ◌&&◌, ◌==◌, List, [], ◌∷◌, ◌++◌, length, take}
use Rattle.std.proofs.Common.{drop, map, true, false, Option, Some, None, refl, sym, ap, ◌∙◌}
use Rattle.std.proofs.Common.{arith, nat_le}
use Rattle.std.specs.Prelude.{unwrap_or}
use Rattle.std.specs.List.{list_all, join_with_byte}
use Rattle.std.specs.Option.{option_map_or}
use Rattle.std.proofs.Math.Bool.{and_assoc}
use Rattle.std.proofs.Math.Seq.{take-add}
use Rattle.std.proofs.lemmas.Bool.Decides.{leb_tells, nat_tests}
use Rattle.std.proofs.lemmas.List.{map-append, take-append-drop, length-drop, length-take}
use Rattle.std.proofs.lemmas.List.{length-map}
use Rattle.std.proofs.lemmas.List.Folds.{list_all-append}
use Rattle.sv_text.specs.Words.{number_of}
use Rattle.sv_workload.specs.Numbers.{capped, counts_as}
use Rattle.sv_workload.specs.Forms.{Form}
use Rattle.sv_workload.specs.Checks.{is_word, fits, are_within}
use Rattle.sv_workload.proofs.words_read.Ranges.{within_both}
use Rattle.sv_workload.proofs.words_read.Passing.{State, the_state, Leaves}
use Rattle.sv_workload.proofs.words_read.Shapes.{begins_filled, is_few_filled, fits_text}
use Rattle.sv_workload.proofs.words_read.Shapes.{fits_words}

-- each number counts for itself
pub counted : (words : List (List ℕ))
    → map counts_as words ≡ map capped (map (λ word. unwrap_or (number_of word) 0) words)
counted [] = refl
counted (word ∷ words) = ap (λ (l : List ℕ). counts_as word ∷ l) (counted words)

module _ (n m : ℕ) (words : List (List ℕ)) where
  -- the numbers of both passes
  pub all_counted : map counts_as (take n words) ++ map counts_as (take m (drop n words)) ≡
      map capped (map (λ word. unwrap_or (number_of word) 0) (take (n + m) words))
  all_counted =
      sym (map-append counts_as (take n words) (take m (drop n words))) ∙ ap (map counts_as)
      (sym (take-add n m words)) ∙ counted (take (n + m) words)

  -- a number for each word that is wanted
  pub whole : ((length (map counts_as (take n words)) == n) && list_all is_word (take n words)) ≡
      begins_filled n words
  whole = grind (
    arith,
    nat_tests,
    length-map (take n words) counts_as,
    length-take n words,
    leb_tells n (length words),
  )

  -- the words of the second pass, and none after them
  pub few : (list_all is_word (take m (drop n words)) && (length (drop m (drop n words)) == 0)) ≡
      is_few_filled m (drop n words)
  few = few_of (drop n words)
    where
      none_filled : (rest : List (List ℕ)) → length rest ≡ 0 → list_all is_word rest ≡ true
      none_filled [] e = refl
      none_filled (word ∷ words) e = absurd (omega (arith, e))

      few_of : (rest : List (List ℕ))
          → (list_all is_word (take m rest) && (length (drop m rest) == 0)) ≡ is_few_filled m rest
      few_of rest =
          let parts : list_all is_word rest ≡
          (list_all is_word (take m rest) && list_all is_word (drop m rest)) = ap (list_all is_word)
          (sym (take-append-drop m rest)) ∙ list_all-append is_word (take m rest) (drop m rest) in
          grind (
            arith,
            nat_tests,
            parts,
            length-drop m rest,
            none_filled (drop m rest),
            leb_tells (length rest) m,
          )

-- the first pass and the end of the line make the shape
shaped_by : (form : Form) (text : Option ℕ) (words : List (List ℕ)) → form.text ≡ text
    → (begins_filled (length form.numbers) words && option_map_or
    (λ (most : ℕ). is_word (join_with_byte 32 (drop (length form.numbers) words))) text
    ((list_all is_word (take (length form.numbers) words) && list_all is_word
    (take (length form.more) (drop (length form.numbers) words))) &&
    (length (drop (length form.more) (drop (length form.numbers) words)) == 0))) ≡
    fits form words (join_with_byte 32 (drop (length form.numbers) words))
shaped_by form (Some most) words e = sym (fits_text form most words e)
shaped_by form None words e =
    let n = length form.numbers in
    let m = length form.more in
    let rest = drop n words in
    ap (λ (b : Bool). begins_filled n words && b)
    (and_assoc (list_all is_word (take n words)) (list_all is_word (take m rest))
    (length (drop m rest) == 0)) ∙ ap
    (λ (b : Bool). begins_filled n words && (list_all is_word (take n words) && b)) (few n m words)
    ∙ again (nat_le n (length words)) (list_all is_word (take n words)) (is_few_filled m rest) ∙
    sym (fits_words form words e)
  where
    again : (a b c : Bool) → ((a && b) && (b && c)) ≡ ((a && b) && c)
    again true true c = refl
    again true false c = refl
    again false b c = refl

pub shaped : (form : Form) (words : List (List ℕ))
    → (begins_filled (length form.numbers) words && option_map_or
    (λ (most : ℕ). is_word (join_with_byte 32 (drop (length form.numbers) words))) form.text
    ((list_all is_word (take (length form.numbers) words) && list_all is_word
    (take (length form.more) (drop (length form.numbers) words))) &&
    (length (drop (length form.more) (drop (length form.numbers) words)) == 0))) ≡
    fits form words (join_with_byte 32 (drop (length form.numbers) words))
shaped form words = shaped_by form form.text words refl

-- what two passes with this form tell of these words
pub record Tells (form : Form) (words : List (List ℕ)) (numbers text : List ℕ)
    (shaped ranged : Bool) : Type 0 where
  pub numbers_are : numbers ≡ map capped (map (λ word. unwrap_or (number_of word) 0)
      (take (length form.numbers + length form.more) words))
  pub text_is : text ≡ join_with_byte 32 (drop (length form.numbers) words)
  pub shaped_is : shaped ≡ fits form words (join_with_byte 32 (drop (length form.numbers) words))
  pub ranged_is : ranged ≡ are_within (form.numbers ++ form.more) words

module _ (form : Form) (words : List (List ℕ)) (first second : State) (text : List ℕ)
    (all ended : Bool) where
  pub told : first ≡ the_state (map counts_as (take (length form.numbers) words))
      (list_all is_word (take (length form.numbers) words)) (are_within form.numbers words)
      (drop (length form.numbers) words)
      → Leaves second form.more first.words first.values first.filled first.ranged
      → all ≡ ((length first.values == length form.numbers) && first.filled)
      → text ≡ join_with_byte 32 first.words
      → ended ≡ option_map_or (λ most. is_word text) form.text
      (second.filled && (length second.words == 0))
      → Tells form words second.values text (all && ended) second.ranged
  told one two all_is text_is ended_is =
      let n = length form.numbers in
      let m = length form.more in
      let filled : second.filled ≡ (list_all is_word (take n words) && list_all is_word
      (take m (drop n words))) = two.filled_is ∙ ap
      (λ (s : State). s.filled && list_all is_word (take m s.words)) one in
      let last : second.words ≡ drop m (drop n words) = two.words_are ∙ ap
      (λ (s : State). drop m s.words) one in
      let behind : text ≡ join_with_byte 32 (drop n words) = text_is ∙ ap
      (λ (s : State). join_with_byte 32 s.words) one in
      let wanted : all ≡ begins_filled n words = all_is ∙ ap
      (λ (s : State). (length s.values == n) && s.filled) one ∙ whole n m words in
      record {
        numbers_are = two.values_are ∙ ap
            (λ (s : State). s.values ++ map counts_as (take m s.words)) one ∙ all_counted n m words;
        text_is = behind;
        shaped_is = ap (λ (b : Bool). b && ended) wanted ∙ ap
            (λ (b : Bool). begins_filled n words && b) (ended_is ∙ ap
            (λ (b : Bool). option_map_or (λ most. is_word text) form.text
            (b && (length second.words == 0))) filled ∙ ap
            (λ (l : List (List ℕ)). option_map_or (λ most. is_word text) form.text
            ((list_all is_word (take n words) && list_all is_word (take m (drop n words))) &&
            (length l == 0))) last ∙ ap (λ (t : List ℕ). option_map_or (λ most. is_word t) form.text
            ((list_all is_word (take n words) && list_all is_word (take m (drop n words))) &&
            (length (drop m (drop n words)) == 0))) behind) ∙ shaped form words;
        ranged_is = two.ranged_is ∙ ap (λ (s : State). s.ranged && are_within form.more s.words) one
            ∙ sym (within_both form.numbers form.more words);
      }
