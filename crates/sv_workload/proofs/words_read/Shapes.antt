-- Words that are taken off the front of a line, one by one.
use Rattle.std.proofs.Common.{◌≡◌, ℕ, ◌<◌, ◌+◌, Bool, ◌&&◌, List, length}
use Rattle.std.proofs.Common.{false, Some, None, take, drop, nat_le, sym, ap, ◌∙◌}
use Rattle.std.proofs.Common.{arith}
use Rattle.std.proofs.lemmas.Bool.Decides.{leb_tells}
use Rattle.std.proofs.lemmas.List.{take-append-drop, length-drop, drop_all}
use Rattle.std.proofs.lemmas.List.Folds.{list_all-append}
use Rattle.std.specs.List.{list_all, join_with_byte}
use Rattle.sv_workload.specs.Forms.{Form}
use Rattle.sv_workload.specs.Checks.{is_word, fits}

-- so many words are at the front, and none of them is empty
abbrev pub begins_filled : ℕ → List (List ℕ) → Bool
begins_filled count words = nat_le count (length words) && list_all is_word (take count words)

-- no more words than these are there, and none is empty
abbrev pub is_few_filled : ℕ → List (List ℕ) → Bool
is_few_filled most words = nat_le (length words) most && list_all is_word words

-- the words that are wanted and those that may follow, looked at one after another
pub filled_then_few : (n m : ℕ) (words : List (List ℕ))
    → (nat_le n (length words) && nat_le (length words) (n + m) && list_all is_word words) ≡
    (begins_filled n words && is_few_filled m (drop n words))
filled_then_few n m words =
    let whole : list_all is_word words ≡
    (list_all is_word (take n words) && list_all is_word (drop n words)) = ap (list_all is_word)
    (sym (take-append-drop n words)) ∙ list_all-append is_word (take n words) (drop n words) in
    grind (
      arith,
      whole,
      length-drop n words,
      leb_tells n (length words),
      leb_tells (length words)
          (n + m),
      leb_tells (length (drop n words)) m,
    )

-- a text after fewer words than are wanted is empty
none_behind : (n : ℕ) (words : List (List ℕ)) → length words < n
    → is_word (join_with_byte 32 (drop n words)) ≡ false
none_behind n words few =
    ap (λ (l : List (List ℕ)). is_word (join_with_byte 32 l))
    (drop_all n words (omega (arith, few)))

-- the words that are wanted, and a text after them
pub filled_then_text : (n : ℕ) (words : List (List ℕ))
    → (list_all is_word (take n words) && is_word (join_with_byte 32 (drop n words))) ≡
    (begins_filled n words && is_word (join_with_byte 32 (drop n words)))
filled_then_text n words = grind (arith, none_behind n words, leb_tells n (length words))

-- a form with a text
pub fits_text : (form : Form) (most : ℕ) (words : List (List ℕ)) → form.text ≡ Some most
    → fits form words (join_with_byte 32 (drop (length form.numbers) words)) ≡
    (begins_filled (length form.numbers) words && is_word
    (join_with_byte 32 (drop (length form.numbers) words)))
fits_text form most words e = rw e (filled_then_text (length form.numbers) words)

-- a form without a text
pub fits_words : (form : Form) (words : List (List ℕ)) → form.text ≡ None
    → fits form words (join_with_byte 32 (drop (length form.numbers) words)) ≡
    (begins_filled (length form.numbers) words && is_few_filled (length form.more)
    (drop (length form.numbers) words))
fits_words form words e = rw e (filled_then_few (length form.numbers) (length form.more) words)
