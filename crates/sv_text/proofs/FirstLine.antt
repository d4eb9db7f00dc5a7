-- The lines of a text, one after another.
use Rattle.std.proofs.Common.{◌≡◌, ℕ, ◌+◌, ◌<◌, ◌≤◌, Bool, ◌==◌, List, [], ◌∷◌, length, take, drop}
use Rattle.std.proofs.Common.{Some, None, nat_lt, ◌-◌, refl, ap, sym, subst, ◌∙◌, arith}
use Rattle.std.specs.Prelude.{position}
use Rattle.std.specs.List.{slice_split, position_or_len, before_first, after_first}
use Rattle.std.proofs.lemmas.List.Splits.{slice_split_first, slice_split_none, length-slice_split}
use Rattle.std.proofs.lemmas.List.Sums.{fails_before_first}
use Rattle.std.proofs.lemmas.List.{take_rest, drop_all, length-drop}
use Rattle.std.proofs.lemmas.Bool.{ltb-true, ltb-false}
use Rattle.sv_text.proofs.Cuts.{none_by, some_by}
use Rattle.sv_text.specs.Lines.{without_empty_end, lines_of, IsFirstLine}

abbrev pub is_end : ℕ → Bool
is_end b = b == 10

pub one_more : (line : List ℕ) (parts : List (List ℕ)) → 0 < length parts
    → without_empty_end (line ∷ parts) ≡ line ∷ without_empty_end parts
one_more line [] some = absurd (omega arith)
one_more [] (next ∷ parts) some = refl
one_more (b ∷ line) (next ∷ parts) some = refl

lines_more : (text : List ℕ) → position_or_len is_end text < length text
    → lines_of text ≡ before_first is_end text ∷ lines_of (after_first is_end text)
lines_more text within =
    ap without_empty_end (slice_split_first is_end text 0 within)
    ∙ one_more (before_first is_end text) (slice_split is_end (after_first is_end text))
    (omega (arith, length-slice_split is_end (after_first is_end text)))

alone : (text : List ℕ) → 0 < length text → without_empty_end (text ∷ []) ≡ text ∷ []
alone [] some = absurd (omega arith)
alone (b ∷ text) some = refl

lines_last : (text : List ℕ) → 0 < length text → length text ≤ position_or_len is_end text
    → lines_of text ≡ text ∷ []
lines_last text some far =
    ap without_empty_end (slice_split_none is_end text
    (λ k d lt. fails_before_first is_end text k d (omega arith))) ∙ alone text some

pub next_at : (text : List ℕ) (place : ℕ) → position is_end text ≡ Some place
    → IsFirstLine text (take place text) (take (length text - (place + 1)) (drop (place + 1) text))
next_at text place e =
    let t = some_by (nat_lt (position_or_len is_end text) (length text))
    (position_or_len is_end text) place e in
    let within : place < length text = omega (arith, ltb-true _ _ t.0, t.1) in
    let rest : take (length text - (place + 1)) (drop (place + 1) text) ≡ drop (place + 1) text =
    take_rest text (place + 1) in
    let lines : lines_of text ≡ take place text ∷ lines_of (drop (place + 1) text) =
    subst (λ (k : ℕ). lines_of text ≡ take k text ∷ lines_of (drop (k + 1) text)) t.1
    (lines_more text (ltb-true _ _ t.0)) in
    let len : length (take (length text - (place + 1)) (drop (place + 1) text)) ≡ length text -
    (place + 1) = ap length rest ∙ length-drop (place + 1) text in
    record {
      lines = lines ∙ ap (λ (l : List ℕ). take place text ∷ lines_of l) (sym rest);
      left = omega (arith, len, within);
    }

pub next_is_last : (text : List ℕ) → 0 < length text → position is_end text ≡ None
    → IsFirstLine text text (take (length text - length text) (drop (length text) text))
next_is_last text some e =
    let far : length text ≤ position_or_len is_end text = ltb-false _ _
    (none_by (nat_lt (position_or_len is_end text) (length text)) (position_or_len is_end text)
    e) in
    let rest : take (length text - length text) (drop (length text) text) ≡ [] = take_rest text
    (length text) ∙ drop_all (length text) text (omega arith) in
    record {
      lines = lines_last text some far ∙ ap (λ (l : List ℕ). text ∷ lines_of l) (sym rest);
      left = omega (arith, ap length rest, some);
    }
