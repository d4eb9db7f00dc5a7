-- What a step line that fits says, and the step that it makes.
use Rattle.std.proofs.Common.{◌≡◌, ℕ, ◌-◌, ◌^◌, ◌≤◌, Bool, true, false, cond, ◌&&◌, not, nat_le}
use Rattle.std.proofs.Common.{◌+◌, List, [], ◌∷◌, length, take, map, min, get_or, Option, Some}
use Rattle.std.proofs.Common.{None}
use Rattle.std.proofs.Common.{refl, sym, ap, subst, ◌∙◌, arith}
use Rattle.std.specs.Prelude.{unwrap_or, option_and_then, ◌<◌}
use borrow.Author.Tests.{ltb-true}
use Rattle.std.specs.List.{list_all}
use Rattle.std.specs.Option.{option_map_or}
use Rattle.std.proofs.Math.Nat.{min-eq_left, min-le_left}
use Rattle.std.proofs.lemmas.Bool.{and_parts, leb-true, not-false}
use Rattle.std.proofs.lemmas.List.{length-map, length-take}
use Rattle.sv_prim.specs.Number.{AreWords}
use Rattle.sv_workload.specs.declared.keyword.SetupWord.TheVariants as setup
use Rattle.sv_workload.specs.declared.keyword.ActWord.{ActWord}
use Rattle.sv_workload.specs.declared.keyword.ActWord.TheVariants.{Name, Print, Call}
use Rattle.sv_workload.specs.declared.keyword.Keyword.{Keyword}
use Rattle.sv_workload.specs.declared.keyword.Keyword.TheVariants as keyword
use Rattle.sv_load.specs.declared.load.Act.{Act}
use Rattle.sv_load.specs.declared.load.Step.{Step}
use Rattle.sv_text.specs.Words.{number_of}
use Rattle.sv_workload.specs.Keywords.{is_same}
use Rattle.sv_workload.specs.Forms.{between, is_in, form_of}
use Rattle.sv_workload.specs.Line.{Line, numbers_of, text_after}
use Rattle.sv_workload.specs.Checks.{fits, fits_command, is_word, is_printable, is_within}
use Rattle.sv_workload.specs.Checks.{are_within}
use Rattle.sv_workload.specs.Meaning.{act_with, task_in, with_shrunk, step_by}
use Rattle.sv_load.specs.Need.{HasWords, IsStepAct}
use Rattle.sv_workload.specs.Numbers.{capped}
use Rattle.sv_workload.specs.Fit.{FitsForm}
use Rattle.sv_workload.proofs.fit_lines.Capping.{ranges, number_or_0, numbers_behind, in_ranges}
use Rattle.sv_workload.proofs.fit_lines.Capping.{act_numbers}
use Rattle.sv_workload.proofs.fit_lines.Capping.{task_numbers}
use Rattle.sv_workload.proofs.fit_lines.StepActs.{IsKeptTo, step_act, word_at, capped_words}
use Rattle.sv_workload.proofs.fit_lines.StepActs.{shrunk_words}
use Rattle.sv_workload.proofs.fit_lines.StepActs.{printable_bytes}

-- ---- ticks

-- a number of the range of ticks
ticks_behind : (n : Option ℕ) → option_map_or (is_in (between 0 8589934592)) n false ≡ true
    → unwrap_or n 0 ≤ 8589934592
ticks_behind None e = omega arith
ticks_behind (Some n) e = leb-true n 8589934592 (and_parts (nat_le 0 n) (nat_le n 8589934592) e).1

-- a word for ticks, or none
ticks_of : (word : Option (List ℕ))
    → option_map_or (is_within (between 0 8589934592)) word true ≡ true
    → unwrap_or (option_and_then number_of word) 0 ≤ 8589934592
ticks_of None e = omega arith
ticks_of (Some word) e = ticks_behind (number_of word) e

-- the ticks of a fit line
ticks_most : (line : Line) → FitsForm line
    → unwrap_or (option_and_then number_of line.advance) 0 ≤ 8589934592
ticks_most line fit = ticks_of line.advance (and_parts _ _ (not-false _ fit.numbers)).0

-- ---- texts

-- the text of a fit line is no longer than its form says
pub text_most : (line : Line) (word : Keyword) (most : ℕ) → line.keyword ≡ word
    → (form_of word).text ≡ Some most → FitsForm line → length (text_after line) ≤ most
text_most line word most e some fit =
    let text = text_after line in
    let there : option_map_or (λ m. not (nat_le (length text) m && list_all is_printable text))
    (form_of word).text false ≡ false =
    subst (λ (k : Keyword). option_map_or
    (λ m. not (nat_le (length text) m && list_all is_printable text)) (form_of k).text false ≡
    false) e fit.text in
    let good : not (nat_le (length text) most && list_all is_printable text) ≡ false =
    subst (λ (o : Option ℕ). option_map_or
    (λ m. not (nat_le (length text) m && list_all is_printable text)) o false ≡ false) some
    there in
    leb-true (length text) most
    (and_parts (nat_le (length text) most) (list_all is_printable text) (not-false _ good)).0

-- the text that a form wants is not empty
pub text_some : (line : Line) (word : Keyword) (most : ℕ) → line.keyword ≡ word
    → (form_of word).text ≡ Some most → is_same (keyword.Setup setup.Command) word ≡ false
    → FitsForm line → 1 ≤ length (text_after line)
text_some line word most e some other fit =
    let text = text_after line in
    let n = length (form_of word).numbers in
    let there : not (cond (is_same (keyword.Setup setup.Command) word) (fits_command line.words)
    (fits (form_of word) line.words text)) ≡ false =
    subst (λ (k : Keyword). not
    (cond (is_same (keyword.Setup setup.Command) k) (fits_command line.words)
    (fits (form_of k) line.words text)) ≡ false) e fit.shape in
    let fitting : fits (form_of word) line.words text ≡ true = not-false _ (subst
    (λ (b : Bool). not (cond b (fits_command line.words) (fits (form_of word) line.words text)) ≡
    false) other there) in
    let parts : (list_all is_word (take n line.words) && is_word text) ≡ true = subst
    (λ (o : Option ℕ). option_map_or
    (λ most. list_all is_word (take n line.words) && is_word text) o
    (nat_le n (length line.words) && nat_le (length line.words)
    (n + length (form_of word).more) && list_all is_word line.words) ≡ true) some fitting in
    let filled : 0 < length text = ltb-true 0 (length text)
    (and_parts (list_all is_word (take n line.words)) (is_word text) parts).1 in
    omega (arith, filled)

-- the numbers of a task are words
pub task_words : (line : Line) → line.keyword ≡ keyword.Setup setup.Task → FitsForm line
    → HasWords (task_in line)
task_words line e fit =
    let words : AreWords (numbers_of line) = subst AreWords (task_numbers line e fit)
    (capped_words (numbers_of line)) in
    let at = λ (k : ℕ). word_at (numbers_of line) k words in
    (at 0, (at 1, (at 2, (at 3, (at 4, tt)))))

-- a text can be printed
text_printable : (line : Line) (word : Keyword) (most : ℕ) → line.keyword ≡ word
    → (form_of word).text ≡ Some most → FitsForm line
    → list_all is_printable (text_after line) ≡ true
text_printable line word most e some fit =
    let text = text_after line in
    let there : option_map_or (λ m. not (nat_le (length text) m && list_all is_printable text))
    (form_of word).text false ≡ false =
    subst (λ (k : Keyword). option_map_or
    (λ m. not (nat_le (length text) m && list_all is_printable text)) (form_of k).text false ≡
    false) e fit.text in
    let good : not (nat_le (length text) most && list_all is_printable text) ≡ false =
    subst (λ (o : Option ℕ). option_map_or
    (λ m. not (nat_le (length text) m && list_all is_printable text)) o false ≡ false) some
    there in
    (and_parts (nat_le (length text) most) (list_all is_printable text) (not-false _ good)).1

-- ---- calls

-- a number of the range of calls
call_within : (n : Option ℕ) → option_map_or (is_in (between 32 16383)) n false ≡ true
    → (32 ≤ unwrap_or n 0) × (unwrap_or n 0 ≤ 16383)
call_within None e = absurd (let t : false ≡ true = e in cc)
call_within (Some n) e =
    let both = and_parts (nat_le 32 n) (nat_le n 16383) e in
    (leb-true 32 n both.0, leb-true n 16383 both.1)

-- a call has a first number, and it is in its range
call_words : (words : List (List ℕ)) (text : List ℕ)
    → fits (form_of (keyword.Act Call)) words text ≡ true
    → are_within (ranges (keyword.Act Call)) words ≡ true
    → (32 ≤ get_or (numbers_behind (keyword.Act Call) words) 0 0) ×
    (get_or (numbers_behind (keyword.Act Call) words) 0 0 ≤ 16383)
call_words [] text shape e = absurd (let t : false ≡ true = shape in cc)
call_words (word ∷ words) text shape e = call_within (number_of word) (and_parts _ _ e).0

-- a call has at most nine numbers
call_few : (words : List (List ℕ)) → length (numbers_behind (keyword.Act Call) words) ≤ 9
call_few words =
    omega (
      arith,
      length-map (take 9 words) number_or_0,
      length-take 9 words,
      min-le_left 9
          (length words),
    )

-- the words of a fit step line are of its form
shape_of : (line : Line) (word : ActWord) → line.keyword ≡ keyword.Act word → FitsForm line
    → is_same (keyword.Setup setup.Command) (keyword.Act word) ≡ false
    → fits (form_of (keyword.Act word)) line.words (text_after line) ≡ true
shape_of line word e fit other =
    let there : not (cond (is_same (keyword.Setup setup.Command) (keyword.Act word))
    (fits_command line.words) (fits (form_of (keyword.Act word)) line.words (text_after line))) ≡
    false =
    subst (λ (k : Keyword). not
    (cond (is_same (keyword.Setup setup.Command) k) (fits_command line.words)
    (fits (form_of k) line.words (text_after line))) ≡ false) e fit.shape in
    not-false _ (subst
    (λ (b : Bool). not (cond b (fits_command line.words)
    (fits (form_of (keyword.Act word)) line.words (text_after line))) ≡ false) other there)

-- the numbers of a fit line that calls
call_numbers : (line : Line) → line.keyword ≡ keyword.Act Call → FitsForm line
    → (32 ≤ get_or (numbers_of line) 0 0) × (get_or (numbers_of line) 0 0 ≤ 16383) ×
    (length (numbers_of line) ≤ 9)
call_numbers line e fit =
    let first = call_words line.words (text_after line) (shape_of line Call e fit refl)
    (in_ranges line (keyword.Act Call) e fit) in
    subst (λ (k : Keyword). (32 ≤ get_or (numbers_behind k line.words) 0 0) ×
    (get_or (numbers_behind k line.words) 0 0 ≤ 16383) ×
    (length (numbers_behind k line.words) ≤ 9)) (sym e) (first.0, first.1, call_few line.words)

-- ---- steps

-- what a fit line says keeps to its word
kept_to : (line : Line) (word : ActWord) → line.keyword ≡ keyword.Act word → FitsForm line
    → IsKeptTo word (numbers_of line) (text_after line)
kept_to line word e fit = record {
  name = λ is. text_most line (keyword.Act Name) 128 (e ∙ ap keyword.Act is) refl fit;
  print = λ is. text_most line (keyword.Act Print) 128 (e ∙ ap keyword.Act is) refl fit;
  least = λ is. (call_numbers line (e ∙ ap keyword.Act is) fit).0;
  most = λ is. (call_numbers line (e ∙ ap keyword.Act is) fit).1;
  few = λ is. (call_numbers line (e ∙ ap keyword.Act is) fit).2;
  words = subst AreWords (act_numbers line word e fit) (capped_words (numbers_of line));
  name_bytes = λ is. printable_bytes (text_after line)
      (text_printable line (keyword.Act Name) 128 (e ∙ ap keyword.Act is) refl fit);
  print_bytes = λ is. printable_bytes (text_after line)
      (text_printable line (keyword.Act Print) 128 (e ∙ ap keyword.Act is) refl fit);
}

-- what was read of a line that fits keeps to it too
pub read_kept_to : (line : Line) (word : ActWord) (numbers text : List ℕ)
    → line.keyword ≡ keyword.Act word → FitsForm line → numbers ≡ map capped (numbers_of line)
    → text ≡ text_after line → IsKeptTo word numbers text
read_kept_to line word numbers text e fit same_numbers same_text =
    let ns : numbers_of line ≡ numbers = sym (same_numbers ∙ act_numbers line word e fit) in
    subst (λ (l : List ℕ). IsKeptTo word l text) ns
    (subst (λ (t : List ℕ). IsKeptTo word (numbers_of line) t) (sym same_text)
    (kept_to line word e fit))

-- and so it does once an identifier is shrunk, since a call has none
shrunk_kept : (word : ActWord) (base shift : ℕ) (numbers text : List ℕ) → IsKeptTo word numbers text
    → IsKeptTo word (with_shrunk (form_of (keyword.Act word)).identifier base shift numbers) text
shrunk_kept word base shift numbers text is =
    let sent = with_shrunk (form_of (keyword.Act word)).identifier base shift numbers in
    let same : word ≡ Call → numbers ≡ sent = λ e. subst
    (λ (w : ActWord). numbers ≡ with_shrunk (form_of (keyword.Act w)).identifier base shift
    numbers) (sym e) refl in
    record {
      name = is.name;
      print = is.print;
      least = λ e. subst (λ (l : List ℕ). 32 ≤ get_or l 0 0) (same e) (is.least e);
      most = λ e. subst (λ (l : List ℕ). get_or l 0 0 ≤ 16383) (same e) (is.most e);
      few = λ e. subst (λ (l : List ℕ). length l ≤ 9) (same e) (is.few e);
      words = shrunk_words (form_of (keyword.Act word)).identifier base shift numbers is.words;
      name_bytes = is.name_bytes;
      print_bytes = is.print_bytes;
    }

-- a step that was made of what was read of a line
pub record IsStepOf (line : Line) (base shift : ℕ) (step : Step) : Type 0 where
  pub made : Some step ≡ step_by line.keyword base shift line
  pub advance : step.advance ≤ 8589934592
  pub act : IsStepAct step.act

-- the step of what was read of a fit line
pub step_of : (line : Line) (word : ActWord) (base shift : ℕ) (numbers text : List ℕ) (ticks : ℕ)
    (act : Act)
    → line.keyword ≡ keyword.Act word → FitsForm line → numbers ≡ map capped (numbers_of line)
    → text ≡ text_after line
    → ticks ≡ min (unwrap_or (option_and_then number_of line.advance) 0) (2 ^ 64 - 1)
    → act ≡ act_with word (with_shrunk (form_of (keyword.Act word)).identifier base shift numbers) text
    → IsStepOf line base shift (record { advance = ticks; act = act })
step_of line word base shift numbers text ticks act e fit same_numbers same_text counted done =
    let most = ticks_most line fit in
    let small : unwrap_or (option_and_then number_of line.advance) 0 ≤ 2 ^ 64 - 1 = omega
    (arith, most) in
    let all : ticks ≡ unwrap_or (option_and_then number_of line.advance) 0 = counted ∙ min-eq_left
    small in
    let means : act ≡ act_with word
    (with_shrunk (form_of (keyword.Act word)).identifier base shift (numbers_of line))
    (text_after line) =
    done ∙ ap (λ (ns : List ℕ). act_with word
    (with_shrunk (form_of (keyword.Act word)).identifier base shift ns) text)
    (same_numbers ∙ act_numbers line word e fit)
    ∙ ap (λ (t : List ℕ). act_with word
    (with_shrunk (form_of (keyword.Act word)).identifier base shift (numbers_of line)) t)
    same_text in
    record {
      made = ap (λ (t : ℕ). Some (record { advance = t; act = act })) all ∙ ap
          (λ (a : Act). Some (record
          { advance = unwrap_or (option_and_then number_of line.advance) 0; act = a })) means
          ∙ ap (λ (k : Keyword). step_by k base shift line) (sym e);
      advance = omega (arith, all, most);
      act = subst IsStepAct (sym done)
          (step_act word (with_shrunk (form_of (keyword.Act word)).identifier base shift numbers)
          text
          (shrunk_kept word base shift numbers text
          (read_kept_to line word numbers text e fit same_numbers same_text)));
    }
