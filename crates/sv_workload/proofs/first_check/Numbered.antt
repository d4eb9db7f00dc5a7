-- The first number of a line, and what a draft says of it.
use Rattle.std.proofs.Common.{◌≡◌, ℕ, zero, suc, ◌+◌, ◌≤◌, Bool, true, false, not, ◌&&◌, ◌||◌, ◌==◌}
use Rattle.std.proofs.Common.{List, [], ◌∷◌, ◌++◌, length, take, Option, Some, None, refl, sym, ap}
use Rattle.std.proofs.Common.{subst, ◌∙◌, arith, nat_lt, nat_le}
use Rattle.std.specs.Prelude.{map, slice_index, unwrap_or}
use Rattle.std.specs.List.{list_any}
use Rattle.std.specs.Option.{is_some, option_map_or}
use Rattle.std.proofs.Math.Bool.{or-false}
use Rattle.std.proofs.lemmas.Bool.{and_parts, false≢true, leb-true}
use Rattle.std.proofs.lemmas.Bool.Decides.{nat_tests}
use Rattle.sv_desc.specs.Modules.{ModuleRow, is_full_for, offset_after}
use Rattle.sv_workload.specs.declared.range.Range.{Range}
use Rattle.sv_workload.specs.declared.keyword.SetupWord.TheVariants.{Ring, Clock, Cpu, Base, Shift}
use Rattle.sv_workload.specs.declared.keyword.SetupWord.TheVariants.{Time, Desc, Task as a_task}
use Rattle.sv_workload.specs.declared.keyword.SetupWord.TheVariants.{Module, Command}
use Rattle.sv_workload.specs.declared.keyword.ActWord.TheVariants.{Run, Ready, Unready, Create}
use Rattle.sv_workload.specs.declared.keyword.ActWord.TheVariants.{Terminate, Timer, Name}
use Rattle.sv_workload.specs.declared.keyword.TurnWord.TheVariants.{Step}
use Rattle.sv_workload.specs.declared.keyword.Keyword.{Keyword}
use Rattle.sv_workload.specs.declared.keyword.Keyword.TheVariants.{Setup, Writer, Act, Schedule}
use Rattle.sv_workload.specs.declared.keyword.Keyword.TheVariants.{Turn, Unknown}
use Rattle.sv_workload.specs.Forms.{form_of, word32, is_in}
use Rattle.sv_workload.specs.Keywords.{is_same}
use Rattle.sv_text.specs.Words.{number_of}
use Rattle.sv_workload.specs.Line.{Line}
use Rattle.sv_workload.specs.Numbers.{capped}
use Rattle.sv_workload.specs.Settings.{base_told, shift_told}
use Rattle.sv_workload.specs.Meaning.{number, count, is_there, base_in, shift_in, tasks_in}
use Rattle.sv_workload.specs.Meaning.{modules_of}
use Rattle.sv_workload.specs.Checks.{is_within, are_within, has_bad_number, is_aligned}
use Rattle.sv_workload.specs.Checks.{is_unaligned, is_repeated, has_no_writer, single_keywords}
use Rattle.sv_workload.specs.Checks.{has_no_room}
use Rattle.sv_workload.specs.Draft.{Draft, Stands}
use Rattle.sv_workload.specs.Checking.{repeats, lacks_writer, lacks_room}
use Rattle.sv_workload.proofs.lines_told.Standing.{told_there, scripts_count}

-- an identifier has 32 bits

identifier_first : (k : Keyword) → (form_of k).identifier ≡ true
    → (rest : List Range) × ((form_of k).numbers ++ (form_of k).more ≡ word32 ∷ rest)
identifier_first (Setup a_task) e = (word32 ∷ word32 ∷ word32 ∷ word32 ∷ [], refl)
identifier_first (Setup other) e = absurd (false≢true e)
identifier_first Writer e = absurd (false≢true e)
identifier_first (Act Run) e = ([], refl)
identifier_first (Act Ready) e = ([], refl)
identifier_first (Act Unready) e = (word32 ∷ [], refl)
identifier_first (Act Create) e = ([], refl)
identifier_first (Act Terminate) e = ([], refl)
identifier_first (Act Timer) e = ([], refl)
identifier_first (Act Name) e = ([], refl)
identifier_first (Act other) e = absurd (false≢true e)
identifier_first Schedule e = absurd (false≢true e)
identifier_first (Turn Step) e = absurd (false≢true e)
identifier_first (Turn other) e = absurd (false≢true e)
identifier_first Unknown e = absurd (false≢true e)

word_small : (o : Option ℕ) → option_map_or (is_in word32) o false ≡ true
    → unwrap_or o 0 ≤ 4294967295
word_small None e = omega arith
word_small (Some n) e = leb-true n 4294967295 ((and_parts (nat_le 0 n) (nat_le n 4294967295) e).1)

first_small : (n : ℕ) (rest : List Range) (words : List (List ℕ))
    → are_within (word32 ∷ rest) words ≡ true
    → slice_index (map (λ word. unwrap_or (number_of word) 0) (take n words)) 0 ≤ 4294967295
first_small zero rest words e = omega arith
first_small (suc n) rest [] e = omega arith
first_small (suc n) rest (word ∷ words) e =
    word_small (number_of word) ((and_parts (is_within word32 word) (are_within rest words) e).0)

good_numbers : (a b : Bool) → not (a && b) ≡ false → b ≡ true
good_numbers true true e = refl
good_numbers true false e = sym e
good_numbers false true e = refl
good_numbers false false e = sym e

module _ (line : Line) (good : has_bad_number [] line ≡ false) where
  id_small : (form_of line.keyword).identifier ≡ true → number line 0 ≤ 4294967295
  id_small e =
      let f = identifier_first line.keyword e in
      let within : are_within ((form_of line.keyword).numbers ++ (form_of line.keyword).more)
      line.words ≡ true = good_numbers
      (option_map_or (is_within (record { least = 0; most = Some 8589934592 })) line.advance
      true) (are_within ((form_of line.keyword).numbers ++ (form_of line.keyword).more)
      line.words) good in
      first_small (length (form_of line.keyword).numbers + length (form_of line.keyword).more) f.0
      line.words (subst (λ (r : List Range). are_within r line.words ≡ true) f.1 within)

  id_kept : (form_of line.keyword).identifier ≡ true → capped (number line 0) ≡ number line 0
  id_kept e = omega (arith, id_small e)

  module _ (draft : Draft) (lines : List Line) (s : Stands draft lines) where
    -- low bits

    loses : (b : Bool) (id n base shift : ℕ) → (b ≡ true → id ≡ n) →
        (b && not (is_aligned id base shift)) ≡ (b && not (is_aligned n base shift))
    loses true id n base shift same = ap (λ (i : ℕ). not (is_aligned i base shift)) (same refl)
    loses false id n base shift same = refl

    pub unaligned : ((form_of line.keyword).identifier && not
        (is_aligned (capped (number line 0)) (base_told draft.settings)
        (shift_told draft.settings))) ≡ is_unaligned lines line
    unaligned =
        let identifier = (form_of line.keyword).identifier in
        let id = capped (number line 0) in
        let shift : shift_told draft.settings ≡ shift_in lines = ap shift_told s.settings in
        let base : base_told draft.settings ≡ base_in lines = ap base_told s.settings in
        ap (λ (b : ℕ). identifier && not (is_aligned id b (shift_told draft.settings))) base
        ∙ ap (λ (n : ℕ). identifier && not (is_aligned id (base_in lines) n)) shift
        ∙ loses identifier id (number line 0) (base_in lines) (shift_in lines) id_kept

    -- what was told

    repeats_by : (k : Keyword) (id n : ℕ) → ((form_of k).identifier ≡ true → id ≡ n)
        → repeats draft k id ≡
        ((list_any (is_same k) single_keywords && is_there k lines) ||
        (is_same (Setup a_task) k && list_any (λ task. task.id == n) (tasks_in lines)))
    repeats_by (Setup a_task) id n same = ap
        (λ (i : ℕ). list_any (λ task. task.id == i) draft.tasks) (same refl) ∙ ap
        (list_any (λ task. task.id == n)) s.tasks
    repeats_by (Setup Ring) id n same = ap (λ t. is_some t.ring) s.settings ∙ told_there Ring lines
        ∙ sym (or-false (is_there (Setup Ring) lines))
    repeats_by (Setup Clock) id n same = ap (λ t. is_some t.clock) s.settings ∙ told_there Clock
        lines ∙ sym (or-false (is_there (Setup Clock) lines))
    repeats_by (Setup Cpu) id n same = ap (λ t. is_some t.cpu) s.settings ∙ told_there Cpu lines ∙
        sym (or-false (is_there (Setup Cpu) lines))
    repeats_by (Setup Base) id n same = ap (λ t. is_some t.base) s.settings ∙ told_there Base lines
        ∙ sym (or-false (is_there (Setup Base) lines))
    repeats_by (Setup Shift) id n same = ap (λ t. is_some t.shift) s.settings ∙ told_there Shift
        lines ∙ sym (or-false (is_there (Setup Shift) lines))
    repeats_by (Setup Time) id n same = s.timed ∙ sym (or-false (is_there (Setup Time) lines))
    repeats_by (Setup Desc) id n same = refl
    repeats_by (Setup Module) id n same = refl
    repeats_by (Setup Command) id n same = refl
    repeats_by Writer id n same = refl
    repeats_by (Act Run) id n same = refl
    repeats_by (Act other) id n same = refl
    repeats_by Schedule id n same = refl
    repeats_by (Turn Step) id n same = refl
    repeats_by (Turn other) id n same = refl
    repeats_by Unknown id n same = refl

    pub repeated : repeats draft line.keyword (capped (number line 0)) ≡ is_repeated lines line
    repeated = repeats_by line.keyword (capped (number line 0)) (number line 0) id_kept

-- writers

reaches : (count n : ℕ) → count ≤ 16 → nat_le count (capped n) ≡ nat_le count n
reaches count n few = grind (arith, nat_tests)

lacks_by : (draft : Draft) (lines : List Line) (s : Stands draft lines)
    (few : length draft.scripts ≤ 16) (k : Keyword) (n : ℕ)
    → lacks_writer draft k (capped n) ≡ (is_same (Turn Step) k && nat_le (count Writer lines) n)
lacks_by draft lines s few (Turn Step) n =
    reaches (length draft.scripts) n few ∙ ap (λ (c : ℕ). nat_le c n)
    (ap length s.scripts ∙ scripts_count lines)
lacks_by draft lines s few (Turn other) n = refl
lacks_by draft lines s few (Setup Ring) n = refl
lacks_by draft lines s few (Setup other) n = refl
lacks_by draft lines s few Writer n = refl
lacks_by draft lines s few (Act Run) n = refl
lacks_by draft lines s few (Act other) n = refl
lacks_by draft lines s few Schedule n = refl
lacks_by draft lines s few Unknown n = refl

pub no_writer : (draft : Draft) (lines : List Line) (line : Line) → Stands draft lines
    → length draft.scripts ≤ 16
    → lacks_writer draft line.keyword (capped (number line 0)) ≡ has_no_writer lines line
no_writer draft lines line s few = lacks_by draft lines s few line.keyword (number line 0)

-- modules: a number above 32 bits is too large by far, whether it is capped or not

passes_end : (offset n : ℕ) → nat_lt 16384 (offset + capped n) ≡ nat_lt 16384 (offset + n)
passes_end offset n = grind (arith, nat_tests)

full_capped : (modules : List ModuleRow) (n : ℕ) → is_full_for modules (capped n) ≡ is_full_for
    modules n
full_capped modules n =
    ap (λ (b : Bool). nat_le 64 (length modules) || b) (passes_end (offset_after modules) n)

lacks_room_by : (draft : Draft) (lines : List Line) (s : Stands draft lines) (k : Keyword) (n : ℕ)
    → lacks_room draft k (capped n) ≡ (is_same (Setup Module) k && is_full_for (modules_of lines) n)
lacks_room_by draft lines s (Setup Module) n =
    full_capped draft.modules n ∙ ap (λ (rows : List ModuleRow). is_full_for rows n) s.modules
lacks_room_by draft lines s (Setup Ring) n = refl
lacks_room_by draft lines s (Setup other) n = refl
lacks_room_by draft lines s (Turn Step) n = refl
lacks_room_by draft lines s (Turn other) n = refl
lacks_room_by draft lines s Writer n = refl
lacks_room_by draft lines s (Act Run) n = refl
lacks_room_by draft lines s (Act other) n = refl
lacks_room_by draft lines s Schedule n = refl
lacks_room_by draft lines s Unknown n = refl

pub no_room : (draft : Draft) (lines : List Line) (line : Line) → Stands draft lines
    → lacks_room draft line.keyword (capped (number line 0)) ≡ has_no_room lines line
no_room draft lines line s = lacks_room_by draft lines s line.keyword (number line 0)
