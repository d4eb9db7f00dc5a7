-- What a draft may take, since the line has no fault, and what it then stands for.
use Rattle.std.proofs.Common.{◌≡◌, ℕ, ◌+◌, ◌<◌, ◌≤◌, ◌-◌, ◌^◌, cond, drop, Bool, true, false, ◌||◌}
use Rattle.std.proofs.Common.{◌&&◌, not, List, [], ◌∷◌, ◌++◌, length, map, take, get_or, Option}
use Rattle.std.proofs.Common.{Some, None, refl, sym, ap, subst, ◌∙◌, nat_le, arith}
use Rattle.std.specs.List.{list_all, join_with_byte}
use Rattle.std.specs.Option.{option_map_or}
use Rattle.std.proofs.lemmas.Bool.{and_parts, leb-true, leb-false}
use Rattle.sv_load.specs.declared.load.Step.{Step}
use Rattle.sv_workload.specs.declared.range.Range.{Range}
use Rattle.sv_workload.specs.declared.keyword.SetupWord.{SetupWord}
use Rattle.sv_workload.specs.declared.keyword.SetupWord.TheVariants.{Ring, Clock, Cpu, Base, Shift}
use Rattle.sv_workload.specs.declared.keyword.SetupWord.TheVariants as setup
use Rattle.sv_workload.specs.declared.keyword.ActWord.{ActWord}
use Rattle.sv_workload.specs.declared.keyword.ActWord.TheVariants.{Start, Stop, Nop, Isr, IsrExit}
use Rattle.sv_workload.specs.declared.keyword.ActWord.TheVariants.{Run, Halt, Ready, Unready}
use Rattle.sv_workload.specs.declared.keyword.ActWord.TheVariants.{Create, Terminate, Mark, MarkEnd}
use Rattle.sv_workload.specs.declared.keyword.ActWord.TheVariants.{Idle, Sched, Timer, TimerExit}
use Rattle.sv_workload.specs.declared.keyword.ActWord.TheVariants.{Name, Print, Call, Return}
use Rattle.sv_workload.specs.declared.keyword.TurnWord.{TurnWord}
use Rattle.sv_workload.specs.declared.keyword.TurnWord.TheVariants as turn
use Rattle.sv_workload.specs.declared.keyword.Keyword.{Keyword}
use Rattle.sv_workload.specs.declared.keyword.Keyword.TheVariants as keyword
use Rattle.sv_workload.specs.Keywords.{is_same}
use Rattle.sv_workload.specs.Forms.{Form, between, of_numbers, is_in, form_of}
use Rattle.sv_text.specs.Words.{number_of}
use Rattle.sv_workload.specs.Numbers.{capped}
use Rattle.sv_workload.specs.Line.{Line, numbers_of, text_after}
use Rattle.sv_load.specs.Need.{one_if, is_start_act}
use Rattle.sv_workload.specs.Settings.{tell, base_told, shift_told}
use Rattle.sv_load.specs.Scripts.{over_scripts}
use Rattle.sv_workload.specs.Fit.{FitsForm}
use Rattle.sv_workload.specs.Meaning.{says, count, number, act_with, with_shrunk, step_by, base_in}
use Rattle.sv_workload.specs.Meaning.{shift_in}
use Rattle.sv_workload.specs.Checks.{count_of, is_step_word, is_turn_word, is_all_there, is_within}
use Rattle.sv_workload.specs.Checks.{are_within, fits, fits_command}
use Rattle.sv_workload.specs.Draft.{Draft, Stands}
use Rattle.sv_workload.proofs.fit_lines.Capping.{number_or_0, numbers_behind, capped_low, in_ranges}
use Rattle.sv_workload.proofs.fit_lines.Capping.{first_capped, module_numbers}
use Rattle.sv_workload.proofs.first_check.Passed.{Passes}
use Rattle.sv_workload.proofs.fit_lines.Ranged.{TellsOne}
use Rattle.sv_workload.proofs.lines_told.Standing.{tasks_count, scripts_count, turns_count}
use Rattle.sv_workload.proofs.lines_told.Standing.{lines_count}
use Rattle.sv_workload.proofs.lines_told.Standing.{commands_count}
use Rattle.sv_desc.specs.Modules.{ModuleRow, is_full_for}
use Rattle.sv_workload.proofs.lines_told.Changes.{neither, start_word}
use Rattle.sv_workload.proofs.lines_told.Growing.{stands-setting}

pub fit_of : (lines : List Line) (line : Line) → Passes lines line → FitsForm line
fit_of lines line passed =
    record { shape = passed.shaped; numbers = passed.numbers; text = passed.text }

fewer : (limit n : ℕ) → nat_le limit n ≡ false → n < limit
fewer limit n e = omega (arith, leb-false limit n e)

second_false : (a b : Bool) → a ≡ true → (a && b) ≡ false → b ≡ false
second_false true b t e = e
second_false false b t e = cc

-- what is left of the limits after lines for a step with this word
acts_left : (lines : List Line) (word : ActWord) → is_all_there lines (keyword.Act word) ≡ false
    → (nat_le 1048576 (count_of is_step_word lines) ≡ false) ×
    (is_same (keyword.Act Start) (keyword.Act word) ≡ true → nat_le 256
    (count (keyword.Act Start) lines) ≡ false)
acts_left lines Start e = (
  neither _ _ e,
  λ is. or_right (nat_le 1048576 (count_of is_step_word lines))
      (nat_le 256 (count (keyword.Act Start) lines)) e,
)
  where
    or_right : (a b : Bool) → (a || b) ≡ false → b ≡ false
    or_right true b e = cc
    or_right false b e = e
acts_left lines Stop e = (e, λ is. cc)
acts_left lines Nop e = (e, λ is. cc)
acts_left lines Isr e = (e, λ is. cc)
acts_left lines IsrExit e = (e, λ is. cc)
acts_left lines Run e = (e, λ is. cc)
acts_left lines Halt e = (e, λ is. cc)
acts_left lines Ready e = (e, λ is. cc)
acts_left lines Unready e = (e, λ is. cc)
acts_left lines Create e = (e, λ is. cc)
acts_left lines Terminate e = (e, λ is. cc)
acts_left lines Mark e = (e, λ is. cc)
acts_left lines MarkEnd e = (e, λ is. cc)
acts_left lines Idle e = (e, λ is. cc)
acts_left lines Sched e = (e, λ is. cc)
acts_left lines Timer e = (e, λ is. cc)
acts_left lines TimerExit e = (e, λ is. cc)
acts_left lines Name e = (e, λ is. cc)
acts_left lines Print e = (e, λ is. cc)
acts_left lines Call e = (e, λ is. cc)
acts_left lines Return e = (e, λ is. cc)

module _ (old : Draft) (lines : List Line) (line : Line) (stands : Stands old lines)
    (passed : Passes lines line) where
  pub room_for_task : line.keyword ≡ keyword.Setup setup.Task → length old.tasks < 32
  room_for_task e =
      let left : count (keyword.Setup setup.Task) lines < 32 = fewer 32
      (count (keyword.Setup setup.Task) lines) (rw e at passed.few) in
      omega (arith, left, ap length stands.tasks, tasks_count lines)

  pub room_for_line : line.keyword ≡ keyword.Setup setup.Desc → length old.lines < 4
  room_for_line e =
      let left : count (keyword.Setup setup.Desc) lines < 4 = fewer 4
      (count (keyword.Setup setup.Desc) lines) (rw e at passed.few) in
      omega (arith, left, ap length stands.texts, lines_count lines)

  pub room_for_command : line.keyword ≡ keyword.Setup setup.Command → length old.commands < 256
  room_for_command e =
      let left : count (keyword.Setup setup.Command) lines < 256 = fewer 256
      (count (keyword.Setup setup.Command) lines) (rw e at passed.few) in
      omega (arith, left, ap length stands.commands, commands_count lines)

  pub room_for_module : line.keyword ≡ keyword.Setup setup.Module → is_full_for old.modules
      (number line 0) ≡ false
  room_for_module e =
      let says_one : says (keyword.Setup setup.Module) line ≡ true = rw e refl in
      ap (λ (rows : List ModuleRow). is_full_for rows (number line 0)) stands.modules ∙ second_false
      _ _ says_one passed.room

  pub room_for_writer : line.keyword ≡ keyword.Writer → length old.scripts < 16
  room_for_writer e =
      let left : count keyword.Writer lines < 16 = fewer 16 (count keyword.Writer lines)
      (rw e at passed.few) in
      omega (arith, left, ap length stands.scripts, scripts_count lines)

  pub room_for_step : (word : ActWord) → line.keyword ≡ keyword.Act word → over_scripts (λ s. 1)
      old.scripts < 1048576
  room_for_step word e =
      let left : count_of is_step_word lines < 1048576 = fewer 1048576 (count_of is_step_word lines)
      (acts_left lines word (rw e at passed.few)).0 in
      omega (arith, left, stands.steps)

  pub room_for_start : (word : ActWord) (step : Step) (base shift : ℕ) → line.keyword ≡ keyword.Act
      word → Some step ≡ step_by line.keyword base shift line
      → is_start_act step.act ≡ true → over_scripts (λ s. one_if (is_start_act s.act)) old.scripts <
      256
  room_for_start word step base shift e is starts =
      let ns = with_shrunk (form_of (keyword.Act word)).identifier base shift (numbers_of line) in
      let made : Some step ≡ step_by (keyword.Act word) base shift line = subst
      (λ (k : Keyword). Some step ≡ step_by k base shift line) e is in
      let act : step.act ≡ act_with word ns (text_after line) = cc in
      let same : is_same (keyword.Act Start) (keyword.Act word) ≡ true = sym
      (ap is_start_act act ∙ start_word word ns (text_after line)) ∙ starts in
      let left : count (keyword.Act Start) lines < 256 = fewer 256 (count (keyword.Act Start) lines)
      ((acts_left lines word (rw e at passed.few)).1 same) in
      omega (arith, left, stands.starts)

  pub room_for_turn : (word : TurnWord) → line.keyword ≡ keyword.Turn word → length old.schedule <
      1048576
  room_for_turn word e =
      let left : count_of is_turn_word lines < 1048576 = fewer 1048576 (count_of is_turn_word lines)
      (rw e at passed.few) in
      omega (arith, left, ap length stands.schedule, turns_count lines)

  pub base_is : base_told old.settings ≡ base_in lines
  base_is = ap base_told stands.settings

  pub shift_is : shift_told old.settings ≡ shift_in lines
  shift_is = ap shift_told stands.settings

-- the one number of a setting is of its range
one_in : (range : Range) (words : List (List ℕ)) → nat_le 1 (length words) ≡ true
    → are_within (range ∷ []) words ≡ true
    → is_in range (get_or (map number_or_0 (take 1 words)) 0 0) ≡ true
one_in range [] some within = cc
one_in range (word ∷ words) some within =
    of (number_of word) (and_parts (is_within range word) true within).0
  where
    of : (n : Option ℕ) → option_map_or (is_in range) n false ≡ true → is_in range
        (option_map_or (λ k. k) n 0) ≡ true
    of None e = absurd (let l : false ≡ true = e in cc)
    of (Some n) e = e

first_and : (a b c : Bool) → not (a && b && c) ≡ false → a ≡ true
first_and true b c e = refl
first_and false b c e = cc

low_in : (least most n : ℕ) → nat_le most (2 ^ 32 - 1) ≡ true → is_in (between least most) n ≡ true
    → n < 2 ^ 32
low_in least most n low e =
    omega (
      arith,
      leb-true most (2 ^ 32 - 1) low,
      leb-true n most
          (and_parts (nat_le least n) (nat_le n most) e).1,
    )

-- the line tells a setting, whose number is of its range and is kept as it is
pub record Tells (line : Line) (word : SetupWord) : Type 0 where
  pub range : list_all (λ range. is_in range (capped (number line 0)))
      (form_of (keyword.Setup word)).numbers ≡ true
  pub same : capped (number line 0) ≡ number line 0

pub tells : (line : Line) (word : SetupWord) → FitsForm line → TellsOne word
    → line.keyword ≡ keyword.Setup word → Tells line word
tells line word fit is e =
    let range = between is.least is.most in
    let shape = subst (λ (k : Keyword). not
    (cond (is_same (keyword.Setup setup.Command) k) (fits_command line.words)
    (fits (form_of k) line.words
    (join_with_byte 32 (drop (length (form_of k).numbers) line.words)))) ≡ false) e fit.shape in
    let fitting = subst (λ (b : Bool). not
    (cond b (fits_command line.words)
    (fits (form_of (keyword.Setup word)) line.words
    (join_with_byte 32 (drop (length (form_of (keyword.Setup word)).numbers) line.words)))) ≡
    false) is.describes.commands shape in
    let filled : nat_le 1 (length line.words) ≡ true = first_and _ _ _
    (subst (λ (f : Form). not
    (fits f line.words (join_with_byte 32 (drop (length f.numbers) line.words))) ≡ false)
    is.form fitting) in
    let within : are_within (range ∷ []) line.words ≡ true = subst
    (λ (f : Form). are_within (f.numbers ++ f.more) line.words ≡ true) is.form
    (in_ranges line (keyword.Setup word) e fit) in
    let form : form_of line.keyword ≡ of_numbers (range ∷ []) = ap form_of e ∙ is.form in
    let inside : is_in range (number line 0) ≡ true =
    subst (λ (f : Form). is_in range
    (get_or (map number_or_0 (take (length f.numbers + length f.more) line.words)) 0 0) ≡ true)
    (sym form) (one_in range line.words filled within) in
    let same : capped (number line 0) ≡ number line 0 = capped_low (number line 0)
    (low_in is.least is.most (number line 0) is.low inside) in
    let kept : list_all (λ (r : Range). is_in r (capped (number line 0))) (range ∷ []) ≡ true = rw
    (same, inside) refl in
    record {
      range = subst (λ (f : Form). list_all (λ (r : Range). is_in r (capped (number line 0)))
          f.numbers ≡ true) (sym is.form) kept;
      same = same;
    }

-- the number of a module's events is kept as it is
pub module_events : (line : Line) → line.keyword ≡ keyword.Setup setup.Module → FitsForm line
    → capped (number line 0) ≡ number line 0
module_events line e fit =
    sym (first_capped line (map capped (numbers_of line)) refl) ∙ ap
    (λ (ns : List ℕ). get_or ns 0 0) (module_numbers line e fit)

-- a draft with one more setting
module _ (old : Draft) (lines : List Line) (line : Line) (stands : Stands old lines)
    (passed : Passes lines line) where
  pub told : (word : SetupWord) → TellsOne word → line.keyword ≡ keyword.Setup word → Stands
      (record old { settings = tell word (capped (number line 0)) old.settings })
      (lines ++ line ∷ [])
  told word is e =
      subst (λ (n : ℕ). Stands (record old { settings = tell word n old.settings })
      (lines ++ line ∷ [])) (sym (tells line word (fit_of lines line passed) is e).same)
      (stands-setting old lines line stands passed word is e)

-- a turn's writer is there
pub less_than_writers : (old : Draft) (lines : List Line) (line : Line) → Stands old lines
    → Passes lines line → line.keyword ≡ keyword.Turn turn.Step → number line 0 < length old.scripts
less_than_writers old lines line stands passed e =
    let turn : says (keyword.Turn turn.Step) line ≡ true = rw e refl in
    let left : number line 0 < count keyword.Writer lines = fewer (count keyword.Writer lines)
    (number line 0) (second_false _ _ turn passed.writer) in
    omega (arith, left, ap length stands.scripts, scripts_count lines)

-- a read takes a number of its range
pub read_inside : (line : Line) → FitsForm line → line.keyword ≡ keyword.Turn turn.Read
    → is_in (between 1 65536) (number line 0) ≡ true
read_inside line fit e =
    let filled : nat_le 1 (length line.words) ≡ true = first_and _ _ _ (rw e at fit.shape) in
    subst (λ (k : Keyword). is_in (between 1 65536) (get_or (numbers_behind k line.words) 0 0) ≡
    true) (sym e) (one_in (between 1 65536) line.words filled
    (in_ranges line (keyword.Turn turn.Read) e fit))

-- a writer's number is small, since the writer is there
module _ (old : Draft) (lines : List Line) (line : Line) (stands : Stands old lines)
    (passed : Passes lines line) (few : length old.scripts ≤ 16) (fit : FitsForm line) where
  low_step : line.keyword ≡ keyword.Turn turn.Step → number line 0 < 2 ^ 32
  low_step e = omega (arith, less_than_writers old lines line stands passed e, few)

  low_read : line.keyword ≡ keyword.Turn turn.Read → number line 0 < 2 ^ 32
  low_read e = low_in 1 65536 (number line 0) refl (read_inside line fit e)

  -- the host's turn has no number
  low_send : line.keyword ≡ keyword.Turn turn.Send → number line 0 < 2 ^ 32
  low_send e = subst (λ (k : Keyword). get_or (numbers_behind k line.words) 0 0 < 2 ^ 32) (sym e)
      (omega arith)

  pub low_turn : (word : TurnWord) → line.keyword ≡ keyword.Turn word → number line 0 < 2 ^ 32
  low_turn turn.Step e = low_step e
  low_turn turn.Read e = low_read e
  low_turn turn.Send e = low_send e
