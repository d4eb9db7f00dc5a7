-- What a draft holds of the lines that it stands for.
use Rattle.std.proofs.Common.{◌≡◌, ℕ, ◌+◌, ◌-◌, Bool, true, false, not, cond, ◌||◌, List, [], ◌∷◌}
use Rattle.std.proofs.Common.{length, drop, Option, Some, refl, sym, ap, ◌∙◌, arith, nat_lt, nat_le}
use Rattle.std.specs.Prelude.{find, filter_map, option_map, count_by}
use Rattle.std.specs.List.{slice_split, cons_option}
use Rattle.std.specs.Option.{is_some}
use Rattle.std.proofs.lemmas.Bool.{lt-ltb}
use Rattle.std.proofs.lemmas.List.{length-map, length-drop}
use Rattle.std.proofs.lemmas.List.Sums.{sum_by-cons, length-filter}
use Rattle.std.proofs.lemmas.List.Splits.{length-slice_split}
use Rattle.sv_load.specs.declared.load.Action.{Action}
use Rattle.sv_workload.specs.declared.keyword.SetupWord.{SetupWord}
use Rattle.sv_workload.specs.declared.keyword.SetupWord.TheVariants.{Desc, Task as a_task, Module}
use Rattle.sv_workload.specs.declared.keyword.SetupWord.TheVariants.{Command}
use Rattle.sv_workload.specs.declared.keyword.ActWord.TheVariants.{Start}
use Rattle.sv_workload.specs.declared.keyword.TurnWord.TheVariants.{Step, Read, Send}
use Rattle.sv_workload.specs.declared.keyword.Keyword.{Keyword}
use Rattle.sv_workload.specs.declared.keyword.Keyword.TheVariants.{Setup, Writer, Act, Schedule}
use Rattle.sv_workload.specs.declared.keyword.Keyword.TheVariants.{Turn, Unknown}
use Rattle.sv_workload.specs.Line.{Line, numbers_of, text_after}
use Rattle.sv_workload.specs.Meaning.{says, those, count, is_there, number, told, task_in, tasks_in}
use Rattle.sv_workload.specs.Meaning.{scripts_of, step_in, base_in, shift_in, action_by, action_of}
use Rattle.sv_workload.specs.Meaning.{descriptions_of, modules_of, row_of, commands_of}
use Rattle.sv_workload.specs.Meaning.{command_of}
use Rattle.sv_load.specs.Need.{one_if, is_start_act}
use Rattle.sv_load.specs.Scripts.{over_scripts}
use Rattle.sv_workload.specs.Checks.{may_stand, is_misplaced, is_step_word, is_turn_word, count_of}
use Rattle.sv_workload.specs.Checks.{is_all_there}
use Rattle.sv_workload.specs.Draft.{Draft, Stands}
use Rattle.sv_workload.specs.Checking.{has_place, has_all}

-- as many as the lines that give them

pub tasks_count : (lines : List Line) → length (tasks_in lines) ≡ count (Setup a_task) lines
tasks_count lines =
    length-map (those (Setup a_task) lines) task_in ∙ length-filter (says (Setup a_task)) lines

pub lines_count : (lines : List Line) → length (descriptions_of lines) ≡ count (Setup Desc) lines
lines_count lines =
    length-map (those (Setup Desc) lines) text_after ∙ length-filter (says (Setup Desc)) lines

pub modules_count : (lines : List Line) → length (modules_of lines) ≡ count (Setup Module) lines
modules_count lines =
    length-map (those (Setup Module) lines) row_of ∙ length-filter (says (Setup Module)) lines

pub commands_count : (lines : List Line) → length (commands_of lines) ≡ count (Setup Command) lines
commands_count lines =
    length-map (those (Setup Command) lines) command_of ∙ length-filter (says (Setup Command)) lines

pub scripts_count : (lines : List Line) → length (scripts_of lines) ≡ count Writer lines
scripts_count lines =
    let parts = slice_split (says Writer) lines in
    let rest : length (drop 1 parts) ≡ length parts - 1 = length-drop 1 parts in
    let all : length (scripts_of lines) ≡ length (drop 1 parts) = length-map (drop 1 parts)
    (filter_map (step_in (base_in lines) (shift_in lines))) in
    omega (arith, all, rest, length-slice_split (says Writer) lines)

-- a line is found exactly where one is counted
found : {X Y : Type 0} (p : X → Bool) (f : X → Y) (xs : List X)
    → is_some (option_map f (find p xs)) ≡ nat_lt 0 (count_by p xs)
found p f [] = refl
found {X} {Y} p f (x ∷ xs) =
    step (p x) (find p xs) (count_by p xs) (found p f xs) ∙ ap (nat_lt 0)
    (sym (sum_by-cons (λ x. cond (p x) 1 0) x xs))
  where
    step : (b : Bool) (o : Option X) (n : ℕ) → is_some (option_map f o) ≡ nat_lt 0 n → is_some
        (option_map f (cond b (Some x) o)) ≡ nat_lt 0 (cond {A = ℕ} b 1 0 + n)
    step true o n e = sym (lt-ltb 0 (1 + n) (omega arith))
    step false o n e = let same : 0 + n ≡ n = omega arith in e ∙ ap (nat_lt 0) (sym same)

pub told_there : (word : SetupWord) (lines : List Line)
    → is_some (told word lines) ≡ is_there (Setup word) lines
told_there word lines = found (says (Setup word)) (λ line. number line 0) lines

-- the place of a line

pub misplaced : (draft : Draft) (lines : List Line) (line : Line) → Stands draft lines
    → not (has_place draft line.keyword) ≡ is_misplaced lines line
misplaced draft lines line s =
    let writers : nat_lt 0 (length draft.scripts) ≡ is_there Writer lines = ap (nat_lt 0)
    (ap length s.scripts ∙ scripts_count lines) in
    let tasks : nat_lt 0 (length draft.tasks) ≡ is_there (Setup a_task) lines = ap (nat_lt 0)
    (ap length s.tasks ∙ tasks_count lines) in
    let here = has_place draft line.keyword in
    let first : has_place draft line.keyword ≡ may_stand (is_there Writer lines)
    (nat_lt 0 (length draft.tasks)) draft.scheduled line.keyword = ap
    (λ (b : Bool). may_stand b (nat_lt 0 (length draft.tasks)) draft.scheduled line.keyword)
    writers in
    let second : may_stand (is_there Writer lines) (nat_lt 0 (length draft.tasks)) draft.scheduled
    line.keyword ≡ may_stand (is_there Writer lines) (is_there (Setup a_task) lines)
    draft.scheduled line.keyword = ap
    (λ (b : Bool). may_stand (is_there Writer lines) b draft.scheduled line.keyword) tasks in
    let third : may_stand (is_there Writer lines) (is_there (Setup a_task) lines) draft.scheduled
    line.keyword ≡ may_stand (is_there Writer lines) (is_there (Setup a_task) lines)
    (is_there Schedule lines) line.keyword = ap
    (λ (b : Bool). may_stand (is_there Writer lines) (is_there (Setup a_task) lines) b
    line.keyword) s.scheduled in
    ap not (first ∙ second ∙ third)

-- how many turns lines give away

turn_here : (k : Keyword) (ns : List ℕ) (rest : List Action)
    → length (cons_option (action_by k ns) rest) ≡ cond {A = ℕ} (is_turn_word k) 1 0 + length rest
turn_here (Turn Step) ns rest = omega arith
turn_here (Turn Read) ns rest = omega arith
turn_here (Turn Send) ns rest = omega arith
turn_here (Setup word) ns rest = omega arith
turn_here Writer ns rest = omega arith
turn_here (Act word) ns rest = omega arith
turn_here Schedule ns rest = omega arith
turn_here Unknown ns rest = omega arith

pub turns_count : (lines : List Line)
    → length (filter_map action_of lines) ≡ count_of is_turn_word lines
turns_count [] = refl
turns_count (line ∷ lines) =
    let here : length (cons_option (action_of line) (filter_map action_of lines)) ≡ cond {A = ℕ}
    (is_turn_word line.keyword) 1 0 + length (filter_map action_of lines) = turn_here line.keyword
    (numbers_of line) (filter_map action_of lines) in
    let more : count_of is_turn_word (line ∷ lines) ≡ cond {A = ℕ} (is_turn_word line.keyword) 1 0
    + count_of is_turn_word lines = sum_by-cons (λ l. cond (is_turn_word l.keyword) 1 0) line lines in
    omega (arith, here, more, turns_count lines)

-- the limits

module _ (draft : Draft) (lines : List Line) (s : Stands draft lines) where
  steps_there : nat_le 1048576 (over_scripts (λ s. 1) draft.scripts) ≡ nat_le 1048576
      (count_of is_step_word lines)
  steps_there = ap (nat_le 1048576) s.steps

  starts_there : nat_le 256 (over_scripts (λ s. one_if (is_start_act s.act)) draft.scripts) ≡ nat_le
      256 (count (Act Start) lines)
  starts_there = ap (nat_le 256) s.starts

  pub too_many : (k : Keyword) → has_all draft k ≡ is_all_there lines k
  too_many (Setup a_task) = ap (nat_le 32) (ap length s.tasks ∙ tasks_count lines)
  too_many (Setup Desc) = ap (nat_le 4) (ap length s.texts ∙ lines_count lines)
  too_many (Setup Module) = ap (nat_le 64) (ap length s.modules ∙ modules_count lines)
  too_many (Setup Command) = ap (nat_le 256) (ap length s.commands ∙ commands_count lines)
  too_many (Setup other) = refl
  too_many Writer = ap (nat_le 16) (ap length s.scripts ∙ scripts_count lines)
  too_many (Act Start) = ap (λ (b : Bool). b || nat_le 256
      (over_scripts (λ s. one_if (is_start_act s.act)) draft.scripts)) steps_there ∙ ap
      (λ (b : Bool). nat_le 1048576 (count_of is_step_word lines) || b) starts_there
  too_many (Act other) = steps_there
  too_many Schedule = refl
  too_many (Turn word) = ap (nat_le 1048576) (ap length s.schedule ∙ turns_count lines)
  too_many Unknown = refl
