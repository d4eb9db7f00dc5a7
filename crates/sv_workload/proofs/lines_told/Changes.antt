-- What one more line changes in the settings and the scripts that lines tell, and what may stand
-- before it.
use Rattle.std.proofs.Common.{◌≡◌, ℕ, ◌<◌, Bool, true, false, cond, ◌||◌, ◌&&◌, not, List, []}
use Rattle.std.proofs.Common.{◌∷◌, ◌++◌, length, Option, Some, None, refl, ap}
use Rattle.std.proofs.Common.{◌∙◌, nat_lt, arith, rules}
use Rattle.std.specs.Prelude.{filter, find, option_map}
use Rattle.std.specs.Option.{option_or}
use Rattle.std.proofs.lemmas.List.{nil_from_length}
use Rattle.std.proofs.lemmas.List.Sums.{length-filter}
use Rattle.sv_load.specs.declared.load.Step.{Step}
use Rattle.sv_workload.specs.declared.keyword.SetupWord.{SetupWord}
use Rattle.sv_workload.specs.declared.keyword.SetupWord.TheVariants.{Ring, Clock, Cpu, Base, Shift}
use Rattle.sv_workload.specs.declared.keyword.ActWord.{ActWord}
use Rattle.sv_workload.specs.declared.keyword.ActWord.TheVariants.{Start, Stop, Nop, Isr, IsrExit}
use Rattle.sv_workload.specs.declared.keyword.ActWord.TheVariants.{Run, Halt, Ready, Unready}
use Rattle.sv_workload.specs.declared.keyword.ActWord.TheVariants.{Create, Terminate, Mark, MarkEnd}
use Rattle.sv_workload.specs.declared.keyword.ActWord.TheVariants.{Idle, Sched, Timer, TimerExit}
use Rattle.sv_workload.specs.declared.keyword.ActWord.TheVariants.{Name, Print, Call, Return}
use Rattle.sv_workload.specs.declared.keyword.Keyword.TheVariants as keyword
use Rattle.sv_workload.specs.Keywords.{is_same}
use Rattle.sv_workload.specs.Line.{Line}
use Rattle.sv_load.specs.Need.{is_start_act}
use Rattle.sv_load.specs.Scripts.{onto_last}
use Rattle.sv_workload.specs.Meaning.{says, count, is_there, number, told}
use Rattle.sv_workload.specs.Meaning.{act_with, step_in, scripts_of}
use Rattle.sv_workload.specs.Meaning.{base_in, shift_in}
use Rattle.sv_workload.specs.Draft.{settings_of}
use Rattle.sv_workload.proofs.lines_told.OneMore.{told_more}
use Rattle.sv_workload.proofs.lines_told.OneMore.{parts_by}
use Rattle.sv_workload.proofs.lines_told.OneMore.{parts_begin, parts_same, parts_go_on}
use Rattle.sv_workload.proofs.lines_told.Standing.{scripts_count}
use Rattle.sv_workload.proofs.lines_told.Steady.{TellsNothing}

module _ (lines : List Line) (line : Line) where
  pub told_same : (word : SetupWord) → is_same (keyword.Setup word) line.keyword ≡ false → told word
      (lines ++ line ∷ []) ≡ told word lines
  told_same word e = told_more word lines line ∙ (rw e (same (told word lines)))
    where
      same : (o : Option ℕ) → option_or o None ≡ o
      same None = refl
      same (Some n) = refl

  pub told_now : (word : SetupWord) → is_same (keyword.Setup word) line.keyword ≡ true
      → told word lines ≡ None → told word (lines ++ line ∷ []) ≡ Some (number line 0)
  told_now word e none = told_more word lines line ∙ (rw (none, e) refl)

  pub settings_same : TellsNothing line.keyword
      → settings_of (lines ++ line ∷ []) ≡ settings_of lines
  settings_same tells =
      let a = told_same Ring tells.ring in
      let b = told_same Clock tells.clock in
      let c = told_same Cpu tells.cpu in
      let d = told_same Base tells.base in
      let e = told_same Shift tells.shift in
      cc

  steps_same : TellsNothing line.keyword → scripts_of (lines ++ line ∷ []) ≡ parts_by
      (says keyword.Writer) (step_in (base_in lines) (shift_in lines)) (lines ++ line ∷ [])
  steps_same tells =
      let d = told_same Base tells.base in
      let e = told_same Shift tells.shift in
      rw (d, e) refl

  pub scripts_same : TellsNothing line.keyword → says keyword.Writer line ≡ false → step_in
      (base_in lines) (shift_in lines) line ≡ None → scripts_of (lines ++ line ∷ []) ≡ scripts_of
      lines
  scripts_same tells writer none = steps_same tells ∙ parts_same (says keyword.Writer)
      (step_in (base_in lines) (shift_in lines)) line writer none lines

  pub scripts_begin : TellsNothing line.keyword → says keyword.Writer line ≡ true → scripts_of
      (lines ++ line ∷ []) ≡ scripts_of lines ++ [] ∷ []
  scripts_begin tells writer = steps_same tells ∙ parts_begin (says keyword.Writer)
      (step_in (base_in lines) (shift_in lines)) line writer lines

  pub scripts_go_on : (step : Step) → TellsNothing line.keyword → says keyword.Writer line ≡ false →
      step_in (base_in lines) (shift_in lines) line ≡ Some step → scripts_of (lines ++ line ∷ []) ≡
      onto_last step (scripts_of lines)
  scripts_go_on step tells writer some = steps_same tells ∙ parts_go_on (says keyword.Writer)
      (step_in (base_in lines) (shift_in lines)) line step writer some lines

counted_none : (n : ℕ) → nat_lt 0 n ≡ false → n ≡ 0
counted_none n e = search (rules, e)

pub no_scripts : (lines : List Line) → is_there keyword.Writer lines ≡ false → scripts_of lines ≡ []
no_scripts lines e =
    nil_from_length (scripts_of lines)
    (scripts_count lines ∙ counted_none (count keyword.Writer lines) e)

-- a writer is there once it has steps
pub some_scripts : (lines : List Line) → is_there keyword.Writer lines ≡ true
    → 0 < length (scripts_of lines)
some_scripts lines e = omega (arith, scripts_count lines, counted (count keyword.Writer lines) e)
  where
    counted : (n : ℕ) → nat_lt 0 n ≡ true → 0 < n
    counted n e = search (rules, e)

-- what no line says, the first of them doesn't tell
pub untold : (word : SetupWord) (lines : List Line) → is_there (keyword.Setup word) lines ≡ false
    → told word lines ≡ None
untold word lines e =
    ap (option_map (λ (l : Line). number l 0))
    (not_found (says (keyword.Setup word)) lines
    (length-filter (says (keyword.Setup word)) lines ∙ counted_none
    (count (keyword.Setup word) lines) e))
  where
    not_found : (p : Line → Bool) (xs : List Line) → length (filter p xs) ≡ 0 → find p xs ≡ None
    not_found p [] none = refl
    not_found p (x ∷ xs) none = by (p x) none (not_found p xs)
      where
        by : (b : Bool) → length (cond b (x ∷ filter p xs) (filter p xs)) ≡ 0 →
            (length (filter p xs) ≡ 0 → find p xs ≡ None) → cond b (Some x) (find p xs) ≡ None
        by true e more = absurd (omega (arith, e))
        by false e more = more e

-- a step starts the recorder where its word is `start`
pub start_word : (word : ActWord) (ns text : List ℕ)
    → is_start_act (act_with word ns text) ≡ is_same (keyword.Act Start) (keyword.Act word)
start_word Start ns text = refl
start_word Stop ns text = refl
start_word Nop ns text = refl
start_word Isr ns text = refl
start_word IsrExit ns text = refl
start_word Run ns text = refl
start_word Halt ns text = refl
start_word Ready ns text = refl
start_word Unready ns text = refl
start_word Create ns text = refl
start_word Terminate ns text = refl
start_word Mark ns text = refl
start_word MarkEnd ns text = refl
start_word Idle ns text = refl
start_word Sched ns text = refl
start_word Timer ns text = refl
start_word TimerExit ns text = refl
start_word Name ns text = refl
start_word Print ns text = refl
start_word Call ns text = refl
start_word Return ns text = refl

-- the parts of a text, in what its lines may stand after
pub no_writer_yet : (writer task sets : Bool) → not (not writer && not (sets && task)) ≡ false
    → writer ≡ false
no_writer_yet true task sets e = cc
no_writer_yet false task sets e = refl

pub a_writer_there : (writer schedule : Bool) → not (writer && not schedule) ≡ false → writer ≡ true
a_writer_there true schedule e = refl
a_writer_there false schedule e = cc

pub neither : (a b : Bool) → (a || b) ≡ false → a ≡ false
neither true b e = cc
neither false b e = refl

pub unsaid_by : (single there other : Bool) → single ≡ true → ((single && there) || other) ≡ false
    → there ≡ false
unsaid_by true there other e f = neither there other f
unsaid_by false there other e f = cc

pub or_true : (b : Bool) → (b || true) ≡ true
or_true true = refl
or_true false = refl

pub or_false : (b : Bool) → b ≡ (b || false)
or_false true = refl
or_false false = refl
