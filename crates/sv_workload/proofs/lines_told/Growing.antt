-- What one more line changes in a draft, by its keyword.
use Rattle.std.proofs.Common.{◌≡◌, ℕ, ◌+◌, ◌<◌, Bool, true, false, cond, ◌||◌, ◌&&◌, List, []}
use Rattle.std.proofs.Common.{◌∷◌, ◌++◌, length, Some, ◌==◌, refl, sym, ap, subst}
use Rattle.std.proofs.Common.{◌∙◌, arith}
use Rattle.std.specs.Prelude.{filter_map}
use Rattle.std.specs.List.{list_any}
use Rattle.std.proofs.lemmas.List.{append-nil}
use Rattle.std.proofs.lemmas.List.Elements.{filter_map-append}
use Rattle.sv_load.specs.declared.load.Step.{Step}
use Rattle.sv_load.specs.declared.load.Task.{Task}
use Rattle.sv_load.specs.declared.load.Action.{Action}
use Rattle.sv_load.specs.declared.load.Command.{Command}
use Rattle.sv_desc.specs.Modules.{ModuleRow}
use Rattle.sv_workload.specs.declared.keyword.SetupWord.{SetupWord}
use Rattle.sv_workload.specs.declared.keyword.SetupWord.TheVariants.{Ring, Clock, Cpu, Base, Shift}
use Rattle.sv_workload.specs.declared.keyword.SetupWord.TheVariants as setup
use Rattle.sv_workload.specs.declared.keyword.ActWord.{ActWord}
use Rattle.sv_workload.specs.declared.keyword.ActWord.TheVariants.{Start}
use Rattle.sv_workload.specs.declared.keyword.TurnWord.{TurnWord}
use Rattle.sv_workload.specs.declared.keyword.Keyword.{Keyword}
use Rattle.sv_workload.specs.declared.keyword.Keyword.TheVariants as keyword
use Rattle.sv_workload.specs.Keywords.{is_same}
use Rattle.sv_workload.specs.Line.{Line, numbers_of, text_after}
use Rattle.sv_workload.specs.Forms.{form_of}
use Rattle.sv_load.specs.Need.{one_if, is_start_act}
use Rattle.sv_workload.specs.Settings.{tell}
use Rattle.sv_load.specs.Scripts.{onto_last, over_scripts}
use Rattle.sv_workload.specs.Meaning.{says, count, is_there, number, told, task_in, tasks_in}
use Rattle.sv_workload.specs.Meaning.{action_of, act_with, with_shrunk, step_by, step_in}
use Rattle.sv_workload.specs.Meaning.{scripts_of}
use Rattle.sv_workload.specs.Meaning.{base_in, shift_in, descriptions_of, modules_of, row_of}
use Rattle.sv_workload.specs.Meaning.{commands_of, command_of}
use Rattle.sv_workload.specs.Checks.{count_of, is_step_word, sets_identifiers, single_keywords}
use Rattle.sv_workload.specs.Draft.{Draft, Stands, settings_of}
use Rattle.sv_workload.proofs.lines_told.OneMore.{counted_more, tasks_more, those_more, there_more}
use Rattle.sv_load.proofs.Shared.{over_last, over_begun}
use Rattle.sv_workload.proofs.first_check.Passed.{Passes}
use Rattle.sv_workload.proofs.fit_lines.Ranged.{TellsOne}
use Rattle.sv_workload.proofs.lines_told.Steady.{TellsNothing, act_goes_on, turn_tells_nothing}
use Rattle.sv_workload.proofs.lines_told.Steady.{turn_goes_on}
use Rattle.sv_workload.proofs.lines_told.Steady.{DescribesNothing, act_describes_nothing}
use Rattle.sv_workload.proofs.lines_told.Steady.{turn_describes_nothing, task_describes_nothing}
use Rattle.sv_workload.proofs.lines_told.Steady.{writer_describes_nothing}
use Rattle.sv_workload.proofs.lines_told.Steady.{schedule_describes_nothing}
use Rattle.sv_workload.proofs.lines_told.Changes.{told_same, told_now, settings_same, scripts_same}
use Rattle.sv_workload.proofs.lines_told.Changes.{scripts_begin, scripts_go_on, no_scripts}
use Rattle.sv_workload.proofs.lines_told.Changes.{some_scripts, untold, start_word, no_writer_yet}
use Rattle.sv_workload.proofs.lines_told.Changes.{a_writer_there, unsaid_by, or_true, or_false}

-- what a line adds to what describes the target, and to what the host asks
record Describes (old : Draft) (line : Line) (timed : Bool) (texts : List (List ℕ))
    (modules : List ModuleRow) (commands : List Command) : Type 0 where
  timed_is : timed ≡ (old.timed || says (keyword.Setup setup.Time) line)
  texts_are : texts ≡ old.lines ++ descriptions_of (line ∷ [])
  modules_are : modules ≡ old.modules ++ modules_of (line ∷ [])
  commands_are : commands ≡ old.commands ++ commands_of (line ∷ [])

-- most lines add nothing there
undescribed : (old : Draft) (line : Line) → DescribesNothing line.keyword
    → Describes old line old.timed old.lines old.modules old.commands
undescribed old line nothing =
    record {
      timed_is = rw nothing.time (or_false old.timed);
      texts_are = rw nothing.desc (sym (append-nil old.lines));
      modules_are = rw nothing.modules (sym (append-nil old.modules));
      commands_are = rw nothing.commands (sym (append-nil old.commands));
    }

module _ (old new : Draft) (lines : List Line) (line : Line) (stands : Stands old lines) where
  more : new.settings ≡ settings_of (lines ++ line ∷ [])
      → new.tasks ≡ old.tasks ++ tasks_in (line ∷ [])
      → new.scripts ≡ scripts_of (lines ++ line ∷ [])
      → over_scripts (λ s. 1) new.scripts ≡ over_scripts (λ s. 1) old.scripts
      + count_of is_step_word (line ∷ [])
      → over_scripts (λ s. one_if (is_start_act s.act)) new.scripts ≡ over_scripts
      (λ s. one_if (is_start_act s.act)) old.scripts + count (keyword.Act Start) (line ∷ [])
      → new.scheduled ≡ (old.scheduled || says keyword.Schedule line)
      → new.schedule ≡ old.schedule ++ filter_map action_of (line ∷ [])
      → Describes old line new.timed new.lines new.modules new.commands
      → Stands new (lines ++ line ∷ [])
  more settings tasks scripts steps starts scheduled schedule described = record {
    settings = settings;
    timed = described.timed_is ∙ ap (λ (b : Bool). b || says (keyword.Setup setup.Time) line)
        stands.timed ∙ sym (there_more (keyword.Setup setup.Time) lines line);
    texts = described.texts_are ∙ ap (λ (l : List (List ℕ)). l ++ descriptions_of (line ∷ []))
        stands.texts ∙ sym (those_more text_after (keyword.Setup setup.Desc) lines line);
    modules = described.modules_are ∙ ap (λ (l : List ModuleRow). l ++ modules_of (line ∷ []))
        stands.modules ∙ sym (those_more row_of (keyword.Setup setup.Module) lines line);
    commands = described.commands_are ∙ ap (λ (l : List Command). l ++ commands_of (line ∷ []))
        stands.commands ∙ sym (those_more command_of (keyword.Setup setup.Command) lines line);
    tasks = tasks ∙ ap (λ (l : List Task). l ++ tasks_in (line ∷ [])) stands.tasks ∙ sym
        (tasks_more lines line);
    scripts = scripts;
    steps = omega (
      arith,
      steps,
      stands.steps,
      counted_more (λ (l : Line). is_step_word l.keyword) lines
          line,
    );
    starts = omega (
      arith,
      starts,
      stands.starts,
      counted_more (says (keyword.Act Start)) lines
          line,
    );
    scheduled = scheduled ∙ ap (λ (b : Bool). b || says keyword.Schedule line) stands.scheduled ∙
        sym (there_more keyword.Schedule lines line);
    schedule = schedule ∙ ap (λ (l : List Action). l ++ filter_map action_of (line ∷ []))
        stands.schedule ∙ sym (filter_map-append action_of lines (line ∷ []));
  }

-- a line that tells a setting stands before the scripts
module _ (old : Draft) (lines : List Line) (line : Line) (stands : Stands old lines)
    (passed : Passes lines line) where
  no_writer : (word : SetupWord) → line.keyword ≡ keyword.Setup word → is_there keyword.Writer lines
      ≡ false
  no_writer word e = no_writer_yet (is_there keyword.Writer lines)
      (is_there (keyword.Setup setup.Task) lines) (sets_identifiers word) (rw e at passed.placed)

  still_none : is_there keyword.Writer lines ≡ false → says keyword.Writer line ≡ false →
      old.scripts ≡ scripts_of (lines ++ line ∷ [])
  still_none none other =
      stands.scripts ∙ no_scripts lines none
      ∙ sym (no_scripts (lines ++ line ∷ [])
      (there_more keyword.Writer lines line ∙ rw (none, other) refl))

  -- what one more setting makes of those before it
  settings_with : (word : SetupWord) → TellsOne word → line.keyword ≡ keyword.Setup word → told word
      (lines ++ line ∷ []) ≡ Some (number line 0) → tell word (number line 0) (settings_of lines) ≡
      settings_of (lines ++ line ∷ [])
  settings_with word is e now = by word is now
      (λ other is_other. told_same lines line other
      (subst (λ (k : Keyword). is_same (keyword.Setup other) k ≡ false) (sym e) is_other))
    where
      by : (word : SetupWord) → TellsOne word → told word (lines ++ line ∷ []) ≡ Some
          (number line 0)
          → ((other : SetupWord) → is_same (keyword.Setup other) (keyword.Setup word) ≡ false → told
          other (lines ++ line ∷ []) ≡ told other lines)
          → tell word (number line 0) (settings_of lines) ≡ settings_of (lines ++ line ∷ [])
      by Ring is now same = let a = same Clock refl in let b = same Cpu refl in let c = same Base
          refl in let d = same Shift refl in cc
      by Clock is now same = let a = same Ring refl in let b = same Cpu refl in let c = same Base
          refl in let d = same Shift refl in cc
      by Cpu is now same = let a = same Ring refl in let b = same Clock refl in let c = same Base
          refl in let d = same Shift refl in cc
      by Base is now same = let a = same Ring refl in let b = same Clock refl in let c = same Cpu
          refl in let d = same Shift refl in cc
      by Shift is now same = let a = same Ring refl in let b = same Clock refl in let c = same Cpu
          refl in let d = same Base refl in cc
      by setup.Time is now same = absurd (let other : true ≡ false = is.describes.time in cc)
      by setup.Desc is now same = absurd (let other : true ≡ false = is.describes.desc in cc)
      by setup.Module is now same = absurd (let other : true ≡ false = is.describes.modules in cc)
      by setup.Command is now same = absurd (let other : true ≡ false = is.describes.commands in
          cc)
      by setup.Task is now same = absurd (let task : true ≡ false = is.task in cc)

  pub stands-setting : (word : SetupWord) → TellsOne word → line.keyword ≡ keyword.Setup word →
      Stands (record old { settings = tell word (number line 0) old.settings }) (lines ++ line ∷ [])
  stands-setting word is e =
      let unsaid : is_there (keyword.Setup word) lines ≡ false = unsaid_by
      (list_any (is_same (keyword.Setup word)) single_keywords)
      (is_there (keyword.Setup word) lines) _ is.single
      (subst (λ (k : Keyword).
      ((list_any (is_same k) single_keywords && is_there k lines) ||
      (is_same (keyword.Setup setup.Task) k && list_any (λ task. task.id == number line 0)
      (tasks_in lines))) ≡ false) e passed.single) in
      let now : told word (lines ++ line ∷ []) ≡ Some (number line 0) = told_now lines line word
      (subst (λ (k : Keyword). is_same (keyword.Setup word) k ≡ true) (sym e) is.itself)
      (untold word lines unsaid) in
      let steps : count_of is_step_word (line ∷ []) ≡ 0 = rw e refl in
      let starts : count (keyword.Act Start) (line ∷ []) ≡ 0 = rw (e, is.start) refl in
      more old (record old { settings = tell word (number line 0) old.settings }) lines line stands
      (ap (tell word (number line 0)) stands.settings ∙ settings_with word is e now)
      (rw (e, is.task) (sym (append-nil old.tasks)))
      (still_none (no_writer word e) (rw (e, is.writer) refl))
      (omega (arith, steps)) (omega (arith, starts))
      (rw (e, is.schedule) (or_false old.scheduled)) (rw e (sym (append-nil old.schedule)))
      (undescribed old line (subst DescribesNothing (sym e) is.describes))

  pub stands-task : line.keyword ≡ keyword.Setup setup.Task → Stands
      (record old { tasks = old.tasks ++ task_in line ∷ [] }) (lines ++ line ∷ [])
  stands-task e =
      let tells : TellsNothing line.keyword = subst TellsNothing (sym e)
      (record { ring = refl; clock = refl; cpu = refl; base = refl; shift = refl }) in
      let steps : count_of is_step_word (line ∷ []) ≡ 0 = rw e refl in
      let starts : count (keyword.Act Start) (line ∷ []) ≡ 0 = rw e refl in
      more old (record old { tasks = old.tasks ++ task_in line ∷ [] }) lines line stands
      (stands.settings ∙ sym (settings_same lines line tells))
      (rw e refl)
      (stands.scripts ∙ sym (scripts_same lines line tells (rw e refl) (rw e refl)))
      (omega (arith, steps)) (omega (arith, starts))
      (rw e (or_false old.scheduled)) (rw e (sym (append-nil old.schedule)))
      (undescribed old line (subst DescribesNothing (sym e) task_describes_nothing))

  pub stands-writer : line.keyword ≡ keyword.Writer → Stands
      (record old { scripts = old.scripts ++ [] ∷ [] }) (lines ++ line ∷ [])
  stands-writer e =
      let tells : TellsNothing line.keyword = subst TellsNothing (sym e)
      (record { ring = refl; clock = refl; cpu = refl; base = refl; shift = refl }) in
      let steps : count_of is_step_word (line ∷ []) ≡ 0 = rw e refl in
      let starts : count (keyword.Act Start) (line ∷ []) ≡ 0 = rw e refl in
      more old (record old { scripts = old.scripts ++ [] ∷ [] }) lines line stands
      (stands.settings ∙ sym (settings_same lines line tells))
      (rw e (sym (append-nil old.tasks)))
      (ap (λ (scripts : List (List Step)). scripts ++ [] ∷ []) stands.scripts ∙ sym
      (scripts_begin lines line tells (rw e refl)))
      (omega (arith, steps, over_begun (λ (s : Step). 1) old.scripts))
      (omega (
        arith,
        starts,
        over_begun (λ (s : Step). one_if (is_start_act s.act))
            old.scripts,
      ))
      (rw e (or_false old.scheduled)) (rw e (sym (append-nil old.schedule)))
      (undescribed old line (subst DescribesNothing (sym e) writer_describes_nothing))

  -- a step has a writer
  pub a_writer_before : (word : ActWord) → line.keyword ≡ keyword.Act word → 0 < length old.scripts
  a_writer_before word e =
      let there : is_there keyword.Writer lines ≡ true = a_writer_there
      (is_there keyword.Writer lines) (is_there keyword.Schedule lines) (rw e at passed.placed)
      in
      subst (λ (scripts : List (List Step)). 0 < length scripts) (sym stands.scripts)
      (some_scripts lines there)

  -- what is counted of it
  pub starts_by : (word : ActWord) (step : Step) (base shift : ℕ) → line.keyword ≡ keyword.Act word
      → Some step ≡ step_in base shift line → one_if (is_start_act step.act) ≡ count
      (keyword.Act Start) (line ∷ [])
  starts_by word step base shift e is =
      let made : Some step ≡ step_by (keyword.Act word) base shift line = subst
      (λ (k : Keyword). Some step ≡ step_by k base shift line) e is in
      let act : step.act ≡ act_with word
      (with_shrunk (form_of (keyword.Act word)).identifier base shift (numbers_of line))
      (text_after line) = cc in
      let start : is_start_act step.act ≡ is_same (keyword.Act Start) (keyword.Act word) = ap
      is_start_act act ∙ start_word word
      (with_shrunk (form_of (keyword.Act word)).identifier base shift (numbers_of line))
      (text_after line) in
      ap one_if start ∙ (rw e (one (is_same (keyword.Act Start) (keyword.Act word))))
    where
      one : (b : Bool) → one_if b ≡ 0 + cond {A = ℕ} b 1 0
      one true = refl
      one false = refl

  pub stands-step : (word : ActWord) (step : Step) → line.keyword ≡ keyword.Act word → Some step ≡
      step_in (base_in lines) (shift_in lines) line
      → Stands (record old { scripts = onto_last step old.scripts }) (lines ++ line ∷ [])
  stands-step word step e is =
      let on = act_goes_on word in
      let tells : TellsNothing line.keyword = subst TellsNothing (sym e) on.tells in
      let steps : count_of is_step_word (line ∷ []) ≡ 1 = rw e refl in
      let some = a_writer_before word e in
      more old (record old { scripts = onto_last step old.scripts }) lines line stands
      (stands.settings ∙ sym (settings_same lines line tells))
      (rw (e, on.task) (sym (append-nil old.tasks)))
      (ap (onto_last step) stands.scripts ∙ sym
      (scripts_go_on lines line step tells (rw (e, on.writer) refl) (sym is)))
      (omega (arith, steps, over_last (λ (s : Step). 1) step old.scripts some))
      (omega (
        arith,
        starts_by word step (base_in lines) (shift_in lines) e is,
        over_last
            (λ (s : Step). one_if (is_start_act s.act)) step old.scripts some,
      ))
      (rw (e, on.schedule) (or_false old.scheduled)) (rw e (sym (append-nil old.schedule)))
      (undescribed old line (subst DescribesNothing (sym e) (act_describes_nothing word)))

  pub stands-schedule : line.keyword ≡ keyword.Schedule → Stands (record old { scheduled = true })
      (lines ++ line ∷ [])
  stands-schedule e =
      let tells : TellsNothing line.keyword = subst TellsNothing (sym e)
      (record { ring = refl; clock = refl; cpu = refl; base = refl; shift = refl }) in
      let steps : count_of is_step_word (line ∷ []) ≡ 0 = rw e refl in
      let starts : count (keyword.Act Start) (line ∷ []) ≡ 0 = rw e refl in
      more old (record old { scheduled = true }) lines line stands
      (stands.settings ∙ sym (settings_same lines line tells))
      (rw e (sym (append-nil old.tasks)))
      (stands.scripts ∙ sym (scripts_same lines line tells (rw e refl) (rw e refl)))
      (omega (arith, steps)) (omega (arith, starts))
      (rw e (sym (or_true old.scheduled))) (rw e (sym (append-nil old.schedule)))
      (undescribed old line (subst DescribesNothing (sym e) schedule_describes_nothing))

  pub stands-turn : (word : TurnWord) (action : Action) → line.keyword ≡ keyword.Turn word → Some
      action ≡ action_of line → Stands
      (record old { schedule = old.schedule ++ action ∷ [] }) (lines ++ line ∷ [])
  stands-turn word action e is =
      let on = turn_goes_on word in
      let tells : TellsNothing line.keyword = subst TellsNothing (sym e) (turn_tells_nothing word)
      in
      let steps : count_of is_step_word (line ∷ []) ≡ 0 = rw e refl in
      let starts : count (keyword.Act Start) (line ∷ []) ≡ 0 = rw (e, on.3) refl in
      more old (record old { schedule = old.schedule ++ action ∷ [] }) lines line stands
      (stands.settings ∙ sym (settings_same lines line tells))
      (rw (e, on.2) (sym (append-nil old.tasks)))
      (stands.scripts ∙ sym (scripts_same lines line tells (rw (e, on.0) refl) (rw e refl)))
      (omega (arith, steps)) (omega (arith, starts))
      (rw (e, on.1) (or_false old.scheduled)) (rw (← is) refl)
      (undescribed old line (subst DescribesNothing (sym e) (turn_describes_nothing word)))

-- a line that describes the target, or says what the host asks
module _ (old : Draft) (lines : List Line) (line : Line) (stands : Stands old lines)
    (passed : Passes lines line) where
  -- it changes nothing else
  described : (word : SetupWord) (timed : Bool) (texts : List (List ℕ)) (modules : List ModuleRow)
      (commands : List Command) → line.keyword ≡ keyword.Setup word
      → TellsNothing (keyword.Setup word)
      → is_same (keyword.Setup setup.Task) (keyword.Setup word) ≡ false
      → is_same keyword.Writer (keyword.Setup word) ≡ false
      → is_same (keyword.Act Start) (keyword.Setup word) ≡ false
      → is_same keyword.Schedule (keyword.Setup word) ≡ false
      → Describes old line timed texts modules commands
      → Stands (record old
      { timed = timed; lines = texts; modules = modules; commands = commands })
      (lines ++ line ∷ [])
  described word timed texts modules commands e nothing task writer start schedule here =
      let tells : TellsNothing line.keyword = subst TellsNothing (sym e) nothing in
      let steps : count_of is_step_word (line ∷ []) ≡ 0 = rw e refl in
      let starts : count (keyword.Act Start) (line ∷ []) ≡ 0 = rw (e, start) refl in
      more old (record old
      { timed = timed; lines = texts; modules = modules; commands = commands }) lines line stands
      (stands.settings ∙ sym (settings_same lines line tells))
      (rw (e, task) (sym (append-nil old.tasks)))
      (stands.scripts ∙ sym (scripts_same lines line tells (rw (e, writer) refl) (rw e refl)))
      (omega (arith, steps)) (omega (arith, starts))
      (rw (e, schedule) (or_false old.scheduled)) (rw e (sym (append-nil old.schedule))) here

  pub stands-time : line.keyword ≡ keyword.Setup setup.Time → Stands (record old { timed = true })
      (lines ++ line ∷ [])
  stands-time e = described setup.Time true old.lines old.modules old.commands e
      (record { ring = refl; clock = refl; cpu = refl; base = refl; shift = refl }) refl refl refl
      refl (record {
        timed_is = rw e (sym (or_true old.timed));
        texts_are = rw e (sym (append-nil old.lines));
        modules_are = rw e (sym (append-nil old.modules));
        commands_are = rw e (sym (append-nil old.commands));
      })

  pub stands-line : line.keyword ≡ keyword.Setup setup.Desc → Stands
      (record old { lines = old.lines ++ text_after line ∷ [] }) (lines ++ line ∷ [])
  stands-line e = described setup.Desc old.timed (old.lines ++ text_after line ∷ []) old.modules
      old.commands e (record { ring = refl; clock = refl; cpu = refl; base = refl; shift = refl })
      refl refl refl refl (record {
        timed_is = rw e (or_false old.timed);
        texts_are = rw e refl;
        modules_are = rw e (sym (append-nil old.modules));
        commands_are = rw e (sym (append-nil old.commands));
      })

  pub stands-module : line.keyword ≡ keyword.Setup setup.Module → Stands
      (record old { modules = old.modules ++ row_of line ∷ [] }) (lines ++ line ∷ [])
  stands-module e = described setup.Module old.timed old.lines (old.modules ++ row_of line ∷ [])
      old.commands e (record { ring = refl; clock = refl; cpu = refl; base = refl; shift = refl })
      refl refl refl refl (record {
        timed_is = rw e (or_false old.timed);
        texts_are = rw e (sym (append-nil old.lines));
        modules_are = rw e refl;
        commands_are = rw e (sym (append-nil old.commands));
      })

  pub stands-command : line.keyword ≡ keyword.Setup setup.Command → Stands
      (record old { commands = old.commands ++ command_of line ∷ [] }) (lines ++ line ∷ [])
  stands-command e = described setup.Command old.timed old.lines old.modules
      (old.commands ++ command_of line ∷ []) e
      (record { ring = refl; clock = refl; cpu = refl; base = refl; shift = refl }) refl refl refl
      refl (record {
        timed_is = rw e (or_false old.timed);
        texts_are = rw e (sym (append-nil old.lines));
        modules_are = rw e (sym (append-nil old.modules));
        commands_are = rw e refl;
      })
