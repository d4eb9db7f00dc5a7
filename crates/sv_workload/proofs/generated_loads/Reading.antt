-- The lines of a generated workload, read one after another.
use Rattle.std.proofs.Common.{◌≡◌, ℕ, zero, suc, ◌+◌, ◌*◌, ◌<◌, ◌≤◌, Bool, true, false, not, cond}
use Rattle.std.proofs.Common.{◌&&◌, ◌==◌, nat_le, List, [], ◌∷◌, ◌++◌, length, Option, Some, None}
use Rattle.std.proofs.Common.{refl, sym, ap, subst, ◌∙◌, append_assoc, arith, rules}
use Rattle.std.specs.Prelude.{codes, option_and_then, unwrap_or, ◌/◌, ◌%◌}
use Rattle.std.specs.List.{list_any}
use Rattle.std.specs.Fmt.{decimal}
use Rattle.std.proofs.lemmas.List.{append-nil, length-append}
use Rattle.sv_packet.specs.declared.event.Event.{Event}
use Rattle.sv_packet.specs.declared.event.Event.TheVariants.{TaskStart, TaskReady, IsrEnter}
use Rattle.sv_packet.specs.declared.event.Event.TheVariants.{IsrExit, Idle, MarkStart}
use Rattle.sv_load.specs.declared.load.Act.TheVariants as acts
use Rattle.sv_load.specs.declared.load.Step.{Step}
use Rattle.sv_load.specs.declared.load.Action.{Action}
use Rattle.sv_load.specs.declared.load.Action.TheVariants as actions
use Rattle.sv_load.specs.Scripts.{over_scripts}
use Rattle.sv_text.specs.Lines.{is_remark}
use Rattle.sv_text.specs.Words.{words_of, number_of}
use Rattle.sv_text.proofs.Shared.{number_back}
use Rattle.sv_workload.specs.declared.keyword.SetupWord.TheVariants as setup
use Rattle.sv_workload.specs.declared.keyword.ActWord.{ActWord}
use Rattle.sv_workload.specs.declared.keyword.ActWord.TheVariants as word
use Rattle.sv_workload.specs.declared.keyword.TurnWord.{TurnWord}
use Rattle.sv_workload.specs.declared.keyword.TurnWord.TheVariants as turn
use Rattle.sv_workload.specs.declared.keyword.Keyword.{Keyword}
use Rattle.sv_workload.specs.declared.keyword.Keyword.TheVariants as keyword
use Rattle.sv_workload.specs.declared.settings.Settings.{Settings}
use Rattle.sv_workload.specs.Settings.{nothing_told}
use Rattle.sv_workload.specs.Forms.{between, form_of}
use Rattle.sv_workload.specs.Line.{Line, line_from, step_line}
use Rattle.sv_workload.specs.Meaning.{says, count, number, told, step_in, action_of}
use Rattle.sv_workload.specs.Meaning.{base_in, shift_in}
use Rattle.sv_workload.specs.Checks.{lacks_keyword, is_misshapen}
use Rattle.sv_workload.specs.Checks.{has_bad_number, has_bad_text, is_within, is_aligned}
use Rattle.sv_workload.specs.Checks.{are_within}
use Rattle.sv_workload.specs.Checks.{single_keywords}
use Rattle.sv_workload.specs.Checking.{has_place, has_all, has_all_steps}
use Rattle.sv_workload.specs.Keywords.{is_same}
use Rattle.sv_workload.specs.Draft.{Draft, Stands}
use Rattle.sv_workload.specs.Grammar.{said, first_fault_after}
use Rattle.sv_workload.specs.Generated.{drawn_number, start_step, steps_to}
use Rattle.sv_workload.specs.Generated.{rounds, the_tasks}
use Rattle.sv_workload.specs.GeneratedText.{first_lines, step_text, lines_to, round_lines}
use Rattle.sv_workload.specs.GeneratedText.{generated_lines}
use Rattle.sv_workload.proofs.first_check.Passed.{Passes, faultless}
use Rattle.sv_workload.proofs.lines_told.Standing.{misplaced, too_many, scripts_count}
use Rattle.sv_workload.proofs.lines_told.Growing.{stands-step, stands-schedule, stands-turn}
use Rattle.sv_workload.proofs.whole_text.FirstFault.{last_good}
use Rattle.sv_workload.proofs.whole_text.Walking.{line_said, fault_said}
use Rattle.sv_workload.proofs.generated_loads.Generating.{all_steps, length_rounds}
use Rattle.sv_workload.proofs.generated_loads.StepLines.{with_ticks, is_said, is_cut}

-- these lines have no fault, and the draft holds what they say
pub record Reads (lines : List (List ℕ)) (draft : Draft) : Type 0 where
  pub good : first_fault_after [] lines ≡ None
  pub stands : Stands draft (said lines)

-- one line more
more : (lines : List (List ℕ)) (line : List ℕ) (new : Draft) → first_fault_after [] lines ≡ None
    → is_remark line ≡ false → Passes (said lines) (line_from line)
    → Stands new (said lines ++ line_from line ∷ []) → Reads (lines ++ line ∷ []) new
more lines line new good plain passes stands = record {
  good = last_good [] lines line good
      (fault_said lines line plain ∙ faultless (said lines) (line_from line) passes);
  stands = subst (Stands new) (sym (line_said lines line plain)) stands;
}

-- the draft after so many steps and turns
abbrev pub draft_with : List Step → Bool → List Action → Draft
draft_with steps scheduled schedule = record {
  settings = record nothing_told { ring = Some 4096 };
  timed = false;
  lines = [];
  tasks = the_tasks;
  modules = [];
  commands = [];
  scripts = (start_step ∷ steps) ∷ [];
  scheduled = scheduled;
  schedule = schedule;
}

-- the first five lines
begins : Reads first_lines (draft_with [] false [])
begins = record {
  good = refl;
  stands = record {
    settings = refl;
    timed = refl;
    texts = refl;
    tasks = refl;
    modules = refl;
    commands = refl;
    scripts = refl;
    steps = refl;
    starts = refl;
    scheduled = refl;
    schedule = refl;
  };
}

below : (n : ℕ) → n < 1048576 → nat_le 1048576 n ≡ false
below n few = search (rules, few)

-- what is seen of a step's line with these ticks, wherever it stands
record IsStepLine (line : Line) (word : ActWord) (ticks : List ℕ) (event : Event) : Type 0 where
  begins : line.keyword ≡ keyword.Act word
  known : lacks_keyword [] line ≡ false
  shaped : is_misshapen [] line ≡ false
  front : line.advance ≡ Some ticks
  inside : are_within ((form_of line.keyword).numbers ++ (form_of line.keyword).more) line.words
      ≡ true
  text : has_bad_text [] line ≡ false
  aligned : ((form_of line.keyword).identifier && not (is_aligned (number line 0) 536870912 2))
      ≡ false
  single : list_any (is_same line.keyword) single_keywords ≡ false
  task : says (keyword.Setup setup.Task) line ≡ false
  rows : says (keyword.Setup setup.Module) line ≡ false
  turns : says (keyword.Turn turn.Step) line ≡ false
  step : step_in 536870912 2 line ≡ Some (record {
    advance = unwrap_or (option_and_then number_of (Some ticks)) 0;
    act = acts.Event event;
  })

-- one step more
module _ (lines : List (List ℕ)) (n k ticks : ℕ) (words : List ℕ) (event : Event)
    (reads : Reads lines (draft_with (steps_to n k) false [])) (few : k < 1000000)
    (small : ticks < 256) where
  abbrev line : Line
  line = step_line (decimal ticks ∷ words_of words)

  abbrev step : Step
  step = record { advance = ticks; act = acts.Event event }

  abbrev old : Draft
  old = draft_with (steps_to n k) false []

  abbrev new : Draft
  new = draft_with (steps_to n k ++ step ∷ []) false []

  read_back : number_of (decimal ticks) ≡ Some ticks
  read_back = number_back ticks (omega (arith, small))

  within : is_within (between 0 8589934592) (decimal ticks) ≡ true
  within = rw read_back (search (rules, small))

  base : told setup.Base (said lines) ≡ None
  base = sym (ap (λ (s : Settings). s.base) reads.stands.settings)

  shift : told setup.Shift (said lines) ≡ None
  shift = sym (ap (λ (s : Settings). s.shift) reads.stands.settings)

  -- by the facts of its words alone
  step_more : (word : ActWord) → IsStepLine line word (decimal ticks) event
      → has_all old line.keyword ≡ has_all_steps old
      → Reads (lines ++ with_ticks ticks words ∷ []) new
  step_more word is all =
      let passes : Passes (said lines) line = record {
        known = is.known;
        placed = sym (misplaced old (said lines) line reads.stands)
            ∙ ap (λ (k : Keyword). not (has_place old k)) is.begins;
        shaped = is.shaped;
        numbers = rw (is.front, within, is.inside) refl;
        text = is.text;
        aligned = rw (base, shift) is.aligned;
        single = rw (is.single, is.task) refl;
        few = sym (too_many old (said lines) reads.stands line.keyword) ∙ all
            ∙ below (over_scripts (λ s. 1) old.scripts) (omega (arith, all_steps n k, few));
        writer = rw is.turns refl;
        room = rw is.rows refl;
      } in
      let advance = ap (λ (ticks : Option ℕ). unwrap_or ticks 0) read_back in
      let made : Some step ≡ step_in (base_in (said lines)) (shift_in (said lines)) line =
      rw (base, shift) (sym (is.step ∙ ap (λ (ticks : ℕ). Some (record {
        advance = ticks;
        act = acts.Event event;
      })) advance)) in
      let cut = sym (is_cut ticks (omega (arith, small)) words) in
      more lines (with_ticks ticks words) new reads.good
      (is_said ticks (omega (arith, small)) words)
      (subst (Passes (said lines)) cut passes)
      (subst (λ (l : Line). Stands new (said lines ++ l ∷ [])) cut
      (stands-step old (said lines) line reads.stands passes word step is.begins made))

-- whatever the choice is
by_choice : (lines : List (List ℕ)) (n k ticks : ℕ)
    → Reads lines (draft_with (steps_to n k) false []) → k < 1000000 → ticks < 256
    → (a b c d e f g : Bool)
    → Reads
    (lines ++ with_ticks ticks (cond a (codes "run 536870916") (cond b (codes "run 536870920")
    (cond c (codes "ready 536870916") (cond d (codes "ready 536870920") (cond e (codes "isr 5")
    (cond f (codes "isr-exit") (cond g (codes "idle") (codes "mark 5")))))))) ∷ [])
    (draft_with (steps_to n k ++ record {
      advance = ticks;
      act = acts.Event (cond a (TaskStart 1) (cond b (TaskStart 2) (cond c (TaskReady 1)
          (cond d (TaskReady 2) (cond e (IsrEnter 5)
          (cond f IsrExit (cond g Idle (MarkStart 5))))))));
    } ∷ []) false [])
by_choice lines n k ticks reads few small true b c d e f g =
    step_more lines n k ticks (codes "run 536870916") (TaskStart 1) reads few small word.Run
    (search rules) refl
by_choice lines n k ticks reads few small false true c d e f g =
    step_more lines n k ticks (codes "run 536870920") (TaskStart 2) reads few small word.Run
    (search rules) refl
by_choice lines n k ticks reads few small false false true d e f g =
    step_more lines n k ticks (codes "ready 536870916") (TaskReady 1) reads few small word.Ready
    (search rules) refl
by_choice lines n k ticks reads few small false false false true e f g =
    step_more lines n k ticks (codes "ready 536870920") (TaskReady 2) reads few small word.Ready
    (search rules) refl
by_choice lines n k ticks reads few small false false false false true f g =
    step_more lines n k ticks (codes "isr 5") (IsrEnter 5) reads few small word.Isr
    (search rules) refl
by_choice lines n k ticks reads few small false false false false false true g =
    step_more lines n k ticks (codes "isr-exit") IsrExit reads few small word.IsrExit
    (search rules) refl
by_choice lines n k ticks reads few small false false false false false false true =
    step_more lines n k ticks (codes "idle") Idle reads few small word.Idle
    (search rules) refl
by_choice lines n k ticks reads few small false false false false false false false =
    step_more lines n k ticks (codes "mark 5") (MarkStart 5) reads few small word.Mark
    (search rules) refl

-- a number that was drawn has 32 bits, so the ticks before its step have 8
pub few_ticks : (n k : ℕ) → drawn_number n (suc k) / 16777216 < 256
few_ticks n k = omega arith

-- all steps
pub steps_read : (n k : ℕ) → k ≤ 1000000
    → Reads (first_lines ++ lines_to n k) (draft_with (steps_to n k) false [])
steps_read n zero few = begins
steps_read n (suc k) few =
    let x = drawn_number n (suc k) in
    let choice = (x / 65536) % 8 in
    let lines = first_lines ++ lines_to n k in
    subst (λ (l : List (List ℕ)). Reads l (draft_with (steps_to n (suc k)) false []))
    (append_assoc first_lines (lines_to n k) (step_text x ∷ []))
    (by_choice lines n k (x / 16777216) (steps_read n k (omega (arith, few))) (omega (arith, few))
    (few_ticks n k) (choice == 0) (choice == 1) (choice == 2) (choice == 3) (choice == 4)
    (choice == 5) (choice == 6))

-- the line of the schedule
schedule_read : (lines : List (List ℕ)) (steps : List Step)
    → Reads lines (draft_with steps false [])
    → Reads (lines ++ codes "schedule" ∷ []) (draft_with steps true [])
schedule_read lines steps reads =
    let old = draft_with steps false [] in
    let line = line_from (codes "schedule") in
    let passes : Passes (said lines) line = record {
      known = refl;
      placed = sym (misplaced old (said lines) line reads.stands);
      shaped = refl;
      numbers = refl;
      text = refl;
      aligned = refl;
      single = refl;
      few = refl;
      writer = refl;
      room = refl;
    } in
    more lines (codes "schedule") (draft_with steps true []) reads.good refl passes
    (stands-schedule old (said lines) line reads.stands passes refl)

-- what is seen of a turn's line where there is one writer, wherever it stands
record IsTurnLine (line : Line) (word : TurnWord) (action : Action) : Type 0 where
  begins : line.keyword ≡ keyword.Turn word
  known : lacks_keyword [] line ≡ false
  shaped : is_misshapen [] line ≡ false
  numbers : has_bad_number [] line ≡ false
  text : has_bad_text [] line ≡ false
  other : (form_of line.keyword).identifier ≡ false
  single : list_any (is_same line.keyword) single_keywords ≡ false
  task : says (keyword.Setup setup.Task) line ≡ false
  rows : says (keyword.Setup setup.Module) line ≡ false
  writer : (says (keyword.Turn turn.Step) line && nat_le 1 (number line 0)) ≡ false
  turn : Some action ≡ action_of line

-- one turn more
module _ (lines : List (List ℕ)) (steps : List Step) (schedule : List Action)
    (reads : Reads lines (draft_with steps true schedule)) (few : length schedule < 1048576) where
  writers : count keyword.Writer (said lines) ≡ 1
  writers = sym (scripts_count (said lines))
      ∙ ap (λ (scripts : List (List Step)). length scripts) (sym reads.stands.scripts)

  still_few : nat_le 1048576 (length schedule) ≡ false
  still_few = below (length schedule) few

  turn_more : (bytes : List ℕ) (action : Action) (word : TurnWord) → is_remark bytes ≡ false
      → IsTurnLine (line_from bytes) word action
      → Reads (lines ++ bytes ∷ []) (draft_with steps true (schedule ++ action ∷ []))
  turn_more bytes action word plain is =
      let old = draft_with steps true schedule in
      let line = line_from bytes in
      let passes : Passes (said lines) line = record {
        known = is.known;
        placed = sym (misplaced old (said lines) line reads.stands)
            ∙ ap (λ (k : Keyword). not (has_place old k)) is.begins;
        shaped = is.shaped;
        numbers = is.numbers;
        text = is.text;
        aligned = rw is.other refl;
        single = rw (is.single, is.task) refl;
        few = sym (too_many old (said lines) reads.stands line.keyword)
            ∙ ap (has_all old) is.begins ∙ still_few;
        writer = rw writers is.writer;
        room = rw is.rows refl;
      } in
      more lines bytes (draft_with steps true (schedule ++ action ∷ [])) reads.good plain passes
      (stands-turn old (said lines) line reads.stands passes word action is.begins is.turn)

first_turn : (lines : List (List ℕ)) (steps : List Step) → Reads lines (draft_with steps true [])
    → Reads (lines ++ codes "step 0" ∷ []) (draft_with steps true (actions.Step 0 1 ∷ []))
first_turn lines steps reads =
    turn_more lines steps [] reads (omega arith) (codes "step 0") (actions.Step 0 1) turn.Step refl
    (search rules)

-- all rounds
pub rounds_read : (lines : List (List ℕ)) (steps : List Step) (count : ℕ) → count ≤ 15625
    → Reads lines (draft_with steps true (actions.Step 0 1 ∷ []))
    → Reads (lines ++ round_lines count) (draft_with steps true (actions.Step 0 1 ∷ rounds count))
rounds_read lines steps zero few reads =
    subst (λ (l : List (List ℕ)). Reads l (draft_with steps true (actions.Step 0 1 ∷ [])))
    (sym (append-nil lines)) reads
rounds_read lines steps (suc count) few reads =
    let turns = actions.Step 0 1 ∷ rounds count in
    let so_far = lines ++ round_lines count in
    let size : length turns ≡ 1 + 2 * count = omega (arith, length_rounds count) in
    let stepped : Reads (so_far ++ codes "step 0 64" ∷ [])
    (draft_with steps true (turns ++ actions.Step 0 64 ∷ [])) =
    turn_more so_far steps turns (rounds_read lines steps count (omega (arith, few)) reads)
    (omega (arith, size, few)) (codes "step 0 64") (actions.Step 0 64) turn.Step refl
    (search rules) in
    let longer : length (turns ++ actions.Step 0 64 ∷ []) ≡ 2 + 2 * count = omega
    (arith, size, length-append turns (actions.Step 0 64 ∷ [])) in
    let read : Reads ((so_far ++ codes "step 0 64" ∷ []) ++ codes "read 128" ∷ [])
    (draft_with steps true ((turns ++ actions.Step 0 64 ∷ []) ++ actions.Read 128 ∷ [])) =
    turn_more (so_far ++ codes "step 0 64" ∷ []) steps (turns ++ actions.Step 0 64 ∷ []) stepped
    (omega (arith, longer, few)) (codes "read 128") (actions.Read 128) turn.Read refl
    (search rules) in
    let texts : (so_far ++ codes "step 0 64" ∷ []) ++ codes "read 128" ∷ [] ≡ lines
    ++ (round_lines count ++ codes "step 0 64" ∷ codes "read 128" ∷ []) = append_assoc so_far
    (codes "step 0 64" ∷ []) (codes "read 128" ∷ []) ∙ append_assoc lines (round_lines count)
    (codes "step 0 64" ∷ codes "read 128" ∷ []) in
    let acts : (turns ++ actions.Step 0 64 ∷ []) ++ actions.Read 128 ∷ [] ≡ turns
    ++ actions.Step 0 64 ∷ actions.Read 128 ∷ [] = append_assoc turns (actions.Step 0 64 ∷ [])
    (actions.Read 128 ∷ []) in
    subst (λ (l : List (List ℕ)). Reads l
    (draft_with steps true (turns ++ actions.Step 0 64 ∷ actions.Read 128 ∷ []))) texts
    (subst (λ (s : List Action). Reads ((so_far ++ codes "step 0 64" ∷ []) ++ codes "read 128" ∷ [])
    (draft_with steps true s)) acts read)

-- the whole text
pub all_read : (n : ℕ) → n ≤ 1000000
    → Reads (generated_lines n)
    (draft_with (steps_to n n) true (actions.Step 0 1 ∷ rounds (n / 64)))
all_read n few =
    let steps = lines_to n n in
    let so_far = first_lines ++ steps in
    let rest = round_lines (n / 64) in
    let few_rounds : n / 64 ≤ 15625 = omega (arith, few) in
    let read = rounds_read ((so_far ++ codes "schedule" ∷ []) ++ codes "step 0" ∷ []) (steps_to n n)
    (n / 64) few_rounds (first_turn (so_far ++ codes "schedule" ∷ []) (steps_to n n)
    (schedule_read so_far (steps_to n n) (steps_read n n few))) in
    let texts : ((so_far ++ codes "schedule" ∷ []) ++ codes "step 0" ∷ []) ++ rest ≡ generated_lines
    n = append_assoc (so_far ++ codes "schedule" ∷ []) (codes "step 0" ∷ []) rest
    ∙ append_assoc so_far (codes "schedule" ∷ []) (codes "step 0" ∷ rest)
    ∙ append_assoc first_lines steps (codes "schedule" ∷ codes "step 0" ∷ rest) in
    subst (λ (l : List (List ℕ)). Reads l
    (draft_with (steps_to n n) true (actions.Step 0 1 ∷ rounds (n / 64)))) texts read
