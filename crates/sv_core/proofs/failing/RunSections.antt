-- A replayed journal goes on with the section of any step turn that may come, by any frees.
use Rattle.std.proofs.Common.{◌≡◌, ℕ, suc, ◌+◌, ◌<◌, ◌≤◌, Bool, true, false, not, ◌||◌, ◌⊎◌, cond}
use Rattle.std.proofs.Common.{Option, Some, None, List, [], ◌∷◌, ◌++◌, length, length-append}
use Rattle.std.proofs.Common.{filter, reverse, take, refl, sym, ap, ◌∙◌, subst, arith, append_assoc}
use Rattle.std.proofs.Common.{append-nil}
use Rattle.std.specs.Prelude.{flat_map, count_by, slice_get, find}
use Rattle.std.specs.Option.{option_map_or}
use Rattle.std.proofs.lemmas.List.{append_cancel_left, reverse-append, length-take}
use Rattle.std.proofs.lemmas.List.Concat.{flat_map-append}
use Rattle.std.proofs.lemmas.List.Elements.{filter-append}
use Rattle.std.proofs.lemmas.Bool.{true≢false}
use Rattle.sv_ring.specs.Ring.{Way, Plan}
use Rattle.sv_load.specs.declared.load.Command.{Command as Asked}
use Rattle.sv_load.specs.Load.{Load, script_of}
use Rattle.sv_journal.specs.declared.journal.Origin.{Origin}
use Rattle.sv_journal.specs.declared.journal.Origin.TheVariants.{Call, Sync, Reply, Overflow}
use Rattle.sv_journal.specs.declared.journal.Origin.TheVariants.{Command}
use Rattle.sv_journal.specs.declared.journal.Item.{Item}
use Rattle.sv_journal.specs.Items.{latest_first, is_call, is_call_of, is_command, is_overflow}
use Rattle.sv_journal.specs.Items.{is_written, is_after_overflow, stored_before}
use Rattle.sv_journal.specs.Legal.{IsLegal, IsNextItem, EachItem, AreFirstCommands, is_head}
use Rattle.sv_journal.specs.Legal.{is_after_call_group, answers_of, group_of, origins_of}
use Rattle.sv_journal.specs.Legal.{commands_in, command_in, freed_before}
use Rattle.sv_journal.specs.Section.{IsSection, command_head}
use Rattle.sv_journal.specs.Frees.{written_freed, frees_before}
use Rattle.sv_journal.proofs.Shared.{stored_before-le, origins_of-append}
use Rattle.sv_recorder.specs.Freed.{AreFreed}
use Rattle.sv_core.specs.Turns.{StepTurn, Turns, HasLatestFreed, turn_at, has_command, step_turns}
use Rattle.sv_core.specs.BadTurns.{IsReplayedBy, IsReplayedTo, FallsShort}
use Rattle.sv_core.proofs.parts.Heads.{first_head, has_command-cons}
use Rattle.sv_core.proofs.parts.OriginsOfTurns.{origins_of-reverse}
use Rattle.sv_core.proofs.own_turns.Settling.{origins, told_command, told_turns, command_told}
use Rattle.sv_core.proofs.own_turns.Settling.{turns_told, told_commands}
use Rattle.sv_core.proofs.failing.BadTurns.{take_one}
use Rattle.sv_core.proofs.failing.ByPlan.{AreSettled, freed_settled, GoesOn, planned}
use Rattle.sv_core.proofs.parts.NoHeads.{is_answer, AreAnswers, are_answers, no_heads, no_commands}
use Rattle.sv_core.proofs.parts.NoHeads.{no_told, no_turns, plain_command, plain_turns}
use Rattle.sv_core.proofs.parts.NoHeads.{plain_commands}
use Rattle.sv_core.proofs.failing.GoingOn.{CanGoOn, Runs, run_more, run_one, run_answers}
use Rattle.sv_core.proofs.parts.Counts.{count-cons}

-- WHAT THE ORIGINS OF A SECTION TELL

-- the latest head is a call
abbrev told_group : List Origin → Bool
told_group [] = false
told_group (o ∷ os) = cond (is_head o) (is_call o) (told_group os)

group_told : (items : List Item) → is_after_call_group items ≡ told_group (origins_of items)
group_told [] = refl
group_told (i ∷ earlier) = at i.origin (group_told earlier) where
  at : (o : Origin) → is_after_call_group earlier ≡ told_group (origins_of earlier)
      → option_map_or (λ (j : Item). is_call j.origin)
      (cond (is_head o) (Some (record i { origin = o }))
      (find (λ (j : Item). is_head j.origin) earlier)) false
      ≡ told_group (cond (not (is_overflow o)) (o ∷ origins_of earlier) (origins_of earlier))
  at (Call writer step) same = refl
  at Sync same = same
  at (Reply kind index) same = same
  at (Overflow count) same = same
  at (Command byte param) same = refl

group_answers : (os rest : List Origin) → AreAnswers os →
    told_group (reverse os ++ rest) ≡ told_group rest
group_answers [] rest a = refl
group_answers (o ∷ os) rest a =
    ap told_group
    (ap (λ qs. qs ++ rest) (reverse-append (o ∷ []) os)
    ∙ append_assoc (reverse os) (o ∷ []) rest)
    ∙ (group_answers os (o ∷ rest) a.1 ∙ at o a.0) where
      at : (o : Origin) → is_answer o ≡ true → told_group (o ∷ rest) ≡ told_group rest
      at (Call writer step) h = cc
      at Sync h = refl
      at (Reply kind index) h = refl
      at (Overflow count) h = cc
      at (Command byte param) h = cc

-- the origins of a section
pub record IsRow (load : Load) (os : List Origin) (t : StepTurn) (asked : List Asked) : Type 0 where
  pub groups : os ≡ flat_map (group_of load) (filter is_head os)
  pub told : told_turns os ≡ t ∷ []
  pub begins : told_command os ≡ false
  pub commands : flat_map command_in os ≡ asked

-- a head and its answers
row_groups : (load : Load) (h : Origin) (rest : List Origin) → is_head h ≡ true →
    rest ≡ flat_map (group_of load) (filter is_head rest)
    → h ∷ (answers_of load h ++ rest)
    ≡ flat_map (group_of load) (filter is_head (h ∷ (answers_of load h ++ rest)))
row_groups load h rest head groups =
    ap (λ os. h ∷ (answers_of load h ++ os)) groups
    ∙ sym
    (ap
    (λ b.
    flat_map (group_of load)
    (cond b (h ∷ filter is_head (answers_of load h ++ rest))
    (filter is_head (answers_of load h ++ rest)))) head
    ∙ ap (λ os. flat_map (group_of load) (h ∷ os))
    (no_heads (answers_of load h) rest (are_answers load h)))

pub row_call : (load : Load) (writer step : ℕ) (rest : List Origin) (asked : List Asked) →
    rest ≡ flat_map (group_of load) (filter is_head rest) → told_turns rest ≡ [] →
    flat_map command_in rest ≡ asked
    → IsRow load (Call writer step ∷ (answers_of load (Call writer step) ++ rest))
    (record { writer = writer; command = told_command rest }) asked
row_call load writer step rest asked groups turns commands =
    let answers : List Origin = answers_of load (Call writer step) in
    let are : AreAnswers answers = are_answers load (Call writer step) in
    record {
      groups = row_groups load (Call writer step) rest refl groups;
      told =
          ap (λ b. record { writer = writer; command = b } ∷ told_turns (answers ++ rest))
          (no_told answers rest are)
          ∙ ap (λ ts. record { writer = writer; command = told_command rest } ∷ ts)
          (no_turns answers rest are ∙ turns);
      begins = refl;
      commands = no_commands answers rest are ∙ commands;
    }

-- the row of a step turn and its command
pub row_of : (load : Load) (step : ℕ) (t : StepTurn) (asked : List Asked) →
    (t.command ≡ false → asked ≡ []) → (t.command ≡ true → (c : Asked) × (asked ≡ c ∷ []))
    → IsRow load
    (Call t.writer step ∷
    (answers_of load (Call t.writer step) ++ flat_map (group_of load) (first_head asked))) t asked
row_of load step t asked none some = by t.command refl where
  call : Origin
  call = Call t.writer step

  Row : Bool → List Asked → Type 0
  Row b cs =
      IsRow load (call ∷ (answers_of load call ++ flat_map (group_of load) (first_head cs)))
      (record { writer = t.writer; command = b }) cs

  by : (b : Bool) → t.command ≡ b →
      IsRow load (call ∷ (answers_of load call ++ flat_map (group_of load) (first_head asked))) t
      asked
  by false e =
      subst (λ b. Row b asked) (sym e)
      (subst (Row false) (sym (none e)) (row_call load t.writer step [] [] refl refl refl))
  by true e =
      let c = some e in
      let command : Origin = Command c.0.byte c.0.param in
      let answers : AreAnswers (answers_of load command) = are_answers load command in
      subst (λ b. Row b asked) (sym e)
      (subst (Row true) (sym c.1)
      (row_call load t.writer step (command ∷ (answers_of load command ++ [])) (c.0 ∷ [])
      (row_groups load command [] refl refl) (no_turns (answers_of load command) [] answers)
      (ap (λ cs. c.0 ∷ cs) (no_commands (answers_of load command) [] answers))))

-- THE ITEMS OF A SECTION

-- what a replayed journal frees
settled_freed : (load : Load) (items : List Item) → EachItem HasLatestFreed items →
    freed_before items ≡ written_freed items
settled_freed load [] settled = refl
settled_freed load (i ∷ earlier) settled = at (is_written earlier i) refl where
  at : (b : Bool) → is_written earlier i ≡ b → i.freed ≡ written_freed (i ∷ earlier)
  at true e = sym (ap (λ b. cond b i.freed (written_freed earlier)) e)
  at false e = settled.1 (ap not e) ∙ sym (ap (λ b. cond b i.freed (written_freed earlier)) e)

freed_within : (load : Load) (items : List Item) → EachItem (IsNextItem load) items →
    written_freed items ≤ stored_before load items
freed_within load [] each = omega arith
freed_within load (i ∷ earlier) each =
    at (is_written earlier i) (freed_within load earlier each.0) where
      grows : stored_before load earlier ≤ stored_before load (i ∷ earlier)
      grows = stored_before-le load earlier i

      at : (b : Bool) → written_freed earlier ≤ stored_before load earlier →
          cond b i.freed (written_freed earlier) ≤ stored_before load (i ∷ earlier)
      at true before = omega (arith, grows, each.1.freed_stored)
      at false before = omega (arith, grows, before)

-- a replayed journal can go on
can_go_on : (load : Load) (steps : List StepTurn) (items : List Item)
    → IsReplayedBy load steps items →
    CanGoOn load (latest_first items) (written_freed (latest_first items))
can_go_on load steps items run = record {
  each = run.legal.each;
  ends = run.legal.ends;
  rises = same (settled_freed load (latest_first items) run.settled);
  stored = freed_within load (latest_first items) run.legal.each;
} where
  same : {a b : ℕ} → a ≡ b → a ≤ b
  same e = omega arith

-- a call and its answers
run_call : (load : Load) (start : List Item) (left : List ℕ) (freed writer : ℕ) →
    CanGoOn load start freed →
    count_by (λ i. is_call_of writer i.origin) start < length (script_of load writer)
    → Runs load start left freed
    (Call writer (count_by (λ i. is_call_of writer i.origin) start) ∷
    answers_of load (Call writer (count_by (λ i. is_call_of writer i.origin) start)))
run_call load start left freed writer on within =
    let call : Origin = Call writer (count_by (λ (i : Item). is_call_of writer i.origin) start) in
    let first : Runs load start left freed (call ∷ []) =
    run_one load start left freed call on refl tt (refl, within) in
    run_more load start left freed (call ∷ []) (answers_of load call) first
    (run_answers load (answers_of load call) (reverse first.more ++ start) first.left_now
    first.freed_now (are_answers load call) first.on)

-- and a command and its answers behind it
run_command : (load : Load) (start : List Item) (left : List ℕ) (freed writer step byte param : ℕ) →
    Runs load start left freed (Call writer step ∷ answers_of load (Call writer step)) →
    (byte < 128 → param ≡ 0)
    → Runs load start left freed
    (Call writer step ∷
    (answers_of load (Call writer step)
    ++ (Command byte param ∷ (answers_of load (Command byte param) ++ []))))
run_command load start left freed writer step byte param r plain =
    let call : Origin = Call writer step in
    let command : Origin = Command byte param in
    let answers : List Origin = answers_of load call in
    let behind : List Item = reverse r.more ++ start in
    let told : origins_of behind ≡ reverse answers ++ (call ∷ origins_of start) =
    origins_of-append (reverse r.more) start
    ∙ (ap (λ os. os ++ origins_of start)
    (origins_of-reverse r.more ∙ (ap reverse r.told ∙ reverse-append (call ∷ []) answers))
    ∙ append_assoc (reverse answers) (call ∷ []) (origins_of start)) in
    let place : is_after_call_group behind ≡ true =
    group_told behind
    ∙ (ap told_group told
    ∙ group_answers answers (call ∷ origins_of start) (are_answers load call)) in
    let first : Runs load behind r.left_now r.freed_now (command ∷ []) =
    run_one load behind r.left_now r.freed_now command r.on refl (place, plain) tt in
    let rest :
    Runs load (reverse first.more ++ behind) first.left_now first.freed_now
    (answers_of load command ++ []) =
    subst (Runs load (reverse first.more ++ behind) first.left_now first.freed_now)
    (sym (append-nil (answers_of load command)))
    (run_answers load (answers_of load command) (reverse first.more ++ behind)
    first.left_now first.freed_now (are_answers load command) first.on) in
    run_more load start left freed (call ∷ answers) (command ∷ (answers_of load command ++ [])) r
    (run_more load behind r.left_now r.freed_now (command ∷ []) (answers_of load command ++ [])
    first rest)

-- THE JOURNAL WITH THE SECTION

-- the command of a turn, where it has one
record IsAsked (load : Load) (items : List Item) (t : StepTurn) (asked : List Asked) : Type 0 where
  none : t.command ≡ false → asked ≡ []
  some : t.command ≡ true →
      (c : Asked) × (asked ≡ c ∷ []) ×
      (slice_get load.commands (length (commands_in items)) ≡ Some c)

-- no command stands before the next call in these
pub turns-append : (items more : List Item) → has_command more ≡ false →
    step_turns (items ++ more) ≡ step_turns items ++ step_turns more
turns-append [] more none = refl
turns-append (i ∷ items) more none =
    ap (λ ts. turn_at i.origin (items ++ more) ++ ts) (turns-append items more none)
    ∙ (sym (append_assoc (turn_at i.origin (items ++ more)) (step_turns items) (step_turns more))
    ∙ ap (λ ts. (ts ++ step_turns items) ++ step_turns more) (at i.origin)) where
      same : (items : List Item) → has_command (items ++ more) ≡ has_command items
      same [] = none
      same (i ∷ items) =
          has_command-cons i (items ++ more)
          ∙ (ap (λ b. cond (is_call i.origin) false (is_command i.origin || b)) (same items)
          ∙ sym (has_command-cons i items))

      at : (o : Origin) → turn_at o (items ++ more) ≡ turn_at o items
      at (Call writer step) = ap (λ b. record { writer = writer; command = b } ∷ []) (same items)
      at Sync = refl
      at (Reply kind index) = refl
      at (Overflow count) = refl
      at (Command byte param) = refl

-- as many commands
pub commands_number : (items : List Item) →
    count_by (λ i. is_command i.origin) items ≡ length (commands_in items)
commands_number [] = refl
commands_number (i ∷ items) =
    count-cons (λ (j : Item). is_command j.origin) i items
    ∙ (ap (λ n. cond (is_command i.origin) 1 0 + n) (commands_number items) ∙ at i.origin) where
      at : (o : Origin) →
          cond (is_command o) 1 0 + length (commands_in items)
          ≡ length (command_in o ++ commands_in items)
      at (Call writer step) = omega arith
      at Sync = omega arith
      at (Reply kind index) = omega arith
      at (Overflow count) = omega arith
      at (Command byte param) = omega arith

-- the first commands and one more
first_commands : (load : Load) (cs : List Asked) (t : StepTurn) (asked : List Asked) →
    cs ≡ take (length cs) load.commands
    → (t.command ≡ false → asked ≡ []) →
    (t.command ≡ true →
    (c : Asked) × (asked ≡ c ∷ []) × (slice_get load.commands (length cs) ≡ Some c))
    → cs ++ asked ≡ take (length (cs ++ asked)) load.commands
first_commands load cs t asked first none some = at t.command refl where
  at : (b : Bool) → t.command ≡ b → cs ++ asked ≡ take (length (cs ++ asked)) load.commands
  at false e = let all : cs ++ asked ≡ cs = ap (λ ds. cs ++ ds) (none e) ∙ append-nil cs in
      all ∙ (first ∙ ap (λ ds. take (length ds) load.commands) (sym all))
  at true e =
      let c = some e in
      let longer : length (cs ++ asked) ≡ suc (length cs) =
      ap (λ ds. length (cs ++ ds)) c.1 ∙ (length-append cs (c.0 ∷ []) ∙ omega arith) in
      ap (λ ds. cs ++ ds) c.1
      ∙ (ap (λ ds. ds ++ c.0 ∷ []) first
      ∙ (sym (take_one (length cs) load.commands c.0 c.2)
      ∙ ap (λ n. take n load.commands) (sym longer)))

take_few : {X : Type 0} (n : ℕ) (xs : List X) → length (take n xs) ≤ length xs
take_few n xs = omega (arith, length-take n xs)

-- what a section's items make of a replayed journal: it takes one step turn more, and its frees go
-- on or fall short
pub record Extends (load : Load) (turns : Turns) (at : ℕ) (all : List Item) (way : Way)
    (freed : ℕ) : Type 0 where
  pub run : IsReplayedBy load (take (suc at) turns.steps) all
  pub goes : GoesOn turns.frees (latest_first all) way ⊎
      FallsShort load turns.frees (latest_first all)
  pub freed_is : freed ≡ written_freed (latest_first all)

extended :
    (load : Load) (turns : Turns) (at : ℕ) (items more : List Item) (left : List ℕ) (t : StepTurn)
    (asked : List Asked) (os : List Origin) (way : Way) (freed : ℕ) →
    IsReplayedTo load turns at items left
    → slice_get turns.steps at ≡ Some t → IsAsked load items t asked → IsRow load os t asked →
    origins_of more ≡ os → EachItem (IsNextItem load) (latest_first (items ++ more)) →
    is_after_overflow (latest_first (items ++ more)) ≡ false
    → AreFreed load (latest_first items) more (Plan left) (written_freed (latest_first items)) way
    freed → Extends load turns at (items ++ more) way freed
extended load turns at items more left t asked os way freed to here ask row filtered each ends
    moved =
    record {
      run = run;
      goes =
          subst (λ is. GoesOn turns.frees is way ⊎ FallsShort load turns.frees is) (sym back) goes;
      freed_is = settled.freed ∙ ap written_freed (sym back);
    } where
      all : List Item
      all = items ++ more

      back : latest_first all ≡ reverse more ++ latest_first items
      back = reverse-append items more

      turned : step_turns more ≡ t ∷ []
      turned = turns_told more ∙ (plain_turns (origins more) ∙ (ap told_turns filtered ∙ row.told))

      begins : has_command more ≡ false
      begins =
          command_told more
          ∙ (plain_command (origins more) ∙ (ap told_command filtered ∙ row.begins))

      asks : commands_in more ≡ asked
      asks =
          told_commands more
          ∙ (plain_commands (origins more) ∙ (ap (flat_map command_in) filtered ∙ row.commands))

      commands : commands_in all ≡ commands_in items ++ asked
      commands =
          flat_map-append (λ (i : Item). command_in i.origin) items more
          ∙ ap (λ cs. commands_in items ++ cs) asks

      first : AreFirstCommands load all
      first =
          commands
          ∙ (first_commands load (commands_in items) t asked to.run.commands ask.none ask.some
          ∙ ap (λ cs. take (length cs) load.commands) (sym commands))

      few : count_by (λ (i : Item). is_command i.origin) all ≤ length load.commands
      few =
          subst (λ n. n ≤ length load.commands) (sym (commands_number all ∙ ap length first))
          (take_few (length (commands_in all)) load.commands)

      groups : origins_of all ≡ flat_map (group_of load) (filter is_head (origins_of all))
      groups =
          origins_of-append items more
          ∙ (ap (λ os. os ++ origins_of more) to.run.legal.groups
          ∙ (ap (λ qs. flat_map (group_of load) (filter is_head (origins_of items)) ++ qs)
          (filtered
          ∙ (row.groups ∙ ap (λ qs. flat_map (group_of load) (filter is_head qs)) (sym filtered)))
          ∙ (sym
          (flat_map-append (group_of load) (filter is_head (origins_of items))
          (filter is_head (origins_of more)))
          ∙ ap (flat_map (group_of load))
          (sym
          (ap (filter is_head) (origins_of-append items more)
          ∙ filter-append is_head (origins_of items) (origins_of more))))))

      settled : AreSettled (reverse more ++ latest_first items) freed
      settled =
          freed_settled load (latest_first items) more (Plan left) way
          (written_freed (latest_first items)) freed moved (record {
            each = to.run.settled;
            freed = refl;
          })

      steps : step_turns all ≡ take (suc at) turns.steps
      steps =
          turns-append items more begins
          ∙ (ap (λ ts. ts ++ step_turns more) (ap (λ (t : Turns). t.steps) to.run.turned)
          ∙ (ap (λ ts. take at turns.steps ++ ts) turned ∙ sym (take_one at turns.steps t here)))

      run : IsReplayedBy load (take (suc at) turns.steps) all
      run = record {
        legal = record { groups = groups; commands = few; ends = ends; each = each };
        turned = ap (λ ts. record { steps = ts; frees = frees_before (latest_first all) }) steps;
        commands = first;
        settled = subst (EachItem HasLatestFreed) (sym back) settled.each;
      }

      goes : GoesOn turns.frees (reverse more ++ latest_first items) way ⊎
          FallsShort load turns.frees (reverse more ++ latest_first items)
      goes =
          planned load turns.frees left (latest_first items) more (Plan left) way
          (written_freed (latest_first items)) freed moved refl refl to.frees

-- ANY SECTION

-- a section of one step turn more
pub record IsLonger (load : Load) (turns : Turns) (at : ℕ) : Type 0 where
  pub items : List Item
  pub left : List ℕ
  pub freed : ℕ
  pub extends : Extends load turns at items (Plan left) freed

longer :
    (load : Load) (turns : Turns) (at : ℕ) (items : List Item) (left : List ℕ) (t : StepTurn)
    (asked : List Asked) (os : List Origin) → IsReplayedTo load turns at items left →
    slice_get turns.steps at ≡ Some t
    → IsAsked load items t asked → IsRow load os t asked →
    Runs load (latest_first items) left (written_freed (latest_first items)) os →
    IsLonger load turns at
longer load turns at items left t asked os to here ask row r = record {
  items = items ++ r.more;
  left = r.left_now;
  freed = r.freed_now;
  extends =
      extended load turns at items r.more left t asked os (Plan r.left_now) r.freed_now to here ask
      row r.told
      (subst (EachItem (IsNextItem load)) (sym (reverse-append items r.more)) r.on.each)
      (ap is_after_overflow (reverse-append items r.more) ∙ r.on.ends) r.moved;
}

-- the section of a turn whose step and command are there
pub section :
    (load : Load) (turns : Turns) (at : ℕ) (items : List Item) (left : List ℕ) (t : StepTurn) →
    IsReplayedTo load turns at items left → slice_get turns.steps at ≡ Some t
    → count_by (λ i. is_call_of t.writer i.origin) (latest_first items)
    < length (script_of load t.writer)
    → (t.command ≡ true →
    (c : Asked) × (slice_get load.commands (length (commands_in items)) ≡ Some c) ×
    (c.byte < 128 → c.param ≡ 0)) → IsLonger load turns at
section load turns at items left t to here within ask = by t.command refl where
  step : ℕ
  step = count_by (λ (i : Item). is_call_of t.writer i.origin) (latest_first items)

  call :
      Runs load (latest_first items) left (written_freed (latest_first items))
      (Call t.writer step ∷ answers_of load (Call t.writer step))
  call =
      run_call load (latest_first items) left (written_freed (latest_first items)) t.writer
      (can_go_on load (take at turns.steps) items to.run) within

  by : (b : Bool) → t.command ≡ b → IsLonger load turns at
  by false e =
      let none : t.command ≡ true → ⊥ = λ f. true≢false (sym f ∙ e) in
      longer load turns at items left t []
      (Call t.writer step ∷ (answers_of load (Call t.writer step) ++ [])) to here
      (record { none = λ f. refl; some = λ f. absurd (none f) })
      (row_of load step t [] (λ f. refl) (λ f. absurd (none f)))
      (subst
      (λ os.
      Runs load (latest_first items) left (written_freed (latest_first items))
      (Call t.writer step ∷ os)) (sym (append-nil (answers_of load (Call t.writer step)))) call)
  by true e =
      let c = ask e in
      let some : t.command ≡ false → ⊥ = λ f. true≢false (sym e ∙ f) in
      let command : Origin = Command c.0.byte c.0.param in
      longer load turns at items left t (c.0 ∷ [])
      (Call t.writer step ∷
      (answers_of load (Call t.writer step) ++ (command ∷ (answers_of load command ++ [])))) to here
      (record { none = λ f. absurd (some f); some = λ f. (c.0, refl, c.1) })
      (row_of load step t (c.0 ∷ []) (λ f. absurd (some f)) (λ f. (c.0, refl)))
      (run_command load (latest_first items) left (written_freed (latest_first items)) t.writer step
      c.0.byte c.0.param call c.2)

-- A RECORDER'S SECTION

-- a section whose freed moves by the plan that is left
pub turn_taken :
    (load : Load) (turns : Turns) (at : ℕ) (items after : List Item) (left : List ℕ) (t : StepTurn)
    (found : Option Asked) (way : Way) (freed : ℕ) → IsReplayedTo load turns at items left →
    slice_get turns.steps at ≡ Some t
    → (t.command ≡ false → found ≡ None) →
    (t.command ≡ true →
    (c : Asked) × (found ≡ Some c) ×
    (slice_get load.commands (length (commands_in items)) ≡ Some c)) → IsLegal load after
    → (s : IsSection items after t.writer found) →
    AreFreed load (latest_first items) s.more (Plan left) (written_freed (latest_first items))
    way freed → Extends load turns at after way freed
turn_taken load turns at items after left t found way freed to here none some legal s moved =
    subst (λ is. Extends load turns at is way freed) (sym s.longer)
    (extended load turns at items s.more left t (asked found)
    (call ∷ (answers_of load call ++ flat_map (group_of load) (first_head (asked found)))) way freed
    to here ask row told
    (subst (λ is. EachItem (IsNextItem load) (latest_first is)) s.longer legal.each)
    (sym (ap (λ is. is_after_overflow (latest_first is)) s.longer) ∙ legal.ends) moved) where
      call : Origin
      call = Call t.writer (count_by (λ (i : Item). is_call_of t.writer i.origin) items)

      asked : Option Asked → List Asked
      asked None = []
      asked (Some c) = c ∷ []

      heads : (o : Option Asked) → command_head o ≡ first_head (asked o)
      heads None = refl
      heads (Some c) = refl

      ask : IsAsked load items t (asked found)
      ask = record {
        none = λ e. ap asked (none e);
        some = λ e. let c = some e in (c.0, ap asked c.1, c.2);
      }

      row :
          IsRow load
          (call ∷ (answers_of load call ++ flat_map (group_of load) (first_head (asked found))))
          t (asked found)
      row =
          row_of load (count_by (λ (i : Item). is_call_of t.writer i.origin) items) t (asked found)
          (λ e. ap asked (none e)) (λ e. let c = some e in (c.0, ap asked c.1))

      both : origins_of items ++ origins_of s.more
          ≡ origins_of items ++ flat_map (group_of load) (filter is_head (origins_of s.more))
      both =
          sym (origins_of-append items s.more)
          ∙ (sym (ap origins_of s.longer)
          ∙ (legal.groups
          ∙ (ap (λ is. flat_map (group_of load) (filter is_head (origins_of is))) s.longer
          ∙ (ap (λ os. flat_map (group_of load) (filter is_head os))
          (origins_of-append items s.more)
          ∙ (ap (flat_map (group_of load))
          (filter-append is_head (origins_of items) (origins_of s.more))
          ∙ (flat_map-append (group_of load) (filter is_head (origins_of items))
          (filter is_head (origins_of s.more))
          ∙ ap (λ os. os ++ flat_map (group_of load) (filter is_head (origins_of s.more)))
          (sym to.run.legal.groups)))))))

      told : origins_of s.more
          ≡ call ∷ (answers_of load call ++ flat_map (group_of load) (first_head (asked found)))
      told =
          append_cancel_left (origins_of items) (origins_of s.more)
          (flat_map (group_of load) (filter is_head (origins_of s.more))) both
          ∙ (ap (flat_map (group_of load)) s.heads
          ∙ ap (λ os. call ∷ (answers_of load call ++ flat_map (group_of load) os)) (heads found))
