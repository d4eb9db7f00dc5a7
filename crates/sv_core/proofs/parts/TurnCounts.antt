-- How many calls and commands a journal has by its turns.
use Rattle.std.proofs.Common.{◌≡◌, ℕ, ◌+◌, Bool, false, ◌||◌, cond, List, [], ◌∷◌, ◌++◌, refl, sym}
use Rattle.std.proofs.Common.{ap, ◌∙◌, subst, arith, append-nil, zero-add}
use Rattle.std.specs.Prelude.{count_by, reverse, ◌==◌}
use Rattle.std.proofs.lemmas.List.{reverse-append}
use Rattle.std.proofs.lemmas.List.Sums.{sum_by-append}
use Rattle.sv_load.specs.Load.{Load}
use Rattle.sv_journal.specs.declared.journal.Origin.{Origin}
use Rattle.sv_journal.specs.declared.journal.Origin.TheVariants.{Call, Sync, Reply, Overflow}
use Rattle.sv_journal.specs.declared.journal.Origin.TheVariants.{Command}
use Rattle.sv_journal.specs.declared.journal.Item.{Item}
use Rattle.sv_journal.specs.Items.{is_call, is_call_of, is_command}
use Rattle.sv_journal.specs.Legal.{IsLegal, IsNextItem, EachItem}
use Rattle.sv_core.specs.Turns.{StepTurn, turn_at, has_command, step_turns}
use Rattle.sv_core.proofs.parts.Heads.{EachLater, each_later, has_command-cons, not_again}
use Rattle.sv_core.proofs.parts.Heads.{not_twice}
use Rattle.sv_core.proofs.parts.Counts.{count-cons}

-- of a list from behind as many pass
pub count-reverse : {X : Type 0} (p : X → Bool) (xs : List X) →
    count_by p (reverse xs) ≡ count_by p xs
count-reverse p [] = refl
count-reverse p (x ∷ xs) =
    ap (count_by p) (reverse-append (x ∷ []) xs)
    ∙ (sum_by-append (λ y. cond (p y) 1 0) (reverse xs) (x ∷ [])
    ∙ (ap (λ n. n + count_by p (x ∷ [])) (count-reverse p xs)
    ∙ (turned (count_by p xs) (count_by p (x ∷ [])) (cond (p x) 1 0) (count-cons p x [])
    ∙ sym (count-cons p x xs)))) where
      turned : (a b c : ℕ) → b ≡ c + 0 → a + b ≡ c + a
      turned a b c e = omega arith

pub count-append : {X : Type 0} (p : X → Bool) (xs ys : List X) →
    count_by p (xs ++ ys) ≡ count_by p xs + count_by p ys
count-append p xs ys = sum_by-append (λ x. cond (p x) 1 0) xs ys

-- a writer's calls are its turns
pub calls_turned : (writer : ℕ) (items : List Item) →
    count_by (λ i. is_call_of writer i.origin) items
    ≡ count_by (λ t. t.writer == writer) (step_turns items)
calls_turned writer [] = refl
calls_turned writer (i ∷ items) =
    count-cons (λ (j : Item). is_call_of writer j.origin) i items
    ∙ (ap (λ n. cond (is_call_of writer i.origin) 1 0 + n) (calls_turned writer items)
    ∙ at i.origin) where
      at : (o : Origin) →
          cond (is_call_of writer o) 1 0
          + count_by (λ (t : StepTurn). t.writer == writer) (step_turns items)
          ≡ count_by (λ (t : StepTurn). t.writer == writer)
          (turn_at o items ++ step_turns items)
      at (Call other step) =
          sym
          (count-cons (λ (t : StepTurn). t.writer == writer)
          (record { writer = other; command = has_command items }) (step_turns items))
      at Sync = zero-add _
      at (Reply kind index) = zero-add _
      at (Overflow count) = zero-add _
      at (Command byte param) = zero-add _

-- the commands from here on are those of the turns from here on, and one before the next call
commands_later : (load : Load) (earlier later : List Item) →
    EachLater (IsNextItem load) earlier later
    → count_by (λ i. is_command i.origin) later
    ≡ cond (has_command later) 1 0 + count_by (λ t. t.command) (step_turns later)
commands_later load earlier [] each = refl
commands_later load earlier (i ∷ later) each =
    count-cons (λ (j : Item). is_command j.origin) i later
    ∙ (ap (λ n. cond (is_command i.origin) 1 0 + n) (commands_later load (i ∷ earlier) later each.1)
    ∙ (at i.origin refl
    ∙ ap (λ b. cond b 1 0 + count_by (λ (t : StepTurn). t.command) (step_turns (i ∷ later)))
    (sym (has_command-cons i later)))) where
      rest : ℕ
      rest = count_by (λ (t : StepTurn). t.command) (step_turns later)

      at : (o : Origin) → i.origin ≡ o →
          cond (is_command o) 1 0 + (cond (has_command later) 1 0 + rest)
          ≡ cond (cond (is_call o) false (is_command o || has_command later)) 1 0
          + count_by (λ (t : StepTurn). t.command) (turn_at o later ++ step_turns later)
      at (Call writer step) e =
          ap (λ n. 0 + n)
          (sym
          (count-cons (λ (t : StepTurn). t.command)
          (record { writer = writer; command = has_command later }) (step_turns later)))
      at (Command byte param) e =
          ap (λ b. 1 + (cond b 1 0 + rest))
          (not_twice load earlier later i each.1 (ap is_command e))
          ∙ ap (λ n. 1 + n) (zero-add rest)
      at Sync e = zero-add _
      at (Reply kind index) e = zero-add _
      at (Overflow count) e = zero-add _

-- a legal journal has a command for each turn that has one
pub commands_turned : (load : Load) (items : List Item) → IsLegal load items →
    count_by (λ i. is_command i.origin) items ≡ count_by (λ t. t.command) (step_turns items)
commands_turned load items legal =
    let each : EachLater (IsNextItem load) [] items =
    each_later (IsNextItem load) items []
    (subst (EachItem (IsNextItem load)) (sym (append-nil (reverse items))) legal.each) in
    commands_later load [] items each
    ∙ (ap (λ b. cond b 1 0 + count_by (λ (t : StepTurn). t.command) (step_turns items))
    (not_again load [] items each refl) ∙ zero-add _)
