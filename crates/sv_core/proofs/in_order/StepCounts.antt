-- How many steps and calls a journal in order has, and that a call stands first.
use Rattle.std.proofs.Common.{◌≡◌, ℕ, ◌+◌, ◌<◌, false, cond, List, [], ◌∷◌, ◌++◌, length, reverse}
use Rattle.std.proofs.Common.{refl, sym, ap, ◌∙◌, subst, arith, length-append}
use Rattle.std.specs.Prelude.{count_by, nat_lt, ◌==◌}
use Rattle.sv_load.specs.Load.{Load}
use Rattle.sv_journal.specs.declared.journal.Origin.{Origin}
use Rattle.sv_journal.specs.declared.journal.Origin.TheVariants.{Call, Sync, Reply, Overflow}
use Rattle.sv_journal.specs.declared.journal.Origin.TheVariants.{Command}
use Rattle.sv_journal.specs.declared.journal.Item.{Item}
use Rattle.sv_journal.specs.Items.{latest_first, is_call, is_call_of, is_command, is_overflow}
use Rattle.sv_journal.specs.Legal.{IsLegal, AreFirstCommands, origins_of}
use Rattle.sv_journal.proofs.Shared.{origins_of-append, origins_of-cons}
use Rattle.sv_core.specs.Order.{Turn, Takes_step, Reads, Reads_all, Sends, is_step, is_step_of}
use Rattle.sv_core.specs.Order.{is_send}
use Rattle.sv_core.specs.Turns.{StepTurn, turn_at, step_turns}
use Rattle.sv_core.specs.Simulated.{IsInOrder, before_section, ordered_turns}
use Rattle.sv_core.proofs.parts.Counts.{count-cons, count-not, calls_in, calls-cons}
use Rattle.sv_core.proofs.once.TurnsOfOrder.{ordered-length}
use Rattle.sv_core.proofs.parts.TurnCounts.{count-reverse, count-append, calls_turned}
use Rattle.sv_core.proofs.parts.OriginsOfTurns.{IsLastCall, last_call-tail, last_call-some}
use Rattle.sv_core.proofs.parts.OriginsOfTurns.{first_call, origins_by, origins_of-reverse}
use Rattle.sv_core.proofs.parts.OriginsOfTurns.{calls-origins}

-- COUNTS

-- a turn for each call
calls-turns : (items : List Item) → calls_in items ≡ length (step_turns items)
calls-turns [] = refl
calls-turns (i ∷ items) =
    calls-cons i items
    ∙ (ap (λ n. cond (is_call i.origin) 1 0 + n) (calls-turns items)
    ∙ (at i.origin ∙ sym (length-append (turn_at i.origin items) (step_turns items)))) where
      at : (o : Origin) → cond (is_call o) 1 0 + length (step_turns items)
          ≡ length (turn_at o items) + length (step_turns items)
      at (Call writer step) = refl
      at Sync = refl
      at (Reply kind index) = refl
      at (Overflow count) = refl
      at (Command byte param) = refl

-- a call for each step
pub calls-steps : (load : Load) (turns : List Turn) (items : List Item) → IsInOrder load turns items
    → calls_in (latest_first items) ≡ count_by is_step (reverse turns)
calls-steps load turns items order =
    count-reverse (λ (i : Item). is_call i.origin) items
    ∙ (calls-turns items
    ∙ (ap length order.steps ∙ ordered-length load items (reverse turns)))

-- a writer's turns are its steps
writer-steps : (load : Load) (items : List Item) (writer : ℕ) (turns : List Turn)
    → count_by (λ t. t.writer == writer) (ordered_turns load items turns)
    ≡ count_by (is_step_of writer) turns
writer-steps load items writer [] = refl
writer-steps load items writer (Takes_step other ∷ earlier) =
    let t : StepTurn = record {
      writer = other;
      command = nat_lt
          (count_by (λ i. is_command i.origin)
          (before_section items (count_by is_step earlier))) (count_by is_send earlier);
    }
    in
    count-append (λ (u : StepTurn). u.writer == writer) (ordered_turns load items earlier) (t ∷ [])
    ∙ (ap
    (λ n. n + count_by (λ (u : StepTurn). u.writer == writer) (t ∷ []))
    (writer-steps load items writer earlier)
    ∙ turned (count_by (is_step_of writer) earlier) (cond (other == writer) 1 0)
    (count-cons (λ (u : StepTurn). u.writer == writer) t [])
    (count-cons (is_step_of writer) (Takes_step other) earlier)) where
      turned : {b d : ℕ} (a c : ℕ) → b ≡ c + 0 → d ≡ c + a → a + b ≡ d
      turned a c e f = omega arith
writer-steps load items writer (Reads most ∷ earlier) =
    writer-steps load items writer earlier
    ∙ sym (count-not (is_step_of writer) (Reads most) earlier refl)
writer-steps load items writer (Reads_all ∷ earlier) =
    writer-steps load items writer earlier
    ∙ sym (count-not (is_step_of writer) Reads_all earlier refl)
writer-steps load items writer (Sends ∷ earlier) =
    writer-steps load items writer earlier
    ∙ sym (count-not (is_step_of writer) Sends earlier refl)

-- and so are its calls
pub own-steps : (load : Load) (turns : List Turn) (items : List Item) (writer : ℕ)
    → IsInOrder load turns items
    → count_by (λ i. is_call_of writer i.origin) items ≡ count_by (is_step_of writer) turns
own-steps load turns items writer order =
    calls_turned writer items
    ∙ (ap (count_by (λ (t : StepTurn). t.writer == writer)) order.steps
    ∙ (writer-steps load items writer (reverse turns)
    ∙ count-reverse (is_step_of writer) turns))

-- THE FIRST CALL

last_call-back : (later : List Origin) (os : List Origin) → IsLastCall (later ++ os) → IsLastCall os
last_call-back [] os h = h
last_call-back (o ∷ later) os h = last_call-back later os (last_call-tail o (later ++ os) h)

-- a call stands at or before each item that is no overflow
pub called_at : (load : Load) (items later earlier : List Item) (i : Item) → IsLegal load items
    → AreFirstCommands load items → latest_first items ≡ later ++ (i ∷ earlier)
    → is_overflow i.origin ≡ false → 0 < calls_in (i ∷ earlier)
called_at load items later earlier i legal commands e other =
    let all : IsLastCall (origins_of (latest_first items)) =
    subst IsLastCall
    (sym
    (origins_of-reverse items
    ∙ ap reverse (origins_by load items legal.each commands legal.groups)))
    (first_call load (step_turns items) load.commands) in
    let here : IsLastCall (origins_of later ++ (i.origin ∷ origins_of earlier)) =
    subst IsLastCall
    (ap origins_of e
    ∙ (origins_of-append later (i ∷ earlier)
    ∙ ap (λ os. origins_of later ++ os) (origins_of-cons i earlier other))) all in
    subst (λ n. 0 < n)
    (sym
    (calls-origins (i ∷ earlier) ∙ ap (count_by is_call) (origins_of-cons i earlier other)))
    (last_call-some i.origin (origins_of earlier)
    (last_call-back (origins_of later) (i.origin ∷ origins_of earlier) here))
