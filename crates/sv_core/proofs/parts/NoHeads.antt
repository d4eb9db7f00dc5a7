-- Answers are a sync and replies, so they are no heads.
use Rattle.std.proofs.Common.{◌≡◌, ℕ, Bool, true, false, not, cond, List, [], ◌∷◌, ◌++◌, map}
use Rattle.std.proofs.Common.{filter, refl, sym, ap, subst, ◌∙◌}
use Rattle.std.specs.Prelude.{flat_map, nat_lt, ◌==◌, ◌&&◌, length}
use Rattle.std.specs.List.{enumerate_from}
use Rattle.std.proofs.lemmas.List.Concat.{flat_map-cons}
use Rattle.sv_load.specs.Load.{Load}
use Rattle.sv_journal.specs.declared.journal.Kind.{Kind}
use Rattle.sv_journal.specs.declared.journal.Kind.TheVariants as kinds
use Rattle.sv_journal.specs.declared.journal.Origin.{Origin}
use Rattle.sv_journal.specs.declared.journal.Origin.TheVariants.{Call, Sync, Reply, Overflow}
use Rattle.sv_journal.specs.declared.journal.Origin.TheVariants.{Command}
use Rattle.sv_journal.specs.Items.{is_start, is_stop, is_overflow}
use Rattle.sv_journal.specs.Legal.{replies_for, single, task_replies, init_replies, start_answers}
use Rattle.sv_journal.specs.Legal.{command_answers, other_answers, answers_of, is_head, command_in}
use Rattle.sv_core.proofs.own_turns.Settling.{told_command, told_turns}

abbrev pub is_answer : Origin → Bool
is_answer (Reply kind index) = true
is_answer Sync = true
is_answer other = false

abbrev pub AreAnswers : List Origin → Type 0
AreAnswers [] = Unit {0}
AreAnswers (o ∷ os) = (is_answer o ≡ true) × AreAnswers os

answers-append : (xs ys : List Origin) → AreAnswers xs → AreAnswers ys → AreAnswers (xs ++ ys)
answers-append [] ys p q = q
answers-append (o ∷ xs) ys p q = (p.0, answers-append xs ys p.1 q)

answers-if : (b : Bool) (xs ys : List Origin) → AreAnswers xs → AreAnswers ys →
    AreAnswers (cond b xs ys)
answers-if true xs ys p q = p
answers-if false xs ys p q = q

answers-map : {X : Type 0} (kind : Kind) (es : List (ℕ × X)) →
    AreAnswers (map (λ e. Reply kind e.0) es)
answers-map kind [] = tt
answers-map kind (e ∷ es) = (refl, answers-map kind es)

answers-tasks : {X : Type 0} (es : List (ℕ × X)) →
    AreAnswers (flat_map (λ e. Reply kinds.Task e.0 ∷ Reply kinds.Stack e.0 ∷ []) es)
answers-tasks [] = tt
answers-tasks {X} (e ∷ es) =
    subst AreAnswers
    (sym
    (flat_map-cons (λ (x : ℕ × X). Reply kinds.Task x.0 ∷ Reply kinds.Stack x.0 ∷ []) e es))
    (refl, (refl, answers-tasks es))

init-answers : (load : Load) → AreAnswers (init_replies load)
init-answers load = (refl, answers-map kinds.Line (enumerate_from 0 load.lines))

start-answers : (load : Load) → AreAnswers (start_answers load)
start-answers load = (
  refl,
  (
    refl,
    answers-append (init_replies load)
        (single kinds.Systime ++ (task_replies load ++ single kinds.ModuleCount))
        (init-answers load) (
          refl,
          answers-append (task_replies load) (single kinds.ModuleCount)
              (answers-tasks (enumerate_from 0 load.tasks)) (refl, tt),
        ),
  ),
)

command-answers : (load : Load) (byte param : ℕ) → AreAnswers (command_answers load byte param)
command-answers load byte param =
    answers-if (byte == 3) (single kinds.Systime) _ (refl, tt)
    (answers-if (byte == 4) (task_replies load) _ (answers-tasks (enumerate_from 0 load.tasks))
    (answers-if (byte == 5) (init_replies load) _ (init-answers load)
    (answers-if (byte == 6) (single kinds.ModuleCount) _ (refl, tt)
    (answers-if (byte == 7) (replies_for kinds.Module load.modules) _
    (answers-map kinds.Module (enumerate_from 0 load.modules))
    (answers-if ((byte == 128) && nat_lt param (length load.modules))
    (Reply kinds.Module param ∷ []) [] (refl, tt) tt)))))

other-answers : (load : Load) (head : Origin) → AreAnswers (other_answers load head)
other-answers load (Command byte param) = command-answers load byte param
other-answers load (Call writer step) = tt
other-answers load Sync = tt
other-answers load (Reply kind index) = tt
other-answers load (Overflow count) = tt

-- the answers to any head
pub are_answers : (load : Load) (head : Origin) → AreAnswers (answers_of load head)
are_answers load head =
    answers-if (is_start load head) (start_answers load) _ (start-answers load)
    (answers-if (is_stop load head) (single kinds.TraceStop) (other_answers load head)
    (refl, tt) (other-answers load head))

-- WHAT ANSWERS DO NOT TELL

pub no_heads : (os rest : List Origin) → AreAnswers os →
    filter is_head (os ++ rest) ≡ filter is_head rest
no_heads [] rest a = refl
no_heads (Reply kind index ∷ os) rest a = no_heads os rest a.1
no_heads (Sync ∷ os) rest a = no_heads os rest a.1
no_heads (Call writer step ∷ os) rest a = cc
no_heads (Overflow count ∷ os) rest a = cc
no_heads (Command byte param ∷ os) rest a = cc

pub no_commands : (os rest : List Origin) → AreAnswers os →
    flat_map command_in (os ++ rest) ≡ flat_map command_in rest
no_commands [] rest a = refl
no_commands (Reply kind index ∷ os) rest a = no_commands os rest a.1
no_commands (Sync ∷ os) rest a = no_commands os rest a.1
no_commands (Call writer step ∷ os) rest a = cc
no_commands (Overflow count ∷ os) rest a = cc
no_commands (Command byte param ∷ os) rest a = cc

pub no_told : (os rest : List Origin) → AreAnswers os →
    told_command (os ++ rest) ≡ told_command rest
no_told [] rest a = refl
no_told (Reply kind index ∷ os) rest a = no_told os rest a.1
no_told (Sync ∷ os) rest a = no_told os rest a.1
no_told (Call writer step ∷ os) rest a = cc
no_told (Overflow count ∷ os) rest a = cc
no_told (Command byte param ∷ os) rest a = cc

pub no_turns : (os rest : List Origin) → AreAnswers os → told_turns (os ++ rest) ≡ told_turns rest
no_turns [] rest a = refl
no_turns (Reply kind index ∷ os) rest a = no_turns os rest a.1
no_turns (Sync ∷ os) rest a = no_turns os rest a.1
no_turns (Call writer step ∷ os) rest a = cc
no_turns (Overflow count ∷ os) rest a = cc
no_turns (Command byte param ∷ os) rest a = cc

-- an overflow tells neither
pub plain_command : (os : List Origin) →
    told_command os ≡ told_command (filter (λ o. not (is_overflow o)) os)
plain_command [] = refl
plain_command (Call writer step ∷ os) = refl
plain_command (Sync ∷ os) = plain_command os
plain_command (Reply kind index ∷ os) = plain_command os
plain_command (Overflow count ∷ os) = plain_command os
plain_command (Command byte param ∷ os) = refl

pub plain_turns : (os : List Origin) →
    told_turns os ≡ told_turns (filter (λ o. not (is_overflow o)) os)
plain_turns [] = refl
plain_turns (Call writer step ∷ os) =
    ap (λ b. record { writer = writer; command = b } ∷ told_turns os) (plain_command os)
    ∙ ap
    (λ ts.
    record { writer = writer; command = told_command (filter (λ o. not (is_overflow o)) os) } ∷ ts)
    (plain_turns os)
plain_turns (Sync ∷ os) = plain_turns os
plain_turns (Reply kind index ∷ os) = plain_turns os
plain_turns (Overflow count ∷ os) = plain_turns os
plain_turns (Command byte param ∷ os) = plain_turns os

pub plain_commands : (os : List Origin) →
    flat_map command_in os ≡ flat_map command_in (filter (λ o. not (is_overflow o)) os)
plain_commands [] = refl
plain_commands (Call writer step ∷ os) = plain_commands os
plain_commands (Sync ∷ os) = plain_commands os
plain_commands (Reply kind index ∷ os) = plain_commands os
plain_commands (Overflow count ∷ os) = plain_commands os
plain_commands (Command byte param ∷ os) =
    ap (λ cs. record { byte = byte; param = param } ∷ cs) (plain_commands os)
