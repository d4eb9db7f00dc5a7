-- The answers of a group are replies, but for the sync of a start.
use Rattle.std.proofs.Common.{◌≡◌, ℕ, Bool, true, false, cond, List, [], ◌∷◌, ◌++◌, map, refl, sym}
use Rattle.std.proofs.Common.{subst}
use Rattle.std.specs.Prelude.{flat_map, nat_lt, ◌==◌, ◌&&◌, length}
use Rattle.std.specs.List.{enumerate_from}
use Rattle.std.proofs.lemmas.List.Concat.{flat_map-cons}
use Rattle.sv_load.specs.Load.{Load}
use Rattle.sv_journal.specs.declared.journal.Kind.{Kind}
use Rattle.sv_journal.specs.declared.journal.Kind.TheVariants as kinds
use Rattle.sv_journal.specs.declared.journal.Origin.{Origin}
use Rattle.sv_journal.specs.declared.journal.Origin.TheVariants.{Call, Sync, Reply, Overflow}
use Rattle.sv_journal.specs.declared.journal.Origin.TheVariants.{Command}
use Rattle.sv_journal.specs.Legal.{replies_for, single, task_replies, init_replies, command_answers}
use Rattle.sv_journal.specs.Legal.{other_answers}

abbrev pub is_reply : Origin → Bool
is_reply (Reply kind index) = true
is_reply other = false

abbrev pub AreReplies : List Origin → Type 0
AreReplies [] = Unit {0}
AreReplies (o ∷ os) = (is_reply o ≡ true) × AreReplies os

replies-append : (xs ys : List Origin) → AreReplies xs → AreReplies ys → AreReplies (xs ++ ys)
replies-append [] ys p q = q
replies-append (o ∷ xs) ys p q = (p.0, replies-append xs ys p.1 q)

pub replies-if : (b : Bool) (xs ys : List Origin) → AreReplies xs → AreReplies ys →
    AreReplies (cond b xs ys)
replies-if true xs ys p q = p
replies-if false xs ys p q = q

replies-map : {X : Type 0} (kind : Kind) (es : List (ℕ × X)) →
    AreReplies (map (λ e. Reply kind e.0) es)
replies-map kind [] = tt
replies-map kind (e ∷ es) = (refl, replies-map kind es)

replies-tasks : {X : Type 0} (es : List (ℕ × X)) →
    AreReplies (flat_map (λ e. Reply kinds.Task e.0 ∷ Reply kinds.Stack e.0 ∷ []) es)
replies-tasks [] = tt
replies-tasks {X} (e ∷ es) =
    subst AreReplies
    (sym (flat_map-cons (λ (x : ℕ × X). Reply kinds.Task x.0 ∷ Reply kinds.Stack x.0 ∷ []) e es))
    (refl, (refl, replies-tasks es))

init-replies : (load : Load) → AreReplies (init_replies load)
init-replies load = (refl, replies-map kinds.Line (enumerate_from 0 load.lines))

pub rest-replies : (load : Load) →
    AreReplies
    (init_replies load ++ (single kinds.Systime ++ (task_replies load ++ single kinds.ModuleCount)))
rest-replies load =
    replies-append (init_replies load)
    (single kinds.Systime ++ (task_replies load ++ single kinds.ModuleCount)) (init-replies load) (
      refl,
      replies-append (task_replies load) (single kinds.ModuleCount)
          (replies-tasks (enumerate_from 0 load.tasks)) (refl, tt),
    )

command-replies : (load : Load) (byte param : ℕ) → AreReplies (command_answers load byte param)
command-replies load byte param =
    replies-if (byte == 3) (single kinds.Systime) _ (refl, tt)
    (replies-if (byte == 4) (task_replies load) _ (replies-tasks (enumerate_from 0 load.tasks))
    (replies-if (byte == 5) (init_replies load) _ (init-replies load)
    (replies-if (byte == 6) (single kinds.ModuleCount) _ (refl, tt)
    (replies-if (byte == 7) (replies_for kinds.Module load.modules) _
    (replies-map kinds.Module (enumerate_from 0 load.modules))
    (replies-if ((byte == 128) && nat_lt param (length load.modules))
    (Reply kinds.Module param ∷ []) [] (refl, tt) tt)))))

pub other-replies : (load : Load) (head : Origin) → AreReplies (other_answers load head)
other-replies load (Command byte param) = command-replies load byte param
other-replies load (Call writer step) = tt
other-replies load Sync = tt
other-replies load (Reply kind index) = tt
other-replies load (Overflow count) = tt
