-- The turns of a journal, gathered item by item.
use Rattle.std.proofs.Common.{◌≡◌, ℕ, ◌+◌, ◌-◌, ◌<◌, ◌≤◌, ◌^◌, Bool, true, false, ◌&&◌, cond, List}
use Rattle.std.proofs.Common.{[], ◌∷◌, ◌++◌, length, take, drop, suc, refl, sym, ap, ◌∙◌, subst}
use Rattle.std.proofs.Common.{arith}
use Rattle.std.specs.Prelude.{reverse, slice_index_or}
use Rattle.std.proofs.lemmas.Option.{slice_get-get_or}
use Rattle.std.proofs.lemmas.List.{reverse-append, take-append-drop}
use Rattle.sv_journal.specs.declared.journal.Item.{Item}
use Rattle.sv_journal.specs.Items.{latest_first, is_written, is_overflow, is_refused}
use Rattle.sv_journal.specs.Items.{is_after_refused_overflow}
use Rattle.sv_journal.specs.Legal.{EachItem}
use Rattle.sv_journal.specs.Frees.{written_freed, frees_before}
use Rattle.sv_journal.proofs.Shared.{latest_first-push, each-front}
use Rattle.sv_core.specs.Turns.{StepTurn, step_turns}
use Rattle.sv_core.specs.Turned.{asked_last, turns_with, RisesLittle}
use Rattle.sv_core.proofs.failing.BadTurns.{take_one}
use Rattle.sv_core.proofs.own_turns.TurnsPushed.{turns_push, frees_push, freed_push}

-- the last of these
asked_push : (ts : List StepTurn) (t : StepTurn) →
    asked_last (ts ++ t ∷ []) ≡ ts ++ record t { command = true } ∷ []
asked_push [] t = refl
asked_push (u ∷ []) t = refl
asked_push (u ∷ v ∷ ts) t = ap (λ us. u ∷ us) (asked_push (v ∷ ts) t)

pub asked-last : (steps : List StepTurn) (last : StepTurn)
    → steps ++ record last { command = true } ∷ [] ≡ asked_last (steps ++ last ∷ [])
asked-last steps last = sym (asked_push steps last)

-- what is gathered of these items
pub record IsTurned (done : List Item) (steps : List StepTurn) (frees : List ℕ) (freed : ℕ)
    (after_lost : Bool) : Type 0 where
  pub steps_are : steps ≡ step_turns done
  pub frees_are : frees ≡ frees_before (latest_first done)
  pub freed_is : freed ≡ written_freed (latest_first done)
  pub after_lost_is : after_lost ≡ is_after_refused_overflow (latest_first done)

pub turned-none : IsTurned [] [] [] 0 false
turned-none = record { steps_are = refl; frees_are = refl; freed_is = refl; after_lost_is = refl }

-- one item more
pub turned-more :
    (done : List Item) (i : Item) (steps now : List StepTurn) (frees frees_now : List ℕ)
    (freed freed_now : ℕ) (after_lost written : Bool) →
    IsTurned done steps frees freed after_lost
    → now ≡ turns_with i.origin steps → is_written (latest_first done) i ≡ written →
    frees_now ≡ frees ++ cond written ((i.freed - freed) ∷ []) [] →
    freed_now ≡ cond written i.freed freed
    → IsTurned (done ++ i ∷ []) now frees_now freed_now
    (is_overflow i.origin && is_refused i.outcome)
turned-more done i steps now frees frees_now freed freed_now after_lost written t turns is more
    rise = record {
      steps_are = turns ∙ (ap (turns_with i.origin) t.steps_are ∙ sym (turns_push done i));
      frees_are = more ∙ (ap (λ ns. ns ++ cond written ((i.freed - freed) ∷ []) []) t.frees_are
          ∙ (ap (λ n. frees_before (latest_first done) ++ cond written ((i.freed - n) ∷ []) [])
          t.freed_is
          ∙ (ap
          (λ b. frees_before (latest_first done)
          ++ cond b ((i.freed - written_freed (latest_first done)) ∷ []) []) (sym is)
          ∙ sym (frees_push done i))));
      freed_is =
          rise
          ∙ (ap (λ n. cond written i.freed n) t.freed_is
          ∙ (ap (λ b. cond b i.freed (written_freed (latest_first done))) (sym is)
          ∙ sym (freed_push done i)));
      after_lost_is = sym (ap is_after_refused_overflow (latest_first-push done i));
    }

-- what holds of each holds of a front and the item after_lost it
pub each-here : (P : List Item → Item → Type 0) (done rest : List Item) (i : Item) →
    EachItem P (latest_first ((done ++ i ∷ []) ++ rest)) → P (latest_first done) i
each-here P done rest i each =
    let front : EachItem P (latest_first (done ++ i ∷ [])) =
    each-front P (reverse rest) (latest_first (done ++ i ∷ []))
    (subst (EachItem P) (reverse-append (done ++ i ∷ []) rest) each) in
    let here : EachItem P (i ∷ latest_first done) =
    subst (EachItem P) (latest_first-push done i) front in
    here.1

-- IN A LOOP

pub taken : (all : List Item) (k : ℕ) (d : Item) → k < length all →
    take (k + 1) all ≡ take k all ++ slice_index_or all k d ∷ []
taken all k d below =
    ap (λ n. take n all) next
    ∙ take_one k all (slice_index_or all k d) (slice_get-get_or all k d below) where
      next : k + 1 ≡ suc k
      next = omega arith

pub turned-at :
    (all : List Item) (k : ℕ) (d : Item) (steps now : List StepTurn) (frees frees_now : List ℕ)
    (freed freed_now : ℕ) (after_lost lost written : Bool) → k < length all →
    IsTurned (take k all) steps frees freed after_lost
    → now ≡ turns_with (slice_index_or all k d).origin steps →
    ((earlier : List Item) → is_after_refused_overflow earlier ≡ after_lost →
    is_written earlier (slice_index_or all k d) ≡ written)
    → frees_now ≡ frees ++ cond written (((slice_index_or all k d).freed - freed) ∷ []) [] →
    freed_now ≡ cond written (slice_index_or all k d).freed freed
    → lost
    ≡ (is_overflow (slice_index_or all k d).origin &&
    is_refused (slice_index_or all k d).outcome) →
    IsTurned (take (k + 1) all) now frees_now freed_now lost
turned-at all k d steps now frees frees_now freed freed_now after_lost lost written below t turns is
    more rise after_lost_is =
    subst (λ is. IsTurned is now frees_now freed_now lost) (sym (taken all k d below))
    (subst (IsTurned (take k all ++ slice_index_or all k d ∷ []) now frees_now freed_now)
    (sym after_lost_is)
    (turned-more (take k all) (slice_index_or all k d) steps now frees frees_now freed freed_now
    after_lost written t turns (is (latest_first (take k all)) (sym t.after_lost_is)) more rise))

pub rises-at :
    (all : List Item) (k : ℕ) (d : Item) (steps : List StepTurn) (frees : List ℕ) (freed : ℕ)
    (after_lost : Bool) → k < length all → IsTurned (take k all) steps frees freed after_lost
    → EachItem RisesLittle (latest_first all) →
    ((earlier : List Item) → is_after_refused_overflow earlier ≡ after_lost →
    is_written earlier (slice_index_or all k d) ≡ true)
    → (freed ≤ (slice_index_or all k d).freed) × ((slice_index_or all k d).freed < freed + 2 ^ 32)
rises-at all k d steps frees freed after_lost below t each is =
    subst
    (λ n. (n ≤ (slice_index_or all k d).freed) × ((slice_index_or all k d).freed < n + 2 ^ 32))
    (sym t.freed_is)
    (here (is (latest_first (take k all)) (sym t.after_lost_is))) where
      whole : all ≡ (take k all ++ slice_index_or all k d ∷ []) ++ drop (k + 1) all
      whole =
          sym (take-append-drop (k + 1) all)
          ∙ ap (λ is. is ++ drop (k + 1) all) (taken all k d below)

      here : RisesLittle (latest_first (take k all)) (slice_index_or all k d)
      here =
          each-here RisesLittle (take k all) (drop (k + 1) all) (slice_index_or all k d)
          (subst (λ is. EachItem RisesLittle (latest_first is)) whole each)
