-- A step by its writer and place, and what a section leaves and shows.
use Rattle.std.proofs.Common.{◌≡◌, ℕ, ◌+◌, ◌-◌, ◌^◌, ◌<◌, ◌≤◌, List, length}
use Rattle.std.proofs.Common.{refl, sym, ap, ◌∙◌, subst, arith}
use Rattle.std.specs.Prelude.{count_by, slice_get, slice_index_or, Some}
use Rattle.sv_ring.specs.declared.up_writer.UpWriter.{Ghosts}
use Rattle.sv_load.specs.declared.load.Step.{Step}
use Rattle.sv_load.specs.Load.{Load, script_of}
use Rattle.sv_journal.specs.declared.journal.Item.{Item}
use Rattle.sv_journal.specs.declared.journal.Origin.TheVariants.{Call}
use Rattle.sv_journal.specs.Items.{latest_first, is_call_of}
use Rattle.sv_journal.proofs.Shared.{calls_within}
use Rattle.sv_recorder.specs.declared.answer.Answer.{Answer}
use Rattle.sv_recorder.specs.declared.book.Book.{Book}
use Rattle.sv_recorder.specs.Answer.{IsAnswered}
use Rattle.sv_recorder.specs.Book.{Advances}
use Rattle.sv_recorder.specs.Recording.{Recording}
use Rattle.sv_recorder.proofs.steps.Recorders.{Keeping, IsAt, place_count, count_latest}
use Rattle.sv_recorder.proofs.steps.Rows.{got}
use Rattle.sv_need.proofs.Shared.{script_short}

-- a place that is not the end is that of a step
pub at_place : (steps script : List Step) (place : ℕ) (step : Step) → steps ≡ script
    → place ≤ length script → (place ≡ length steps → ⊥) → step ≡ slice_index_or steps place step
    → slice_get script place ≡ Some step
at_place steps script place step is within not at =
    ap (λ (s : List Step). slice_get s place) (sym is)
    ∙ got steps place step (omega (arith, ap length is, within, not))
    ∙ ap (λ (s : Step). Some s) (sym at)

module _ {U : Type 0} {u : Ghosts U} where
  -- what contracts see of a book: its workload and its journal
  abbrev pub IsShown : Book U u → Recording → Type 0
  IsShown book view = (book.load.now ≡ view.load) × (book.journal.items ≡ view.items)

  -- a writer that is shown is there
  pub shown_writer : (old : Book U u) (writer : ℕ) (view : Recording) → IsShown old view
      → writer < length view.load.scripts → writer < length old.load.now.scripts
  shown_writer old writer view is within =
      subst (λ (l : Load). writer < length l.scripts) (sym is.0) within

  -- no place is behind the end of its script
  pub within_script : (old : Book U u) (places : List ℕ) (writer place : ℕ) → Keeping old places
      → writer < length old.load.now.scripts → place ≡ slice_index_or places writer 0
      → place ≤ length (script_of old.load.now writer)
  within_script old places writer place r there is = omega (
    arith,
    is,
    r.places_are writer there,
    count_latest (λ i. is_call_of writer i.origin) old.journal.items,
    calls_within old.load.now writer (latest_first old.journal.items) r.held.opened.each,
  )

  pub at_step : (old : Book U u) (places : List ℕ) (writer place : ℕ) (steps : List Step)
      (step : Step) → Keeping old places → writer < length old.load.now.scripts
      → place ≡ slice_index_or places writer 0 → steps ≡ script_of old.load.now writer
      → (place ≡ length steps → ⊥) → step ≡ slice_index_or steps place step
      → IsAt old places writer place step
  at_step old places writer place steps step r there is script not at = record {
    kept = r;
    there = there;
    place_is = is;
    step_is = at_place steps (script_of old.load.now writer) place step script
        (within_script old places writer place r there is) not at;
  }

  pub answered_shown : (old mid new : Book U u) (places : List ℕ) (writer place : ℕ) (step : Step)
      (answer : Answer) (view : Recording) → IsShown old view → IsAt old places writer place step
      → Advances step.advance old mid
      → IsAnswered mid.load.now mid.journal.items new.journal.items (Call writer place) answer
      → IsAnswered view.load view.items new.journal.items
      (Call writer (count_by (λ i. is_call_of writer i.origin) view.items)) answer
  answered_shown old mid new places writer place step answer view is at a told =
      let answered : IsAnswered old.load.now old.journal.items new.journal.items (Call writer place)
      answer = rw (a.load, a.journal) at told in
      subst (λ (is : List Item). IsAnswered view.load is new.journal.items
      (Call writer (count_by (λ i. is_call_of writer i.origin) is)) answer) is.1
      (subst (λ (l : Load). IsAnswered l old.journal.items new.journal.items
      (Call writer (count_by (λ i. is_call_of writer i.origin) old.journal.items)) answer) is.0
      (subst (λ (n : ℕ). IsAnswered old.load.now old.journal.items new.journal.items (Call writer n)
      answer) (place_count old places writer place step at) answered))

  -- a script is through where its writer's place is its end
  pub through_at : (old : Book U u) (places : List ℕ) (writer place : ℕ) (steps : List Step)
      (view : Recording)
      → IsShown old view → Keeping old places → writer < length old.load.now.scripts
      → place ≡ slice_index_or places writer 0 → steps ≡ script_of old.load.now writer
      → (place ≡ length steps → count_by (λ i. is_call_of writer i.origin) view.items
      ≡ length (script_of view.load writer))
      × (count_by (λ i. is_call_of writer i.origin) view.items
      ≡ length (script_of view.load writer) → place ≡ length steps)
  through_at old places writer place steps view is r there place_is script =
      let at : place ≡ count_by (λ i. is_call_of writer i.origin) old.journal.items =
      place_is ∙ r.places_are writer there in
      let calls = ap (count_by (λ (i : Item). is_call_of writer i.origin)) is.1 in
      let steps_are = ap (λ (l : Load). length (script_of l writer)) is.0 in (
        λ end. sym calls ∙ sym at ∙ end ∙ ap length script ∙ steps_are,
        λ end. at ∙ calls ∙ end ∙ sym steps_are ∙ sym (ap length script),
      )

  -- a script's steps can be counted
  pub script_fits : (old : Book U u) (places : List ℕ) (writer : ℕ) (steps : List Step)
      → Keeping old places → writer < length old.load.now.scripts
      → steps ≡ script_of old.load.now writer → length steps < 2 ^ 32
  script_fits old places writer steps r there script = omega (
    arith,
    ap length script,
    script_short old.load.now writer there r.limits,
  )

  -- what is left of a script
  pub left_shown : (old : Book U u) (places : List ℕ) (writer : ℕ) (steps : List Step)
      (view : Recording)
      → IsShown old view → Keeping old places → writer < length old.load.now.scripts
      → steps ≡ script_of old.load.now writer
      → length steps - slice_index_or places writer 0
      + count_by (λ i. is_call_of writer i.origin) view.items ≡ length (script_of view.load writer)
  left_shown old places writer steps view is r there script =
      let most = within_script old places writer (slice_index_or places writer 0) r there refl in
      subst (λ (is : List Item). length steps - slice_index_or places writer 0
      + count_by (λ i. is_call_of writer i.origin) is ≡ length (script_of view.load writer)) is.1
      (subst (λ (l : Load). length steps - slice_index_or places writer 0
      + count_by (λ i. is_call_of writer i.origin) old.journal.items ≡ length
      (script_of l writer)) is.0
      (left_is (length steps) (slice_index_or places writer 0)
      (count_by (λ i. is_call_of writer i.origin) old.journal.items)
      (length (script_of old.load.now writer)) (ap length script) (r.places_are writer there) most))
    where
      left_is : (n p k m : ℕ) → n ≡ m → p ≡ k → p ≤ m → n - p + k ≡ m
      left_is n p k m same at most = omega (arith, same, at, most)
