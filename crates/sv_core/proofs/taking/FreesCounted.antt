-- The frees of turns that the items of a journal use, counted item by item.
use Rattle.std.proofs.Common.{◌≡◌, ℕ, ◌+◌, ◌-◌, ◌<◌, ◌≤◌, Bool, true, false, ◌&&◌, cond, List, []}
use Rattle.std.proofs.Common.{◌∷◌, ◌++◌, length, take, drop, zero, suc, append_assoc, append-nil}
use Rattle.std.proofs.Common.{refl, sym, ap, ◌∙◌, subst, arith}
use Rattle.std.specs.Prelude.{slice_index_or}
use Rattle.std.proofs.lemmas.Option.{slice_get-get_or}
use Rattle.std.proofs.lemmas.List.{take-append-drop, append_cancel_left, take_all}
use Rattle.std.proofs.Math.Seq.{take-append_seam}
use Rattle.sv_journal.specs.declared.journal.Item.{Item}
use Rattle.sv_journal.specs.Items.{latest_first, is_written, is_overflow, is_refused}
use Rattle.sv_journal.specs.Items.{is_after_refused_overflow}
use Rattle.sv_journal.specs.Frees.{written_freed, frees_before}
use Rattle.sv_journal.proofs.Shared.{latest_first-push}
use Rattle.sv_core.specs.Used.{HasUsed, IsUsing, IsUsingOthers}
use Rattle.sv_core.proofs.failing.BadTurns.{take_one}
use Rattle.sv_core.proofs.own_turns.TurnsPushed.{frees_push, freed_push}
use Rattle.sv_core.proofs.own_turns.Gathered.{taken}

pub counted-none : (frees : List ℕ) → HasUsed [] frees 0 0 false
counted-none frees =
    record { using = refl; most = omega arith; freed_is = refl; after_lost_is = refl }

-- an item that is not written
pub counted-idle :
    (all : List Item) (frees : List ℕ) (k : ℕ) (d : Item) (count freed : ℕ)
    (after_lost lost : Bool) → k < length all →
    HasUsed (take k all) frees count freed after_lost
    → ((earlier : List Item) → is_after_refused_overflow earlier ≡ after_lost →
    is_written earlier (slice_index_or all k d) ≡ false)
    → lost
    ≡ (is_overflow (slice_index_or all k d).origin &&
    is_refused (slice_index_or all k d).outcome) →
    HasUsed (take (k + 1) all) frees count freed lost
counted-idle all frees k d count freed after_lost lost below t is lost_is =
    let idle = is (latest_first (take k all)) (sym t.after_lost_is) in
    subst (λ is. HasUsed is frees count freed lost) (sym (taken all k d below)) (record {
      using =
          frees_push (take k all) (slice_index_or all k d)
          ∙ (ap
          (λ b. frees_before (latest_first (take k all))
          ++ cond b
          (((slice_index_or all k d).freed - written_freed (latest_first (take k all))) ∷ [])
          []) idle ∙ (append-nil (frees_before (latest_first (take k all))) ∙ t.using));
      most = t.most;
      freed_is =
          t.freed_is
          ∙ sym
          (freed_push (take k all) (slice_index_or all k d)
          ∙ ap
          (λ b.
          cond b (slice_index_or all k d).freed (written_freed (latest_first (take k all)))) idle);
      after_lost_is =
          lost_is
          ∙ sym
          (ap is_after_refused_overflow
          (latest_first-push (take k all) (slice_index_or all k d)));
    })

-- the number of a written item
next_free :
    (all : List Item) (frees : List ℕ) (k : ℕ) (d : Item) (count freed : ℕ) (after_lost : Bool) →
    k < length all → HasUsed (take k all) frees count freed after_lost
    → ((earlier : List Item) → is_after_refused_overflow earlier ≡ after_lost →
    is_written earlier (slice_index_or all k d) ≡ true)
    → frees_before (latest_first (take (k + 1) all))
    ≡ take count frees ++ ((slice_index_or all k d).freed - freed) ∷ []
next_free all frees k d count freed after_lost below t is =
    ap (λ is. frees_before (latest_first is)) (taken all k d below)
    ∙ (frees_push (take k all) (slice_index_or all k d)
    ∙ (ap
    (λ b. frees_before (latest_first (take k all))
    ++ cond b (((slice_index_or all k d).freed - written_freed (latest_first (take k all))) ∷ [])
    []) (is (latest_first (take k all)) (sym t.after_lost_is))
    ∙ (ap
    (λ ns. ns ++ ((slice_index_or all k d).freed - written_freed (latest_first (take k all))) ∷ [])
    t.using
    ∙ ap (λ n. take count frees ++ ((slice_index_or all k d).freed - n) ∷ []) (sym t.freed_is))))

-- a written item whose number is the next one
pub counted-more :
    (all : List Item) (frees : List ℕ) (k : ℕ) (d : Item) (count freed n : ℕ)
    (after_lost lost : Bool) → k < length all →
    HasUsed (take k all) frees count freed after_lost
    → ((earlier : List Item) → is_after_refused_overflow earlier ≡ after_lost →
    is_written earlier (slice_index_or all k d) ≡ true)
    → count < length frees → (slice_index_or all k d).freed - freed ≡ slice_index_or frees count n
    → lost
    ≡ (is_overflow (slice_index_or all k d).origin &&
    is_refused (slice_index_or all k d).outcome) →
    HasUsed (take (k + 1) all) frees (count + 1) (slice_index_or all k d).freed lost
counted-more all frees k d count freed n after_lost lost below t is few same lost_is = record {
  using =
      next_free all frees k d count freed after_lost below t is
      ∙ (ap (λ m. take count frees ++ m ∷ []) same ∙ sym (next_taken frees count n few));
  most = omega (arith, few);
  freed_is =
      sym
      (ap (λ is. written_freed (latest_first is)) (taken all k d below)
      ∙ (freed_push (take k all) (slice_index_or all k d)
      ∙ ap (λ b. cond b (slice_index_or all k d).freed (written_freed (latest_first (take k all))))
      (is (latest_first (take k all)) (sym t.after_lost_is))));
  after_lost_is =
      lost_is
      ∙ sym
      (ap (λ is. is_after_refused_overflow (latest_first is)) (taken all k d below)
      ∙ ap is_after_refused_overflow (latest_first-push (take k all) (slice_index_or all k d)));
} where
  next_taken : (frees : List ℕ) (count n : ℕ) → count < length frees →
      take (count + 1) frees ≡ take count frees ++ slice_index_or frees count n ∷ []
  next_taken frees count n few = let next : count + 1 ≡ suc count = omega arith in
      ap (λ m. take m frees) next
      ∙ take_one count frees (slice_index_or frees count n) (slice_get-get_or frees count n few)

-- the frees of a front are the first ones of all
frees_longer : (front more : List Item) →
    (ns : List ℕ) ×
    (frees_before (latest_first (front ++ more)) ≡ frees_before (latest_first front) ++ ns)
frees_longer front [] = (
  [],
  ap (λ is. frees_before (latest_first is)) (append-nil front)
      ∙ sym (append-nil (frees_before (latest_first front))),
)
frees_longer front (i ∷ more) =
    let rest = frees_longer (front ++ i ∷ []) more in
    let here : List ℕ =
    cond (is_written (latest_first front) i)
    ((i.freed - written_freed (latest_first front)) ∷ []) [] in (
      here ++ rest.0,
      ap (λ is. frees_before (latest_first is)) (sym (append_assoc front (i ∷ []) more))
          ∙ (rest.1
          ∙ (ap (λ ns. ns ++ rest.0) (frees_push front i)
          ∙ append_assoc (frees_before (latest_first front)) here rest.0)),
    )

-- a written item whose number is not the next one, or there is none
pub counted-other :
    (all : List Item) (frees : List ℕ) (k : ℕ) (d : Item) (count freed : ℕ) (after_lost : Bool) →
    k < length all → HasUsed (take k all) frees count freed after_lost
    → ((earlier : List Item) → is_after_refused_overflow earlier ≡ after_lost →
    is_written earlier (slice_index_or all k d) ≡ true)
    → (count < length frees →
    (slice_index_or all k d).freed - freed ≡ slice_index_or frees count 0 → ⊥) →
    IsUsingOthers all frees
counted-other all frees k d count freed after_lost below t is other = λ left used.
    let more = frees_longer (take (k + 1) all) (drop (k + 1) all) in
    let whole : frees_before (latest_first all)
    ≡ (take count frees ++ ((slice_index_or all k d).freed - freed) ∷ []) ++ more.0 =
    ap (λ is. frees_before (latest_first is)) (sym (take-append-drop (k + 1) all))
    ∙ (more.1
    ∙ ap (λ ns. ns ++ more.0) (next_free all frees k d count freed after_lost below t is)) in
    let split : take count frees ++ (((slice_index_or all k d).freed - freed) ∷ (more.0 ++ left))
    ≡ take count frees ++ drop count frees =
    sym
    (append_assoc (take count frees) (((slice_index_or all k d).freed - freed) ∷ [])
    (more.0 ++ left))
    ∙ (sym
    (append_assoc (take count frees ++ ((slice_index_or all k d).freed - freed) ∷ []) more.0 left)
    ∙ (ap (λ ns. ns ++ left) (sym whole) ∙ (used ∙ sym (take-append-drop count frees)))) in
    let tail : ((slice_index_or all k d).freed - freed) ∷ (more.0 ++ left) ≡ drop count frees =
    append_cancel_left (take count frees)
    (((slice_index_or all k d).freed - freed) ∷ (more.0 ++ left)) (drop count frees)
    split in
    clash frees count ((slice_index_or all k d).freed - freed) (more.0 ++ left) tail other where
      clash : (frees : List ℕ) (count n : ℕ) (rest : List ℕ) → n ∷ rest ≡ drop count frees →
          (count < length frees → n ≡ slice_index_or frees count 0 → ⊥) → ⊥
      clash [] zero n rest e other = cc
      clash [] (suc count) n rest e other = cc
      clash (m ∷ frees) zero n rest e other = let same : n ≡ m = cc in other (omega arith) same
      clash (m ∷ frees) (suc count) n rest e other =
          clash frees count n rest e (λ few same. other (omega (arith, few)) same)

-- all of them
pub counted-all : (all : List Item) (frees : List ℕ) (k count freed : ℕ) (after_lost : Bool) →
    length all ≤ k → HasUsed (take k all) frees count freed after_lost → IsUsing all frees count
counted-all all frees k count freed after_lost whole t =
    (ap (λ is. frees_before (latest_first is)) (sym (take_all k all whole)) ∙ t.using, t.most)

-- the items of before are the first ones of those that follow
pub counted-front : (before after more : List Item) (frees : List ℕ) (count freed : ℕ)
    (after_lost : Bool) → after ≡ before ++ more → HasUsed before frees count freed after_lost
    → HasUsed (take (length before) after) frees count freed after_lost
counted-front before after more frees count freed after_lost longer counted =
    subst (λ is. HasUsed is frees count freed after_lost)
    (sym (ap (take (length before)) longer ∙ take-append_seam before more)) counted

pub counted-use : (items : List Item) (frees : List ℕ) (count freed : ℕ) (after_lost : Bool)
    → HasUsed items frees count freed after_lost → IsUsing items frees count
counted-use items frees count freed after_lost counted = (counted.using, counted.most)
