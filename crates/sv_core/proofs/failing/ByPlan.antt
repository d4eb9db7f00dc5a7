-- Items whose freed moves by a plan free by its numbers, or show where these fall short.
use Rattle.std.proofs.Common.{◌≡◌, ℕ, ◌+◌, ◌-◌, ◌≤◌, min, Bool, true, false, not, ◌⊎◌, inl, inr}
use Rattle.std.proofs.Common.{cond, List, [], ◌∷◌, ◌++◌, reverse, refl, sym, ap, ◌∙◌, subst, arith}
use Rattle.std.proofs.Common.{rules, append_assoc, append-nil}
use Rattle.std.specs.Prelude.{nat_lt}
use Rattle.sv_ring.specs.Ring.{Way, Plan, way_after, first_of, Moves}
use Rattle.sv_load.specs.Load.{Load}
use Rattle.sv_journal.specs.declared.journal.Item.{Item}
use Rattle.sv_journal.specs.Items.{is_stored, is_written, block_of, stream_before, stored_before}
use Rattle.sv_journal.specs.Items.{room_at}
use Rattle.sv_journal.specs.Legal.{EachItem}
use Rattle.sv_journal.specs.Frees.{written_freed, frees_before}
use Rattle.sv_journal.proofs.Shared.{reverse_moved, freed-written, frees-written}
use Rattle.sv_recorder.specs.Freed.{IsFreed, AreFreed, wrote_if, way_left}
use Rattle.sv_core.specs.Turns.{HasLatestFreed}
use Rattle.sv_core.specs.BadTurns.{IsAmiss, FallsShort}

-- an item that is not written leaves what is freed
freed-idle : (earlier : List Item) (i : Item) → is_written earlier i ≡ false →
    written_freed (i ∷ earlier) ≡ written_freed earlier
freed-idle earlier i e = ap (λ b. cond b i.freed (written_freed earlier)) e

frees-idle : (earlier : List Item) (i : Item) → is_written earlier i ≡ false →
    frees_before (i ∷ earlier) ≡ frees_before earlier
frees-idle earlier i e =
    ap (λ b. frees_before earlier ++ cond b ((i.freed - written_freed earlier) ∷ []) []) e
    ∙ append-nil (frees_before earlier)

-- SETTLED

-- of whatever way, items that are not written have the freed of the latest written item
pub record AreSettled (earlier : List Item) (now : ℕ) : Type 0 where
  pub each : EachItem HasLatestFreed earlier
  pub freed : now ≡ written_freed earlier

pub freed_settled :
    (load : Load) (earlier more : List Item) (way way_now : Way) (freed freed_now : ℕ) →
    AreFreed load earlier more way freed way_now freed_now
    → AreSettled earlier freed → AreSettled (reverse more ++ earlier) freed_now
freed_settled load earlier [] way way_now freed freed_now p s =
    record { each = s.each; freed = p.1 ∙ s.freed }
freed_settled load earlier (i ∷ more) way way_now freed freed_now p s =
    subst (λ is. AreSettled is freed_now) (sym (reverse_moved i more earlier))
    (freed_settled load (i ∷ earlier) more (way_left earlier i way) way_now i.freed freed_now p.1
    (record {
      each = (s.each, λ idle. p.0.1 (idle_is (is_written earlier i) idle) ∙ s.freed);
      freed = at (is_written earlier i) refl;
    })) where
      idle_is : (b : Bool) → not b ≡ true → b ≡ false
      idle_is true h = cc
      idle_is false h = refl

      at : (b : Bool) → is_written earlier i ≡ b → i.freed ≡ written_freed (i ∷ earlier)
      at true e = sym (freed-written earlier i e)
      at false e = p.0.1 e ∙ (s.freed ∙ sym (freed-idle earlier i e))

-- BY A PLAN

-- the numbers go on, and these are left; or they fall short at a place
pub record GoesOn (frees : List ℕ) (all : List Item) (way : Way) : Type 0 where
  pub left : List ℕ
  pub used : frees_before all ++ left ≡ frees
  pub rest : way ≡ Plan left

-- what a plan moves freed by
plan_moves :
    (load : Load) (earlier : List Item) (i : Item) (way : Way) (left : List ℕ) (freed : ℕ) →
    way ≡ Plan left → is_written earlier i ≡ true → IsFreed load earlier way freed i
    → i.freed ≡ freed + min (first_of left) (stored_before load earlier - freed)
plan_moves load earlier i way left freed same written p =
    subst
    (λ w.
    Moves w load.ring freed i.freed (stream_before load earlier) (block_of load earlier i)
    (wrote_if (is_stored i.outcome) (room_at load earlier i))) same (p.0 written)

pub planned :
    (load : Load) (frees left : List ℕ) (earlier more : List Item) (way way_now : Way)
    (freed freed_now : ℕ)
    → AreFreed load earlier more way freed way_now freed_now → way ≡ Plan left →
    freed ≡ written_freed earlier → frees_before earlier ++ left ≡ frees
    → GoesOn frees (reverse more ++ earlier) way_now ⊎
    FallsShort load frees (reverse more ++ earlier)
planned load frees left earlier [] way way_now freed freed_now p plan same used =
    inl (record { left = left; used = used; rest = p.0 ∙ plan })
planned load frees left earlier (i ∷ more) way way_now freed freed_now p plan same used =
    subst (λ is. GoesOn frees is way_now ⊎ FallsShort load frees is)
    (sym (reverse_moved i more earlier))
    (at (is_written earlier i) refl left plan used
    (λ left plan same used.
    planned load frees left (i ∷ earlier) more (way_left earlier i way) way_now i.freed freed_now
    p.1 plan same used)) where
      Goal : Type 0
      Goal =
          GoesOn frees (reverse more ++ (i ∷ earlier)) way_now ⊎
          FallsShort load frees (reverse more ++ (i ∷ earlier))

      short : (left : List ℕ) → is_written earlier i ≡ true → frees_before earlier ++ left ≡ frees →
          IsAmiss (stored_before load earlier - written_freed earlier) left → Goal
      short left e used amiss = inr (record {
        later = reverse more;
        item = i;
        earlier = earlier;
        left = left;
        place = refl;
        written = e;
        used = used;
        amiss = amiss;
      })

      -- the first number is that of this item
      fits : (n : ℕ) (left : List ℕ) → is_written earlier i ≡ true → way ≡ Plan (n ∷ left) →
          frees_before earlier ++ n ∷ left ≡ frees → (b : Bool) →
          nat_lt (stored_before load earlier - written_freed earlier) n ≡ b
          → ((left : List ℕ) → way_left earlier i way ≡ Plan left →
          i.freed ≡ written_freed (i ∷ earlier) → frees_before (i ∷ earlier) ++ left ≡ frees →
          Goal) → Goal
      fits n left e plan used true below rest = short (n ∷ left) e used (search (rules, below))
      fits n left e plan used false below rest =
          let moved : i.freed
          ≡ written_freed earlier + min n (stored_before load earlier - written_freed earlier) =
          plan_moves load earlier i way (n ∷ left) freed plan e p.0
          ∙ ap (λ f. f + min n (stored_before load earlier - f)) same in
          let least : n ≤ stored_before load earlier - written_freed earlier =
          search (rules, below) in
          let number : i.freed - written_freed earlier ≡ n =
          risen (written_freed earlier) n (stored_before load earlier - written_freed earlier)
          moved least in
          rest left (ap (λ b. cond b (way_after way) way) e ∙ ap way_after plan)
          (sym (freed-written earlier i e))
          (ap (λ ns. ns ++ left) (frees-written earlier i e)
          ∙ (append_assoc (frees_before earlier) ((i.freed - written_freed earlier) ∷ []) left
          ∙ (ap (λ m. frees_before earlier ++ m ∷ left) number ∙ used))) where
            risen : {f : ℕ} (w n s : ℕ) → f ≡ w + min n s → n ≤ s → f - w ≡ n
            risen w n s p q = omega arith

      at : (b : Bool) → is_written earlier i ≡ b → (left : List ℕ) → way ≡ Plan left →
          frees_before earlier ++ left ≡ frees
          → ((left : List ℕ) → way_left earlier i way ≡ Plan left →
          i.freed ≡ written_freed (i ∷ earlier) → frees_before (i ∷ earlier) ++ left ≡ frees →
          Goal) → Goal
      at true e [] plan used rest = short [] e used tt
      at true e (n ∷ left) plan used rest =
          fits n left e plan used (nat_lt (stored_before load earlier - written_freed earlier) n)
          refl rest
      at false e left plan used rest =
          rest left (ap (λ b. cond b (way_after way) way) e ∙ plan)
          (p.0.1 e ∙ (same ∙ sym (freed-idle earlier i e)))
          (ap (λ ns. ns ++ left) (frees-idle earlier i e) ∙ used)
