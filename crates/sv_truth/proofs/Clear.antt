-- What stands before a packet that is recorded: nothing is pending, or an overflow was stored
-- directly before.
use Rattle.std.proofs.Common.{◌≡◌, ℕ, Bool, true, false, ◌&&◌, ◌||◌, cond, List, [], ◌∷◌, refl, sym}
use Rattle.std.proofs.Common.{ap, subst, ◌∙◌, arith, ◌⊎◌, inl, inr}
use Rattle.std.specs.Prelude.{nat_lt}
use Rattle.std.proofs.lemmas.Bool.Decides.{nat_tests}
use Rattle.sv_load.specs.Load.{Load}
use Rattle.sv_journal.specs.declared.journal.Item.{Item}
use Rattle.sv_journal.specs.Items.{is_overflow, is_stored, is_refused, is_packet, is_on, pending_at}
use Rattle.sv_journal.specs.Items.{is_after_overflow, is_after_refused_overflow, event_of}
use Rattle.sv_journal.specs.Legal.{EachItem, is_control, owes_overflow}
use Rattle.sv_journal.specs.Stream.{is_synced, events_before}
use Rattle.sv_journal.proofs.Shared.{is_on-off}
use Rattle.sv_sent.proofs.Shared.{Fate, IsPlaced, event-told, fate, handling, ignoring, at_time}
use Rattle.sv_sent.proofs.Shared.{overflow_plain, refusing, start_off_control, storing}
use Rattle.sv_truth.specs.Truth.{calls_before}
use Rattle.sv_truth.proofs.Facts.{unsynced}
use Rattle.sv_truth.proofs.Agreeing.{Agree, IsBlank, agree-blank, blank-break, blank-none}
use Rattle.sv_truth.proofs.Intact.{IsDecided, intact}
use Rattle.sv_truth.proofs.Telling.{overflow_breaks, HasNoBreaks}

pub decided : (load : Load) (earlier : List Item) → EachItem (IsPlaced load) earlier →
    EachItem (IsDecided load) earlier
decided load [] each = tt
decided load (i ∷ earlier) each = (decided load earlier each.0, each.1.next.outcome)

none-pending : (n : ℕ) → nat_lt 0 n ≡ false → n ≡ 0
none-pending n is = grind (arith, nat_tests)

-- directly before stands a stored overflow of the same moment
pub record IsTold (load : Load) (earlier : List Item) (item : Item) : Type 0 where
  pub overflow : Item
  pub rest : List Item
  pub whole : earlier ≡ overflow ∷ rest
  pub over : is_overflow overflow.origin ≡ true
  pub stored : is_stored overflow.outcome ≡ true
  pub moment : overflow.moment ≡ item.moment

-- before a packet that is recorded nothing is pending, or an overflow was stored
abbrev pub IsClear : Load → List Item → Item → Type 0
IsClear load earlier item =
    ((pending_at earlier ≡ 0) × (is_after_overflow earlier ≡ false)) ⊎ IsTold load earlier item

pub clear : (load : Load) (earlier : List Item) (item : Item) → EachItem (IsPlaced load) earlier →
    IsPlaced load earlier item → is_packet item ≡ true → is_on load earlier ≡ true →
    is_after_refused_overflow earlier ≡ false → IsClear load earlier item
clear load [] item each here packet on lost = inl (refl, refl)
clear load (o ∷ rest) item each here packet on lost =
    elim (is_overflow o.origin) as (λ b. is_overflow o.origin ≡ b → IsClear load (o ∷ rest) item) [
      | false ↦ λ other.
          let owes : false ≡ owes_overflow load (o ∷ rest) item =
          sym other ∙ here.next.overflow
          ∙ ap (λ b. owes_overflow load (cond b rest (o ∷ rest)) item) other in
          let none : nat_lt 0 (pending_at (o ∷ rest)) ≡ false =
          sym (owes
          ∙ ap (λ b. b && is_on load (o ∷ rest) && nat_lt 0 (pending_at (o ∷ rest))) packet
          ∙ ap (λ b. b && nat_lt 0 (pending_at (o ∷ rest))) on) in
          inl (none-pending (pending_at (o ∷ rest)) none, other)
      | true ↦ λ over. told over (fate load rest o each.1.next.outcome)
    ] refl
  where
    told : is_overflow o.origin ≡ true → Fate load rest o → IsClear load (o ∷ rest) item
    told over (handling control out) = let plain : is_control load o.origin ≡ false =
        (overflow_plain load o.origin over).0 in absurd cc
    told over (ignoring control off out) = let now : is_on load (o ∷ rest) ≡ false =
        is_on-off load rest o (start_off_control load o.origin control) off in absurd cc
    told over (refusing control was out) =
        let now : is_after_refused_overflow (o ∷ rest) ≡ true =
        ap (λ b. b && is_refused o.outcome) over ∙ ap is_refused out in
        absurd cc
    told over (storing control was free out) = inr (record {
      overflow = o;
      rest = rest;
      whole = refl;
      over = over;
      stored = ap is_stored out;
      moment = sym (ap (λ b. cond b o.moment item.moment) over) ∙ here.next.overflow_moment;
    })

-- after a stored overflow nothing is told
blank-told : (load : Load) (earlier : List Item) (o : Item) → is_overflow o.origin ≡ true →
    is_stored o.outcome ≡ true → IsBlank (events_before load (o ∷ earlier))
blank-told load earlier o over stored = by (is_synced earlier) refl
  where
    by : (t : Bool) → is_synced earlier ≡ t → IsBlank (events_before load (o ∷ earlier))
    by true synced =
        subst IsBlank
        (sym (event-told load earlier o stored synced (overflow_plain load o.origin over).1))
        (blank-break (events_before load earlier) (at_time o.moment (event_of load o))
        (overflow_breaks load o.moment o.origin over))
    by false none =
        subst IsBlank
        (sym (unsynced load (o ∷ earlier)
        (ap (λ b. b || is_synced earlier) (overflow_plain load o.origin over).1 ∙ none))) blank-none

-- where a packet is recorded, the events that were sent agree with all calls
pub agree-here : (load : Load) (earlier : List Item) (item : Item) → HasNoBreaks load →
    EachItem (IsPlaced load) earlier → IsClear load earlier item →
    Agree (events_before load earlier) (calls_before load earlier)
agree-here load earlier item plain each (inl (none, other)) =
    (intact load earlier plain (decided load earlier each)).agree none
agree-here load earlier item plain each (inr t) =
    agree-blank (events_before load earlier) (calls_before load earlier)
    (subst (λ (es : List Item). IsBlank (events_before load es)) (sym t.whole)
    (blank-told load t.rest t.overflow t.over t.stored))
