-- Moments never fall, and an overflow is owed: what an overflow's own clause leaves open the item
-- after it tells.
use Rattle.std.proofs.Common.{◌≡◌, ℕ, ◌<◌, ◌≤◌, Bool, true, false, not, ◌&&◌, cond, List, [], ◌∷◌}
use Rattle.std.proofs.Common.{refl, sym, ap, ◌∙◌, arith}
use Rattle.std.specs.Prelude.{nat_lt}
use Rattle.std.proofs.lemmas.Bool.Decides.{nat_tests}
use Rattle.sv_load.specs.Load.{Load}
use Rattle.sv_journal.specs.declared.journal.Item.{Item}
use Rattle.sv_journal.specs.Items.{is_sync, is_overflow, is_stored, is_packet, is_on, pending_at}
use Rattle.sv_journal.specs.Items.{last_moment, is_after_overflow}
use Rattle.sv_journal.specs.Legal.{EachItem, IsNextItem, owes_overflow}
use Rattle.sv_journal.proofs.Shared.{moment_is, no_overflow, ticks-before_overflow, ticks-cons}
use Rattle.sv_journal.proofs.Shared.{ticks_in}
use Rattle.sv_sent.proofs.places.Tests.{and_second}

pub record IsLater (load : Load) (earlier : List Item) (item : Item) : Type 0 where
  pub clock : ticks_in load earlier ≤ item.moment
  pub last : last_moment earlier ≤ item.moment
  pub told : is_overflow item.origin ≡ false → item.moment ≡ ticks_in load (item ∷ earlier)
  pub owed : is_overflow item.origin ≡ true → 0 < pending_at earlier

-- the items so far, none of which comes before those before it
pub record AreLater (load : Load) (earlier : List Item) : Type 0 where
  pub each : EachItem (IsLater load) earlier
  pub last : last_moment earlier ≤ ticks_in load earlier

last-by : (t : Bool) (earlier : List Item) (item : Item) →
    (is_stored item.outcome && not (is_sync item.origin)) ≡ t →
    last_moment (item ∷ earlier) ≡ cond t item.moment (last_moment earlier)
last-by true earlier item is = rw is refl
last-by false earlier item is = rw is refl

-- the last moment after an item is the item's, or the one before
pub last-within : (earlier : List Item) (item : Item) (most : ℕ) → item.moment ≤ most →
    last_moment earlier ≤ most → last_moment (item ∷ earlier) ≤ most
last-within earlier item most here before =
    by (is_stored item.outcome && not (is_sync item.origin)) refl
  where
    by : (t : Bool) → (is_stored item.outcome && not (is_sync item.origin)) ≡ t →
        last_moment (item ∷ earlier) ≤ most
    by true is = omega (arith, last-by true earlier item is)
    by false is = omega (arith, last-by false earlier item is)

-- what stands after an overflow owes it
pub owing : (load : Load) (earlier : List Item) (overflow item : Item) →
    IsNextItem load (overflow ∷ earlier) item → is_overflow overflow.origin ≡ true →
    owes_overflow load earlier item ≡ true
owing load earlier overflow item next over =
    sym
    (next.overflow ∙ ap (λ b. owes_overflow load (cond b earlier (overflow ∷ earlier)) item) over)
    ∙ over

positive : (n : ℕ) → nat_lt 0 n ≡ true → 0 < n
positive n is = grind (arith, nat_tests)

later-one : (load : Load) (earlier : List Item) (item : Item) → IsNextItem load earlier item →
    is_overflow item.origin ≡ false → AreLater load earlier → AreLater load (item ∷ earlier)
later-one load earlier item next other later =
    let now : item.moment ≡ ticks_in load (item ∷ earlier) =
    moment_is load earlier item item.origin other next.moment in
    let more = ticks-cons load item earlier in
    record {
      each = (
        later.each,
        record {
          clock = omega (arith, now, more);
          last = omega (arith, now, more, later.last);
          told = λ e. now;
          owed = λ e. absurd cc;
        },
      );
      last =
          last-within earlier item (ticks_in load (item ∷ earlier)) (omega (arith, now))
          (omega (arith, more, later.last));
    }

later-two : (load : Load) (earlier : List Item) (overflow item : Item) →
    IsNextItem load (overflow ∷ earlier) item → is_overflow overflow.origin ≡ true →
    is_overflow item.origin ≡ false → AreLater load earlier →
    AreLater load (item ∷ overflow ∷ earlier)
later-two load earlier overflow item next over other later =
    let now : item.moment ≡ ticks_in load (item ∷ overflow ∷ earlier) =
    moment_is load (overflow ∷ earlier) item item.origin other next.moment in
    let more = ticks-cons load item (overflow ∷ earlier) in
    let same : ticks_in load (overflow ∷ earlier) ≡ ticks_in load earlier =
    sym (ticks-before_overflow load (overflow ∷ earlier))
    ∙ ap (λ b. ticks_in load (cond b earlier (overflow ∷ earlier))) over in
    let moment : overflow.moment ≡ item.moment =
    sym (ap (λ b. cond b overflow.moment item.moment) over) ∙ next.overflow_moment in
    let last : last_moment (overflow ∷ earlier) ≤ item.moment =
    last-within earlier overflow item.moment (omega (arith, moment))
    (omega (arith, now, more, same, later.last)) in
    record {
      each = (
        (
          later.each,
          record {
            clock = omega (arith, now, more, same, moment);
            last = omega (arith, now, more, same, moment, later.last);
            told = λ e. absurd cc;
            owed =
                λ e.
                positive (pending_at earlier)
                (and_second (is_packet item && is_on load earlier)
                (nat_lt 0 (pending_at earlier)) (owing load earlier overflow item next over));
          },
        ),
        record {
          clock = omega (arith, now, more, same);
          last = last;
          told = λ e. now;
          owed = λ e. absurd cc;
        },
      );
      last =
          last-within (overflow ∷ earlier) item (ticks_in load (item ∷ overflow ∷ earlier))
          (omega (arith, now)) (omega (arith, now, last));
    }

pub all_later : (load : Load) (earlier : List Item) → EachItem (IsNextItem load) earlier →
    is_after_overflow earlier ≡ false → AreLater load earlier
all_later load [] each ends = record { each = tt; last = omega arith }
all_later load (i ∷ []) each ends =
    later-one load [] i each.1 ends (record { each = tt; last = omega arith })
all_later load (i ∷ o ∷ earlier) each ends = elim (is_overflow o.origin) as
    (λ b. is_overflow o.origin ≡ b → AreLater load (i ∷ o ∷ earlier)) [
      | true ↦ λ over.
          later-two load earlier o i each.1 over ends
          (all_later load earlier each.0.0 (no_overflow load earlier o over each.0.1))
      | false ↦ λ other.
          later-one load (o ∷ earlier) i each.1 ends (all_later load (o ∷ earlier) each.0 other)
    ] refl
