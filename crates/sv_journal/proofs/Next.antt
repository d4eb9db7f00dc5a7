-- The items that may come next: a plain one, an overflow, and a packet after an overflow.
use Rattle.std.proofs.Common.{◌≡◌, ℕ, ◌≤◌, true, false, ◌&&◌, cond, List, [], ◌∷◌, refl, sym, ap}
use Rattle.std.proofs.Common.{◌∙◌}
use Rattle.std.specs.Prelude.{sum_by}
use Rattle.sv_load.specs.Load.{Load}
use Rattle.sv_journal.specs.declared.journal.Origin.{Origin}
use Rattle.sv_journal.specs.declared.journal.Origin.TheVariants.{Call, Sync, Reply, Overflow}
use Rattle.sv_journal.specs.declared.journal.Origin.TheVariants.{Command}
use Rattle.sv_journal.specs.declared.journal.Outcome.{Outcome}
use Rattle.sv_journal.specs.declared.journal.Item.{Item}
use Rattle.sv_journal.specs.Items.{is_overflow, is_refused, is_on, pending_at, is_after_overflow}
use Rattle.sv_journal.specs.Items.{is_after_refused_overflow, before_overflow, stored_before}
use Rattle.sv_journal.specs.Legal.{IsNextItem, owes_overflow, outcome_at, write_outcome, IsMoment}
use Rattle.sv_journal.specs.Legal.{IsNextStep, IsCount, IsCommandInPlace, overflow_moment}
use Rattle.sv_journal.specs.Legal.{freed_before, step_ticks}
use Rattle.sv_journal.proofs.Steps.{outcome_at-write}

-- the sum of the advances so far
abbrev pub ticks_at : Load → List Item → ℕ
ticks_at load items = sum_by (λ i. step_ticks load i.origin) items

before_overflow-fresh : (earlier : List Item) → is_after_overflow earlier ≡ false
    → before_overflow earlier ≡ earlier
before_overflow-fresh [] fresh = refl
before_overflow-fresh (i ∷ earlier) fresh = ap (λ b. cond b earlier (i ∷ earlier)) fresh

overflow_moment-fresh : (earlier : List Item) (moment : ℕ) → is_after_overflow earlier ≡ false
    → overflow_moment earlier moment ≡ moment
overflow_moment-fresh [] moment fresh = refl
overflow_moment-fresh (i ∷ earlier) moment fresh = ap (λ b. cond b i.moment moment) fresh

IsMoment-of : (load : Load) (earlier : List Item) (i : Item) (origin : Origin)
    → i.moment ≡ ticks_at load (i ∷ earlier) → IsMoment load earlier i origin
IsMoment-of load earlier i (Call writer step) e = e
IsMoment-of load earlier i Sync e = e
IsMoment-of load earlier i (Reply kind index) e = e
IsMoment-of load earlier i (Overflow count) e = tt
IsMoment-of load earlier i (Command byte param) e = e

IsCount-other : (earlier : List Item) (origin : Origin) → is_overflow origin ≡ false
    → IsCount earlier origin
IsCount-other earlier (Call writer step) other = tt
IsCount-other earlier Sync other = tt
IsCount-other earlier (Reply kind index) other = tt
IsCount-other earlier (Overflow count) other = cc
IsCount-other earlier (Command byte param) other = tt

-- an item after a refused overflow is not after a plain one
pub after_refused-fresh : (earlier : List Item) → is_after_overflow earlier ≡ false
    → is_after_refused_overflow earlier ≡ false
after_refused-fresh [] fresh = refl
after_refused-fresh (i ∷ earlier) fresh = ap (λ b. b && is_refused i.outcome) fresh

-- what both a plain item and one after an overflow have
pub record Stands (load : Load) (earlier : List Item) (i : Item) : Type 0 where
  pub other : is_overflow i.origin ≡ false
  pub command : IsCommandInPlace earlier i.origin
  pub step : IsNextStep load earlier i.origin
  pub moment : i.moment ≡ ticks_at load (i ∷ earlier)
  pub freed_rises : freed_before earlier ≤ i.freed
  pub freed_stored : i.freed ≤ stored_before load earlier
  pub outcome : i.outcome ≡ outcome_at load earlier i

-- an item with no overflow before it owes none
pub next-plain : (load : Load) (earlier : List Item) (i : Item) → Stands load earlier i
    → is_after_overflow earlier ≡ false → owes_overflow load earlier i ≡ false
    → IsNextItem load earlier i
next-plain load earlier i s fresh owes = record {
  command = s.command;
  step = s.step;
  moment = IsMoment-of load earlier i i.origin s.moment;
  overflow_moment = overflow_moment-fresh earlier i.moment fresh;
  freed_rises = s.freed_rises;
  freed_stored = s.freed_stored;
  outcome = s.outcome;
  count = IsCount-other earlier i.origin s.other;
  overflow = fresh ∙ sym (ap (λ es. owes_overflow load es i) (before_overflow-fresh earlier fresh)
      ∙ owes);
}

-- an overflow that counts what is pending
abbrev pub overflow_item : ℕ → ℕ → ℕ → Outcome → Item
overflow_item count moment freed outcome = record
    { origin = Overflow count; moment = moment; freed = freed; outcome = outcome }

pub next-overflow : (load : Load) (earlier : List Item) (count moment freed : ℕ) (outcome : Outcome)
    → count ≡ pending_at earlier → is_after_overflow earlier ≡ false → is_on load earlier ≡ true
    → freed_before earlier ≤ freed → freed ≤ stored_before load earlier
    → outcome ≡ write_outcome load earlier (overflow_item count moment freed outcome)
    → IsNextItem load earlier (overflow_item count moment freed outcome)
next-overflow load earlier count moment freed outcome counted fresh on rises stored written =
    let o : Item = overflow_item count moment freed outcome in
    record {
      command = tt;
      step = tt;
      moment = tt;
      overflow_moment = overflow_moment-fresh earlier moment fresh;
      freed_rises = rises;
      freed_stored = stored;
      outcome = written ∙ sym (outcome_at-write load earlier o refl on
          (after_refused-fresh earlier fresh));
      count = counted;
      overflow = fresh;
    }

-- the packet after an overflow
pub next-after : (load : Load) (earlier : List Item) (o i : Item) → is_overflow o.origin ≡ true
    → Stands load (o ∷ earlier) i → o.moment ≡ i.moment → owes_overflow load earlier i ≡ true
    → IsNextItem load (o ∷ earlier) i
next-after load earlier o i overflow s same owes = record {
  command = s.command;
  step = s.step;
  moment = IsMoment-of load (o ∷ earlier) i i.origin s.moment;
  overflow_moment = ap (λ b. cond b o.moment i.moment) overflow ∙ same;
  freed_rises = s.freed_rises;
  freed_stored = s.freed_stored;
  outcome = s.outcome;
  count = IsCount-other (o ∷ earlier) i.origin s.other;
  overflow = overflow ∙ sym (ap (λ b. owes_overflow load (cond b earlier (o ∷ earlier)) i) overflow
      ∙ owes);
}
