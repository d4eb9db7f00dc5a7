-- What becomes of an item, by what stands before it.
use Rattle.std.proofs.Common.{◌≡◌, Bool, true, false, ◌||◌, cond, List, length, refl, ap, ◌∙◌}
use Rattle.std.specs.Prelude.{nat_lt}
use Rattle.sv_load.specs.Load.{Load}
use Rattle.sv_journal.specs.declared.journal.Origin.{Origin}
use Rattle.sv_journal.specs.declared.journal.Origin.TheVariants.{Call, Sync, Reply, Overflow}
use Rattle.sv_journal.specs.declared.journal.Origin.TheVariants.{Command}
use Rattle.sv_journal.specs.declared.journal.Outcome.TheVariants.{Stored, Refused, Ignored, Handled}
use Rattle.sv_journal.specs.declared.journal.Item.{Item}
use Rattle.sv_journal.specs.Items.{is_sync, is_overflow, is_command, is_start, is_stop}
use Rattle.sv_journal.specs.Items.{is_stop_reply, is_on, is_after_refused_overflow, room_at}
use Rattle.sv_journal.specs.Items.{block_of}
use Rattle.sv_journal.specs.Legal.{is_control, outcome_at}
use Rattle.sv_journal.proofs.Shared.{outcome_at-control, outcome_at-off, outcome_at-after}
use Rattle.sv_journal.proofs.Shared.{outcome_at-write}

-- what became of an item, and why
pub data Fate (load : Load) (earlier : List Item) (item : Item) : Type 0 where
  handling : is_control load item.origin ≡ true → item.outcome ≡ Handled → Fate load earlier item
  ignoring : is_control load item.origin ≡ false → is_on load earlier ≡ false →
      item.outcome ≡ Ignored → Fate load earlier item
  refusing : is_control load item.origin ≡ false → is_on load earlier ≡ true →
      item.outcome ≡ Refused → Fate load earlier item
  storing : is_control load item.origin ≡ false → is_on load earlier ≡ true →
      is_after_refused_overflow earlier ≡ false → item.outcome ≡ Stored → Fate load earlier item

pub fate : (load : Load) (earlier : List Item) (item : Item) →
    item.outcome ≡ outcome_at load earlier item → Fate load earlier item
fate load earlier item is = by_control (is_control load item.origin) refl
  where
    by_room : is_control load item.origin ≡ false → is_on load earlier ≡ true →
        is_after_refused_overflow earlier ≡ false → (longer : Bool) →
        nat_lt (room_at load earlier item) (length (block_of load earlier item)) ≡ longer →
        Fate load earlier item
    by_room control on lost true longer =
        refusing control on
        (is
        ∙ outcome_at-write load earlier item control on lost
        ∙ ap (λ b. cond b Refused Stored) longer)
    by_room control on lost false fits =
        storing control on lost
        (is
        ∙ outcome_at-write load earlier item control on lost
        ∙ ap (λ b. cond b Refused Stored) fits)

    by_loss : is_control load item.origin ≡ false → is_on load earlier ≡ true → (lost : Bool) →
        is_after_refused_overflow earlier ≡ lost → Fate load earlier item
    by_loss control on true lost =
        refusing control on (is ∙ outcome_at-after load earlier item control on lost)
    by_loss control on false lost =
        by_room control on lost
        (nat_lt (room_at load earlier item) (length (block_of load earlier item))) refl

    by_on : is_control load item.origin ≡ false → (on : Bool) → is_on load earlier ≡ on →
        Fate load earlier item
    by_on control false off =
        ignoring control off (is ∙ outcome_at-off load earlier item control off)
    by_on control true on = by_loss control on (is_after_refused_overflow earlier) refl

    by_control : (control : Bool) → is_control load item.origin ≡ control → Fate load earlier item
    by_control true control =
        handling control (is ∙ outcome_at-control load earlier item control)
    by_control false control = by_on control (is_on load earlier) refl

pub start_off_control : (load : Load) (origin : Origin) → is_control load origin ≡ false →
    is_start load origin ≡ false
start_off_control load origin e =
    first (is_start load origin) (is_stop load origin) (is_command origin) e
  where
    first : (a b c : Bool) → ((a || b) || c) ≡ false → a ≡ false
    first false b c e = refl
    first true b c e = absurd cc

pub sync_is : (origin : Origin) → is_sync origin ≡ true → origin ≡ Sync
sync_is Sync e = refl
sync_is (Call writer step) e = absurd cc
sync_is (Reply kind index) e = absurd cc
sync_is (Overflow count) e = absurd cc
sync_is (Command byte param) e = absurd cc

pub overflow_plain : (load : Load) (origin : Origin) → is_overflow origin ≡ true →
    (is_control load origin ≡ false) × (is_sync origin ≡ false) × (is_stop_reply origin ≡ false)
overflow_plain load (Overflow count) e = (refl, refl, refl)
overflow_plain load (Call writer step) e = absurd cc
overflow_plain load Sync e = absurd cc
overflow_plain load (Reply kind index) e = absurd cc
overflow_plain load (Command byte param) e = absurd cc
