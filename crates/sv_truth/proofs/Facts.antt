-- What items are by what became of them.
use Rattle.std.proofs.Common.{◌≡◌, Bool, true, false, ◌&&◌, ◌||◌, List, [], ◌∷◌, ◌++◌, refl, rules}
use Rattle.std.proofs.Common.{sym, ap, ◌∙◌}
use Rattle.sv_load.specs.Load.{Load}
use Rattle.sv_journal.specs.declared.journal.Origin.{Origin}
use Rattle.sv_journal.specs.declared.journal.Origin.TheVariants.{Call, Sync, Reply, Overflow}
use Rattle.sv_journal.specs.declared.journal.Origin.TheVariants.{Command}
use Rattle.sv_journal.specs.declared.journal.Outcome.{Outcome}
use Rattle.sv_journal.specs.declared.journal.Outcome.TheVariants.{Stored, Refused}
use Rattle.sv_journal.specs.declared.journal.Item.{Item}
use Rattle.sv_journal.specs.Items.{is_stored, is_sync, is_overflow, is_start, is_stop}
use Rattle.sv_journal.specs.Items.{is_stop_reply, holds_packet, is_packet}
use Rattle.sv_journal.specs.Legal.{EachItem, is_control}
use Rattle.sv_journal.specs.Stream.{events_before, is_synced}
use Rattle.sv_sent.proofs.Shared.{and_no, clash, events-kept, or_last}

pub stop_is_packet : (item : Item) → is_stop_reply item.origin ≡ true → is_packet item ≡ true
stop_is_packet item stop = by item.origin item.outcome stop
  where
    by : (origin : Origin) (outcome : Outcome) → is_stop_reply origin ≡ true →
        holds_packet origin outcome ≡ true
    by (Reply kind index) outcome e = refl
    by (Call writer step) outcome e = absurd cc
    by Sync outcome e = absurd cc
    by (Overflow count) outcome e = absurd cc
    by (Command byte param) outcome e = absurd cc

pub stop_not_control : (load : Load) (origin : Origin) → is_control load origin ≡ true →
    is_stop_reply origin ≡ false
stop_not_control = search rules

pub packet_no_overflow : (item : Item) → is_packet item ≡ true → is_overflow item.origin ≡ false
packet_no_overflow item packet = by item.origin item.outcome packet
  where
    by : (origin : Origin) (outcome : Outcome) → holds_packet origin outcome ≡ true →
        is_overflow origin ≡ false
    by (Call writer step) outcome e = refl
    by Sync outcome e = refl
    by (Reply kind index) outcome e = refl
    by (Overflow count) outcome e = absurd cc
    by (Command byte param) outcome e = refl

pub control_no_overflow : (load : Load) (origin : Origin) → is_control load origin ≡ true →
    is_overflow origin ≡ false
control_no_overflow = search rules

-- what is stored, and neither a sync nor an overflow, is a packet
pub stored_packet : (load : Load) (origin : Origin) → is_control load origin ≡ false →
    is_sync origin ≡ false → is_overflow origin ≡ false → holds_packet origin Stored ≡ true
stored_packet load (Call writer step) c s v = refl
stored_packet load Sync c s v = absurd cc
stored_packet load (Reply kind index) c s v = refl
stored_packet load (Overflow count) c s v = absurd cc
stored_packet load (Command byte param) c s v =
    absurd (clash (is_control load (Command byte param))
    (or_last (is_start load (Command byte param) || is_stop load (Command byte param))) c)

-- refused and no packet: a sync or an overflow
pub no_packet_over : (load : Load) (item : Item) → is_control load item.origin ≡ false →
    item.outcome ≡ Refused → is_packet item ≡ false → is_sync item.origin ≡ false →
    is_overflow item.origin ≡ true
no_packet_over load item control refused none other =
    by item.origin control (sym (ap (holds_packet item.origin) refused) ∙ none) other
  where
    by : (origin : Origin) → is_control load origin ≡ false → holds_packet origin Refused ≡ false →
        is_sync origin ≡ false → is_overflow origin ≡ true
    by (Call writer step) c p s = absurd cc
    by Sync c p s = absurd cc
    by (Reply kind index) c p s = absurd cc
    by (Overflow count) c p s = refl
    by (Command byte param) c p s =
        absurd (clash (is_control load (Command byte param))
        (or_last (is_start load (Command byte param) || is_stop load (Command byte param))) c)

-- what is known of each item is known of those before one
pub each_after : (P : List Item → Item → Type 0) (after earlier : List Item) →
    EachItem P (after ++ earlier) → EachItem P earlier
each_after P [] earlier each = each
each_after P (i ∷ after) earlier each = each_after P after earlier each.0

or_none : (a b : Bool) → (a || b) ≡ false → b ≡ false
or_none true b e = absurd cc
or_none false b e = e

-- before the first sync nothing was sent
pub unsynced : (load : Load) (earlier : List Item) → is_synced earlier ≡ false →
    events_before load earlier ≡ []
unsynced load [] none = refl
unsynced load (i ∷ earlier) none =
    let before : is_synced earlier ≡ false =
    or_none (is_sync i.origin) (is_synced earlier) none in
    events-kept load earlier i
    (ap (λ b. is_stored i.outcome && b) before ∙ and_no (is_stored i.outcome))
    ∙ unsynced load earlier before
