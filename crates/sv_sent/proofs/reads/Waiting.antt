-- Before the first sync nothing is stored, and the first sync is stored.
use Rattle.std.proofs.Common.{◌≡◌, ◌≤◌, Bool, true, false, not, ◌&&◌, ◌||◌, Some, List, ◌∷◌, ◌++◌}
use Rattle.std.proofs.Common.{length, refl, ap, ◌∙◌, arith, inl, inr}
use Rattle.std.specs.Prelude.{nat_lt}
use Rattle.sv_load.specs.Load.{Load}
use Rattle.sv_journal.specs.declared.journal.Origin.{Origin}
use Rattle.sv_journal.specs.declared.journal.Origin.TheVariants.{Sync}
use Rattle.sv_journal.specs.declared.journal.Outcome.{Outcome}
use Rattle.sv_journal.specs.declared.journal.Outcome.TheVariants.{Stored}
use Rattle.sv_journal.specs.declared.journal.Item.{Item}
use Rattle.sv_journal.specs.Items.{is_sync, is_overflow, is_start, is_stop_reply, is_stored}
use Rattle.sv_journal.specs.Items.{is_refused, is_packet, holds_packet, is_on, pending_at}
use Rattle.sv_journal.specs.Items.{is_after_overflow, before_overflow, block_of, stored_before}
use Rattle.sv_journal.specs.Legal.{is_control}
use Rattle.sv_journal.specs.Stream.{is_synced}
use Rattle.sv_journal.proofs.Shared.{pending_at-other, is_on-other, last_moment-other}
use Rattle.sv_sent.proofs.reads.Starting.{was_started, on-previous, started-on, started-previous}
use Rattle.sv_sent.proofs.places.Fates.{Fate, fate, handling, ignoring, refusing, start_off_control}
use Rattle.sv_sent.proofs.places.Fates.{storing, sync_is}
use Rattle.sv_sent.proofs.places.Placed.{IsPlaced, previous-other}
use Rattle.sv_sent.proofs.places.Tests.{and_no, by_test, clash, or_last}
use Rattle.sv_sent.proofs.places.Following.{previous}
use Rattle.sv_sent.proofs.reads.OneMore.{block-sync, not-lost, packets-kept, stored-fitting}
use Rattle.sv_sent.proofs.reads.OneMore.{stream-kept, stream-told}
use Rattle.sv_sent.proofs.reads.Stages.{HowFar, IsWaiting}

-- before the first sync an item that is no sync finds the recorder off
waiting-off : (load : Load) (earlier : List Item) (item : Item) → IsPlaced load earlier item →
    IsWaiting load earlier → is_overflow item.origin ≡ false → is_sync item.origin ≡ false →
    was_started load earlier ≡ true → ⊥
waiting-off load earlier item here w over sync started =
    let last = w.starts started in
    let is : item.origin ≡ Sync = (here.follows over).start last.0 last.1 last.2 in
    clash (is_sync item.origin) (ap is_sync is) sync

pub waiting-no_overflow : (load : Load) (earlier : List Item) (item : Item) →
    IsPlaced load earlier item → pending_at earlier ≡ 0 → is_overflow item.origin ≡ false
waiting-no_overflow load earlier item here none =
    by_test (is_overflow item.origin)
    (λ over. let owed = here.later.owed over in absurd (omega (arith, owed, none)))

pub waiting-kept : (load : Load) (earlier : List Item) (item : Item) → IsPlaced load earlier item →
    IsWaiting load earlier → is_sync item.origin ≡ false →
    (is_stored item.outcome ≡ false) × (is_refused item.outcome ≡ false)
waiting-kept load earlier item here w sync = by (fate load earlier item here.next.outcome)
  where
    wrong : is_on load earlier ≡ true → ⊥
    wrong on =
        waiting-off load earlier item here w (waiting-no_overflow load earlier item here w.pending)
        sync (started-on load earlier on)

    by : Fate load earlier item →
        (is_stored item.outcome ≡ false) × (is_refused item.outcome ≡ false)
    by (handling control out) = (ap is_stored out, ap is_refused out)
    by (ignoring control off out) = (ap is_stored out, ap is_refused out)
    by (refusing control on out) = absurd (wrong on)
    by (storing control on free out) = absurd (wrong on)

pub waiting-step : (load : Load) (earlier : List Item) (item : Item) → 64 ≤ load.ring →
    IsPlaced load earlier item → IsWaiting load earlier → HowFar load (item ∷ earlier)
waiting-step load earlier item ring here w = by (is_sync item.origin) refl
  where
    over : is_overflow item.origin ≡ false
    over = waiting-no_overflow load earlier item here w.pending

    by : (t : Bool) → is_sync item.origin ≡ t → HowFar load (item ∷ earlier)
    by false other =
        let kept = waiting-kept load earlier item here w other in
        inl (record {
          synced = ap (λ b. b || is_synced earlier) other ∙ w.synced;
          bytes = stream-kept load earlier item kept.0 ∙ w.bytes;
          packets =
              packets-kept load earlier item (ap (λ b. b && is_synced earlier) kept.0) ∙ w.packets;
          pending =
              pending_at-other earlier item
              (ap (λ b. is_overflow item.origin && b) kept.0 ∙ and_no (is_overflow item.origin))
              (ap (λ b. is_packet item && b) kept.1 ∙ and_no (is_packet item))
              ∙ w.pending;
          last =
              last_moment-other earlier item (ap (λ b. b && not (is_sync item.origin)) kept.0)
              ∙ w.last;
          starts =
              λ started. (
                item.origin,
                previous-other earlier item over,
                first (is_start load item.origin) (was_started load earlier) started
                    (waiting-off load earlier item here w over other),
              );
        })
      where
        first : (a b : Bool) → (a || b) ≡ true → (b ≡ true → ⊥) → a ≡ true
        first true b e wrong = refl
        first false b e wrong = absurd (wrong e)
    by true sync =
        let origin : (p : Origin) × (previous earlier ≡ Some p) × (is_start load p ≡ true) =
        (here.follows over).started sync in
        let is : item.origin ≡ Sync = sync_is item.origin sync in
        let on : is_on load earlier ≡ true = on-previous load earlier origin.0 origin.1 origin.2 in
        let control : is_control load item.origin ≡ false = sync_not_control item.origin sync in
        let packet_none : is_packet item ≡ false = sync_no_packet item.origin item.outcome sync in
        let ends : is_after_overflow earlier ≡ false =
        here.next.overflow
        ∙ ap
        (λ b.
        b && is_on load (before_overflow earlier) && nat_lt 0
        (pending_at (before_overflow earlier))) packet_none in
        let size : length (block_of load earlier item) ≡ 10 =
        ap length (block-sync load earlier item sync) in
        let empty : stored_before load earlier ≡ 0 = ap length w.bytes in
        let out : item.outcome ≡ Stored =
        stored-fitting load earlier item here control on (not-lost earlier ends)
        (omega (arith, size, empty, ring)) in
        let stored : is_stored item.outcome ≡ true = ap is_stored out in
        inr (inl (record {
          synced = ap (λ b. b || is_synced earlier) sync;
          bytes =
              stream-told load earlier item stored
              ∙ ap (λ bs. bs ++ block_of load earlier item) w.bytes
              ∙ block-sync load earlier item sync;
          packets =
              packets-kept load earlier item
              (ap (λ b. is_stored item.outcome && b) w.synced ∙ and_no (is_stored item.outcome))
              ∙ w.packets;
          pending =
              pending_at-other earlier item (ap (λ b. b && is_stored item.outcome) over)
              (ap (λ b. b && is_refused item.outcome) packet_none)
              ∙ w.pending;
          last =
              last_moment-other earlier item
              (ap (λ b. is_stored item.outcome && not b) sync ∙ and_no (is_stored item.outcome))
              ∙ w.last;
          before = previous-other earlier item over ∙ ap (λ o. Some o) is;
          ends = over;
          on =
              is_on-other load earlier item (start_off_control load item.origin control)
              (ap is_stop_reply is)
              ∙ on;
          started =
              ap (λ b. is_start load item.origin || b)
              (started-previous load earlier origin.0 origin.1 origin.2)
              ∙ or_last (is_start load item.origin);
        }))
      where
        sync_not_control : (o : Origin) → is_sync o ≡ true → is_control load o ≡ false
        sync_not_control o e = ap (is_control load) (sync_is o e)

        sync_no_packet : (o : Origin) (outcome : Outcome) → is_sync o ≡ true →
            holds_packet o outcome ≡ false
        sync_no_packet o outcome e = ap (λ x. holds_packet x outcome) (sync_is o e)
