-- What one item more adds to the stream and to its packets.
use Rattle.std.proofs.Common.{◌≡◌, ◌≤◌, Bool, true, false, not, ◌&&◌, cond, List, [], ◌∷◌, ◌++◌}
use Rattle.std.proofs.Common.{length, refl, ap, ◌∙◌, append-nil, arith}
use Rattle.std.specs.Prelude.{nat_lt, replicate}
use Rattle.std.proofs.lemmas.Bool.Decides.{nat_tests}
use Rattle.sv_packet.specs.declared.event.Event.TheVariants as events
use Rattle.sv_packet.specs.Packets.{ArePackets}
use Rattle.sv_packet.specs.Spelling.{spelling_of}
use Rattle.sv_load.specs.Load.{Load}
use Rattle.sv_journal.specs.declared.journal.Outcome.TheVariants.{Stored, Refused}
use Rattle.sv_journal.specs.declared.journal.Item.{Item}
use Rattle.sv_journal.specs.Items.{is_sync, is_stored, is_refused, is_on, is_after_overflow}
use Rattle.sv_journal.specs.Items.{is_after_refused_overflow, event_of, delta_of, block_of}
use Rattle.sv_journal.specs.Items.{stream_before, room_at}
use Rattle.sv_journal.specs.Legal.{is_control}
use Rattle.sv_journal.specs.Stream.{is_synced}
use Rattle.sv_journal.proofs.Shared.{outcome_at-write}
use Rattle.sv_sent.specs.Sent.{packets_before, packets_of}
use Rattle.sv_sent.proofs.texts.Speakable.{IsSpellable}
use Rattle.sv_sent.proofs.places.Placed.{IsPlaced}
use Rattle.sv_sent.proofs.texts.Spelled.{are-one, as_packet, five_nops, spelled}

pub packets-kept : (load : Load) (earlier : List Item) (item : Item) →
    (is_stored item.outcome && is_synced earlier) ≡ false →
    packets_before load (item ∷ earlier) ≡ packets_before load earlier
packets-kept load earlier item test =
    ap (λ b. packets_before load earlier ++ cond b (packets_of load earlier item) []) test
    ∙ append-nil (packets_before load earlier)

pub packets-told : (load : Load) (earlier : List Item) (item : Item) →
    is_stored item.outcome ≡ true → is_synced earlier ≡ true →
    packets_before load (item ∷ earlier) ≡
    packets_before load earlier ++ packets_of load earlier item
packets-told load earlier item stored synced =
    ap
    (λ b.
    packets_before load earlier ++ cond (b && is_synced earlier) (packets_of load earlier item) [])
    stored
    ∙ ap (λ b. packets_before load earlier ++ cond b (packets_of load earlier item) []) synced

pub stream-kept : (load : Load) (earlier : List Item) (item : Item) →
    is_stored item.outcome ≡ false →
    stream_before load (item ∷ earlier) ≡ stream_before load earlier
stream-kept load earlier item kept =
    ap (λ b. stream_before load earlier ++ cond b (block_of load earlier item) []) kept
    ∙ append-nil (stream_before load earlier)

pub stream-told : (load : Load) (earlier : List Item) (item : Item) →
    is_stored item.outcome ≡ true →
    stream_before load (item ∷ earlier) ≡ stream_before load earlier ++ block_of load earlier item
stream-told load earlier item stored =
    ap (λ b. stream_before load earlier ++ cond b (block_of load earlier item) []) stored

pub packets-one : (load : Load) (earlier : List Item) (item : Item) → is_sync item.origin ≡ false →
    packets_of load earlier item ≡ as_packet (event_of load item) (delta_of load earlier item) ∷ []
packets-one load earlier item other =
    ap
    (λ b.
    cond b (replicate 5 (as_packet events.Nop 0))
    (as_packet (event_of load item) (delta_of load earlier item) ∷ [])) other

pub packets-five : (load : Load) (earlier : List Item) (item : Item) → is_sync item.origin ≡ true →
    packets_of load earlier item ≡ replicate 5 (as_packet events.Nop 0)
packets-five load earlier item sync =
    ap
    (λ b.
    cond b (replicate 5 (as_packet events.Nop 0))
    (as_packet (event_of load item) (delta_of load earlier item) ∷ [])) sync

pub block-one : (load : Load) (earlier : List Item) (item : Item) → is_sync item.origin ≡ false →
    block_of load earlier item ≡ spelling_of (event_of load item) (delta_of load earlier item)
block-one load earlier item other =
    ap
    (λ b. cond b (replicate 10 0) (spelling_of (event_of load item) (delta_of load earlier item)))
    other

pub block-sync : (load : Load) (earlier : List Item) (item : Item) → is_sync item.origin ≡ true →
    block_of load earlier item ≡ replicate 10 0
block-sync load earlier item sync =
    ap
    (λ b. cond b (replicate 10 0) (spelling_of (event_of load item) (delta_of load earlier item)))
    sync

-- the packets of a stored item are spelled by its block
pub told-packets : (load : Load) (earlier : List Item) (item : Item) →
    IsSpellable load earlier item → is_stored item.outcome ≡ true →
    ArePackets (packets_of load earlier item) (block_of load earlier item)
told-packets load earlier item spellable stored = by (is_sync item.origin) refl
  where
    by : (t : Bool) → is_sync item.origin ≡ t →
        ArePackets (packets_of load earlier item) (block_of load earlier item)
    by true sync =
        rw (packets-five load earlier item sync, block-sync load earlier item sync) five_nops
    by false other =
        let s =
        spellable (ap (λ b. is_stored item.outcome && not b) other ∙ ap (λ b. b && true) stored)
        in
        rw (packets-one load earlier item other, block-one load earlier item other)
        (are-one (as_packet (event_of load item) (delta_of load earlier item))
        (spelling_of (event_of load item) (delta_of load earlier item))
        (spelled (event_of load item) (delta_of load earlier item) s.0 s.1 (omega arith)))

-- an item that is on, and after no refused overflow, is stored where its block fits
pub stored-fitting : (load : Load) (earlier : List Item) (item : Item) →
    IsPlaced load earlier item → is_control load item.origin ≡ false → is_on load earlier ≡ true →
    is_after_refused_overflow earlier ≡ false →
    length (block_of load earlier item) ≤ room_at load earlier item → item.outcome ≡ Stored
stored-fitting load earlier item here control on free fits =
    let not_longer : nat_lt (room_at load earlier item) (length (block_of load earlier item)) ≡
    false =
    grind (arith, nat_tests) in
    here.next.outcome
    ∙ outcome_at-write load earlier item control on free
    ∙ ap (λ b. cond b Refused Stored) not_longer

pub not-lost : (earlier : List Item) → is_after_overflow earlier ≡ false →
    is_after_refused_overflow earlier ≡ false
not-lost [] e = refl
not-lost (i ∷ earlier) e = ap (λ b. b && is_refused i.outcome) e
