-- After the first sync comes TRACE_START, which is stored, and then packet after packet.
use Rattle.std.proofs.Common.{◌≡◌, ℕ, ◌≤◌, Bool, true, false, ◌&&◌, ◌||◌, Some, List, [], ◌∷◌, ◌++◌}
use Rattle.std.proofs.Common.{length, refl, sym, ap, subst, ◌∙◌, append_assoc, arith, inl, inr}
use Rattle.std.specs.Prelude.{replicate, slice_get}
use Rattle.sv_prim.specs.Number.{number_spelling}
use Rattle.sv_prim.proofs.Shared.{of_few}
use Rattle.sv_packet.specs.declared.event.Event.TheVariants as events
use Rattle.sv_packet.specs.declared.event.Packet.{Packet}
use Rattle.sv_packet.specs.Packets.{ArePackets}
use Rattle.sv_packet.specs.Spelling.{spelling_of}
use Rattle.sv_load.specs.Load.{Load}
use Rattle.sv_journal.specs.declared.journal.Kind.TheVariants as kinds
use Rattle.sv_journal.specs.declared.journal.Origin.TheVariants.{Sync, Reply}
use Rattle.sv_journal.specs.declared.journal.Outcome.TheVariants.{Stored}
use Rattle.sv_journal.specs.declared.journal.Item.{Item}
use Rattle.sv_journal.specs.Items.{is_sync, is_overflow, is_start, is_stored, event_of, event_at}
use Rattle.sv_journal.specs.Items.{delta_of, block_of, stored_before}
use Rattle.sv_journal.specs.Legal.{EachItem, is_control}
use Rattle.sv_journal.specs.Stream.{is_synced}
use Rattle.sv_sent.specs.Sent.{packets_before, packets_of}
use Rattle.sv_sent.proofs.texts.Speakable.{IsSpellable}
use Rattle.sv_sent.proofs.places.Placed.{IsPlaced}
use Rattle.sv_sent.proofs.texts.Spelled.{are-append}
use Rattle.sv_sent.proofs.places.Tests.{or_last}
use Rattle.sv_sent.proofs.reads.OneMore.{block-one, not-lost, packets-kept, packets-told}
use Rattle.sv_sent.proofs.reads.OneMore.{stored-fitting, stream-kept, stream-told, told-packets}
use Rattle.sv_sent.proofs.reads.Stages.{HowFar, IsGoing, IsReady}
use Rattle.sv_sent.proofs.reads.Waiting.{waiting-no_overflow, waiting-step}

number_short : (value : ℕ) → length (number_spelling value) ≤ 5
number_short value = of_few 4 value

ready-step : (load : Load) (earlier : List Item) (item : Item) → 64 ≤ load.ring →
    IsPlaced load earlier item → IsSpellable load earlier item → IsReady load earlier →
    HowFar load (item ∷ earlier)
ready-step load earlier item ring here spellable r =
    let over : is_overflow item.origin ≡ false =
    waiting-no_overflow load earlier item here r.pending in
    let is : item.origin ≡ Reply kinds.TraceStart 0 = (here.follows over).sync Sync r.before refl in
    let control : is_control load item.origin ≡ false = ap (is_control load) is in
    let other : is_sync item.origin ≡ false = ap is_sync is in
    let event : event_of load item ≡ events.TraceStart = ap (event_at load item.moment) is in
    let delta : ℕ = delta_of load earlier item in
    let block : block_of load earlier item ≡ 10 ∷ number_spelling delta =
    block-one load earlier item other ∙ ap (λ e. spelling_of e delta) event in
    let size : length (block_of load earlier item) ≤ 6 =
    omega (arith, ap length block, number_short delta) in
    let ten : stored_before load earlier ≡ 10 = ap length r.bytes in
    let out : item.outcome ≡ Stored =
    stored-fitting load earlier item here control r.on (not-lost earlier r.ends)
    (omega (arith, size, ten, ring)) in
    let stored : is_stored item.outcome ≡ true = ap is_stored out in
    inr (inr (record {
      synced = ap (λ b. is_sync item.origin || b) r.synced ∙ or_last (is_sync item.origin);
      body = block_of load earlier item;
      bytes =
          stream-told load earlier item stored
          ∙ ap (λ bs. bs ++ block_of load earlier item) r.bytes;
      packets =
          subst (λ (ps : List Packet). ArePackets ps (block_of load earlier item))
          (sym
          (packets-told load earlier item stored r.synced
          ∙ ap (λ ps. ps ++ packets_of load earlier item) r.packets))
          (told-packets load earlier item spellable stored);
      first = ap (λ bs. slice_get bs 0) block;
      started =
          ap (λ b. is_start load item.origin || b) r.started ∙ or_last (is_start load item.origin);
    }))

first-stays : (body more : List ℕ) → slice_get body 0 ≡ Some 10 →
    slice_get (body ++ more) 0 ≡ Some 10
first-stays [] more e = absurd cc
first-stays (b ∷ body) more e = e

going-step : (load : Load) (earlier : List Item) (item : Item) → IsPlaced load earlier item →
    IsSpellable load earlier item → IsGoing load earlier → HowFar load (item ∷ earlier)
going-step load earlier item here spellable g = by (is_stored item.outcome) refl
  where
    by : (t : Bool) → is_stored item.outcome ≡ t → HowFar load (item ∷ earlier)
    by false kept = inr (inr (record {
      synced = ap (λ b. is_sync item.origin || b) g.synced ∙ or_last (is_sync item.origin);
      body = g.body;
      bytes = stream-kept load earlier item kept ∙ g.bytes;
      packets =
          subst (λ (ps : List Packet). ArePackets ps g.body)
          (sym (packets-kept load earlier item (ap (λ b. b && is_synced earlier) kept))) g.packets;
      first = g.first;
      started =
          ap (λ b. is_start load item.origin || b) g.started ∙ or_last (is_start load item.origin);
    }))
    by true stored = inr (inr (record {
      synced = ap (λ b. is_sync item.origin || b) g.synced ∙ or_last (is_sync item.origin);
      body = g.body ++ block_of load earlier item;
      bytes =
          stream-told load earlier item stored
          ∙ ap (λ bs. bs ++ block_of load earlier item) g.bytes
          ∙ append_assoc (replicate 10 0) g.body (block_of load earlier item);
      packets =
          subst (λ (ps : List Packet). ArePackets ps (g.body ++ block_of load earlier item))
          (sym (packets-told load earlier item stored g.synced))
          (are-append (packets_before load earlier) (packets_of load earlier item) g.body
          (block_of load earlier item) g.packets (told-packets load earlier item spellable stored));
      first = first-stays g.body (block_of load earlier item) g.first;
      started =
          ap (λ b. is_start load item.origin || b) g.started ∙ or_last (is_start load item.origin);
    }))

how-step : (load : Load) (earlier : List Item) (item : Item) → 64 ≤ load.ring →
    IsPlaced load earlier item → IsSpellable load earlier item → HowFar load earlier →
    HowFar load (item ∷ earlier)
how-step load earlier item ring here spellable (inl w) = waiting-step load earlier item ring here w
how-step load earlier item ring here spellable (inr (inl r)) =
    ready-step load earlier item ring here spellable r
how-step load earlier item ring here spellable (inr (inr g)) =
    going-step load earlier item here spellable g

pub how_far : (load : Load) (earlier : List Item) → 64 ≤ load.ring →
    EachItem (IsPlaced load) earlier → EachItem (IsSpellable load) earlier → HowFar load earlier
how_far load [] ring each spellable =
    inl
    (record {
      synced = refl;
      bytes = refl;
      packets = refl;
      pending = refl;
      last = refl;
      starts = λ e. absurd cc;
    })
how_far load (i ∷ earlier) ring each spellable =
    how-step load earlier i ring each.1 spellable.1 (how_far load earlier ring each.0 spellable.0)
