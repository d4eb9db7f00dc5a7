-- What a journal's stream is read as: its first sync, then the packets of the stored items after
-- it.
use Rattle.std.proofs.Common.{◌≡◌, ◌≢◌, ℕ, ◌≤◌, true, false, Some, List, [], ◌++◌, refl, sym, subst}
use Rattle.std.proofs.Common.{◌∙◌, arith, inl, inr, map}
use Rattle.std.specs.Prelude.{replicate, slice_get}
use Rattle.sv_packet.specs.declared.event.Packet.{Packet}
use Rattle.sv_packet.specs.Packets.{ArePackets}
use Rattle.sv_stream.specs.declared.end.End.TheVariants.{Clean}
use Rattle.sv_stream.specs.Input.{Whole}
use Rattle.sv_stream.specs.Reads.{Reads}
use Rattle.sv_load.specs.Load.{Load}
use Rattle.sv_journal.specs.declared.journal.Item.{Item}
use Rattle.sv_journal.specs.Items.{latest_first, is_start}
use Rattle.sv_journal.specs.Legal.{IsLegal}
use Rattle.sv_journal.specs.Stream.{stream_of}
use Rattle.sv_sent.specs.Sent.{sent_packets}
use Rattle.sv_sent.specs.Start.{has_start}
use Rattle.sv_sent.proofs.texts.Speakable.{AreSpellable}
use Rattle.sv_sent.proofs.reads.Starting.{started_was}
use Rattle.sv_sent.proofs.places.Placed.{placed}
use Rattle.sv_sent.proofs.texts.Spelled.{goes-clean}
use Rattle.sv_sent.proofs.places.Tests.{clash}
use Rattle.sv_sent.proofs.places.Following.{not_ending}
use Rattle.sv_sent.proofs.reads.Stages.{HowFar}
use Rattle.sv_sent.proofs.reads.Going.{how_far}

read : (bytes body : List ℕ) (packets : List Packet) → bytes ≡ replicate 10 0 ++ body →
    slice_get body 0 ≢ Some 0 → ArePackets packets body →
    Reads bytes (map Whole packets) Clean
read bytes body packets whole first are = inr (
  10,
  body,
  record {
    junk = [];
    zeros = 10;
    whole = whole;
    start_is = refl;
    first = refl;
    not_in_junk = λ e. absurd cc;
    ten = omega arith;
    all = first;
  },
  goes-clean packets 10 body are,
)

-- a legal journal with a start: its stream is read as the packets of its stored items
pub reads_sent : (load : Load) (items : List Item) → IsLegal load items → 64 ≤ load.ring →
    AreSpellable load items → has_start load items ≡ true →
    Reads (stream_of load items) (map Whole (sent_packets load items)) Clean
reads_sent load items legal ring spellable start =
    by (how_far load (latest_first items) ring (placed load items legal) spellable)
  where
    by : HowFar load (latest_first items) →
        Reads (stream_of load items) (map Whole (sent_packets load items)) Clean
    by (inl w) =
        let last = w.starts (started_was load items ∙ start) in
        absurd (clash (is_start load last.0) last.2 (not_ending load items last.0 legal last.1))
    by (inr (inl r)) =
        read (stream_of load items) [] (sent_packets load items) r.bytes (λ e. absurd cc)
        (subst (λ (ps : List Packet). ArePackets ps []) (sym r.packets) refl)
    by (inr (inr g)) =
        read (stream_of load items) g.body (sent_packets load items) g.bytes
        (λ e. let wrong : Some 10 ≡ Some 0 = sym g.first ∙ e in absurd cc) g.packets

-- without a start it is empty
pub silent : (load : Load) (items : List Item) → IsLegal load items → 64 ≤ load.ring →
    AreSpellable load items → has_start load items ≡ false → stream_of load items ≡ []
silent load items legal ring spellable none =
    by (how_far load (latest_first items) ring (placed load items legal) spellable)
  where
    by : HowFar load (latest_first items) → stream_of load items ≡ []
    by (inl w) = w.bytes
    by (inr (inl r)) =
        absurd (clash (has_start load items) (sym (started_was load items) ∙ r.started) none)
    by (inr (inr g)) =
        absurd (clash (has_start load items) (sym (started_was load items) ∙ g.started) none)

-- and nothing is sent
pub nothing_sent : (load : Load) (items : List Item) → IsLegal load items → 64 ≤ load.ring →
    AreSpellable load items → has_start load items ≡ false → sent_packets load items ≡ []
nothing_sent load items legal ring spellable none =
    by (how_far load (latest_first items) ring (placed load items legal) spellable)
  where
    by : HowFar load (latest_first items) → sent_packets load items ≡ []
    by (inl w) = w.packets
    by (inr (inl r)) =
        absurd (clash (has_start load items) (sym (started_was load items) ∙ r.started) none)
    by (inr (inr g)) =
        absurd (clash (has_start load items) (sym (started_was load items) ∙ g.started) none)
