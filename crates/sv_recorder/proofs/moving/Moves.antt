-- How far an entry moves the book, and the room that it leaves.
use Rattle.std.proofs.Common.{◌≡◌, ℕ, ◌+◌, ◌≤◌, Bool, true, ◌&&◌, List, [], ◌∷◌, length, refl, sym}
use Rattle.std.proofs.Common.{ap, ◌∙◌, subst, arith, vec_capacity}
use Rattle.std.proofs.lemmas.List.{length-append}
use Rattle.sv_ring.specs.declared.up_writer.UpWriter.{Ghosts}
use Rattle.sv_ring.specs.Ring.{Moves, room_of}
use Rattle.sv_load.specs.Load.{Load}
use Rattle.sv_recorder.specs.declared.book.Book.{Book}
use Rattle.sv_recorder.specs.Freed.{wrote_if, AreFreed}
use Rattle.sv_recorder.specs.Writes.{WritesItem, MovesBy, HasPacket, outcome_if}
use Rattle.sv_recorder.specs.Formed.{packet_bytes, block_bytes, overflow_bytes}
use Rattle.sv_recorder.specs.Book.{IsReady, Stays, Settles, GoesWith, head_if}
use Rattle.sv_recorder.proofs.moving.Freed.{Written, written-stream, written-freed, packet_written}
use Rattle.sv_recorder.proofs.keeping.Packets.{block_here, not_sync, not_overflow}
use Rattle.sv_recorder.proofs.moving.Entries.{bytes_after, stored_length, headed_one, settled_last}
use Rattle.sv_recorder.proofs.moving.Entries.{settled_pending}
use Rattle.sv_journal.specs.declared.journal.Origin.{Origin}
use Rattle.sv_journal.specs.declared.journal.Origin.TheVariants.{Overflow}
use Rattle.sv_journal.specs.declared.journal.Item.{Item}
use Rattle.sv_journal.specs.Items.{latest_first, last_moment, is_refused, is_written}
use Rattle.sv_journal.specs.Items.{is_after_refused_overflow, block_of, item_of}
use Rattle.sv_journal.specs.Stream.{stream_of}
use Rattle.sv_journal.specs.Packets.{packet_block, is_call_or_reply}
use Rattle.sv_journal.proofs.Shared.{latest_first-push}

module _ {U : Type 0} {u : Ghosts U} where
  -- what a write of an item's block moves
  pub write-moved : (old mid : Book U u) (origin : Origin) (block : List ℕ) (stored : Bool)
      → Stays old mid → u.size old.up ≡ old.load.now.ring
      → WritesItem (u.size old.up) old.journal.items mid.journal.items (u.sent old.up)
      (u.sent mid.up)
      (u.freed old.up) (u.freed mid.up) origin old.moment block stored
      → MovesBy u.size u.sent u.freed u.way old.up mid.up block stored
      → u.sent old.up ≡ stream_of old.load.now old.journal.items
      → is_written (latest_first old.journal.items)
      (item_of origin old.moment (u.freed mid.up) (outcome_if stored)) ≡ true
      → block ≡ block_of old.load.now (latest_first old.journal.items)
      (item_of origin old.moment (u.freed mid.up) (outcome_if stored))
      → (u.sent mid.up ≡ stream_of mid.load.now mid.journal.items)
      × AreFreed old.load.now (latest_first old.journal.items)
      (item_of origin old.moment (u.freed mid.up) (outcome_if stored) ∷ []) (u.way old.up)
      (u.freed old.up) (u.way mid.up) (u.freed mid.up)
  write-moved old mid origin block stored written fits w moves stream is_item block_is =
      let i : Item = item_of origin old.moment (u.freed mid.up) (outcome_if stored) in
      let this : Written old.load.now old.journal.items (u.sent old.up) block i stored =
      record { stream = stream; written = is_item; block_is = block_is; outcome = refl } in (
        written-stream old.load.now old.journal.items (u.sent old.up) (u.sent mid.up) block i stored
            this w.grown ∙ sym (ap (λ (l : Load). stream_of l mid.journal.items) (written.load)
            ∙ ap (stream_of old.load.now) w.item),
        written-freed old.load.now old.journal.items (u.sent old.up) block i stored (u.way old.up)
            (u.way mid.up) (u.freed old.up) this moves.0
            (subst (λ (n : ℕ). Moves (u.way old.up) n (u.freed old.up) (u.freed mid.up)
            (u.sent old.up) block (wrote_if stored
            (room_of n (u.sent old.up) (u.freed mid.up)))) fits moves.1),
      )

  pub plain-goes : (old mid new : Book U u) (origin : Origin) (block : List ℕ) (stored : Bool)
      → Stays old mid
      → Settles stored mid.last mid new
      → u.size old.up ≡ old.load.now.ring
      → (u.ring mid.up ≡ u.ring old.up) × (u.size mid.up ≡ u.size old.up)
      × (u.limit mid.up ≡ u.limit old.up) → vec_capacity mid.journal ≡ vec_capacity old.journal
      → WritesItem (u.size old.up) old.journal.items mid.journal.items (u.sent old.up)
      (u.sent mid.up)
      (u.freed old.up) (u.freed mid.up) origin old.moment block stored
      → MovesBy u.size u.sent u.freed u.way old.up mid.up block stored
      → block ≡ packet_block old.load.now origin old.moment old.last
      → length block ≤ block_bytes old.load.now origin
      → is_call_or_reply origin ≡ true → HasPacket old.load.now origin
      → GoesWith (head_if origin) 2 (packet_bytes old.load.now origin) old new
  plain-goes old mid new origin block stored written settled fits same capacity w moves formed short
      telling fine =
      let earlier : List Item = latest_first old.journal.items in
      let i : Item = item_of origin old.moment (u.freed mid.up) (outcome_if stored) in
      let latest : latest_first mid.journal.items ≡ i ∷ earlier = ap latest_first w.item
      ∙ latest_first-push old.journal.items i in
      let one = stored_length (u.sent old.up) (u.sent mid.up) block stored w.grown in
      let latest_now : latest_first new.journal.items ≡ i
      ∷ earlier = ap (λ v. latest_first v.items) settled.journal ∙ latest in
      record {
        load = settled.load ∙ written.load;
        moment = settled.moment ∙ written.moment;
        ring_same = ap u.ring settled.up ∙ same.0;
        size_same = ap u.size settled.up ∙ same.1;
        limit_same = ap u.limit settled.up ∙ same.2;
        capacity = ap vec_capacity settled.journal ∙ capacity;
        more = i ∷ [];
        added = ap (λ v. v.items) settled.journal ∙ w.item;
        headed = headed_one origin old.moment (u.freed mid.up) (outcome_if stored);
        few = omega arith;
        short = omega (
          arith,
          one,
          short,
          bytes_after old.load.now origin old.texts fine,
          ap
              (λ (e : U). length (u.sent e)) settled.up,
        );
        pending = subst (λ (n : ℕ). n ≤ old.pending + 2) (sym settled.pending)
            (settled_pending stored old.pending);
        moved = λ s.
            let m = write-moved old mid origin block stored written fits w moves s.stream
            (packet_written earlier origin old.moment (u.freed mid.up) stored telling s.ready)
            (formed ∙ sym (block_here old.load.now earlier origin old.moment (u.freed mid.up)
            old.last (outcome_if stored) telling s.last)) in (
              record {
                stream = ap u.sent settled.up ∙ m.0 ∙ sym
                    (ap (λ (l : Load). stream_of l new.journal.items) settled.load
                    ∙ ap (λ v. stream_of mid.load.now v.items) settled.journal);
                last = settled.last ∙ settled_last earlier i old.moment old.last mid.moment mid.last
                    stored refl refl (not_sync origin telling) (written.moment) (written.last
                    ∙ s.last) ∙ sym (ap last_moment latest_now);
                ready = ap is_after_refused_overflow latest_now
                    ∙ ap (λ (b : Bool). b && is_refused (outcome_if stored))
                    (not_overflow origin telling);
              },
              subst (λ (e : U). AreFreed old.load.now earlier (i ∷ []) (u.way old.up)
                  (u.freed old.up) (u.way e) (u.freed e)) (sym settled.up) m.1,
            );
      }

  -- a stored overflow leaves the room of its packet
  pub ready_after : (old mid : Book U u) (origin : Origin) (overflow block : List ℕ)
      → IsReady 2 (packet_bytes old.load.now origin) old → HasPacket old.load.now origin
      → Stays old mid
      → (u.ring mid.up ≡ u.ring old.up) × (u.size mid.up ≡ u.size old.up)
      × (u.limit mid.up ≡ u.limit old.up) → vec_capacity mid.journal ≡ vec_capacity old.journal
      → WritesItem (u.size old.up) old.journal.items mid.journal.items (u.sent old.up)
      (u.sent mid.up)
      (u.freed old.up) (u.freed mid.up) (Overflow old.pending) old.moment overflow true
      → length overflow ≤ overflow_bytes → length block ≤ block_bytes old.load.now origin
      → IsReady 1 (length block) mid
  ready_after old mid origin overflow block r formed written same capacity w short short2 = record {
    room = omega (arith, r.room, capacity, ap length w.item, length-append {A = Item});
    within = omega (
      arith,
      r.within,
      ap length w.grown,
      length-append (u.sent old.up) overflow,
      short,
      short2,
      bytes_after old.load.now origin old.texts formed,
      same.2,
    );
    few = omega (arith, r.few, written.pending);
  }
