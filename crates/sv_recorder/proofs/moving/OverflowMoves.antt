-- How far a packet with an overflow before it moves the book.
use Rattle.std.proofs.Common.{◌≡◌, ℕ, ◌+◌, ◌≤◌, Bool, true, false, ◌&&◌, List, [], ◌∷◌, ◌++◌}
use Rattle.std.proofs.Common.{length, refl, sym, ap, ◌∙◌, subst, arith, append_assoc, vec_capacity}
use Rattle.std.specs.Prelude.{if◌then◌else◌}
use Rattle.std.proofs.lemmas.List.{length-append}
use Rattle.sv_ring.specs.declared.up_writer.UpWriter.{Ghosts}
use Rattle.sv_load.specs.Load.{Load}
use Rattle.sv_recorder.specs.declared.book.Book.{Book}
use Rattle.sv_recorder.specs.Freed.{AreFreed}
use Rattle.sv_recorder.specs.Writes.{WritesItem, MovesBy, HasPacket, outcome_if}
use Rattle.sv_recorder.specs.Formed.{packet_bytes, block_bytes}
use Rattle.sv_recorder.specs.Book.{Stays, Settles, GoesWith, head_if}
use Rattle.sv_recorder.proofs.moving.Freed.{unwritten-stream, unwritten-freed, packet_written}
use Rattle.sv_recorder.proofs.moving.Freed.{refused_unwritten, freed-append}
use Rattle.sv_recorder.proofs.keeping.Packets.{block_here, not_sync, not_overflow}
use Rattle.sv_recorder.proofs.moving.Entries.{bytes_after, stored_length, headed_at, last_again}
use Rattle.sv_recorder.proofs.moving.Entries.{settled_pending}
use Rattle.sv_recorder.proofs.moving.Moves.{write-moved}
use Rattle.sv_journal.specs.declared.journal.Origin.{Origin}
use Rattle.sv_journal.specs.declared.journal.Origin.TheVariants.{Overflow}
use Rattle.sv_journal.specs.declared.journal.Outcome.TheVariants.{Stored, Refused}
use Rattle.sv_journal.specs.declared.journal.Item.{Item}
use Rattle.sv_journal.specs.Items.{latest_first, last_moment, is_refused, is_after_refused_overflow}
use Rattle.sv_journal.specs.Items.{item_of}
use Rattle.sv_journal.specs.Stream.{stream_of}
use Rattle.sv_journal.specs.Packets.{packet_block, is_call_or_reply}
use Rattle.sv_journal.proofs.Shared.{latest_first-push, last_moment-other}

module _ {U : Type 0} {u : Ghosts U} where
  -- refused with the overflow before it
  pub refused-goes : (old mid new : Book U u) (origin : Origin) (overflow : List ℕ)
      → Stays old mid
      → Stays mid new → new.up ≡ mid.up
      → u.size old.up ≡ old.load.now.ring
      → (u.ring mid.up ≡ u.ring old.up) × (u.size mid.up ≡ u.size old.up)
      × (u.limit mid.up ≡ u.limit old.up)
      → vec_capacity mid.journal ≡ vec_capacity old.journal
      → vec_capacity new.journal ≡ vec_capacity mid.journal
      → WritesItem (u.size old.up) old.journal.items mid.journal.items (u.sent old.up)
      (u.sent mid.up)
      (u.freed old.up) (u.freed mid.up) (Overflow old.pending) old.moment overflow false
      → MovesBy u.size u.sent u.freed u.way old.up mid.up overflow false
      → overflow ≡ packet_block old.load.now (Overflow old.pending) old.moment old.last
      → new.journal.items ≡ mid.journal.items ++ item_of origin mid.moment (u.freed mid.up) Refused
      ∷ []
      → is_call_or_reply origin ≡ true
      → GoesWith (head_if origin) 2 (packet_bytes old.load.now origin) old new
  refused-goes old mid new origin overflow written noted up fits same capacity capacity2 w moves
      formed item telling =
      let earlier : List Item = latest_first old.journal.items in
      let o : Item = item_of (Overflow old.pending) old.moment (u.freed mid.up) Refused in
      let i : Item = item_of origin mid.moment (u.freed mid.up) Refused in
      let load : new.load.now ≡ mid.load.now = noted.load in
      let mid_load = written.load in
      let behind : latest_first mid.journal.items ≡ o ∷ earlier = ap latest_first w.item
      ∙ latest_first-push old.journal.items o in
      let latest : latest_first new.journal.items ≡ i
      ∷ latest_first mid.journal.items = ap latest_first item
      ∙ latest_first-push mid.journal.items i in
      record {
        load = load ∙ mid_load;
        moment = noted.moment ∙ written.moment;
        ring_same = ap u.ring up ∙ same.0;
        size_same = ap u.size up ∙ same.1;
        limit_same = ap u.limit up ∙ same.2;
        capacity = capacity2 ∙ capacity;
        more = o ∷ i ∷ [];
        added = item ∙ ap (λ (is : List Item). is ++ i ∷ []) w.item
            ∙ append_assoc old.journal.items (o ∷ []) (i ∷ []);
        headed = headed_at origin old.pending old.moment mid.moment (u.freed mid.up)
            (u.freed mid.up) Refused Refused (written.moment);
        few = omega arith;
        short = omega (
          arith,
          ap length w.grown,
          length-append {A = ℕ} (u.sent old.up) [],
          ap
              (λ (e : U). length (u.sent e)) up,
        );
        pending = omega (arith, noted.pending, written.pending);
        moved = λ s.
            let m = write-moved old mid (Overflow old.pending) overflow false written fits w moves
            s.stream refl (formed ∙ ap (packet_block old.load.now (Overflow old.pending)
            old.moment) s.last) in
            let alone = unwritten-freed old.load.now (latest_first mid.journal.items) i
            (u.way mid.up) (u.freed mid.up)
            (refused_unwritten (latest_first mid.journal.items) origin mid.moment (u.freed mid.up)
            telling (ap is_after_refused_overflow behind)) refl in (
              record {
                stream = ap u.sent up ∙ unwritten-stream mid.load.now mid.journal.items
                    (u.sent mid.up) i m.0 refl ∙ sym (ap (λ (l : Load). stream_of l
                    new.journal.items) load ∙ ap (stream_of mid.load.now) item);
                last = noted.last ∙ written.last ∙ s.last
                    ∙ sym (ap last_moment latest ∙ last_moment-other
                    (latest_first mid.journal.items) i refl ∙ ap last_moment behind
                    ∙ last_moment-other earlier o refl);
                ready = ap is_after_refused_overflow latest
                    ∙ ap (λ (b : Bool). b && true) (not_overflow origin telling);
              },
              subst (λ (e : U). AreFreed old.load.now earlier (o ∷ i ∷ []) (u.way old.up)
                  (u.freed old.up) (u.way e) (u.freed e)) (sym up)
                  (freed-append old.load.now old.journal.items (o ∷ []) (i ∷ []) (u.way old.up)
                  (u.way mid.up) (u.way mid.up) (u.freed old.up) (u.freed mid.up)
                  (u.freed mid.up) m.1
                  (subst (λ (is : List Item). AreFreed old.load.now (latest_first is) (i ∷ [])
                  (u.way mid.up) (u.freed mid.up) (u.way mid.up) (u.freed mid.up)) w.item
                  alone)),
            );
      }

  -- written after a stored overflow
  pub after-goes : (old first second new : Book U u) (origin : Origin) (overflow block : List ℕ)
      (stored : Bool)
      → Stays old first
      → Stays first second
      → Settles stored second.moment second new
      → u.size old.up ≡ old.load.now.ring
      → (u.ring first.up ≡ u.ring old.up) × (u.size first.up ≡ u.size old.up)
      × (u.limit first.up ≡ u.limit old.up)
      → (u.ring second.up ≡ u.ring first.up) × (u.size second.up ≡ u.size first.up)
      × (u.limit second.up ≡ u.limit first.up)
      → vec_capacity first.journal ≡ vec_capacity old.journal
      → vec_capacity second.journal ≡ vec_capacity first.journal
      → WritesItem (u.size old.up) old.journal.items first.journal.items (u.sent old.up)
      (u.sent first.up) (u.freed old.up) (u.freed first.up) (Overflow old.pending) old.moment
      overflow true
      → WritesItem (u.size first.up) first.journal.items second.journal.items (u.sent first.up)
      (u.sent second.up) (u.freed first.up) (u.freed second.up) origin first.moment block stored
      → MovesBy u.size u.sent u.freed u.way old.up first.up overflow true
      → MovesBy u.size u.sent u.freed u.way first.up second.up block stored
      → overflow ≡ packet_block old.load.now (Overflow old.pending) old.moment old.last
      → block ≡ packet_block old.load.now origin old.moment old.moment
      → length overflow ≤ 11 → length block ≤ block_bytes old.load.now origin
      → is_call_or_reply origin ≡ true → HasPacket old.load.now origin
      → GoesWith (head_if origin) 2 (packet_bytes old.load.now origin) old new
  after-goes old first second new origin overflow block stored written again settled fits same same2
      capacity capacity2 v w moves moves2 formed formed2 short short2 telling fine =
      let earlier : List Item = latest_first old.journal.items in
      let o : Item = item_of (Overflow old.pending) old.moment (u.freed first.up) Stored in
      let i : Item = item_of origin first.moment (u.freed second.up) (outcome_if stored) in
      let first_load = written.load in
      let first_moment = written.moment in
      let behind : latest_first first.journal.items ≡ o ∷ earlier = ap latest_first v.item
      ∙ latest_first-push old.journal.items o in
      let latest : latest_first second.journal.items ≡ i
      ∷ latest_first first.journal.items = ap latest_first w.item
      ∙ latest_first-push first.journal.items i in
      let one = stored_length (u.sent old.up) (u.sent first.up) overflow true v.grown in
      let two = stored_length (u.sent first.up) (u.sent second.up) block stored w.grown in
      let last_first : last_moment (latest_first first.journal.items) ≡ first.moment =
      ap last_moment behind ∙ sym first_moment in
      let latest_now : latest_first new.journal.items ≡ i
      ∷ latest_first first.journal.items = ap (λ v. latest_first v.items) settled.journal
      ∙ latest in
      record {
        load = settled.load ∙ again.load ∙ first_load;
        moment = settled.moment ∙ again.moment ∙ first_moment;
        ring_same = ap u.ring settled.up ∙ same2.0 ∙ same.0;
        size_same = ap u.size settled.up ∙ same2.1 ∙ same.1;
        limit_same = ap u.limit settled.up ∙ same2.2 ∙ same.2;
        capacity = ap vec_capacity settled.journal ∙ capacity2 ∙ capacity;
        more = o ∷ i ∷ [];
        added = ap (λ v. v.items) settled.journal ∙ w.item
            ∙ ap (λ (is : List Item). is ++ i ∷ []) v.item
            ∙ append_assoc old.journal.items (o ∷ []) (i ∷ []);
        headed = headed_at origin old.pending old.moment first.moment (u.freed first.up)
            (u.freed second.up) Stored (outcome_if stored) first_moment;
        few = omega arith;
        short = omega (
          arith,
          one,
          two,
          short,
          short2,
          bytes_after old.load.now origin old.texts fine,
          ap
              (λ (e : U). length (u.sent e)) settled.up,
        );
        pending = subst (λ (n : ℕ). n ≤ old.pending + 2) (sym settled.pending)
            (settled_pending stored old.pending);
        moved = λ s.
            let m = write-moved old first (Overflow old.pending) overflow true written fits v moves
            s.stream refl (formed ∙ ap (packet_block old.load.now (Overflow old.pending)
            old.moment) s.last) in
            let block_is : block ≡ packet_block first.load.now origin first.moment first.moment =
            formed2 ∙ sym (ap (λ (l : Load). packet_block l origin first.moment first.moment)
            first_load ∙ ap (λ (n : ℕ). packet_block old.load.now origin n n) first_moment) in
            let m2 = write-moved first second origin block stored again (same.1 ∙ fits
            ∙ sym (ap (λ (l : Load). l.ring) first_load)) w moves2 m.0
            (packet_written (latest_first first.journal.items) origin first.moment
            (u.freed second.up) stored telling (ap is_after_refused_overflow behind))
            (block_is ∙ sym (block_here first.load.now (latest_first first.journal.items) origin
            first.moment (u.freed second.up) first.moment (outcome_if stored) telling
            (sym last_first))) in (
              record {
                stream = ap u.sent settled.up ∙ m2.0 ∙ sym
                    (ap (λ (l : Load). stream_of l new.journal.items) settled.load
                    ∙ ap (λ v. stream_of second.load.now v.items) settled.journal);
                last = settled.last ∙ either stored second.moment ∙ again.moment
                    ∙ sym (ap last_moment latest_now ∙ last_again (latest_first first.journal.items)
                    i first.moment stored refl refl (not_sync origin telling) last_first);
                ready = ap is_after_refused_overflow latest_now
                    ∙ ap (λ (b : Bool). b && is_refused (outcome_if stored))
                    (not_overflow origin telling);
              },
              subst (λ (e : U). AreFreed old.load.now earlier (o ∷ i ∷ []) (u.way old.up)
                  (u.freed old.up) (u.way e) (u.freed e)) (sym settled.up)
                  (freed-append old.load.now old.journal.items (o ∷ []) (i ∷ []) (u.way old.up)
                  (u.way first.up) (u.way second.up) (u.freed old.up) (u.freed first.up)
                  (u.freed second.up) m.1
                  (subst (λ (is : List Item). AreFreed old.load.now (latest_first is) (i ∷ [])
                  (u.way first.up) (u.freed first.up) (u.way second.up) (u.freed second.up))
                  v.item
                  (subst (λ (l : Load). AreFreed l (latest_first first.journal.items) (i ∷ [])
                  (u.way first.up) (u.freed first.up) (u.way second.up) (u.freed second.up))
                  first_load m2.1))),
            );
      }
    where
      either : (b : Bool) (m : ℕ) → (if b then m else m) ≡ m
      either true m = refl
      either false m = refl
