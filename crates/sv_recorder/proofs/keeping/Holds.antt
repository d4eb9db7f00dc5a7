-- What an entry in the book keeps.
use Rattle.std.proofs.Common.{◌≡◌, ℕ, ◌+◌, ◌<◌, Bool, true, false, not, ◌&&◌, List, [], ◌∷◌, ◌++◌}
use Rattle.std.proofs.Common.{refl, sym, ap, ◌∙◌, subst, arith}
use Rattle.std.specs.Prelude.{if◌then◌else◌}
use Rattle.sv_ring.specs.declared.up_writer.UpWriter.{Ghosts}
use Rattle.sv_recorder.specs.declared.book.Book.{Book}
use Rattle.sv_recorder.specs.Kept.{Keeps}
use Rattle.sv_recorder.specs.Writes.{WritesItem, IsPacketHere}
use Rattle.sv_recorder.specs.Book.{HoldsOwing, HoldsAs, Stays, Settles}
use Rattle.sv_recorder.proofs.keeping.Packets.{packet-off, packet-plain}
use Rattle.sv_recorder.proofs.keeping.Overflows.{packet-after_refused, packet-after_stored}
use Rattle.sv_journal.specs.declared.journal.Origin.{Origin}
use Rattle.sv_journal.specs.declared.journal.Origin.TheVariants.{Overflow}
use Rattle.sv_journal.specs.declared.journal.Outcome.TheVariants.{Refused, Ignored}
use Rattle.sv_journal.specs.Items.{is_stop_reply, item_of}
use Rattle.sv_journal.specs.Packets.{packet_block}

module _ {U : Type 0} {u : Ghosts U} where
  -- while the recorder is off
  pub ignored-holds : (old new : Book U u) (origin : Origin) → Stays old new → new.up ≡ old.up
      → old.on ≡ false
      → new.journal.items ≡ old.journal.items ++ item_of origin old.moment (u.freed old.up) Ignored
      ∷ []
      → (owed rest : List Origin) → HoldsOwing old owed
      → IsPacketHere old.load.now old.journal.items owed origin old.moment rest
      → HoldsAs (old.on && not (is_stop_reply origin)) new rest
  ignored-holds old new origin noted same_up off item owed rest k p =
      let k2 : Keeps old.load.now old.journal.items owed (u.sent old.up) (u.freed old.up) false
      old.pending old.last = subst (λ (b : Bool). Keeps old.load.now old.journal.items owed
      (u.sent old.up) (u.freed old.up) b old.pending old.last) off k in
      let kept = packet-off old.load.now old.journal.items new.journal.items owed rest
      (u.sent old.up) (u.freed old.up) old.pending old.last origin old.moment k2 p item in
      rw (noted.load, noted.pending, noted.last, same_up)
      (subst (λ (b : Bool). Keeps old.load.now new.journal.items rest (u.sent old.up)
      (u.freed old.up) b old.pending old.last) (sym
      (ap (λ (b : Bool). b && not (is_stop_reply origin)) off)) kept)

  -- written while nothing is pending
  pub plain-holds : (old mid new : Book U u) (origin : Origin) (block : List ℕ) (stored : Bool)
      → Stays old mid
      → Settles stored mid.last mid new
      → u.size old.up ≡ old.load.now.ring → old.on ≡ true → old.pending ≡ 0
      → WritesItem (u.size old.up) old.journal.items mid.journal.items (u.sent old.up)
      (u.sent mid.up)
      (u.freed old.up) (u.freed mid.up) origin old.moment block stored
      → block ≡ packet_block old.load.now origin old.moment old.last
      → (owed rest : List Origin) → HoldsOwing old owed
      → IsPacketHere old.load.now old.journal.items owed origin old.moment rest
      → HoldsAs (not (is_stop_reply origin)) new rest
  plain-holds old mid new origin block stored written settled fits on none writes formed owed rest k
      p =
      let w : WritesItem old.load.now.ring old.journal.items mid.journal.items (u.sent old.up)
      (u.sent mid.up) (u.freed old.up) (u.freed mid.up) origin old.moment
      (packet_block old.load.now origin old.moment old.last) stored =
      subst (λ (n : ℕ). WritesItem n old.journal.items mid.journal.items (u.sent old.up)
      (u.sent mid.up)
      (u.freed old.up) (u.freed mid.up) origin old.moment
      (packet_block old.load.now origin old.moment old.last) stored) fits
      (subst (λ (b : List ℕ). WritesItem (u.size old.up) old.journal.items mid.journal.items
      (u.sent old.up) (u.sent mid.up) (u.freed old.up) (u.freed mid.up) origin old.moment b
      stored) formed writes) in
      let k2 : Keeps old.load.now old.journal.items owed (u.sent old.up) (u.freed old.up) true 0
      old.last =
      subst (λ (b : Bool). Keeps old.load.now old.journal.items owed (u.sent old.up)
      (u.freed old.up) b 0 old.last) on
      (subst (λ (n : ℕ). Keeps old.load.now old.journal.items owed (u.sent old.up) (u.freed old.up)
      old.on n old.last) none k) in
      let kept = packet-plain old.load.now old.journal.items mid.journal.items owed rest
      (u.sent old.up) (u.sent mid.up) (u.freed old.up) (u.freed mid.up) old.last origin
      old.moment stored k2 p w in
      rw (
        settled.load,
        settled.journal,
        settled.up,
        settled.pending,
        settled.last,
        written.load,
        written.moment,
        written.last,
      ) kept

  -- refused with the overflow before it
  pub refused-holds : (old mid new : Book U u) (origin : Origin) (block : List ℕ)
      → Stays old mid
      → Stays mid new → new.up ≡ mid.up
      → u.size old.up ≡ old.load.now.ring → old.on ≡ true → 0 < old.pending
      → WritesItem (u.size old.up) old.journal.items mid.journal.items (u.sent old.up)
      (u.sent mid.up)
      (u.freed old.up) (u.freed mid.up) (Overflow old.pending) old.moment block false
      → block ≡ packet_block old.load.now (Overflow old.pending) old.moment old.last
      → new.journal.items ≡ mid.journal.items ++ item_of origin mid.moment (u.freed mid.up) Refused
      ∷ []
      → (owed rest : List Origin) → HoldsOwing old owed
      → IsPacketHere old.load.now old.journal.items owed origin old.moment rest
      → Keeps new.load.now new.journal.items rest (u.sent new.up) (u.freed new.up)
      (not (is_stop_reply origin)) (old.pending + 1) new.last
  refused-holds old mid new origin block written noted same_up fits on some writes formed item owed
      rest k p =
      let w : WritesItem old.load.now.ring old.journal.items mid.journal.items (u.sent old.up)
      (u.sent mid.up) (u.freed old.up) (u.freed mid.up) (Overflow old.pending) old.moment
      (packet_block old.load.now (Overflow old.pending) old.moment old.last) false =
      subst (λ (n : ℕ). WritesItem n old.journal.items mid.journal.items (u.sent old.up)
      (u.sent mid.up)
      (u.freed old.up) (u.freed mid.up) (Overflow old.pending) old.moment
      (packet_block old.load.now (Overflow old.pending) old.moment old.last) false) fits
      (subst (λ (b : List ℕ). WritesItem (u.size old.up) old.journal.items mid.journal.items
      (u.sent old.up) (u.sent mid.up) (u.freed old.up) (u.freed mid.up) (Overflow old.pending)
      old.moment b false) formed writes) in
      let k2 : Keeps old.load.now old.journal.items owed (u.sent old.up) (u.freed old.up) true
      old.pending old.last =
      subst (λ (b : Bool). Keeps old.load.now old.journal.items owed (u.sent old.up)
      (u.freed old.up) b old.pending old.last) on k in
      let same_moment : mid.moment ≡ old.moment = written.moment in
      let same_load : new.load.now ≡ old.load.now = noted.load ∙ written.load in
      let same_last : new.last ≡ old.last = noted.last ∙ written.last in
      let grown : new.journal.items
      ≡ mid.journal.items ++ item_of origin old.moment (u.freed mid.up)
      Refused ∷ [] = item ∙ ap (λ (m : ℕ). mid.journal.items ++ item_of origin m (u.freed mid.up)
      Refused ∷ []) same_moment in
      let kept = packet-after_refused old.load.now old.journal.items mid.journal.items
      new.journal.items owed rest (u.sent old.up) (u.sent mid.up) (u.freed old.up)
      (u.freed mid.up) old.pending old.last origin old.moment k2 some p w grown in
      let one : old.pending + 1 ≡ 1 + old.pending = omega arith in
      rw (same_load, same_last, same_up, one) kept

  -- written after a stored overflow
  pub after-holds : (old first second new : Book U u) (origin : Origin) (overflow block : List ℕ)
      (stored : Bool)
      → Stays old first
      → Stays first second
      → Settles stored second.moment second new
      → u.size old.up ≡ old.load.now.ring → u.size first.up ≡ u.size old.up → old.on ≡ true
      → 0 < old.pending
      → WritesItem (u.size old.up) old.journal.items first.journal.items (u.sent old.up)
      (u.sent first.up) (u.freed old.up) (u.freed first.up) (Overflow old.pending) old.moment
      overflow true
      → overflow ≡ packet_block old.load.now (Overflow old.pending) old.moment old.last
      → WritesItem (u.size first.up) first.journal.items second.journal.items (u.sent first.up)
      (u.sent second.up) (u.freed first.up) (u.freed second.up) origin first.moment block stored
      → block ≡ packet_block old.load.now origin old.moment old.moment
      → (owed rest : List Origin) → HoldsOwing old owed
      → IsPacketHere old.load.now old.journal.items owed origin old.moment rest
      → HoldsAs (not (is_stop_reply origin)) new rest
  after-holds old first second new origin overflow block stored written again settled fits same_size
      on some writes formed writes2 formed2 owed rest k p =
      let v : WritesItem old.load.now.ring old.journal.items first.journal.items (u.sent old.up)
      (u.sent first.up) (u.freed old.up) (u.freed first.up) (Overflow old.pending) old.moment
      (packet_block old.load.now (Overflow old.pending) old.moment old.last) true =
      subst (λ (n : ℕ). WritesItem n old.journal.items first.journal.items (u.sent old.up)
      (u.sent first.up) (u.freed old.up) (u.freed first.up) (Overflow old.pending) old.moment
      (packet_block old.load.now (Overflow old.pending) old.moment old.last) true) fits
      (subst (λ (b : List ℕ). WritesItem (u.size old.up) old.journal.items first.journal.items
      (u.sent old.up) (u.sent first.up) (u.freed old.up) (u.freed first.up)
      (Overflow old.pending) old.moment b true) formed writes) in
      let first_moment : first.moment ≡ old.moment = written.moment in
      let w : WritesItem old.load.now.ring first.journal.items second.journal.items
      (u.sent first.up)
      (u.sent second.up) (u.freed first.up) (u.freed second.up) origin old.moment
      (packet_block old.load.now origin old.moment old.moment) stored =
      subst (λ (n : ℕ). WritesItem n first.journal.items second.journal.items (u.sent first.up)
      (u.sent second.up) (u.freed first.up) (u.freed second.up) origin old.moment
      (packet_block old.load.now origin old.moment old.moment) stored) (same_size ∙ fits)
      (subst (λ (b : List ℕ). WritesItem (u.size first.up) first.journal.items second.journal.items
      (u.sent first.up) (u.sent second.up) (u.freed first.up) (u.freed second.up) origin
      old.moment b stored) formed2
      (subst (λ (m : ℕ). WritesItem (u.size first.up) first.journal.items second.journal.items
      (u.sent first.up) (u.sent second.up) (u.freed first.up) (u.freed second.up) origin m block
      stored) first_moment writes2)) in
      let k2 : Keeps old.load.now old.journal.items owed (u.sent old.up) (u.freed old.up) true
      old.pending old.last =
      subst (λ (b : Bool). Keeps old.load.now old.journal.items owed (u.sent old.up)
      (u.freed old.up) b old.pending old.last) on k in
      let kept = packet-after_stored old.load.now old.journal.items first.journal.items
      second.journal.items owed rest (u.sent old.up) (u.sent first.up) (u.sent second.up)
      (u.freed old.up) (u.freed first.up) (u.freed second.up) old.pending old.last origin
      old.moment stored k2 some p v w in
      let same_load : second.load.now ≡ old.load.now = again.load ∙ written.load in
      let same_moment : second.moment ≡ old.moment = again.moment ∙ first_moment in
      rw (
        settled.load,
        settled.journal,
        settled.up,
        settled.pending,
        settled.last,
        either stored
            second.moment,
        same_load,
        same_moment,
      ) kept
    where
      either : (b : Bool) (m : ℕ) → (if b then m else m) ≡ m
      either true m = refl
      either false m = refl
