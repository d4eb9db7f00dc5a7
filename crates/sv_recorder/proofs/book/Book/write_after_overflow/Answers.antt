use Rattle.std.proofs.Common.{◌∙◌, arith, refl, ap}
use Rattle.sv_journal.specs.declared.journal.Origin.TheVariants.{Overflow}
use Rattle.sv_journal.specs.declared.journal.Outcome.TheVariants.{Stored, Refused}
use Rattle.sv_journal.specs.Items.{item_of}
use Rattle.sv_recorder.specs.Book.{head_if}
use Rattle.sv_recorder.specs.Formed.{packet_bytes, block_bytes, overflow_bytes}
use Rattle.sv_recorder.specs.Writes.{outcome_if}
use Rattle.sv_recorder.proofs.moving.Entries.{as_long, gains_two}
use Rattle.sv_recorder.proofs.keeping.Holds.{refused-holds, after-holds}
use Rattle.sv_recorder.proofs.moving.Moves.{ready_after}
use Rattle.sv_recorder.proofs.moving.OverflowMoves.{after-goes, refused-goes}
use Rattle.sv_recorder.proofs.moving.Goes.{goes-to}
use Rattle.sv_recorder.proofs.book.Book.write_after_overflow.Goals as goal

pub returns-then-not-write-clause-kept : goal.returns-then-not-write-clause-kept
returns-then-not-write-clause-kept g c =
    refused-holds c.args.self.now c.write.new.self c.note.new.self c.args.origin c.deref.result.now
    c.write.ensures.stays c.note.ensures.stays c.note.ensures.up c.args.self.now.ring c.requires.on
    c.requires.some (rw c.if-not-write.true at c.write.ensures.writes) (c.deref.ensures.0
    ∙ c.form.ensures.block) c.note.ensures.item

pub write-stored-requires-clause-ready : goal.write-stored-requires-clause-ready
write-stored-requires-clause-ready g c =
    let old = c.args.self.now in
    let ready = c.requires.ready in
    let stays = c.write.ensures.stays in
    let w = rw c.if-not-write.false at c.write.ensures.writes in
    ready_after old c.write.new.self c.args.origin c.deref.result.now c.deref-2.result.now
    ready c.requires.packet stays stays.same stays.capacity w
    (as_long c.deref.result.now _ overflow_bytes c.deref.ensures.0 c.form.ensures.short)
    (as_long c.deref-2.result.now _ (block_bytes old.load.now c.args.origin) c.deref-2.ensures.0
    (rw c.write.ensures.stays.load at c.form-2.ensures.short))

pub returns-clause-kept : goal.returns-clause-kept
returns-clause-kept g c =
    let w = rw c.if-not-write.false at c.write.ensures.writes in
    after-holds c.args.self.now c.write.new.self c.write-stored.new.self c.settle.new.self
    c.args.origin c.deref.result.now c.deref-2.result.now c.write-stored.result
    c.write.ensures.stays c.write-stored.ensures.stays c.settle.ensures c.args.self.now.ring
    c.write.ensures.stays.same.1 c.requires.on c.requires.some w (c.deref.ensures.0
    ∙ c.form.ensures.block) c.write-stored.ensures.writes
    (c.deref-2.ensures.0 ∙ (rw (c.write.ensures.stays.load, c.write.ensures.stays.moment) at
    c.form-2.ensures.block))

pub returns-clause-records : goal.returns-clause-records
returns-clause-records g c =
    let u = g.U.UpWriter in
    let w = rw c.if-not-write.false at c.write.ensures.writes in
    let m = rw c.if-not-write.false at c.write.ensures.moves in
    let old = c.args.self.now in
    record {
      goes = after-goes c.args.self.now c.write.new.self c.write-stored.new.self c.settle.new.self
          c.args.origin c.deref.result.now c.deref-2.result.now c.write-stored.result
          c.write.ensures.stays c.write-stored.ensures.stays c.settle.ensures c.args.self.now.ring
          c.write.ensures.stays.same c.write-stored.ensures.stays.same
          c.write.ensures.stays.capacity c.write-stored.ensures.stays.capacity w
          c.write-stored.ensures.writes m c.write-stored.ensures.moves
          (c.deref.ensures.0 ∙ c.form.ensures.block)
          (c.deref-2.ensures.0 ∙ (rw (c.write.ensures.stays.load, c.write.ensures.stays.moment) at
          c.form-2.ensures.block))
          (as_long c.deref.result.now _ overflow_bytes c.deref.ensures.0 c.form.ensures.short)
          (as_long c.deref-2.result.now _ (block_bytes c.args.self.now.load.now c.args.origin)
          c.deref-2.ensures.0 (rw c.write.ensures.stays.load at c.form-2.ensures.short))
          c.requires.packet.telling c.requires.packet;
      on = c.settle.ensures.on ∙ c.write-stored.ensures.stays.on ∙ c.write.ensures.stays.on;
      item = gains_two old.journal.items c.write.new.self.journal.items
          c.settle.new.self.journal.items (item_of (Overflow old.pending) old.moment
          (u.freed c.write.new.self.up) Stored) c.args.origin c.write.new.self.moment
          (u.freed c.write-stored.new.self.up) (outcome_if c.write-stored.result)
          c.outcome_of.result w.item
          (ap (λ v. v.items) c.settle.ensures.journal ∙ c.write-stored.ensures.writes.item)
          c.outcome_of.ensures;
    }

pub returns-then-not-write-clause-records : goal.returns-then-not-write-clause-records
returns-then-not-write-clause-records g c =
    let u = g.U.UpWriter in
    let old = c.args.self.now in
    let w = rw c.if-not-write.true at c.write.ensures.writes in
    record {
      goes = goes-to c.args.self.now c.note.new.self _ (head_if c.args.origin) 2
          (packet_bytes c.args.self.now.load.now c.args.origin)
          (refused-goes c.args.self.now c.write.new.self c.note.new.self c.args.origin
          c.deref.result.now
          c.write.ensures.stays c.note.ensures.stays c.note.ensures.up c.args.self.now.ring
          c.write.ensures.stays.same c.write.ensures.stays.capacity
          c.note.ensures.stays.capacity (rw c.if-not-write.true at c.write.ensures.writes)
          (rw c.if-not-write.true at c.write.ensures.moves)
          (c.deref.ensures.0 ∙ c.form.ensures.block) c.note.ensures.item
          c.requires.packet.telling) refl refl refl refl refl (omega arith);
      on = c.note.ensures.stays.on ∙ c.write.ensures.stays.on;
      item = gains_two old.journal.items c.write.new.self.journal.items
          c.note.new.self.journal.items (item_of (Overflow old.pending) old.moment
          (u.freed c.write.new.self.up) Refused) c.args.origin c.write.new.self.moment
          (u.freed c.write.new.self.up) Refused Refused w.item c.note.ensures.item refl;
    }
