use Rattle.std.proofs.Common.{refl, arith}
use Rattle.std.specs.Prelude.{not}
use Rattle.sv_journal.specs.declared.journal.Outcome.TheVariants.{Ignored}
use Rattle.sv_journal.specs.Items.{latest_first, is_stop_reply}
use Rattle.sv_recorder.specs.Book.{head_if}
use Rattle.sv_recorder.specs.Formed.{packet_bytes}
use Rattle.sv_recorder.proofs.moving.Entries.{and-not, headed_one, gains_one}
use Rattle.sv_recorder.proofs.keeping.Holds.{ignored-holds}
use Rattle.sv_recorder.proofs.moving.Freed.{ignored_unwritten}
use Rattle.sv_recorder.proofs.moving.Goes.{goes-note, goes-less}
use Rattle.sv_recorder.proofs.keeping.Packets.{not_overflow}
use Rattle.sv_recorder.proofs.book.Book.packet.Goals as goal

pub returns-then-not-self-clause-kept : goal.returns-then-not-self-clause-kept
returns-then-not-self-clause-kept g c =
    ignored-holds c.args.self.now c.note.new.self c.args.origin c.note.ensures.stays
    c.note.ensures.up c.if-not-self.true c.note.ensures.item

pub returns-then-self-gt0-clause-kept : goal.returns-then-self-gt0-clause-kept
returns-then-self-gt0-clause-kept g c = λ owed rest k p.
    rw (and-not c.args.self.now.on (not (is_stop_reply c.args.origin)) c.if-not-self.false)
    (c.write_after_overflow.ensures.kept owed rest k p)

pub returns-else-self-gt0-clause-kept : goal.returns-else-self-gt0-clause-kept
returns-else-self-gt0-clause-kept g c = λ owed rest k p.
    rw (and-not c.args.self.now.on (not (is_stop_reply c.args.origin)) c.if-not-self.false)
    (c.write_plain.ensures.kept owed rest k p)

pub returns-then-not-self-clause-records : goal.returns-then-not-self-clause-records
returns-then-not-self-clause-records g c =
    let u = g.U.UpWriter in
    let old = c.args.self.now in
    let telling = c.requires.packet.telling in
    let noted = goes-note old c.note.new.self c.args.origin Ignored c.note.ensures.stays
    c.note.ensures.up c.note.ensures.stays.capacity c.note.ensures.item
    (headed_one c.args.origin old.moment (u.freed old.up) Ignored)
    refl (not_overflow c.args.origin telling) (ignored_unwritten (latest_first old.journal.items)
    c.args.origin old.moment (u.freed old.up) telling) in
    record {
      goes = goes-less old c.note.new.self (head_if c.args.origin) 1 2 0
          (packet_bytes old.load.now c.args.origin) noted (omega arith) (omega arith);
      on = c.note.ensures.stays.on;
      item = gains_one old.journal.items c.note.new.self.journal.items c.args.origin old.moment
          (u.freed old.up) Ignored Ignored c.note.ensures.item refl;
    }
