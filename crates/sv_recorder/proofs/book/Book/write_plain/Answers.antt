use Rattle.std.proofs.Common.{◌∙◌, ap}
use Rattle.sv_recorder.specs.Writes.{outcome_if}
use Rattle.sv_recorder.proofs.moving.Entries.{as_long, gains_one}
use Rattle.sv_recorder.proofs.keeping.Holds.{plain-holds}
use Rattle.sv_recorder.proofs.moving.Moves.{plain-goes}
use Rattle.sv_recorder.proofs.book.Book.write_plain.Goals as goal

pub returns-clause-kept : goal.returns-clause-kept
returns-clause-kept g c =
    plain-holds c.args.self.now c.write-stored.new.self c.settle.new.self c.args.origin
    c.deref.result.now c.write-stored.result
    c.write-stored.ensures.stays c.settle.ensures c.args.self.now.ring c.requires.on c.requires.none
    c.write-stored.ensures.writes (c.deref.ensures.0 ∙ c.form.ensures.block)

pub returns-clause-records : goal.returns-clause-records
returns-clause-records g c =
    let u = g.U.UpWriter in
    let w = c.write-stored.ensures in
    record {
      goes = plain-goes c.args.self.now c.write-stored.new.self c.settle.new.self c.args.origin
          c.deref.result.now c.write-stored.result
          w.stays c.settle.ensures c.args.self.now.ring w.stays.same w.stays.capacity w.writes
          w.moves
          (c.deref.ensures.0 ∙ c.form.ensures.block)
          (as_long c.deref.result.now _ _ c.deref.ensures.0 c.form.ensures.short)
          c.requires.packet.telling c.requires.packet;
      on = c.settle.ensures.on ∙ w.stays.on;
      item = gains_one c.args.self.now.journal.items c.settle.new.self.journal.items c.args.origin
          c.args.self.now.moment (u.freed c.write-stored.new.self.up)
          (outcome_if c.write-stored.result) c.outcome_of.result
          (ap (λ v. v.items) c.settle.ensures.journal ∙ w.writes.item) c.outcome_of.ensures;
    }
