use Rattle.std.proofs.Common.{refl}
use Rattle.sv_recorder.proofs.steps.Books.{noted-holds, noted-goes}
use Rattle.sv_recorder.proofs.book.Book.handle.Goals as goal

pub returns : goal.returns
returns g c =
    let old = c.args.self.now in
    let noted = c.note.new.self in
    let n = c.note.ensures in
    record {
      kept = noted-holds old noted c.args.head c.args.on n.stays n.up n.item c.requires.control
          c.requires.on;
      goes = noted-goes old noted _ c.args.head n.stays n.up n.item c.requires.control refl refl
          refl refl refl refl;
      on = c.requires.on;
    }
