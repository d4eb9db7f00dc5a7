use Rattle.sv_recorder.proofs.steps.Books.{sync-holds, sync-goes}
use Rattle.sv_recorder.proofs.book.Book.sync.Goals as goal

pub returns : goal.returns
returns g c = record {
  kept = sync-holds c.args.self.now c.write.new.self c.write.result c.write.ensures.stays
      c.args.self.now.ring c.requires.on c.write.ensures.writes;
  goes = sync-goes c.args.self.now c.write.new.self c.write.result c.write.ensures.stays
      c.args.self.now.ring c.write.ensures.stays.same c.write.ensures.stays.capacity
      c.write.ensures.writes c.write.ensures.moves;
  on = c.write.ensures.stays.on;
}
