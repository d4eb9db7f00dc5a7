use Rattle.sv_recorder.proofs.steps.Giving.{gives-reply}
use Rattle.sv_recorder.proofs.book.Book.reply.Goals as goal

pub returns : goal.returns
returns g c =
    gives-reply c.args.self.now c.packet.new.self c.args.kind c.args.index c.requires.stays
    c.packet.ensures.kept c.packet.ensures.records.goes c.packet.ensures.records.on
