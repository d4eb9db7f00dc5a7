use Rattle.sv_recorder.proofs.steps.Books.{event-holds}
use Rattle.sv_recorder.proofs.book.Book.event.Goals as goal

pub returns-clause-kept : goal.returns-clause-kept
returns-clause-kept g c =
    let act = c.requires.formed in
    event-holds c.args.self.now c.packet-outcome.new.self c.args.writer c.args.step act.0 act.1
    c.packet-outcome.ensures.kept c.packet-outcome.ensures.records.on
