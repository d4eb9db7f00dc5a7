use Rattle.sv_recorder.proofs.steps.Books.{obeys}
use Rattle.sv_recorder.proofs.book.Book.obey.Goals as goal

pub returns-in-Some : goal.returns-in-Some
returns-in-Some g c =
    obeys c.args.self.now c.command.new.self c.in-Some.command c.args.found c.in-Some.is
    c.command.ensures.kept c.command.ensures.goes
