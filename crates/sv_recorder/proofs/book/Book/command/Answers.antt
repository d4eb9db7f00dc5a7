use Rattle.std.proofs.Common.{◌≢◌, subst}
use Rattle.sv_journal.specs.declared.journal.Origin.TheVariants.{Command}
use Rattle.sv_journal.specs.Legal.{command_answers}
use Rattle.sv_recorder.specs.Replies.{Gives}
use Rattle.sv_recorder.proofs.steps.Books.{owes-gives, owes-goes}
use Rattle.sv_recorder.proofs.keeping.Groups.{command_owes}
use Rattle.sv_recorder.proofs.book.Book.command.Goals as goal

pub returns-in_default-clause-kept : goal.returns-in_default-clause-kept
returns-in_default-clause-kept g c =
    let old = c.args.self.now in
    let load = old.load.now in
    let byte = c.args.command.byte in
    let param = c.args.command.param in
    let no_start : byte ≢ 1 = search in
    let no_stop : byte ≢ 2 = search in
    let owes = command_owes load byte param no_start no_stop in
    owes-gives old c.handle.new.self c.answer.new.self (Command byte param)
    (command_answers load byte param) c.handle.ensures
    (subst (λ l. Gives (command_answers l byte param) c.handle.new.self c.answer.new.self)
    c.handle.ensures.goes.load c.answer.ensures) owes.0

pub returns-in_default-clause-goes : goal.returns-in_default-clause-goes
returns-in_default-clause-goes g c =
    let old = c.args.self.now in
    let load = old.load.now in
    let byte = c.args.command.byte in
    let param = c.args.command.param in
    let no_start : byte ≢ 1 = search in
    let no_stop : byte ≢ 2 = search in
    let owes = command_owes load byte param no_start no_stop in
    let gives = subst (λ l. Gives (command_answers l byte param) c.handle.new.self
    c.answer.new.self) c.handle.ensures.goes.load c.answer.ensures in
    owes-goes old c.handle.new.self c.answer.new.self (Command byte param)
    (command_answers load byte param) owes.1 owes.0 c.handle.ensures gives.goes
