use Rattle.std.proofs.Common.{sym, ap, subst, ◌||◌, ◌∙◌}
use Rattle.sv_journal.specs.Legal.{start_answers}
use Rattle.sv_recorder.specs.Replies.{Gives, IsReadyFor}
use Rattle.sv_recorder.proofs.steps.Books.{owes-gives, owes-goes, owes-ready, one_ready}
use Rattle.sv_recorder.proofs.keeping.Groups.{start_owes}
use Rattle.sv_recorder.proofs.book.Book.start.Goals as goal

pub handle-requires-clause-control : goal.handle-requires-clause-control
handle-requires-clause-control g c =
    (start_owes c.args.self.now.load.now c.args.head c.requires.start).1

pub handle-requires-clause-on : goal.handle-requires-clause-on
handle-requires-clause-on g c = sym (ap (λ b. b || c.args.self.now.on) c.requires.start)

pub handle-requires-clause-ready : goal.handle-requires-clause-ready
handle-requires-clause-ready g c =
    let owes = start_owes c.args.self.now.load.now c.args.head c.requires.start in
    one_ready c.args.self.now c.args.head owes.1 c.requires.ready

pub describe-requires-clause-ready : goal.describe-requires-clause-ready
describe-requires-clause-ready g c =
    let old = c.args.self.now in
    let load = old.load.now in
    let owes = start_owes load c.args.head c.requires.start in
    subst (λ l. IsReadyFor (start_answers l) c.handle.new.self) (sym c.handle.ensures.goes.load)
    (owes-ready old c.handle.new.self c.args.head (start_answers load) owes.1 owes.0
    c.requires.ready c.handle.ensures)

pub describe-requires-clause-on : goal.describe-requires-clause-on
describe-requires-clause-on g c =
    c.handle.ensures.on ∙ ap (λ b. b || c.args.self.now.on) c.requires.start

pub returns-clause-kept : goal.returns-clause-kept
returns-clause-kept g c =
    let old = c.args.self.now in
    let load = old.load.now in
    let owes = start_owes load c.args.head c.requires.start in
    owes-gives old c.handle.new.self c.describe.new.self c.args.head (start_answers load)
    c.handle.ensures (subst (λ l. Gives (start_answers l) c.handle.new.self c.describe.new.self)
    c.handle.ensures.goes.load c.describe.ensures) owes.0

pub returns-clause-goes : goal.returns-clause-goes
returns-clause-goes g c =
    let old = c.args.self.now in
    let load = old.load.now in
    let owes = start_owes load c.args.head c.requires.start in
    let gives = subst (λ l. Gives (start_answers l) c.handle.new.self c.describe.new.self)
    c.handle.ensures.goes.load c.describe.ensures in
    owes-goes old c.handle.new.self c.describe.new.self c.args.head (start_answers load) owes.1
    owes.0 c.handle.ensures gives.goes
