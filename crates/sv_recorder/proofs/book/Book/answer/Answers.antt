use Rattle.std.proofs.Common.{sym, subst}
use Rattle.sv_recorder.specs.Replies.{Gives}
use Rattle.sv_recorder.proofs.steps.Giving.{gives-none}
use Rattle.sv_recorder.proofs.keeping.Groups.{no_answers}
use Rattle.sv_recorder.proofs.book.Book.answer.Goals as goal

pub returns-in_default : goal.returns-in_default
returns-in_default g c =
    let old = c.args.self.now in
    subst (λ os. Gives os old old) (sym (no_answers old.load.now c.args.command.byte
    c.args.command.param (search) (search) (search) (search) (search) (search)))
    (gives-none old)
