use Rattle.std.proofs.Common.{◌∷◌, [], subst}
use Rattle.sv_journal.specs.declared.journal.Kind.TheVariants as kinds
use Rattle.sv_journal.specs.declared.journal.Origin.TheVariants.{Reply}
use Rattle.sv_journal.specs.Legal.{replies_for}
use Rattle.sv_recorder.specs.Replies.{Gives}
use Rattle.sv_recorder.proofs.steps.Giving.{gives-then}
use Rattle.sv_recorder.proofs.book.Book.init.Goals as goal

pub returns : goal.returns
returns g c =
    let load = c.args.self.now.load.now in
    gives-then c.args.self.now c.reply.new.self c.lines.new.self (Reply kinds.Init 0 ∷ [])
    (replies_for kinds.Line load.lines) c.reply.ensures
    (subst (λ l. Gives (replies_for kinds.Line l.lines) c.reply.new.self c.lines.new.self)
    c.reply.ensures.goes.load c.lines.ensures)
