use Rattle.sv_journal.specs.declared.journal.Kind.TheVariants as kinds
use Rattle.sv_journal.specs.Legal.{replies_for}
use Rattle.sv_recorder.specs.Replies.{IsGiving}
use Rattle.sv_recorder.proofs.steps.Giving.{replies_left}
use Rattle.sv_recorder.proofs.book.Book.lines.Given as goal

abbrev pub invariant-loop-index : goal.invariant-loop-index
invariant-loop-index g l =
    IsGiving (replies_for kinds.Line l.fn.self.load.now.lines) (replies_left kinds.Line
    l.fn.self.load.now.lines l.index)
    l.fn.self l.self
