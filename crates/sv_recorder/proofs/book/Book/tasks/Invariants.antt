use Rattle.sv_journal.specs.Legal.{task_replies}
use Rattle.sv_recorder.specs.Replies.{IsGiving}
use Rattle.sv_recorder.proofs.steps.Giving.{tasks_left}
use Rattle.sv_recorder.proofs.book.Book.tasks.Given as goal

abbrev pub invariant-loop-index : goal.invariant-loop-index
invariant-loop-index g l =
    IsGiving (task_replies l.fn.self.load.now) (tasks_left l.fn.self.load.now l.index)
    l.fn.self l.self
