use Rattle.std.proofs.Common.{◌∷◌, ◌∙◌, [], subst}
use Rattle.sv_journal.specs.declared.journal.Kind.TheVariants as kinds
use Rattle.sv_journal.specs.declared.journal.Origin.TheVariants.{Sync, Reply}
use Rattle.sv_journal.specs.Legal.{init_replies, task_replies}
use Rattle.sv_recorder.specs.Replies.{Gives}
use Rattle.sv_recorder.proofs.steps.Giving.{gives-then}
use Rattle.sv_recorder.proofs.book.Book.describe.Goals as goal

pub returns : goal.returns
returns g c =
    let old = c.args.self.now in
    let load = old.load.now in
    let to_reply = c.reply.ensures.goes.load ∙ c.sync.ensures.goes.load in
    let init = subst (λ l. Gives (init_replies l) c.reply.new.self c.init.new.self) to_reply
    c.init.ensures in
    let to_tasks = c.reply-2.ensures.goes.load ∙ c.init.ensures.goes.load ∙ to_reply in
    let tasks = subst (λ l. Gives (task_replies l) c.reply-2.new.self c.tasks.new.self) to_tasks
    c.tasks.ensures in
    let last = Reply kinds.ModuleCount 0 ∷ [] in
    let five = gives-then c.reply-2.new.self c.tasks.new.self c.reply-3.new.self (task_replies load)
    last tasks c.reply-3.ensures in
    let four = gives-then c.init.new.self c.reply-2.new.self c.reply-3.new.self
    (Reply kinds.Systime 0 ∷ []) _ c.reply-2.ensures five in
    let three = gives-then c.reply.new.self c.init.new.self c.reply-3.new.self (init_replies load) _
    init four in
    let two = gives-then c.sync.new.self c.reply.new.self c.reply-3.new.self
    (Reply kinds.TraceStart 0 ∷ []) _ c.reply.ensures three in
    gives-then old c.sync.new.self c.reply-3.new.self (Sync ∷ []) _ c.sync.ensures two
