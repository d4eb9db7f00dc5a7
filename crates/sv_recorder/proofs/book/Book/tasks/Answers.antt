use Rattle.std.proofs.Common.{◌<◌, length, ap, arith, ◌∷◌, ◌++◌, ◌+◌, [], subst}
use Rattle.sv_journal.specs.declared.journal.Kind.TheVariants as kinds
use Rattle.sv_journal.specs.declared.journal.Origin.TheVariants.{Reply}
use Rattle.sv_journal.specs.Legal.{task_replies}
use Rattle.sv_recorder.specs.Replies.{IsReadyFor, IsGiving}
use Rattle.sv_recorder.proofs.steps.Giving as giving
use Rattle.sv_recorder.proofs.book.Book.tasks.Goals as goal

pub loop-index-init : goal.loop-index-init
loop-index-init g c =
    giving.giving-all c.args.self.now (task_replies c.args.self.now.load.now)

pub reply-requires-clause-ready : goal.reply-requires-clause-ready
reply-requires-clause-ready g c =
    let old = c.args.self.now in
    let mid = c.loop-index.self in
    let load = old.load.now in
    let k = c.loop-index.index in
    let more : k < length load.tasks = omega (
      arith,
      c.loop-index-test.true,
      ap length c.tasks.ensures.told,
    ) in
    let rest = giving.giving-ready old mid (task_replies load) (giving.tasks_left load k)
    c.requires.ready c.loop-index.invariant in
    giving.ready-first mid (Reply kinds.Task k ∷ [])
    ((Reply kinds.Stack k ∷ []) ++ giving.tasks_left load (k + 1))
    (subst (λ os. IsReadyFor os mid) (giving.tasks-next load k more) rest)

pub reply-requires-in-loop-index-clause-ready : goal.reply-requires-in-loop-index-clause-ready
reply-requires-in-loop-index-clause-ready g c =
    let old = c.args.self.now in
    let mid = c.loop-index.self in
    let load = old.load.now in
    let k = c.loop-index.index in
    let more : k < length load.tasks = omega (
      arith,
      c.loop-index-test.true,
      ap length c.tasks.ensures.told,
    ) in
    let left = (Reply kinds.Stack k ∷ []) ++ giving.tasks_left load (k + 1) in
    let rest = giving.giving-ready old mid (task_replies load) (giving.tasks_left load k)
    c.requires.ready c.loop-index.invariant in
    giving.ready-first c.reply.new.self (Reply kinds.Stack k ∷ [])
    (giving.tasks_left load (k + 1))
    (giving.ready-then mid c.reply.new.self (Reply kinds.Task k ∷ []) left
    (subst (λ os. IsReadyFor os mid) (giving.tasks-next load k more) rest)
    c.reply.ensures)

pub loop-index-preserved : goal.loop-index-preserved
loop-index-preserved g c =
    let old = c.args.self.now in
    let mid = c.loop-index.self in
    let load = old.load.now in
    let k = c.loop-index.index in
    let more : k < length load.tasks = omega (
      arith,
      c.loop-index-test.true,
      ap length c.tasks.ensures.told,
    ) in
    let all = task_replies load in
    let left = (Reply kinds.Stack k ∷ []) ++ giving.tasks_left load (k + 1) in
    giving.giving-step old c.reply.new.self c.reply-in-loop-index.new.self all
    (Reply kinds.Stack k ∷ []) (giving.tasks_left load (k + 1))
    (giving.giving-step old mid c.reply.new.self all (Reply kinds.Task k ∷ []) left
    (subst (λ os. IsGiving all os old mid) (giving.tasks-next load k more)
    c.loop-index.invariant) c.reply.ensures)
    c.reply-in-loop-index.ensures
