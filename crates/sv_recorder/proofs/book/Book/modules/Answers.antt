use Rattle.std.proofs.Common.{◌<◌, length, ap, arith, ◌∷◌, ◌+◌, [], subst}
use Rattle.sv_journal.specs.declared.journal.Kind.TheVariants as kinds
use Rattle.sv_journal.specs.declared.journal.Origin.TheVariants.{Reply}
use Rattle.sv_journal.specs.Legal.{replies_for}
use Rattle.sv_recorder.specs.Replies.{IsReadyFor, IsGiving}
use Rattle.sv_recorder.proofs.steps.Giving as giving
use Rattle.sv_recorder.proofs.book.Book.modules.Goals as goal

pub loop-index-init : goal.loop-index-init
loop-index-init g c =
    giving.giving-all c.args.self.now (replies_for kinds.Module c.args.self.now.load.now.modules)

pub reply-requires-clause-ready : goal.reply-requires-clause-ready
reply-requires-clause-ready g c =
    let old = c.args.self.now in
    let mid = c.loop-index.self in
    let load = old.load.now in
    let k = c.loop-index.index in
    let more : k < length load.modules = omega (
      arith,
      c.loop-index-test.true,
      c.count-count.ensures.count,
      ap length c.modules.ensures,
    ) in
    let rest = giving.giving-ready old mid (replies_for kinds.Module load.modules)
    (giving.replies_left kinds.Module load.modules k) c.requires.ready c.loop-index.invariant in
    giving.ready-first mid (Reply kinds.Module k ∷ [])
    (giving.replies_left kinds.Module load.modules (k + 1))
    (subst (λ os. IsReadyFor os mid) (giving.modules-next load k more) rest)

pub loop-index-preserved : goal.loop-index-preserved
loop-index-preserved g c =
    let old = c.args.self.now in
    let mid = c.loop-index.self in
    let load = old.load.now in
    let k = c.loop-index.index in
    let more : k < length load.modules = omega (
      arith,
      c.loop-index-test.true,
      c.count-count.ensures.count,
      ap length c.modules.ensures,
    ) in
    let all = replies_for kinds.Module load.modules in
    giving.giving-step old mid c.reply.new.self all (Reply kinds.Module k ∷ [])
    (giving.replies_left kinds.Module load.modules (k + 1))
    (subst (λ os. IsGiving all os old mid) (giving.modules-next load k more)
    c.loop-index.invariant) c.reply.ensures
