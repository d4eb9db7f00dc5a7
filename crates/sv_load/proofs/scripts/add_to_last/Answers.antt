use Rattle.std.proofs.Common.{◌≡◌, ◌+◌, ◌-◌, ◌∷◌, ◌++◌, [], length, ap, ◌∙◌, arith}
use Rattle.std.proofs.Math.Seq.{map-set_same}
use Rattle.std.proofs.lemmas.Result.{on_ok_weaker, on_err_weaker}
use Rattle.sv_load.proofs.Scripted.{last_set}
use Rattle.sv_load.proofs.scripts.add_to_last.Goals as goal

pub returns-clause-ok : goal.returns-clause-ok
returns-clause-ok c =
    let place : c.len-last.result - 1 + 1 ≡ length c.args.writers.now.items = omega
    (arith, c.len-last.ensures, c.requires.some) in
    on_ok_weaker c.add_step.result
    (λ added. last_set (λ script. script.items) c.args.writers.now.items (c.len-last.result - 1)
    c.add_step.new.script c.index_mut.result.now c.args.step place
    (added ∙ ap (λ script. script.items ++ c.args.step ∷ []) c.index_mut.ensures.value))
    c.add_step.ensures.ok

pub returns-clause-err : goal.returns-clause-err
returns-clause-err c =
    on_err_weaker c.add_step.result
    (λ kept. map-set_same (λ script. script.items) c.args.writers.now.items (c.len-last.result - 1)
    c.add_step.new.script c.index_mut.result.now
    (kept ∙ ap (λ script. script.items) c.index_mut.ensures.value))
    c.add_step.ensures.err
