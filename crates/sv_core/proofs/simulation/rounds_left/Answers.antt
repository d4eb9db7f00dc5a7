use Rattle.std.proofs.Common.{◌+◌, ◌<◌, ◌≡◌, ◌≤◌, ap, sym, ◌∙◌, subst, arith, rules, length}
use Rattle.std.specs.Prelude.{max, count_by}
use Rattle.sv_journal.specs.Items.{is_call_of}
use Rattle.sv_load.specs.Load.{Load, script_of}
use Rattle.sv_load.specs.Need.{steps_in}
use Rattle.sv_core.proofs.in_order.PlayingLines.{most-more, most-within}
use Rattle.sv_core.proofs.simulation.rounds_left.Goals as goal

pub loop-writer-preserved : goal.loop-writer-preserved
loop-writer-preserved g c =
    let load = c.args.load.now in
    let items = c.args.recorder.now.items in
    let writer = c.loop-writer.writer in
    let own = c.left.ensures ∙ ap (λ (l : Load). length (script_of l writer)) c.requires.load in
    let below : writer < length load.scripts =
    omega (arith, c.loop-writer-test.true, c.writers-writer-end.ensures.count) in
    let more = most-more load items writer c.loop-writer.most c.left.result own
    c.loop-writer.invariant.enough in
    let within = most-within load items writer c.loop-writer.most c.left.result below own
    c.loop-writer.invariant.within in
    let is : c.max-most.result ≡ max c.loop-writer.most c.left.result =
    search (rules, c.max-most.ensures) in
    record {
      enough = λ other before.
          subst
          (λ n. length (script_of load other)
          ≤ count_by (λ i. is_call_of other i.origin) items + n) (sym is) (more other before);
      within = subst (λ n. n ≤ steps_in load) (sym is) within;
    }
