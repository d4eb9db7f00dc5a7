use Rattle.std.proofs.Common.{true, false, sym, ap, ◌∙◌, subst, arith, append-nil}
use Rattle.sv_journal.specs.Items.{latest_first}
use Rattle.sv_journal.specs.Legal.{EachItem}
use Rattle.sv_core.specs.Turned.{RisesLittle}
use Rattle.sv_core.proofs.own_turns.Gathered.{turned-at, rises-at}
use Rattle.sv_core.proofs.turns.turns_of.Goals.{then-is_written+in-Ok, else-is_written}
use Rattle.sv_core.proofs.turns.turns_of.Goals as goal

pub overflow_sub-item : goal.overflow_sub-item
overflow_sub-item c =
    let r =
    rises-at c.items-item-items.result.now c.loop-item.item-index _ c.loop-item.steps.items
    c.loop-item.frees.items c.loop-item.freed c.loop-item.after_lost
    (omega (arith, c.loop-item-test.true, c.loop-item.auto.item-index-end))
    c.loop-item.invariant
    (subst (λ is. EachItem RisesLittle (latest_first is)) (sym c.items-item-items.ensures)
    c.requires.rises) (λ earlier e. c.is_written.ensures earlier e ∙ c.if-is_written.true) in r.0

pub overflow_cast-item : goal.overflow_cast-item
overflow_cast-item c =
    let r =
    rises-at c.items-item-items.result.now c.loop-item.item-index _ c.loop-item.steps.items
    c.loop-item.frees.items c.loop-item.freed c.loop-item.after_lost
    (omega (arith, c.loop-item-test.true, c.loop-item.auto.item-index-end))
    c.loop-item.invariant
    (subst (λ is. EachItem RisesLittle (latest_first is)) (sym c.items-item-items.ensures)
    c.requires.rises) (λ earlier e. c.is_written.ensures earlier e ∙ c.if-is_written.true) in
    omega (arith, r.0, r.1)

pub loop-item-preserved : goal.loop-item-preserved
loop-item-preserved c = elim c.if-is_written.branch [
  | then-is_written+in-Ok w ↦
      turned-at c.items-item-items.result.now c.loop-item.item-index _ c.loop-item.steps.items
      c.pass.new.steps.items c.loop-item.frees.items c.if-is_written.frees.items
      c.loop-item.freed c.if-is_written.freed c.loop-item.after_lost
      c.is_lost-after_lost.result true
      (omega (arith, c.loop-item-test.true, c.loop-item.auto.item-index-end)) c.loop-item.invariant
      c.in_ok-pass.ensures (λ earlier e. c.is_written.ensures earlier e ∙ w.if-is_written.true)
      (ap (λ v. v.items) w.frees-is ∙ w.in-Ok.ensures.items) w.freed-is c.is_lost-after_lost.ensures
  | else-is_written w ↦
      turned-at c.items-item-items.result.now c.loop-item.item-index _ c.loop-item.steps.items
      c.pass.new.steps.items c.loop-item.frees.items c.if-is_written.frees.items
      c.loop-item.freed c.if-is_written.freed c.loop-item.after_lost
      c.is_lost-after_lost.result false
      (omega (arith, c.loop-item-test.true, c.loop-item.auto.item-index-end)) c.loop-item.invariant
      c.in_ok-pass.ensures (λ earlier e. c.is_written.ensures earlier e ∙ w.if-is_written.false)
      (ap (λ v. v.items) w.frees-is ∙ sym (append-nil c.loop-item.frees.items)) w.freed-is
      c.is_lost-after_lost.ensures
]
