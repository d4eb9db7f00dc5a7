use Rattle.std.proofs.Common.{◌≡◌, ◌<◌, false, length, refl, ◌∙◌, subst, arith}
use Rattle.std.specs.Prelude.{slice_index_or}
use Rattle.sv_journal.specs.Legal.{IsLegal}
use Rattle.sv_core.specs.declared.turns.StepTurn.{StepTurn}
use Rattle.sv_core.specs.BadTurns.{IsBadTurns}
use Rattle.sv_core.specs.Used.{HasUsed, IsUsingOthers, turns_by}
use Rattle.sv_core.proofs.taking.TurnsTaken.{fails-writer, fails-command, fails-through, taken}
use Rattle.sv_core.proofs.taking.TurnsTaken.{fails-frees, fails-left, to-turn, found-for}
use Rattle.sv_core.proofs.taking.TurnsTaken.{taking-more, seen_as}
use Rattle.sv_core.proofs.taking.FreesCounted.{counted-use}
use Rattle.sv_core.proofs.replays.take_turns.Goals as goal

-- what stands where there is no turn
abbrev none : StepTurn
none = record { writer = 0; command = false }

pub returns-then-turn-writers-clause-told : goal.returns-then-turn-writers-clause-told
returns-then-turn-writers-clause-told g c =
    let r = c.loop-at.recorder in
    seen_as c.args.load.now c.args.turns.now.steps.items c.as_slice-steps.result.now
    c.args.turns.now.frees.items c.as_slice-frees.result.now c.loop-at.at
    c.as_slice-steps.ensures.value c.as_slice-frees.ensures.value
    (fails-writer c.args.load.now c.as_slice-steps.result.now c.as_slice-frees.result.now
    c.loop-at.at none r.load r.items r.sent r.way r.freed c.loop-at.invariant.0.taking
    (omega (arith, c.loop-at-test.true))
    (omega (arith, c.if-turn-writers.true, c.writers.ensures.count)))

pub returns-in-None-clause-told : goal.returns-in-None-clause-told
returns-in-None-clause-told g c =
    let r = c.loop-at.recorder in
    let i = c.loop-at.invariant.0 in
    let lacks = c.in-None.ensures.none in
    seen_as c.args.load.now c.args.turns.now.steps.items c.as_slice-steps.result.now
    c.args.turns.now.frees.items c.as_slice-frees.result.now c.loop-at.at
    c.as_slice-steps.ensures.value c.as_slice-frees.ensures.value
    (fails-command c.args.load.now c.as_slice-steps.result.now c.as_slice-frees.result.now
    c.loop-at.at none r.load r.items r.sent r.way r.freed i.taking
    (omega (arith, c.loop-at-test.true)) (omega (arith, lacks.1, i.through)) lacks.0)

pub returns-in-None-section-clause-told : goal.returns-in-None-section-clause-told
returns-in-None-section-clause-told g c =
    let r = c.send_for.new.recorder in
    let i = to-turn c.args.load.now c.as_slice-steps.result.now c.as_slice-frees.result.now
    c.loop-at.at c.loop-at.recorder r c.loop-at.sent _ _ _ c.loop-at.invariant.0
    c.send_for.ensures.same c.in-Some.ensures.sent.0 c.in-Some.ensures.sent.1 in
    seen_as c.args.load.now c.args.turns.now.steps.items c.as_slice-steps.result.now
    c.args.turns.now.frees.items c.as_slice-frees.result.now c.loop-at.at
    c.as_slice-steps.ensures.value c.as_slice-frees.ensures.value
    (fails-through c.args.load.now c.as_slice-steps.result.now c.as_slice-frees.result.now
    c.loop-at.at none r.load r.items r.sent r.way r.freed i.taking
    (omega (arith, c.loop-at-test.true)) (c.in-None-section.ensures.through.0 refl))

pub returns-in-None-used_from-clause-told : goal.returns-in-None-used_from-clause-told
returns-in-None-used_from-clause-told g c =
    let load = c.args.load.now in
    let steps = c.as_slice-steps.result.now in
    let frees = c.as_slice-frees.result.now in
    let at = c.loop-at.at in
    let r = c.send_for.new.recorder in
    let now = c.section.new.self in
    let i = to-turn load steps frees at c.loop-at.recorder r c.loop-at.sent _ _ _
    c.loop-at.invariant.0 c.send_for.ensures.same c.in-Some.ensures.sent.0
    c.in-Some.ensures.sent.1 in
    let below : at < length steps = omega (arith, c.loop-at-test.true) in
    let section = c.in-Some-section.ensures.section in
    let legal = subst (λ l. IsLegal l now.items) c.section.ensures.same.0
    c.keeps-in-loop-at.ensures.legal in
    let f = found-for load steps frees at r now _ (slice_index_or steps at none) section.0 i
    c.section.ensures.same.0 legal section.1 c.section.ensures.same.5
    c.keeps-in-loop-at.ensures.front c.keeps-in-loop-at.ensures.waits section.3 in
    let e = taken load steps frees at none r.load r.items now.items r.sent r.way now.way r.freed
    now.freed section.0 i.taking below (record { none = f.none; some = f.some }) legal section.1
    section.2 in
    seen_as load c.args.turns.now.steps.items steps c.args.turns.now.frees.items frees at
    c.as_slice-steps.ensures.value c.as_slice-frees.ensures.value
    (fails-frees load steps frees at none r.load r.items now.items r.sent r.way now.way r.freed
    now.freed i.taking below e
    (subst (λ is. IsUsingOthers is frees)
    (c.items.ensures ∙ c.journal-in-loop-at.ensures) c.in-None-used_from.ensures))

pub returns-else-used-frees-clause-told : goal.returns-else-used-frees-clause-told
returns-else-used-frees-clause-told g c =
    let load = c.args.load.now in
    let steps = c.as_slice-steps.result.now in
    let frees = c.as_slice-frees.result.now in
    let r = c.loop-at.recorder in
    let end : c.loop-at.at ≡ length steps =
    omega (arith, c.loop-at-test.false, c.loop-at.auto.at-end) in
    let counted = c.loop-at.invariant.1 in
    seen_as load c.args.turns.now.steps.items steps c.args.turns.now.frees.items frees
    (length steps) c.as_slice-steps.ensures.value c.as_slice-frees.ensures.value
    (subst (IsBadTurns load (turns_by steps frees)) end
    (fails-left load steps frees c.loop-at.at r.load r.items r.sent r.way r.freed
    c.loop-at.used.count c.loop-at.invariant.0.taking end
    (counted-use r.items frees c.loop-at.used.count c.loop-at.used.freed
    c.loop-at.used.after_lost counted) c.if-used-frees.false))

pub loop-at-preserved : goal.loop-at-preserved
loop-at-preserved g c =
    let load = c.args.load.now in
    let steps = c.as_slice-steps.result.now in
    let frees = c.as_slice-frees.result.now in
    let at = c.loop-at.at in
    let r = c.send_for.new.recorder in
    let now = c.section.new.self in
    let i = to-turn load steps frees at c.loop-at.recorder r c.loop-at.sent _ _ _
    c.loop-at.invariant.0 c.send_for.ensures.same c.in-Some.ensures.sent.0
    c.in-Some.ensures.sent.1 in
    let below : at < length steps = omega (arith, c.loop-at-test.true) in
    let section = c.in-Some-section.ensures.section in
    let legal = subst (λ l. IsLegal l now.items) c.section.ensures.same.0
    c.keeps-in-loop-at.ensures.legal in
    let f = found-for load steps frees at r now _ (slice_index_or steps at none) section.0 i
    c.section.ensures.same.0 legal section.1 c.section.ensures.same.5
    c.keeps-in-loop-at.ensures.front c.keeps-in-loop-at.ensures.waits section.3 in
    let e = taken load steps frees at none r.load r.items now.items r.sent r.way now.way r.freed
    now.freed section.0 i.taking below (record { none = f.none; some = f.some }) legal section.1
    section.2 in
    let used = c.in-Some-used_from.more in
    let counted : HasUsed now.items frees used.count used.freed used.after_lost =
    subst (λ is. HasUsed is frees used.count used.freed used.after_lost)
    (c.items.ensures ∙ c.journal-in-loop-at.ensures) c.in-Some-used_from.ensures in (
      record {
        taking = taking-more load steps frees at r.load now.load r.items now.items r.sent now.sent
            r.way now.way r.freed now.freed used.count i.taking c.section.ensures.same.0
            c.keeps-in-loop-at.ensures.stream e
            (counted-use now.items frees used.count used.freed used.after_lost counted);
        host = f.sent;
        through = f.through;
      },
      counted,
    )
