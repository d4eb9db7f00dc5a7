use Rattle.std.proofs.Common.{◌<◌, ◌++◌, length, sym, ap, ◌∙◌, subst, arith}
use Rattle.sv_recorder.specs.Recording.{Recording}
use Rattle.sv_core.specs.Played.{IsPlayed, played_rounds}
use Rattle.sv_core.proofs.in_order.RoundParts.{round_part}
use Rattle.sv_core.proofs.in_order.PlayingLines.{played-writer, played-idle_writer, played-round}
use Rattle.sv_core.proofs.simulation.play_round.Goals.{then-step, else-step}
use Rattle.sv_core.proofs.simulation.play_round.Goals as goal

pub loop-writer-preserved : goal.loop-writer-preserved
loop-writer-preserved g c =
    let load = c.args.load.now in
    let writer = c.loop-writer.writer in
    let below : writer < length load.scripts =
    omega (arith, c.loop-writer-test.true, c.writers-writer-end.ensures.count) in
    elim c.if-step.branch [
      | then-step w ↦ record {
        same =
            ap (λ (r : Recording). r.load) (w.recorder-is ∙ w.read_all.ensures)
            ∙ (c.step.ensures.load ∙ c.loop-writer.invariant.same);
        played = λ rounds played.
            let before = c.loop-writer.invariant.played rounds played in
            let turns = played_rounds load rounds ++ round_part load rounds writer in
            played-writer load rounds writer c.step.new.recorder c.if-step.recorder below
            (sym (c.step.ensures.possible load turns before) ∙ w.if-step.true)
            (c.step.ensures.played load turns before) (w.recorder-is ∙ w.read_all.ensures);
      }
      | else-step w ↦ record {
        same =
            ap (λ (r : Recording). r.load) w.recorder-is
            ∙ (c.step.ensures.load ∙ c.loop-writer.invariant.same);
        played = λ rounds played.
            let before = c.loop-writer.invariant.played rounds played in
            let turns = played_rounds load rounds ++ round_part load rounds writer in
            played-idle_writer load rounds writer c.if-step.recorder below
            (sym (c.step.ensures.possible load turns before) ∙ w.if-step.false)
            (subst (IsPlayed load _) (sym w.recorder-is)
            (c.step.ensures.played load turns before));
      }
    ]

pub returns-clause-played : goal.returns-clause-played
returns-clause-played g c = λ rounds played.
    played-round c.args.load.now rounds c.loop-writer.writer c.loop-writer.recorder
    (omega (
      arith,
      c.loop-writer-test.false,
      c.loop-writer.auto.writer-end,
      c.writers-writer-end.ensures.count,
    )) (c.loop-writer.invariant.played rounds played)
