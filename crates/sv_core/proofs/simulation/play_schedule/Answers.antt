use Rattle.std.proofs.Common.{◌≡◌, ◌+◌, ◌<◌, ◌≤◌, sym, ap, ◌∙◌, subst, arith, length}
use Rattle.std.specs.Prelude.{slice_index_or}
use Rattle.sv_load.specs.declared.load.Action.{Action}
use Rattle.sv_load.specs.declared.load.Action.TheVariants as actions
use Rattle.sv_recorder.specs.Recording.{Recording}
use Rattle.sv_core.specs.Order.{possible}
use Rattle.sv_core.specs.Played.{HasSent, IsPlayed, IsSending}
use Rattle.sv_core.proofs.in_order.OrderParts.{asked_by}
use Rattle.sv_core.proofs.in_order.Playing.{played-read}
use Rattle.sv_core.proofs.in_order.PlayingLines.{played-steps, played-line, played-line_send}
use Rattle.sv_core.proofs.in_order.PlayingLines.{sends-steps, sends-read}
use Rattle.sv_core.proofs.simulation.play_schedule.Goals.{in-Step, in-Read, in-Send}
use Rattle.sv_core.proofs.simulation.play_schedule.Goals as goal

-- what stands where there is no line
abbrev none : Action
none = actions.Step 0 0

pub send_next-sent-requires : goal.send_next-sent-requires
send_next-sent-requires g c = record {
  sent =
      subst (HasSent c.args.load.now c.loop-at.recorder) (sym c.loop-at.invariant.sent)
      c.loop-at.invariant.played.sent;
}

pub loop-at-preserved : goal.loop-at-preserved
loop-at-preserved g c =
    let load = c.args.load.now in
    let at = c.loop-at.at in
    let i = c.loop-at.invariant in
    let same = c.schedule-lines.ensures.told in
    let below : at < length load.schedule = omega (arith, c.loop-at-test.true, ap length same) in
    let next = λ (r : Recording). IsPlayed load (possible load (asked_by load (at + 1))) r in
    elim c.match-lines-at.branch [
      | in-Step w ↦
          let is = ap (λ ls. slice_index_or ls at none) (sym same) ∙ w.in-Step.is in
          record {
            played = subst next (sym w.recorder-is)
                (played-steps load at none w.steps.new.recorder w.in-Step.writer w.in-Step.count
                below is (w.steps.ensures.played load (asked_by load at) i.played));
            sent = w.sent-is ∙ (i.sent
                ∙ sym (sends-steps load at none w.in-Step.writer w.in-Step.count below is));
          }
      | in-Read w ↦
          let is = ap (λ ls. slice_index_or ls at none) (sym same) ∙ w.in-Read.is in
          record {
            played = subst next (sym w.recorder-is)
                (played-line load at none w.read.new.recorder w.in-Read.most below is
                (played-read load (possible load (asked_by load at)) c.loop-at.recorder
                w.read.new.recorder w.in-Read.most i.played w.read.ensures));
            sent = w.sent-is
                ∙ (i.sent ∙ sym (sends-read load at none w.in-Read.most below is));
          }
      | in-Send w ↦
          let is = ap (λ ls. slice_index_or ls at none) (sym same) ∙ w.in-Send.is in
          let sent = played-line_send load at none c.loop-at.recorder w.send_next-sent.new.recorder
          w.send_next-sent.result below is i.played
          (subst (λ n. length load.commands ≤ n
          → (w.send_next-sent.result ≡ n) × (w.send_next-sent.new.recorder ≡ c.loop-at.recorder))
          i.sent w.send_next-sent.ensures.none)
          (subst (λ n. n < length load.commands → (w.send_next-sent.result ≡ n + 1)
          × IsSending load c.loop-at.recorder w.send_next-sent.new.recorder n) i.sent
          w.send_next-sent.ensures.some) in
          record {
            played = subst next (sym w.recorder-is) sent.0;
            sent = w.sent-is ∙ sent.1;
          }
    ]
