use Rattle.std.proofs.Common.{◌<◌, ◌+◌, length, cond, sym, ap, ◌∙◌, subst, arith}
use Rattle.sv_core.specs.Played.{HasSent}
use Rattle.sv_core.proofs.taking.Commands.{sent-send}
use Rattle.sv_core.proofs.replays.send_for.Goals as goal

pub returns-clause-sent : goal.returns-clause-sent
returns-clause-sent g c =
    let load = c.args.load.now in
    let sent = c.args.sent in
    let below : sent < length load.commands =
    omega (arith, c.requires.sent.few, c.if-sent-commands.false, ap length c.commands.ensures.told)
    in
    let s = c.send_next.ensures.some below in (
      subst (HasSent load c.send_next.new.recorder) (sym s.0)
          (sent-send load c.args.recorder.now c.send_next.new.recorder sent c.requires.sent s.1),
      s.0 ∙ sym (ap (λ b. sent + cond b 1 0) c.if-not-asks.false),
    )
