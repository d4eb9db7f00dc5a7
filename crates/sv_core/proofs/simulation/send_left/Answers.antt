use Rattle.std.proofs.Common.{◌≡◌, ◌+◌, ◌-◌, ◌<◌, ◌++◌, length, replicate, sym, ap, ◌∙◌, subst}
use Rattle.std.proofs.Common.{arith}
use Rattle.sv_core.specs.Order.{Sends, scheduled}
use Rattle.sv_core.specs.Played.{HasSent, IsPlayed}
use Rattle.sv_core.proofs.in_order.PlayingLines.{played-left, sends-left}
use Rattle.sv_core.proofs.simulation.send_left.Goals as goal

pub send_next-requires : goal.send_next-requires
send_next-requires g c =
    let load = c.args.load.now in
    let at = c.loop-at.at in
    record {
      sent =
          subst (HasSent load c.loop-at.recorder)
          (sends-left load (at - c.args.sent)
          ∙ omega (arith, c.requires.sent, c.loop-at.auto.at))
          c.loop-at.invariant.sent;
    }

pub loop-at-preserved : goal.loop-at-preserved
loop-at-preserved g c =
    let load = c.args.load.now in
    let at = c.loop-at.at in
    let below : at < length load.commands =
    omega (arith, c.loop-at-test.true, ap length c.commands-count.ensures.told) in
    subst
    (λ n. IsPlayed load (scheduled load ++ replicate ((at + 1) - n) Sends)
    c.send_next.new.recorder) (sym c.requires.sent)
    (played-left load c.loop-at.recorder c.send_next.new.recorder at
    (omega (arith, c.requires.sent, c.loop-at.auto.at))
    (subst
    (λ n. IsPlayed load (scheduled load ++ replicate (at - n) Sends) c.loop-at.recorder)
    c.requires.sent c.loop-at.invariant)
    (c.send_next.ensures.some below).1)

pub returns : goal.returns
returns g c =
    let load = c.args.load.now in
    let all = ap length c.commands-count.ensures.told in
    let few = c.requires.played.sent.few in
    let end : c.loop-at.at ≡ length load.commands =
    omega (
      arith,
      c.loop-at-test.false,
      c.loop-at.auto.at-end,
      c.requires.sent,
      few,
      all,
    ) in
    record {
      played =
          subst (λ n. IsPlayed load (scheduled load ++ replicate n Sends) c.loop-at.recorder)
          (ap (λ n. n - c.args.sent) end ∙ ap (λ n. length load.commands - n) c.requires.sent)
          c.loop-at.invariant;
    }
