use Rattle.std.proofs.Common.{arith, refl}
use Rattle.sv_recorder.proofs.steps.Inboxes.{takes_later}
use Rattle.sv_recorder.proofs.inbox.Inbox.take.Goals as goal

pub returns-in_default-clause-takes : goal.returns-in_default-clause-takes
returns-in_default-clause-takes g c =
    let n = c.next.ensures in
    takes_later g.D.DownReader c.args.self.now c.first.new.self _ c.first.result c.next.result
    c.in_ok-byte.byte c.first.ensures c.in_ok-byte.was (omega (arith, c.if-byte-lt128.false))
    (record {
      ring = n.ring;
      answered = n.answered;
      empties = n.empties;
      asked = n.asked;
      front = n.front;
      all = n.all;
    }) c.in_default.is refl
