use Rattle.std.proofs.Common.{ℕ, List, Option, Err, ap, arith, length}
use Rattle.sv_view.specs.declared.cut.Cut.{Cut}
use Rattle.sv_view.specs.Live.{IsLiveEnd}
use Rattle.sv_view.proofs.Lives.{by_cut, live_between, live_ended, live_over, live_part}
use Rattle.sv_view.proofs.Lives.{live_unfed, live_unmade, positive}
use Rattle.sv_view.proofs.live.grow.Goals as goal

pub returns-in-Err-clause-cut : goal.returns-in-Err-clause-cut
returns-in-Err-clause-cut g c = λ left written between.
    live_unfed (length c.args.buf.now) left written
    (g.S.Source.left c.args.src.now) (g.K.Sink.written c.args.out.now) c.args.scan.now between
    (g.S.Source.left c.take.new.src) c.in-Err.cut c.in-Err.ensures.untaken

pub returns-then-count-eq0-clause-over : goal.returns-then-count-eq0-clause-over
returns-then-count-eq0-clause-over g c = λ left written between. (
  live_over (length c.args.buf.now) left written
      (g.S.Source.left c.args.src.now) (g.K.Sink.written c.args.out.now) c.args.scan.now between
      (g.S.Source.left c.take.new.src) c.take.new.self c.in-Ok.count c.take.new.buf
      c.take.ensures.same c.in-Ok.ensures.taken
      c.if-count-eq0.true c.requires.room c.told.result c.told.ensures,
  tt,
)

pub returns-in-Err-tell-clause-cut : goal.returns-in-Err-tell-clause-cut
returns-in-Err-tell-clause-cut g c = λ left written between.
    let some = positive c.in-Ok.count c.if-count-eq0.false in
    by_cut (λ (cut : Cut). IsLiveEnd (length c.args.buf.now) left (g.S.Source.left c.take.new.src)
    written (g.K.Sink.written c.tell.new.out) (Err cut)) c.in-Err-tell.cut
    c.in-Err-tell.ensures.why
    (λ is. live_part (length c.args.buf.now) left written
    (g.S.Source.left c.args.src.now) (g.K.Sink.written c.args.out.now) c.args.scan.now between
    (g.S.Source.left c.take.new.src) c.take.new.self c.in-Ok.count c.take.new.buf
    c.take.ensures.same c.in-Ok.ensures.taken
    some (g.K.Sink.written c.tell.new.out) (c.in-Err-tell.ensures.part (ap Err is)))
    (λ is. live_unmade (length c.args.buf.now) left written
    (g.S.Source.left c.args.src.now) (g.K.Sink.written c.args.out.now) c.args.scan.now between
    (g.S.Source.left c.take.new.src) c.take.new.self c.in-Ok.count c.take.new.buf
    c.take.ensures.same c.in-Ok.ensures.taken
    some (g.K.Sink.written c.tell.new.out)
    (ap g.K.Sink.written (c.in-Err-tell.ensures.none (ap Err is))))

pub returns-then-count-buf-clause-over : goal.returns-then-count-buf-clause-over
returns-then-count-buf-clause-over g c = λ left written between. (
  live_ended (length c.args.buf.now) left written
      (g.S.Source.left c.args.src.now) (g.K.Sink.written c.args.out.now) c.args.scan.now between
      (g.S.Source.left c.take.new.src) c.take.new.self c.in-Ok.count c.take.new.buf
      c.take.ensures.same c.in-Ok.ensures.taken
      (positive c.in-Ok.count c.if-count-eq0.false) (g.K.Sink.written c.tell.new.out)
      c.tell.new.scan c.tell.ensures.same.0 c.tell.ensures.same.1 c.in-Ok-tell.ensures.told
      (omega (arith, c.if-count-buf.true, c.take.ensures.same)) c.told-then-count-buf.result
      c.told-then-count-buf.ensures,
  tt,
)

pub returns-clause-over : goal.returns-clause-over
returns-clause-over g c = λ left written between. (
  tt,
  live_between (length c.args.buf.now) left written
      (g.S.Source.left c.args.src.now) (g.K.Sink.written c.args.out.now) c.args.scan.now between
      (g.S.Source.left c.take.new.src) c.take.new.self c.in-Ok.count c.take.new.buf
      c.take.ensures.same c.in-Ok.ensures.taken
      (positive c.in-Ok.count c.if-count-eq0.false) (g.K.Sink.written c.tell.new.out)
      c.tell.new.scan c.tell.ensures.same.0 c.tell.ensures.same.1 c.in-Ok-tell.ensures.told
      c.tell.ensures.same.2 (omega (arith, c.if-count-buf.false, c.take.ensures.same)),
)
