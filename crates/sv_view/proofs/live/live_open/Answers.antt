use Rattle.std.proofs.Common.{ℕ, arith, refl, rules, length, sym, subst, Ok, Err}
use Rattle.sv_view.specs.Live.{IsBetweenReports, IsLiveEnd}
use Rattle.sv_view.proofs.Lives.{between-nothing}
use Rattle.sv_view.proofs.live.live_open.Goals as goal

pub loop-end-init : goal.loop-end-init
loop-end-init g c = record {
  between = between-nothing (length c.args.buf.now) (g.S.Source.left c.args.src.now)
      (g.K.Sink.written c.args.out.now) c.new-scan.result c.new-scan.ensures.stands
      c.new-scan.ensures.settled c.new-scan.ensures.shown c.new-scan.ensures.total;
  opened = search rules;
  room = refl;
  begins = search rules;
  safe = search rules;
  read_kept = search rules;
  write_kept = search rules;
}

pub returns-in-Ok-Some-clause-ended : goal.returns-in-Ok-Some-clause-ended
returns-in-Ok-Some-clause-ended g c =
    let left = g.S.Source.left c.args.src.now in
    let written = g.K.Sink.written c.args.out.now in
    let same = c.loop-end.invariant.room in
    let between =
    subst (λ (n : ℕ). IsBetweenReports n left (g.S.Source.left c.loop-end.src) written
    (g.K.Sink.written c.loop-end.out) c.loop-end.scan) (sym same) c.loop-end.invariant.between in
    let over = rw c.in-Ok-Some.field-0-is at c.in-Ok-Some.ensures.over in
    subst (λ (n : ℕ). IsLiveEnd n left (g.S.Source.left c.grow.new.src) written
    (g.K.Sink.written c.grow.new.out) (Ok c.in-Ok-Some.end)) same (over left written between).0

pub loop-end-smaller : goal.loop-end-smaller
loop-end-smaller g c =
    let left = g.S.Source.left c.args.src.now in
    let written = g.K.Sink.written c.args.out.now in
    let same = c.loop-end.invariant.room in
    let between =
    subst (λ (n : ℕ). IsBetweenReports n left (g.S.Source.left c.loop-end.src) written
    (g.K.Sink.written c.loop-end.out) c.loop-end.scan) (sym same) c.loop-end.invariant.between in
    let more = rw c.in-Ok-None.field-0-is at c.in-Ok-None.ensures.more in
    let over = rw c.in-Ok-None.field-0-is at c.in-Ok-None.ensures.over in
    omega (arith, more.1, (over left written between).1.within)

pub returns-in-Err-clause-ended : goal.returns-in-Err-clause-ended
returns-in-Err-clause-ended g c =
    let left = g.S.Source.left c.args.src.now in
    let written = g.K.Sink.written c.args.out.now in
    let same = c.loop-end.invariant.room in
    let between =
    subst (λ (n : ℕ). IsBetweenReports n left (g.S.Source.left c.loop-end.src) written
    (g.K.Sink.written c.loop-end.out) c.loop-end.scan) (sym same) c.loop-end.invariant.between in
    subst (λ (n : ℕ). IsLiveEnd n left (g.S.Source.left c.grow.new.src) written
    (g.K.Sink.written c.grow.new.out) (Err c.in-Err.cut)) same
    (c.in-Err.ensures.cut left written between)
