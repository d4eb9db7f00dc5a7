use Rattle.std.proofs.Common.{arith, refl, rules}
use Rattle.sv_view.proofs.scan.scan_open.Goals as goal

pub loop-scan-init : goal.loop-scan-init
loop-scan-init g c = record {
  between = c.new-scan.ensures.between (g.S.Source.left c.args.src.now)
      (g.K.Sink.written c.args.out.now);
  opened = search rules;
  room = refl;
  begins = search rules;
  safe = search rules;
  read_kept = search rules;
  write_kept = search rules;
}

pub returns-in-Ok-true-clause-ended : goal.returns-in-Ok-true-clause-ended
returns-in-Ok-true-clause-ended g c =
    let over = c.in-Ok-true.ensures.over (g.S.Source.left c.args.src.now)
    (g.K.Sink.written c.args.out.now) c.loop-scan.invariant.between in
    c.end.ensures.ended (g.S.Source.left c.args.src.now) (g.S.Source.left c.piece.new.src)
    (g.K.Sink.written c.args.out.now) over.0 (over.1 c.in-Ok-true.field-0-test)

pub loop-scan-smaller : goal.loop-scan-smaller
loop-scan-smaller g c =
    let over = c.in-Ok-false.ensures.over (g.S.Source.left c.args.src.now)
    (g.K.Sink.written c.args.out.now) c.loop-scan.invariant.between in
    omega (arith, (c.in-Ok-false.ensures.more c.in-Ok-false.field-0-test).1, over.0.within)

pub end-requires : goal.end-requires
end-requires g c =
    let over = c.in-Ok-true.ensures.over (g.S.Source.left c.args.src.now)
    (g.K.Sink.written c.args.out.now) c.loop-scan.invariant.between in
    record { settled = over.0.settled }
