use Rattle.sv_base.proofs.Shared.{Appends-then}
use Rattle.sv_cli.proofs.Parts.{part_more}
use Rattle.sv_cli.proofs.Parts.{on_err, part_after}
use Rattle.sv_cli.proofs.play.put_made.Goals as goal

pub returns-in_err-put_all-clause-err : goal.returns-in_err-put_all-clause-err
returns-in_err-put_all-clause-err g c =
    let written = g.K.Sink.written in
    on_err c.from_residual.result
    (part_more (written c.args.out.now) (written c.put_all.new.out) c.args.head.now c.args.rest.now
    c.in_err-put_all.ensures.err)

pub returns-in_err-put_all-2-clause-err : goal.returns-in_err-put_all-2-clause-err
returns-in_err-put_all-2-clause-err g c =
    let written = g.K.Sink.written in
    on_err c.from_residual-in_err-put_all-2.result
    (part_after (written c.args.out.now) (written c.put_all.new.out) (written c.put_all-2.new.out)
    c.args.head.now c.args.rest.now c.in_ok-put_all.ensures.ok c.in_err-put_all-2.ensures.err)

pub returns-clause-ok : goal.returns-clause-ok
returns-clause-ok g c =
    let written = g.K.Sink.written in
    Appends-then (written c.args.out.now) (written c.put_all.new.out) (written c.put_all-2.new.out)
    c.args.head.now c.args.rest.now c.in_ok-put_all.ensures.ok c.in_ok-put_all-2.ensures.ok
