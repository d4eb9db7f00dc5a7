use Rattle.std.proofs.Common.{ℕ, List, subst}
use Rattle.std.specs.Io.KnownBytes.{Appends}
use Rattle.sv_base.specs.Streams.{AppendsPart}
use Rattle.sv_view.proofs.Ended.{end_unmade, end_cut, end_written}
use Rattle.sv_view.proofs.scan.Scan.end.Goals as goal

pub returns-in_default-clause-ended : goal.returns-in_default-clause-ended
returns-in_default-clause-ended g c = λ left now written scanned ended.
    end_unmade g.V.View.text g.V.View.shown left written now (g.K.Sink.written c.args.out.now)
    c.args.self.now scanned ended

pub returns-in_default-put_all-clause-ended : goal.returns-in_default-put_all-clause-ended
returns-in_default-put_all-clause-ended g c = λ left now written scanned ended.
    end_cut g.V.View.text g.V.View.shown left written now (g.K.Sink.written c.args.out.now)
    c.args.self.now scanned ended (g.K.Sink.written c.put_all.new.out) c.end.new.lines.items
    c.finish-end.result c.finish-end.ensures.end c.in-Ok.ensures
    (subst (λ (k : List ℕ). AppendsPart (g.K.Sink.written c.args.out.now)
    (g.K.Sink.written c.put_all.new.out) k) c.deref.ensures.value
    c.in_default-put_all.ensures.err)

pub returns-clause-ended : goal.returns-clause-ended
returns-clause-ended g c = λ left now written scanned ended.
    end_written g.V.View.text g.V.View.shown left written now (g.K.Sink.written c.args.out.now)
    c.args.self.now scanned ended (g.K.Sink.written c.put_all.new.out) c.end.new.lines.items
    c.finish-end.result c.finish-end.ensures.end c.in-Ok.ensures
    (subst (λ (k : List ℕ). Appends (g.K.Sink.written c.args.out.now)
    (g.K.Sink.written c.put_all.new.out) k) c.deref.ensures.value c.in-Ok-put_all.ensures.ok)
    c.told.result c.told.ensures
