use Rattle.std.proofs.Common.{ℕ, List, sym, subst}
use Rattle.std.specs.Io.KnownBytes.{Appends}
use Rattle.sv_base.specs.Streams.{AppendsPart}
use Rattle.sv_view.proofs.Lives.{line_is}
use Rattle.sv_view.proofs.live.tell.Goals as goal

pub returns-in_default-put_all-clause-part : goal.returns-in_default-put_all-clause-part
returns-in_default-put_all-clause-part g c = λ wrong input given s shown entries end reads all.
    subst (λ (k : List ℕ). AppendsPart (g.K.Sink.written c.args.out.now)
    (g.K.Sink.written c.put_all.new.out) k)
    (line_is c.deref.result.now c.put_after.new.lines.items c.clear.new.self.items
    c.args.scan.now.total c.in-Ok.report given entries c.finish.result end c.deref.ensures.value
    c.in-Ok-put_after.ensures c.clear.ensures.items
    (c.in-Ok.ensures.report given shown.0.1.0 shown.0.1.1) all
    (c.finish.ensures.end input given s entries end reads))
    c.in_default-put_all.ensures.err

pub returns-clause-told : goal.returns-clause-told
returns-clause-told g c = λ input given s shown entries end reads all.
    subst (λ (k : List ℕ). Appends (g.K.Sink.written c.args.out.now)
    (g.K.Sink.written c.put_all.new.out) k)
    (line_is c.deref.result.now c.put_after.new.lines.items c.clear.new.self.items
    c.args.scan.now.total c.in-Ok.report given entries c.finish.result end c.deref.ensures.value
    c.in-Ok-put_after.ensures c.clear.ensures.items
    (c.in-Ok.ensures.report given shown.0.1.0 shown.0.1.1) all
    (c.finish.ensures.end input given s entries end reads))
    c.in-Ok-put_all.ensures.ok
