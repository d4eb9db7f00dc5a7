use Rattle.std.proofs.Common.{ℕ, List, ◌∙◌, refl, subst}
use Rattle.std.specs.Io.KnownBytes.{Appends}
use Rattle.sv_base.specs.Streams.{AppendsPart}
use Rattle.sv_view.specs.Scan.{IsUnfed}
use Rattle.sv_view.proofs.Pieces.{between_now, cut_lines, cut_untaken, ended_now, scanned_now}
use Rattle.sv_view.proofs.scan.Scan.piece.Goals as goal

pub returns-in-Err-clause-cut : goal.returns-in-Err-clause-cut
returns-in-Err-clause-cut g c = λ left written between.
    cut_untaken g.V.View.text g.V.View.shown left written (g.S.Source.left c.args.src.now)
    (g.K.Sink.written c.args.out.now) c.args.self.now between (g.S.Source.left c.take.new.src)
    c.in-Err.cut
    (subst (λ (n : ℕ). IsUnfed n (g.S.Source.left c.args.src.now) (g.S.Source.left c.take.new.src)
    c.args.self.now.total c.in-Err.cut) c.requires.room c.in-Err.ensures.untaken)

pub returns-in_default-clause-cut : goal.returns-in_default-clause-cut
returns-in_default-clause-cut g c = λ left written between.
    cut_lines g.V.View.text g.V.View.shown left written (g.S.Source.left c.args.src.now)
    (g.K.Sink.written c.args.out.now) c.args.self.now between (g.S.Source.left c.take.new.src)
    c.take.new.self c.in-Ok.count c.take.new.buf (c.take.ensures.same ∙ c.requires.room)
    c.in-Ok.ensures.taken (g.K.Sink.written c.put_all.new.out)
    (subst (λ (k : List ℕ). AppendsPart (g.K.Sink.written c.args.out.now)
    (g.K.Sink.written c.put_all.new.out) k) c.deref.ensures.value c.in_default.ensures.err)

pub returns-clause-over : goal.returns-clause-over
returns-clause-over g c = λ left written between.
    let same = c.take.ensures.same ∙ c.requires.room in
    let all = subst (λ (k : List ℕ). Appends (g.K.Sink.written c.args.out.now)
    (g.K.Sink.written c.put_all.new.out) k) c.deref.ensures.value c.in-Ok-put_all.ensures.ok in (
      scanned_now g.V.View.text g.V.View.shown left written (g.S.Source.left c.args.src.now)
          (g.K.Sink.written c.args.out.now) c.args.self.now between (g.S.Source.left c.take.new.src)
          c.take.new.self c.in-Ok.count c.take.new.buf same c.in-Ok.ensures.taken
          (g.K.Sink.written c.put_all.new.out) _ all refl refl c.clear.ensures.items refl,
      λ over. ended_now g.V.View.text g.V.View.shown left written (g.S.Source.left c.args.src.now)
          (g.K.Sink.written c.args.out.now) c.args.self.now between (g.S.Source.left c.take.new.src)
          c.take.new.self c.in-Ok.count c.take.new.buf same c.in-Ok.ensures.taken
          (c.is_over.ensures.yes over),
      λ more. between_now g.V.View.text g.V.View.shown left written (g.S.Source.left c.args.src.now)
          (g.K.Sink.written c.args.out.now) c.args.self.now between (g.S.Source.left c.take.new.src)
          c.take.new.self c.in-Ok.count c.take.new.buf same c.in-Ok.ensures.taken
          (g.K.Sink.written c.put_all.new.out) _ all refl refl c.clear.ensures.items refl
          (c.is_over.ensures.no more),
    )
