use Rattle.std.proofs.Common.{arith, ◌≡◌, length, take, ◌∙◌, sym, subst}
use Rattle.std.proofs.lemmas.List.{length-take}
use Rattle.sv_view.proofs.Fed.{taken_up, fed_by}
use Rattle.sv_prim.specs.Text.{AreBytes}
use Rattle.sv_view.proofs.scan.feed.Goals as goal

pub returns-then-total-count-clause-unfed : goal.returns-then-total-count-clause-unfed
returns-then-total-count-clause-unfed g c =
    let long : length (take c.in-Ok.count c.fill.new.buf) ≡ c.in-Ok.count = omega (
      arith,
      length-take c.in-Ok.count c.fill.new.buf,
      c.in-Ok.ensures.bound,
      c.fill.ensures.same,
    ) in (
      record {
        piece = take c.in-Ok.count c.fill.new.buf;
        bytes = subst AreBytes c.piece_of-piece.ensures.front c.piece_of-piece.ensures.bytes;
        read = c.in-Ok.ensures.bytes;
        one = omega (arith, long, c.in-Ok.ensures.bound);
      },
      omega (arith, long, c.if-total-count.true, c.requires.total.1),
    )

pub returns-then-is_err-clause-unfed : goal.returns-then-is_err-clause-unfed
returns-then-is_err-clause-unfed g c =
    let long : length (take c.in-Ok.count c.fill.new.buf) ≡ c.in-Ok.count = omega (
      arith,
      length-take c.in-Ok.count c.fill.new.buf,
      c.in-Ok.ensures.bound,
      c.fill.ensures.same,
    ) in
    record {
      piece = take c.in-Ok.count c.fill.new.buf;
      bytes = subst AreBytes c.piece_of-piece.ensures.front c.piece_of-piece.ensures.bytes;
      read = c.in-Ok.ensures.bytes;
      one = omega (arith, long, c.in-Ok.ensures.bound);
    }

pub returns-clause-fed : goal.returns-clause-fed
returns-clause-fed g c =
    let long : length (take c.in-Ok.count c.fill.new.buf) ≡ c.in-Ok.count = omega (
      arith,
      length-take c.in-Ok.count c.fill.new.buf,
      c.in-Ok.ensures.bound,
      c.fill.ensures.same,
    ) in
    let pushed = c.push.ensures in
    let ok = taken_up c.push.result (sym c.is_err.ensures.value ∙ c.if-is_err.false) in
    fed_by (g.S.Source.left c.args.src.now) (g.S.Source.left c.fill.new.src) c.args.decoder.now
    c.push.new.self c.args.total c.in-Ok.count c.fill.new.buf c.piece_of-piece.result.now
    c.piece_of-piece.ensures.front c.piece_of-piece.ensures.bytes
    (omega (arith, c.in-Ok.ensures.bound, c.fill.ensures.same))
    (omega (arith, c.if-total-count.false, c.requires.total.1)) c.in-Ok.ensures.bytes
    c.push.result ok pushed.stands pushed.pushed
    (λ fewer. c.in-Ok.ensures.end (omega (arith, fewer, c.fill.ensures.same)))
