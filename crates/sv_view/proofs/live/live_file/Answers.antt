use Rattle.std.proofs.Common.{◌≡◌, ◌≤◌, ℕ, arith, length, take, subst}
use Rattle.std.specs.Prelude.{replicate}
use Rattle.std.proofs.lemmas.List.{length-take-le, length-replicate}
use Rattle.sv_view.specs.Live.{IsLiveEnd}
use Rattle.sv_view.proofs.Shared.{of_nothing}
use Rattle.sv_view.proofs.Lives.{nothing_told, of_live}
use Rattle.sv_view.proofs.live.live_file.Goals as goal

pub returns-in_default-clause-answered : goal.returns-in_default-clause-answered
returns-in_default-clause-answered g c =
    of_nothing (g.S.Source.held c.args.src.now c.args.name.now) (g.S.Source.left c.begin.new.self) _
    c.in_default.ensures.unopened
    (λ file. nothing_told c.args.size file (g.K.Sink.written c.args.out.now) c.requires.size.0)

pub returns-clause-answered : goal.returns-clause-answered
returns-clause-answered g c =
    let room : ℕ = 65536 in
    let zero_ : ℕ = 0 in
    let few : c.args.size ≤ length (replicate room zero_) =
    omega (arith, c.requires.size.1, length-replicate room zero_) in
    of_live c.args.size (g.S.Source.held c.args.src.now c.args.name.now)
    (g.S.Source.left c.begin.new.self) (g.S.Source.left c.live_open.new.src)
    (g.K.Sink.written c.args.out.now) (g.K.Sink.written c.live_open.new.out)
    c.live_open.result c.in-Ok.ensures.content
    (subst (λ (n : ℕ). IsLiveEnd n (g.S.Source.left c.begin.new.self)
    (g.S.Source.left c.live_open.new.src) (g.K.Sink.written c.args.out.now)
    (g.K.Sink.written c.live_open.new.out) c.live_open.result)
    (length-take-le c.args.size (replicate room zero_) few) c.live_open.ensures.ended)
