use Rattle.sv_view.proofs.Shared.{of_nothing}
use Rattle.sv_view.proofs.Files.{of_scan}
use Rattle.sv_view.proofs.Begun.{nothing_answered}
use Rattle.sv_view.proofs.scan.scan_file.Goals as goal

pub returns-in_default-clause-answered : goal.returns-in_default-clause-answered
returns-in_default-clause-answered g c =
    of_nothing (g.S.Source.held c.args.src.now c.args.name.now) (g.S.Source.left c.begin.new.self) _
    c.in_default.ensures.unopened
    (λ file. nothing_answered g.V.View.text file (g.K.Sink.written c.args.out.now))

pub returns-clause-answered : goal.returns-clause-answered
returns-clause-answered g c =
    of_scan g.V.View.text (g.S.Source.held c.args.src.now c.args.name.now)
    (g.S.Source.left c.begin.new.self) (g.S.Source.left c.scan_open.new.src)
    (g.K.Sink.written c.args.out.now) (g.K.Sink.written c.scan_open.new.out)
    c.scan_open.result c.in-Ok.ensures.content
    c.scan_open.ensures.ended
