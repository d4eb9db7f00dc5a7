use Rattle.sv_cli.specs.Commands.{offline_of}
use Rattle.sv_cli.proofs.Requests.{none_as, some_as}
use Rattle.sv_cli.proofs.top.respond.Goals as goal

pub returns-in-None-clause-usage : goal.returns-in-None-clause-usage
returns-in-None-clause-usage g c =
    none_as _ _ (offline_of c.args.words.now) c.in-None.ensures c.answer.ensures.usage

pub returns-in-None-clause-answered : goal.returns-in-None-clause-answered
returns-in-None-clause-answered g c =
    some_as _ _ (offline_of c.args.words.now) c.in-None.ensures
    (c.answer.ensures.answered (g.D.Dock.stories c.args.dock.now)
    (g.D.Dock.stories c.args.dock.now))
