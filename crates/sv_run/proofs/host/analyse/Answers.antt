use Rattle.sv_run.proofs.Ends.{fed_more}
use Rattle.sv_run.proofs.host.analyse.Goals as goal

pub returns : goal.returns
returns c =
    fed_more c.args.analyser.now c.feed.new.self c.args.piece.now c.args.spans.now.items
    c.feed.new.spans.items c.feed.result c.feed.ensures.stands c.feed.ensures.pushed
    c.feed.ensures.live
