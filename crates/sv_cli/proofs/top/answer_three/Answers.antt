use Rattle.std.proofs.Common.{◌∙◌, sym}
use Rattle.sv_cli.proofs.Requests.{by_live}
use Rattle.sv_cli.proofs.Sizes.{not_false}
use Rattle.sv_cli.proofs.top.answer_three.Goals as goal

pub returns-in-Some-clause-source : goal.returns-in-Some-clause-source
returns-in-Some-clause-source g c =
    rw (by_live c.args.name.now c.args.size.now c.args.file.now c.in-Some.size
    (not_false _ (sym c.ne.ensures ∙ c.if-ne.false)) c.in-Some.ensures.number)
    c.tell_file.ensures.source
