use Rattle.std.proofs.Common.{rules, None}
use Rattle.sv_cli.proofs.Requests.{none_long, none_short, some_as, two_are}
use Rattle.sv_cli.proofs.top.answer.Goals as goal

pub returns-in-len2-clause-answered : goal.returns-in-len2-clause-answered
returns-in-len2-clause-answered g c = λ before now.
    some_as _ _ _ (two_are c.args.words.now _ c.in-len2.len_at_least c.in-len2.len_below)
    (c.answer_two.ensures.answered before now)

pub returns-in_default-clause-answered : goal.returns-in_default-clause-answered
returns-in_default-clause-answered g c = λ before now.
    some_as _ _ None (none_short c.args.words.now c.in_default.len_below) tt

pub returns-in_default-clause-source : goal.returns-in_default-clause-source
returns-in_default-clause-source g c =
    rw (none_short c.args.words.now c.in_default.len_below) (search rules)

pub returns-in_default-2-clause-answered : goal.returns-in_default-2-clause-answered
returns-in_default-2-clause-answered g c = λ before now.
    some_as _ _ None (none_long c.args.words.now c.in_default.len_at_least) tt

pub returns-in_default-2-clause-source : goal.returns-in_default-2-clause-source
returns-in_default-2-clause-source g c =
    rw (none_long c.args.words.now c.in_default.len_at_least) (search rules)
