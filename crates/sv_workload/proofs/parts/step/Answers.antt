use Rattle.sv_workload.proofs.fit_lines.FitSteps.{step_of}
use Rattle.sv_workload.proofs.parts.step.Goals as goal

pub returns-clause-ok : goal.returns-clause-ok
returns-clause-ok c =
    (step_of c.args.line.now c.args.word c.args.base c.args.shift c.numbers.result.now
    c.text.result.now c.ticks-advance.result c.in_ok-act.act c.requires.keyword c.requires.fit
    c.numbers.ensures c.text.ensures c.ticks-advance.ensures c.in_ok-act.ensures).made

pub returns-clause-advance : goal.returns-clause-advance
returns-clause-advance c =
    (step_of c.args.line.now c.args.word c.args.base c.args.shift c.numbers.result.now
    c.text.result.now c.ticks-advance.result c.in_ok-act.act c.requires.keyword c.requires.fit
    c.numbers.ensures c.text.ensures c.ticks-advance.ensures c.in_ok-act.ensures).advance

pub returns-clause-act : goal.returns-clause-act
returns-clause-act c =
    (step_of c.args.line.now c.args.word c.args.base c.args.shift c.numbers.result.now
    c.text.result.now c.ticks-advance.result c.in_ok-act.act c.requires.keyword c.requires.fit
    c.numbers.ensures c.text.ensures c.ticks-advance.ensures c.in_ok-act.ensures).act
