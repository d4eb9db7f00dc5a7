use Rattle.std.proofs.Common.{refl}
use Rattle.sv_cli.specs.Commands.{named_in, show_request, shows}
use Rattle.sv_cli.proofs.Requests.{by_view, none_as, show_answers, show_usage, some_as}
use Rattle.sv_cli.proofs.top.answer_two.Goals as goal

pub returns-in_default-clause-usage : goal.returns-in_default-clause-usage
returns-in_default-clause-usage g c =
    let found = named_in shows c.args.name.now in
    none_as _ _ (show_request found c.args.word.now) (by_view c.args.name.now c.args.word.now c.in_default.not-generate
    c.in_default.not-simulate c.in_default.not-record)
    (show_usage found c.args.word.now (λ none. (c.show_file.ensures.usage none, refl)))

pub returns-in_default-clause-answered : goal.returns-in_default-clause-answered
returns-in_default-clause-answered g c = λ before now.
    let found = named_in shows c.args.name.now in
    some_as _ _ (show_request found c.args.word.now) (by_view c.args.name.now c.args.word.now c.in_default.not-generate
    c.in_default.not-simulate c.in_default.not-record)
    (show_answers _ _ found c.args.word.now (λ text shown. (shown, c.requires))
    c.show_file.ensures.answered)

pub returns-in_default-clause-source : goal.returns-in_default-clause-source
returns-in_default-clause-source g c =
    rw (by_view c.args.name.now c.args.word.now c.in_default.not-generate
    c.in_default.not-simulate c.in_default.not-record) c.show_file.ensures.source
