use Rattle.std.proofs.Common.{[], sym, ◌∙◌}
use Rattle.std.specs.Prelude.{drop}
use Rattle.sv_workload.specs.declared.fault.LineFault.TheVariants.{UnknownWord, Misplaced, Shape}
use Rattle.sv_workload.specs.declared.fault.LineFault.TheVariants.{Number, BadText}
use Rattle.sv_workload.specs.Checks.{lacks_keyword, is_misplaced, is_misshapen, has_bad_number}
use Rattle.sv_workload.specs.Checks.{has_bad_text}
use Rattle.sv_workload.specs.Checking.{form_checks}
use Rattle.sv_workload.proofs.first_check.Faulted.{failed, passed}
use Rattle.sv_workload.proofs.draft.Draft.form_fault.Goals as goal

pub returns-then-lacks_keyword-clause-first : goal.returns-then-lacks_keyword-clause-first
returns-then-lacks_keyword-clause-first c = λ lines s. sym (
    failed lacks_keyword UnknownWord (drop 1 form_checks) lines c.args.line.now
    (sym (c.lacks_keyword.ensures lines) ∙ c.if-lacks_keyword.true))

pub returns-then-is_misplaced-clause-first : goal.returns-then-is_misplaced-clause-first
returns-then-is_misplaced-clause-first c = λ lines s. sym (
    passed lacks_keyword UnknownWord (drop 1 form_checks) lines c.args.line.now
    (sym (c.lacks_keyword.ensures lines) ∙ c.if-lacks_keyword.false)
    ∙ failed is_misplaced Misplaced (drop 2 form_checks) lines c.args.line.now
    (sym (c.is_misplaced.ensures lines s) ∙ c.if-is_misplaced.true))

pub returns-then-is_misshapen-clause-first : goal.returns-then-is_misshapen-clause-first
returns-then-is_misshapen-clause-first c = λ lines s. sym (
    passed lacks_keyword UnknownWord (drop 1 form_checks) lines c.args.line.now
    (sym (c.lacks_keyword.ensures lines) ∙ c.if-lacks_keyword.false)
    ∙ passed is_misplaced Misplaced (drop 2 form_checks) lines c.args.line.now
    (sym (c.is_misplaced.ensures lines s) ∙ c.if-is_misplaced.false)
    ∙ failed is_misshapen Shape (drop 3 form_checks) lines c.args.line.now
    (sym (c.is_misshapen.ensures lines) ∙ c.if-is_misshapen.true))

pub returns-then-has_bad_number-clause-first : goal.returns-then-has_bad_number-clause-first
returns-then-has_bad_number-clause-first c = λ lines s. sym (
    passed lacks_keyword UnknownWord (drop 1 form_checks) lines c.args.line.now
    (sym (c.lacks_keyword.ensures lines) ∙ c.if-lacks_keyword.false)
    ∙ passed is_misplaced Misplaced (drop 2 form_checks) lines c.args.line.now
    (sym (c.is_misplaced.ensures lines s) ∙ c.if-is_misplaced.false)
    ∙ passed is_misshapen Shape (drop 3 form_checks) lines c.args.line.now
    (sym (c.is_misshapen.ensures lines) ∙ c.if-is_misshapen.false)
    ∙ failed has_bad_number Number (drop 4 form_checks) lines c.args.line.now
    (sym (c.has_bad_number.ensures lines) ∙ c.if-has_bad_number.true))

pub returns-then-has_bad_text-clause-first : goal.returns-then-has_bad_text-clause-first
returns-then-has_bad_text-clause-first c = λ lines s. sym (
    passed lacks_keyword UnknownWord (drop 1 form_checks) lines c.args.line.now
    (sym (c.lacks_keyword.ensures lines) ∙ c.if-lacks_keyword.false)
    ∙ passed is_misplaced Misplaced (drop 2 form_checks) lines c.args.line.now
    (sym (c.is_misplaced.ensures lines s) ∙ c.if-is_misplaced.false)
    ∙ passed is_misshapen Shape (drop 3 form_checks) lines c.args.line.now
    (sym (c.is_misshapen.ensures lines) ∙ c.if-is_misshapen.false)
    ∙ passed has_bad_number Number (drop 4 form_checks) lines c.args.line.now
    (sym (c.has_bad_number.ensures lines) ∙ c.if-has_bad_number.false)
    ∙ failed has_bad_text BadText (drop 5 form_checks) lines c.args.line.now
    (sym (c.has_bad_text.ensures lines) ∙ c.if-has_bad_text.true))

pub returns-clause-first : goal.returns-clause-first
returns-clause-first c = λ lines s. sym (
    passed lacks_keyword UnknownWord (drop 1 form_checks) lines c.args.line.now
    (sym (c.lacks_keyword.ensures lines) ∙ c.if-lacks_keyword.false)
    ∙ passed is_misplaced Misplaced (drop 2 form_checks) lines c.args.line.now
    (sym (c.is_misplaced.ensures lines s) ∙ c.if-is_misplaced.false)
    ∙ passed is_misshapen Shape (drop 3 form_checks) lines c.args.line.now
    (sym (c.is_misshapen.ensures lines) ∙ c.if-is_misshapen.false)
    ∙ passed has_bad_number Number (drop 4 form_checks) lines c.args.line.now
    (sym (c.has_bad_number.ensures lines) ∙ c.if-has_bad_number.false)
    ∙ passed has_bad_text BadText (drop 5 form_checks) lines c.args.line.now
    (sym (c.has_bad_text.ensures lines) ∙ c.if-has_bad_text.false))

pub returns-clause-good : goal.returns-clause-good
returns-clause-good c = sym (c.has_bad_number.ensures []) ∙ c.if-has_bad_number.false
