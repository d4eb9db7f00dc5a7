use Rattle.std.proofs.Common.{sym, ◌∙◌}
use Rattle.std.specs.Prelude.{drop}
use Rattle.sv_workload.specs.declared.fault.LineFault.TheVariants.{Unaligned, Repeated, TooMany}
use Rattle.sv_workload.specs.declared.fault.LineFault.TheVariants.{NoSuchWriter, ModuleFull}
use Rattle.sv_workload.specs.Checks.{is_unaligned, is_repeated, is_too_many, has_no_writer}
use Rattle.sv_workload.specs.Checks.{has_no_room}
use Rattle.sv_workload.specs.Checking.{later_checks}
use Rattle.sv_workload.proofs.first_check.Faulted.{failed, passed}
use Rattle.sv_workload.proofs.draft.Draft.later_fault.Goals as goal

pub returns-then-is_unaligned : goal.returns-then-is_unaligned
returns-then-is_unaligned c = λ lines s. sym (
    failed is_unaligned Unaligned (drop 1 later_checks) lines c.args.line.now
    (sym (c.is_unaligned.ensures lines s) ∙ c.if-is_unaligned.true))

pub returns-then-is_repeated : goal.returns-then-is_repeated
returns-then-is_repeated c = λ lines s. sym (
    passed is_unaligned Unaligned (drop 1 later_checks) lines c.args.line.now
    (sym (c.is_unaligned.ensures lines s) ∙ c.if-is_unaligned.false)
    ∙ failed is_repeated Repeated (drop 2 later_checks) lines c.args.line.now
    (sym (c.is_repeated.ensures lines s) ∙ c.if-is_repeated.true))

pub returns-then-is_too_many : goal.returns-then-is_too_many
returns-then-is_too_many c = λ lines s. sym (
    passed is_unaligned Unaligned (drop 1 later_checks) lines c.args.line.now
    (sym (c.is_unaligned.ensures lines s) ∙ c.if-is_unaligned.false)
    ∙ passed is_repeated Repeated (drop 2 later_checks) lines c.args.line.now
    (sym (c.is_repeated.ensures lines s) ∙ c.if-is_repeated.false)
    ∙ failed is_too_many TooMany (drop 3 later_checks) lines c.args.line.now
    (sym (c.is_too_many.ensures lines s) ∙ c.if-is_too_many.true))

pub returns-then-has_no_writer : goal.returns-then-has_no_writer
returns-then-has_no_writer c = λ lines s. sym (
    passed is_unaligned Unaligned (drop 1 later_checks) lines c.args.line.now
    (sym (c.is_unaligned.ensures lines s) ∙ c.if-is_unaligned.false)
    ∙ passed is_repeated Repeated (drop 2 later_checks) lines c.args.line.now
    (sym (c.is_repeated.ensures lines s) ∙ c.if-is_repeated.false)
    ∙ passed is_too_many TooMany (drop 3 later_checks) lines c.args.line.now
    (sym (c.is_too_many.ensures lines s) ∙ c.if-is_too_many.false)
    ∙ failed has_no_writer NoSuchWriter (drop 4 later_checks) lines c.args.line.now
    (sym (c.has_no_writer.ensures lines s) ∙ c.if-has_no_writer.true))

pub returns-then-has_no_room : goal.returns-then-has_no_room
returns-then-has_no_room c = λ lines s. sym (
    passed is_unaligned Unaligned (drop 1 later_checks) lines c.args.line.now
    (sym (c.is_unaligned.ensures lines s) ∙ c.if-is_unaligned.false)
    ∙ passed is_repeated Repeated (drop 2 later_checks) lines c.args.line.now
    (sym (c.is_repeated.ensures lines s) ∙ c.if-is_repeated.false)
    ∙ passed is_too_many TooMany (drop 3 later_checks) lines c.args.line.now
    (sym (c.is_too_many.ensures lines s) ∙ c.if-is_too_many.false)
    ∙ passed has_no_writer NoSuchWriter (drop 4 later_checks) lines c.args.line.now
    (sym (c.has_no_writer.ensures lines s) ∙ c.if-has_no_writer.false)
    ∙ failed has_no_room ModuleFull (drop 5 later_checks) lines c.args.line.now
    (sym (c.has_no_room.ensures lines s) ∙ c.if-has_no_room.true))

pub returns : goal.returns
returns c = λ lines s. sym (
    passed is_unaligned Unaligned (drop 1 later_checks) lines c.args.line.now
    (sym (c.is_unaligned.ensures lines s) ∙ c.if-is_unaligned.false)
    ∙ passed is_repeated Repeated (drop 2 later_checks) lines c.args.line.now
    (sym (c.is_repeated.ensures lines s) ∙ c.if-is_repeated.false)
    ∙ passed is_too_many TooMany (drop 3 later_checks) lines c.args.line.now
    (sym (c.is_too_many.ensures lines s) ∙ c.if-is_too_many.false)
    ∙ passed has_no_writer NoSuchWriter (drop 4 later_checks) lines c.args.line.now
    (sym (c.has_no_writer.ensures lines s) ∙ c.if-has_no_writer.false)
    ∙ passed has_no_room ModuleFull (drop 5 later_checks) lines c.args.line.now
    (sym (c.has_no_room.ensures lines s) ∙ c.if-has_no_room.false))
