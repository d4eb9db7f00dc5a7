use Rattle.std.proofs.Common.{◌≡◌, ◌++◌, ℕ, List, subst, ap, sym, ◌∙◌, flat_map}
use Rattle.std.specs.Prelude.{OnOk}
use Rattle.sv_report.specs.Told.{rest_words}
use Rattle.sv_report.specs.Words.{spaced}
use Rattle.sv_report.specs.declared.table.Rest.{Rest}
use Rattle.sv_report.proofs.Joined.{print_rest}
use Rattle.sv_report.proofs.events.put_rest.Goals as goal

pub returns-in-Print-clause-ok : goal.returns-in-Print-clause-ok
returns-in-Print-clause-ok c =
    subst (λ (line : List ℕ). OnOk c.put_print.result (c.put_print.new.out.items ≡ line))
    (print_rest c.args.out.now.items c.in-Print.text.now c.in-Print.args.now c.in-Print.options
    ∙ ap (λ (rest : Rest). c.args.out.now.items ++ flat_map spaced (rest_words rest))
    (sym c.in-Print.is))
    c.put_print.ensures.ok
