use Rattle.std.proofs.Common.{◌≡◌, ◌∷◌, IfOk, sym, subst}
use Rattle.sv_workload.specs.declared.keyword.ActWord.{ActWord}
use Rattle.sv_workload.specs.Meaning.{act_with}
use Rattle.sv_workload.proofs.acts.act_by.Goals as goal

pub returns-in-Print : goal.returns-in-Print
returns-in-Print c =
    subst (λ (w : ActWord). IfOk c.print.result
    (λ a. a ≡ act_with w (c.args.first ∷ c.args.rest.now) c.args.text.now)) (sym c.in-Print.is)
    (c.print.ensures (c.args.first ∷ c.args.rest.now))

pub returns-in-Call : goal.returns-in-Call
returns-in-Call c =
    subst (λ (w : ActWord). IfOk c.call.result
    (λ a. a ≡ act_with w (c.args.first ∷ c.args.rest.now) c.args.text.now)) (sym c.in-Call.is)
    (c.call.ensures c.args.text.now)
