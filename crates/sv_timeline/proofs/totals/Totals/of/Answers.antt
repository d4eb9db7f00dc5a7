use Rattle.std.proofs.Common.{ℕ, List, ap, ◌∙◌}
use Rattle.std.specs.Prelude.{Some, None}
use Rattle.sv_context.specs.declared.context.Context.{Context}
use Rattle.sv_timeline.specs.Totals.{total_in}
use Rattle.sv_timeline.proofs.Same.{derived_same}
use Rattle.sv_timeline.proofs.Slots.{total_found}
use Rattle.sv_timeline.proofs.totals.Totals.of.Goals as goal

pub returns-in-Some : goal.returns-in-Some
returns-in-Some c = total_found _ c.args.context (derived_same c.args.context)
    c.self.inside.map.entries (Some c.in-Some.ticks.now) c.in-Some.ensures.value
    ∙ ap (λ (es : List (Context × ℕ)). total_in es c.args.context) c.self.view_is

pub returns-in-None : goal.returns-in-None
returns-in-None c = total_found _ c.args.context (derived_same c.args.context)
    c.self.inside.map.entries None c.in-None.ensures.value ∙ ap (λ (es : List (Context × ℕ)).
    total_in es c.args.context) c.self.view_is
