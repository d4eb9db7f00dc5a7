use Rattle.std.proofs.Common.{◌∷◌, List, ℕ, map, ap, ◌∙◌}
use Rattle.std.specs.List.{list_any}
use Rattle.sv_context.specs.declared.context.Context.{Context}
use Rattle.sv_context.specs.Order.{is_same_context}
use Rattle.sv_timeline.specs.State.{State}
use Rattle.sv_timeline.proofs.Named.{named}
use Rattle.sv_timeline.proofs.timeline.Timeline.contexts.Goals as goal

pub returns : goal.returns
returns c = λ events given s context some.
    ap (λ (ks : List Context). list_any (is_same_context context) (c.self.inside.context ∷ ks))
    c.contexts.ensures
    ∙ ap (λ (state : State). list_any (is_same_context context)
    (state.context ∷ map (λ (e : Context × ℕ). e.0) state.totals)) c.self.view_is
    ∙ named c.args.self.now events given s context some
