use Rattle.std.proofs.Common.{◌≡◌, ℕ, List, sym, ap, ◌∙◌}
use Rattle.std.specs.Prelude.{Some, slice_get, slice_index_or}
use Rattle.sv_context.specs.declared.context.Context.{Context}
use Rattle.sv_timeline.specs.Totals.{total_in}
use Rattle.sv_timeline.proofs.Same.{derived_same, same_is}
use Rattle.sv_timeline.proofs.Slots.{total_found}
use Rattle.sv_timeline.proofs.totals.Totals.hinted.Goals as goal

pub returns-then-eq : goal.returns-then-eq
returns-then-eq c =
    let seen : List (Context × ℕ) = c.self.inside.map.entries in
    let key : c.in-Some.key.now ≡ c.args.context = same_is c.in-Some.key.now c.args.context
    (sym (derived_same c.in-Some.key.now c.args.context) ∙ sym c.eq.ensures ∙ c.if-eq.true) in
    let total : c.in-Some.field-0-1.now ≡ total_in seen c.in-Some.key.now =
    total_found _ c.in-Some.key.now (derived_same c.in-Some.key.now) seen
    (Some c.in-Some.field-0-1.now) (sym c.in-Some.ensures.value) in
    let view : seen ≡ c.args.self.now = c.self.view_is in
    ap (λ (es : List (Context × ℕ)). slice_get es (slice_index_or c.self.inside.hints
    c.hint_of.result 0)) (sym view) ∙ sym c.in-Some.ensures.entry
    ∙ ap (λ (n : ℕ). Some (c.in-Some.key.now, n)) (total ∙ ap (λ (es : List (Context × ℕ)). total_in
    es c.in-Some.key.now) view)
    ∙ ap (λ (k : Context). Some (k, total_in c.args.self.now k)) key
