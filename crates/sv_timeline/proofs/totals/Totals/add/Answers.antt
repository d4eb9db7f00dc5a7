use Rattle.std.proofs.Common.{◌≡◌, ℕ, ◌+◌, List, sym, ap, ◌∙◌}
use Rattle.std.specs.Prelude.{Some, slice_get, if◌then◌else◌}
use Rattle.sv_context.specs.declared.context.Context.{Context}
use Rattle.sv_context.specs.Order.{is_same_context}
use Rattle.sv_context.specs.contracts.context.ContextPartialEq.TheImpl.{eq-value}
use Rattle.indexmap.proofs.CallerLemmas.{updates-with_value_at}
use Rattle.sv_timeline.specs.Totals.{total_in}
use Rattle.sv_timeline.proofs.Same.{derived_same, derived_equiv}
use Rattle.sv_timeline.proofs.Slots.{changed_total, second_same}
use Rattle.sv_timeline.proofs.totals.Totals.add.Goals as goal

pub returns : goal.returns
returns c = λ context had at other.
    let view : c.self.inside.map.entries ≡ c.args.self.now = c.self.view_is in
    let here : slice_get c.self.inside.map.entries c.args.slot ≡ Some (context, had) =
    ap (λ (es : List (Context × ℕ)). slice_get es c.args.slot) view ∙ at in
    let value : slice_get c.self.inside.map.entries c.args.slot
    ≡ Some (c.pair_mut-total.result.0.now, c.pair_mut-total.result.1.now) =
    c.pair_mut-total.ensures.value in
    let both : Some (context, had) ≡ Some (
      c.pair_mut-total.result.0.now,
      c.pair_mut-total.result.1.now,
    ) = sym here ∙ value in
    let total : c.pair_mut-total.result.1.now ≡ had = sym (second_same (context, had)
    (c.pair_mut-total.result.0.now, c.pair_mut-total.result.1.now) both) in
    let u = updates-with_value_at c.self.inside.map c.args.slot (c.pair_mut-total.result.1.now +
    c.args.ticks) derived_equiv c.pair_mut-total.ensures.unique context had here in
    changed_total eq-value.it derived_same c.self.inside.map.entries _ context other
    (c.pair_mut-total.result.1.now + c.args.ticks) (u.0 other)
    ∙ ap (λ (n : ℕ). if is_same_context other context then n + c.args.ticks else total_in
    c.self.inside.map.entries other) total
    ∙ ap (λ (es : List (Context × ℕ)). if is_same_context other context then had + c.args.ticks
    else total_in es other) view
