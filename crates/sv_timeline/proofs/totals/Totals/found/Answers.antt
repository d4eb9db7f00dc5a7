use Rattle.std.proofs.Common.{◌≡◌, ℕ, List, [], ◌∷◌, ◌++◌, sym, ap, ◌∙◌}
use Rattle.std.specs.Prelude.{Some, None, slice_get}
use Rattle.sv_context.specs.declared.context.Context.{Context}
use Rattle.sv_context.specs.contracts.context.ContextPartialEq.TheImpl.{eq-value}
use Rattle.indexmap.proofs.CallerLemmas.{insert_entry-new}
use Rattle.sv_timeline.specs.Totals.{total_in}
use Rattle.sv_timeline.proofs.Same.{derived_same}
use Rattle.sv_timeline.proofs.Slots.{total_found, key_found, last_entry, same_with_zero}
use Rattle.sv_timeline.proofs.totals.Totals.found.Goals as goal

pub returns-in-Some-clause-at : goal.returns-in-Some-clause-at
returns-in-Some-clause-at c =
    let seen : List (Context × ℕ) = c.self.inside.map.entries in
    let key : c.in-Some.field-0-1.now ≡ c.args.context = key_found _ c.args.context (derived_same
    c.args.context) seen c.in-Some.field-0-1.now c.in-Some.ensures.key in
    let total : c.in-Some.field-0-2.now ≡ total_in seen c.args.context =
    total_found _ c.args.context (derived_same c.args.context) seen
    (Some c.in-Some.field-0-2.now) c.in-Some.ensures.value in
    let view : seen ≡ c.args.self.now = c.self.view_is in
    c.in-Some.ensures.entry
    ∙ ap (λ (k : Context). Some (k, c.in-Some.field-0-2.now)) key
    ∙ ap (λ (n : ℕ). Some (c.args.context, n)) (total ∙ ap (λ (es : List (Context × ℕ)). total_in es
    c.args.context) view)

pub returns-clause-at : goal.returns-clause-at
returns-clause-at c =
    let seen : List (Context × ℕ) = c.self.inside.map.entries in
    let more : c.insert.new.self.entries ≡ seen ++ (c.args.context, 0) ∷ [] =
    c.in-Ok.ensures.entries ∙ insert_entry-new eq-value.it c.self.inside.map c.args.context 0
    (sym c.in-None.ensures.value) in
    let none : 0 ≡ total_in seen c.args.context = total_found _ c.args.context (derived_same
    c.args.context) seen None c.in-None.ensures.value in
    ap (λ (es : List (Context × ℕ)). slice_get es c.len-slot.result) more
    ∙ ap (λ (n : ℕ). slice_get (seen ++ (c.args.context, 0) ∷ []) n) c.len-slot.ensures.len
    ∙ last_entry seen (c.args.context, 0)
    ∙ ap (λ (n : ℕ). Some (c.args.context, n)) (none ∙ ap (λ (es : List (Context × ℕ)). total_in es
    c.args.context) c.self.view_is)

pub returns-clause-same : goal.returns-clause-same
returns-clause-same c = λ other.
    let seen : List (Context × ℕ) = c.self.inside.map.entries in
    let more : c.insert.new.self.entries ≡ seen ++ (c.args.context, 0) ∷ [] =
    c.in-Ok.ensures.entries ∙ insert_entry-new eq-value.it c.self.inside.map c.args.context 0
    (sym c.in-None.ensures.value) in
    ap (λ (es : List (Context × ℕ)). total_in es other) more ∙ same_with_zero seen c.args.context
    other ∙ ap (λ (es : List (Context × ℕ)). total_in es other) c.self.view_is
