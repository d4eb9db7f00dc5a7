-- The contexts that have totals are all that have ticks.
use Rattle.std.proofs.Common.{◌≡◌, ℕ, ◌+◌, ◌<◌, List, [], ◌∷◌, map, refl, sym, ap, subst, ◌∙◌, arith}
use Rattle.std.specs.Prelude.{Bool, true, false, cond, ◌||◌, ◌-◌, unwrap_or, Some, if◌then◌else◌}
use Rattle.std.specs.List.{list_any}
use Rattle.std.specs.Map.{lookup}
use Rattle.sv_packet.specs.declared.event.TimedEvent.{TimedEvent}
use Rattle.sv_context.specs.declared.context.Context.{Context}
use Rattle.sv_context.specs.Order.{is_same_context}
use Rattle.sv_timeline.specs.declared.span.Span.{Span}
use Rattle.sv_timeline.specs.Load.{load_of}
use Rattle.sv_timeline.specs.Totals.{total_in}
use Rattle.sv_timeline.specs.State.{State, StandsFor}

abbrev keys : List (Context × ℕ) → List Context
keys es = map (λ e. e.0) es

there_by : (b : Bool) (n : ℕ) (rest : Bool) (more : ℕ) → (0 < more → rest ≡ true) →
    0 < (if b then n else more) → (b || rest) ≡ true
there_by true n rest more f some = refl
there_by false n rest more f some = f some

total_by : (b : Bool) (n : ℕ) (es : List (Context × ℕ)) (context : Context) →
    unwrap_or (cond b (Some n) (lookup (is_same_context context) es)) 0
    ≡ (if b then n else total_in es context)
total_by true n es context = refl
total_by false n es context = refl

-- a total that is not 0 has an entry
pub total_there : (es : List (Context × ℕ)) (context : Context) → 0 < total_in es context →
    list_any (is_same_context context) (keys es) ≡ true
total_there [] context some = absurd (omega arith)
total_there (e ∷ es) context some =
    there_by (is_same_context context e.0) e.1 (list_any (is_same_context context) (keys es))
    (total_in es context) (total_there es context)
    (subst (λ (n : ℕ). 0 < n) (total_by (is_same_context context e.0) e.1 es context) some)

named_by : (b : Bool) (total run : ℕ) (rest : Bool) → (0 < total → rest ≡ true) →
    0 < total + (if b then run else 0) → (b || rest) ≡ true
named_by true total run rest f some = refl
named_by false total run rest f some = f (omega (arith, some))

pub named : (state : State) (events : List TimedEvent) (given : List Span) →
    StandsFor state events given → (context : Context) → 0 < load_of context events →
    list_any (is_same_context context) (state.context ∷ keys state.totals) ≡ true
named state events given s context some =
    named_by (is_same_context context state.context) (total_in state.totals context)
    (state.last - state.start) (list_any (is_same_context context) (keys state.totals))
    (total_there state.totals context)
    (subst (λ (n : ℕ). 0 < n) (sym (s.loads context)) some)
