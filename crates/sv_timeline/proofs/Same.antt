-- The contexts' own `==` is that of the definitions.
use Rattle.std.proofs.Common.{◌≡◌, ℕ, refl, sym, ◌∙◌, List, ◌∷◌, [], ap, true≢false}
use borrow.Author.Tests.{eqb-true}
use Rattle.std.specs.Prelude.{Bool, true}
use Rattle.std.specs.Cmp.{IsEquivalence, nat_eq_equiv, on_equiv, and_equiv}
use Rattle.std.specs.Map.{lookup}
use Rattle.sv_context.specs.declared.context.Context.{Context}
use Rattle.sv_context.specs.declared.context.Context.TheVariants.{Gap, Unknown, Scheduler, Idle}
use Rattle.sv_context.specs.declared.context.Context.TheVariants.{Task, Timer, Isr}
use Rattle.sv_context.specs.Order.{is_same_context, rank_of}
use Rattle.sv_context.specs.contracts.context.ContextPartialEq.TheImpl.{eq-value}

pub derived_same : (a b : Context) → eq-value.it a b ≡ is_same_context a b
derived_same Gap Gap = refl
derived_same Gap Unknown = refl
derived_same Gap Scheduler = refl
derived_same Gap Idle = refl
derived_same Gap (Task n) = refl
derived_same Gap (Timer n) = refl
derived_same Gap (Isr n) = refl
derived_same Unknown Gap = refl
derived_same Unknown Unknown = refl
derived_same Unknown Scheduler = refl
derived_same Unknown Idle = refl
derived_same Unknown (Task n) = refl
derived_same Unknown (Timer n) = refl
derived_same Unknown (Isr n) = refl
derived_same Scheduler Gap = refl
derived_same Scheduler Unknown = refl
derived_same Scheduler Scheduler = refl
derived_same Scheduler Idle = refl
derived_same Scheduler (Task n) = refl
derived_same Scheduler (Timer n) = refl
derived_same Scheduler (Isr n) = refl
derived_same Idle Gap = refl
derived_same Idle Unknown = refl
derived_same Idle Scheduler = refl
derived_same Idle Idle = refl
derived_same Idle (Task n) = refl
derived_same Idle (Timer n) = refl
derived_same Idle (Isr n) = refl
derived_same (Task m) Gap = refl
derived_same (Task m) Unknown = refl
derived_same (Task m) Scheduler = refl
derived_same (Task m) Idle = refl
derived_same (Task m) (Task n) = refl
derived_same (Task m) (Timer n) = refl
derived_same (Task m) (Isr n) = refl
derived_same (Timer m) Gap = refl
derived_same (Timer m) Unknown = refl
derived_same (Timer m) Scheduler = refl
derived_same (Timer m) Idle = refl
derived_same (Timer m) (Task n) = refl
derived_same (Timer m) (Timer n) = refl
derived_same (Timer m) (Isr n) = refl
derived_same (Isr m) Gap = refl
derived_same (Isr m) Unknown = refl
derived_same (Isr m) Scheduler = refl
derived_same (Isr m) Idle = refl
derived_same (Isr m) (Task n) = refl
derived_same (Isr m) (Timer n) = refl
derived_same (Isr m) (Isr n) = refl

pub same_equiv : IsEquivalence is_same_context
same_equiv = on_equiv rank_of (and_equiv (on_equiv (λ (r : ℕ × ℕ). r.0) nat_eq_equiv) (on_equiv
    (λ (r : ℕ × ℕ). r.1) nat_eq_equiv))

pub derived_equiv : IsEquivalence eq-value.it
derived_equiv = record {
  refl = λ a. derived_same a a ∙ same_equiv.refl a;
  symm = λ a b. derived_same a b ∙ same_equiv.symm a b ∙ sym (derived_same b a);
  congr = λ a b c e. derived_same a c ∙ same_equiv.congr a b c (sym (derived_same a b) ∙ e)
      ∙ sym (derived_same b c);
}

-- a test that is the same finds the same
pub lookup_alike : (t u : Context → Bool) → ((k : Context) → t k ≡ u k) → (es : List (Context × ℕ))
    → lookup t es ≡ lookup u es
lookup_alike t u same [] = refl
lookup_alike t u same (e ∷ es) = let here = same e.0 in let rest = lookup_alike t u same es in
    rw (here, rest) refl

-- equal ranks are equal contexts
pub same_is : (a b : Context) → is_same_context a b ≡ true → a ≡ b
same_is Gap Gap e = refl
same_is Gap Unknown e = absurd (true≢false (sym e))
same_is Gap Scheduler e = absurd (true≢false (sym e))
same_is Gap Idle e = absurd (true≢false (sym e))
same_is Gap (Task n) e = absurd (true≢false (sym e))
same_is Gap (Timer n) e = absurd (true≢false (sym e))
same_is Gap (Isr n) e = absurd (true≢false (sym e))
same_is Unknown Gap e = absurd (true≢false (sym e))
same_is Unknown Unknown e = refl
same_is Unknown Scheduler e = absurd (true≢false (sym e))
same_is Unknown Idle e = absurd (true≢false (sym e))
same_is Unknown (Task n) e = absurd (true≢false (sym e))
same_is Unknown (Timer n) e = absurd (true≢false (sym e))
same_is Unknown (Isr n) e = absurd (true≢false (sym e))
same_is Scheduler Gap e = absurd (true≢false (sym e))
same_is Scheduler Unknown e = absurd (true≢false (sym e))
same_is Scheduler Scheduler e = refl
same_is Scheduler Idle e = absurd (true≢false (sym e))
same_is Scheduler (Task n) e = absurd (true≢false (sym e))
same_is Scheduler (Timer n) e = absurd (true≢false (sym e))
same_is Scheduler (Isr n) e = absurd (true≢false (sym e))
same_is Idle Gap e = absurd (true≢false (sym e))
same_is Idle Unknown e = absurd (true≢false (sym e))
same_is Idle Scheduler e = absurd (true≢false (sym e))
same_is Idle Idle e = refl
same_is Idle (Task n) e = absurd (true≢false (sym e))
same_is Idle (Timer n) e = absurd (true≢false (sym e))
same_is Idle (Isr n) e = absurd (true≢false (sym e))
same_is (Task m) Gap e = absurd (true≢false (sym e))
same_is (Task m) Unknown e = absurd (true≢false (sym e))
same_is (Task m) Scheduler e = absurd (true≢false (sym e))
same_is (Task m) Idle e = absurd (true≢false (sym e))
same_is (Task m) (Task n) e = ap Task (eqb-true m n e)
same_is (Task m) (Timer n) e = absurd (true≢false (sym e))
same_is (Task m) (Isr n) e = absurd (true≢false (sym e))
same_is (Timer m) Gap e = absurd (true≢false (sym e))
same_is (Timer m) Unknown e = absurd (true≢false (sym e))
same_is (Timer m) Scheduler e = absurd (true≢false (sym e))
same_is (Timer m) Idle e = absurd (true≢false (sym e))
same_is (Timer m) (Task n) e = absurd (true≢false (sym e))
same_is (Timer m) (Timer n) e = ap Timer (eqb-true m n e)
same_is (Timer m) (Isr n) e = absurd (true≢false (sym e))
same_is (Isr m) Gap e = absurd (true≢false (sym e))
same_is (Isr m) Unknown e = absurd (true≢false (sym e))
same_is (Isr m) Scheduler e = absurd (true≢false (sym e))
same_is (Isr m) Idle e = absurd (true≢false (sym e))
same_is (Isr m) (Task n) e = absurd (true≢false (sym e))
same_is (Isr m) (Timer n) e = absurd (true≢false (sym e))
same_is (Isr m) (Isr n) e = ap Isr (eqb-true m n e)
