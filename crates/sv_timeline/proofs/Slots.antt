-- Totals, when one gets a place or grows.
use Rattle.std.proofs.Common.{◌≡◌, ℕ, zero, List, [], ◌∷◌, ◌++◌, length, refl, sym, ap, ◌∙◌}
use Rattle.std.specs.Prelude.{Bool, true, false, cond, Option, Some, None, slice_get, unwrap_or}
use Rattle.std.specs.Prelude.{if◌then◌else◌}
use Rattle.std.specs.Map.{lookup, lookup_key}
use Rattle.std.proofs.lemmas.Map.Made.{lookup_key_passes}
use Rattle.sv_context.specs.declared.context.Context.{Context}
use Rattle.sv_context.specs.Order.{is_same_context}
use Rattle.sv_timeline.specs.Totals.{total_in}
use Rattle.sv_timeline.proofs.Same.{lookup_alike, same_is, same_equiv}

-- what a look-up by another test of the same meaning gives
pub total_found : (t : Context → Bool) (context : Context) → ((k : Context)
    → t k ≡ is_same_context context k) → (es : List (Context × ℕ)) (found : Option ℕ)
    → found ≡ lookup t es → unwrap_or found 0 ≡ total_in es context
total_found t context same es found is = ap (λ o. unwrap_or o 0) (is
    ∙ lookup_alike t (is_same_context context) same es)

-- the key that was found is the context
pub key_found : (t : Context → Bool) (context : Context) → ((k : Context)
    → t k ≡ is_same_context context k) → (es : List (Context × ℕ)) (k : Context)
    → Some k ≡ lookup_key t es → k ≡ context
key_found t context same es k is = sym (same_is context k (sym (same k) ∙ lookup_key_passes t es k
    (sym is)))

-- the place of an entry that goes last
pub last_entry : (es : List (Context × ℕ)) (e : Context × ℕ) → slice_get (es ++ e ∷ []) (length es)
    ≡ Some e
last_entry [] e = refl
last_entry (x ∷ es) e = last_entry es e

zero_last : (b : Bool) → unwrap_or (cond b (Some zero) None) 0 ≡ 0
zero_last true = refl
zero_last false = refl

-- an entry of 0 behind all changes no total
zero_by : (b : Bool) (n : ℕ) (more less : Option ℕ) → unwrap_or more 0 ≡ unwrap_or less 0
    → unwrap_or (cond b (Some n) more) 0 ≡ unwrap_or (cond b (Some n) less) 0
zero_by true n more less same = refl
zero_by false n more less same = same

zero_more : (t : Context → Bool) (es : List (Context × ℕ)) (k : Context)
    → unwrap_or (lookup t (es ++ (k, 0) ∷ [])) 0 ≡ unwrap_or (lookup t es) 0
zero_more t [] k = zero_last (t k)
zero_more t (e ∷ es) k = zero_by (t e.0) e.1 (lookup t (es ++ (k, 0) ∷ [])) (lookup t es) (zero_more
    t es k)

-- entries of one number
pub second_same : (a b : Context × ℕ) → Some a ≡ Some b → a.1 ≡ b.1
second_same a b e = let same : a ≡ b = cc in ap (λ (x : Context × ℕ). x.1) same

pub same_with_zero : (es : List (Context × ℕ)) (k other : Context)
    → total_in (es ++ (k, 0) ∷ []) other ≡ total_in es other
same_with_zero es k other = zero_more (is_same_context other) es k

-- one total is changed
pub changed_total : (eq : Context → Context → Bool) → ((a b : Context)
    → eq a b ≡ is_same_context a b) → (old new : List (Context × ℕ)) (k other : Context) (w : ℕ)
    → lookup (eq other) new ≡ cond (eq k other) (Some w) (lookup (eq other) old)
    → total_in new other ≡ (if is_same_context other k then w else total_in old other)
changed_total eq same old new k other w is =
    sym (total_found (eq other) other (same other) new (lookup (eq other) new) refl)
    ∙ ap (λ o. unwrap_or o 0) is
    ∙ by (is_same_context other k) refl
  where
    by : (b : Bool) → is_same_context other k ≡ b
        → unwrap_or (cond (eq k other) (Some w) (lookup (eq other) old)) 0 ≡ (if is_same_context
        other k then w else total_in old other)
    by true e = let t : eq k other ≡ true = same k other ∙ same_equiv.symm k other ∙ e in
        rw (t, e) refl
    by false e = let t : eq k other ≡ false = same k other ∙ same_equiv.symm k other ∙ e in
        rw (t, e) (total_found (eq other) other (same other) old (lookup (eq other) old) refl)
