-- Scripts: a writer's calls in a legal journal are within its script, and the one script is the
-- first.
use Rattle.std.proofs.Common.{◌≡◌, ℕ, ◌+◌, ◌<◌, ◌≤◌, true, false, cond, List, [], ◌∷◌, length, refl}
use Rattle.std.proofs.Common.{sym, subst, arith, rules}
use Rattle.std.specs.Prelude.{count_by, slice_index_or, ◌==◌}
use Rattle.std.proofs.lemmas.List.Sums.{sum_by-cons}
use Rattle.sv_load.specs.declared.load.Step.{Step}
use Rattle.sv_load.specs.Load.{Load, script_of}
use Rattle.sv_journal.specs.declared.journal.Origin.{Origin}
use Rattle.sv_journal.specs.declared.journal.Origin.TheVariants.{Call, Sync, Reply, Overflow}
use Rattle.sv_journal.specs.declared.journal.Origin.TheVariants.{Command}
use Rattle.sv_journal.specs.declared.journal.Item.{Item}
use Rattle.sv_journal.specs.Items.{is_call_of}
use Rattle.sv_journal.specs.Legal.{IsNextItem, IsNextStep, EachItem}

none_more : (n : ℕ) {m : ℕ} → n ≤ m → 0 + n ≤ m
none_more n h = omega arith

one_more : (load : Load) (writer : ℕ) (earlier : List Item) (origin : Origin)
    → IsNextStep load earlier origin
    → count_by (λ i. is_call_of writer i.origin) earlier ≤ length (script_of load writer)
    → cond (is_call_of writer origin) 1 0 + count_by (λ i. is_call_of writer i.origin) earlier ≤
    length (script_of load writer)
one_more load writer earlier (Call other step) h few =
    elim (other == writer) as (λ b. (other == writer) ≡ b
    → cond b 1 0 + count_by (λ i. is_call_of writer i.origin) earlier ≤ length
    (script_of load writer)) [
      | true ↦ λ e.
          let same : other ≡ writer = search (rules, e) in
          let here : (step ≡ count_by (λ i. is_call_of writer i.origin) earlier)
          × (step < length (script_of load writer)) =
          subst (λ w. (step ≡ count_by (λ i. is_call_of w i.origin) earlier)
          × (step < length (script_of load w))) same h in
          let at : step ≡ count_by (λ i. is_call_of writer i.origin) earlier = here.0 in
          let below : step < length (script_of load writer) = here.1 in
          omega arith
      | false ↦ λ e. none_more (count_by (λ i. is_call_of writer i.origin) earlier) few
    ] refl
one_more load writer earlier Sync h few = none_more
    (count_by (λ i. is_call_of writer i.origin) earlier) few
one_more load writer earlier (Reply kind index) h few =
    none_more (count_by (λ i. is_call_of writer i.origin) earlier) few
one_more load writer earlier (Overflow count) h few =
    none_more (count_by (λ i. is_call_of writer i.origin) earlier) few
one_more load writer earlier (Command byte param) h few =
    none_more (count_by (λ i. is_call_of writer i.origin) earlier) few

-- no writer has more calls than steps
pub calls_within : (load : Load) (writer : ℕ) (items : List Item) → EachItem (IsNextItem load) items
    → count_by (λ i. is_call_of writer i.origin) items ≤ length (script_of load writer)
calls_within load writer [] each = omega arith
calls_within load writer (i ∷ earlier) each =
    subst (λ n. n ≤ length (script_of load writer))
    (sym (sum_by-cons (λ (j : Item). cond (is_call_of writer j.origin) 1 0) i earlier))
    (one_more load writer earlier i.origin each.1.step (calls_within load writer earlier each.0))

-- one script is the first one
pub one_script : (scripts : List (List Step)) → length scripts ≡ 1
    → scripts ≡ slice_index_or scripts 0 [] ∷ []
one_script [] h = absurd (omega arith)
one_script (s ∷ []) h = refl
one_script (s ∷ t ∷ ss) h = absurd (omega (arith, h))
