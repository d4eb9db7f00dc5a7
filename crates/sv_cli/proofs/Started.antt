-- The workload of a number starts its recorder: the first call of its one writer does.
use Rattle.std.proofs.Common.{◌≡◌, ℕ, zero, suc, ◌+◌, ◌<◌, Bool, true, false, ◌||◌, List, [], ◌∷◌}
use Rattle.std.proofs.Common.{refl, sym, ◌∙◌, subst, arith, reverse}
use Rattle.std.specs.Prelude.{cond, count_by}
use Rattle.std.specs.List.{list_any}
use Rattle.std.proofs.Math.Dec.{eqb-suc-zero}
use Rattle.std.proofs.lemmas.List.Sums.{sum_by-cons}
use Rattle.std.proofs.lemmas.List.Sorted.{IsPermutation-reverse, list_any-IsPermutation}
use Rattle.sv_load.specs.Load.{Load}
use Rattle.sv_workload.specs.Generated.{generated_load}
use Rattle.sv_journal.specs.declared.journal.Origin.{Origin}
use Rattle.sv_journal.specs.declared.journal.Origin.TheVariants.{Call, Sync, Reply, Overflow}
use Rattle.sv_journal.specs.declared.journal.Origin.TheVariants.{Command}
use Rattle.sv_journal.specs.declared.journal.Item.{Item}
use Rattle.sv_journal.specs.Items.{is_call_of, is_start}
use Rattle.sv_journal.specs.Legal.{EachItem, IsLegal, IsNextItem, IsNextStep, IsWhole}
use Rattle.sv_sent.specs.Start.{has_start}

or_true : (a b : Bool) → b ≡ true → (a || b) ≡ true
or_true true b e = refl
or_true false b e = e

-- what is counted is there
there : {X : Type 0} (p : X → Bool) (xs : List X) → 0 < count_by p xs → list_any p xs ≡ true
there p [] some = absurd (omega (arith, some))
there {X} p (x ∷ xs) some =
    by (p x) (there p xs)
    (subst (λ (count : ℕ). 0 < count) (sum_by-cons (λ (y : X). cond (p y) 1 0) x xs) some)
  where
    by : (b : Bool) → (0 < count_by p xs → list_any p xs ≡ true)
        → 0 < cond b 1 0 + count_by p xs → (b || list_any p xs) ≡ true
    by true more some = refl
    by false more some = more (omega (arith, some))

module _ (n : ℕ) where
  abbrev calls : List Item → Bool
  calls earlier = list_any (λ i. is_call_of 0 i.origin) earlier

  abbrev starts : List Item → Bool
  starts earlier = list_any (λ i. is_start (generated_load n) i.origin) earlier

  -- the writer's first call is the start, and before any other there was one
  one_more : (earlier : List Item) (o : Origin) → IsNextStep (generated_load n) earlier o
      → (calls earlier ≡ true → starts earlier ≡ true)
      → (is_call_of 0 o || calls earlier) ≡ true
      → (is_start (generated_load n) o || starts earlier) ≡ true
  one_more earlier (Call zero zero) next more some = refl
  one_more earlier (Call zero (suc k)) (is, few) more some =
      or_true (is_start (generated_load n) (Call zero (suc k))) (starts earlier)
      (more (there (λ i. is_call_of 0 i.origin) earlier (omega (arith, is))))
  one_more earlier (Call (suc writer) step) next more some =
      or_true (is_start (generated_load n) (Call (suc writer) step)) (starts earlier)
      (more (subst (λ (b : Bool). (b || calls earlier) ≡ true) (eqb-suc-zero writer) some))
  one_more earlier Sync next more some = more some
  one_more earlier (Reply kind index) next more some = more some
  one_more earlier (Overflow count) next more some = more some
  one_more earlier (Command byte param) next more some =
      or_true (is_start (generated_load n) (Command byte param)) (starts earlier) (more some)

  starts_where : (earlier : List Item) → EachItem (IsNextItem (generated_load n)) earlier
      → calls earlier ≡ true → starts earlier ≡ true
  starts_where [] each some = absurd cc
  starts_where (i ∷ earlier) (each, next) some =
      one_more earlier i.origin next.step (starts_where earlier each) some

  begun : (items : List Item) → IsLegal (generated_load n) items
      → IsWhole (generated_load n) items → has_start (generated_load n) items ≡ true
  begun items legal whole =
      let some : 0 < count_by (λ i. is_call_of 0 i.origin) items =
      omega (arith, whole.scripts 0 (omega arith)) in
      list_any-IsPermutation (λ i. is_start (generated_load n) i.origin) items (reverse items)
      (IsPermutation-reverse items)
      ∙ starts_where (reverse items) legal.each
      (sym (list_any-IsPermutation (λ i. is_call_of 0 i.origin) items (reverse items)
      (IsPermutation-reverse items)) ∙ there (λ i. is_call_of 0 i.origin) items some)

-- the simulation of a number's workload has a start
pub always_started : (n : ℕ) (load : Load) (items : List Item) → load ≡ generated_load n
    → IsLegal load items → IsWhole load items → has_start load items ≡ true
always_started n load items is =
    subst (λ (l : Load). IsLegal l items → IsWhole l items → has_start l items ≡ true) (sym is)
    (begun n items)
