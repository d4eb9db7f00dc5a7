-- A legal journal weighs no more than the groups of its heads may.
use Rattle.std.proofs.Common.{◌≡◌, ℕ, ◌+◌, ◌≤◌, true, false, not, cond, List, [], ◌∷◌, reverse}
use Rattle.std.proofs.Common.{filter, refl, ap, arith}
use Rattle.std.specs.Prelude.{sum_by, flat_map}
use Rattle.std.proofs.lemmas.List.{reverse-append}
use Rattle.std.proofs.lemmas.List.Concat.{flat_map-cons}
use Rattle.std.proofs.lemmas.List.Sums.{sum_by-cons, sum_by-append, sum_by_push}
use Rattle.sv_load.specs.Load.{Load}
use Rattle.sv_journal.specs.declared.journal.Origin.{Origin}
use Rattle.sv_journal.specs.declared.journal.Origin.TheVariants.{Call, Sync, Reply, Overflow}
use Rattle.sv_journal.specs.declared.journal.Origin.TheVariants.{Command}
use Rattle.sv_journal.specs.declared.journal.Item.{Item}
use Rattle.sv_journal.specs.Items.{latest_first, is_overflow}
use Rattle.sv_journal.specs.Open.{AreGroupsWith}
use Rattle.sv_journal.specs.Legal.{origins_of, is_head, group_of}
use Rattle.sv_need.specs.Weights.{Weights, weight, weight_of}
use Rattle.sv_need.proofs.Groups.{head_most, group_weight}

groups_most : (w : Weights) (load : Load) (os : List Origin)
    → weight_of w load (flat_map (group_of load) (filter is_head os)) ≤ sum_by (head_most w load) os
groups_most w load [] = omega arith
groups_most w load (o ∷ os) = elim (is_head o) as (λ b. is_head o ≡ b
    → weight_of w load (flat_map (group_of load)
    (cond b (o ∷ filter is_head os) (filter is_head os))) ≤ sum_by (head_most w load) (o ∷ os)) [
      | true ↦ λ head. omega (
        arith,
        ap (weight_of w load)
            (flat_map-cons (group_of load) o (filter is_head os)),
        sum_by-append (weight w load)
            (group_of load o) (flat_map (group_of load) (filter is_head os)),
        group_weight w load o head,
        groups_most w load os,
        sum_by-cons (head_most w load) o os,
      )
      | false ↦ λ other. omega (arith, groups_most w load os, sum_by-cons (head_most w load) o os)
    ] refl

-- where an overflow counts nothing
origins_sum : (f : Origin → ℕ) → ((o : Origin) → is_overflow o ≡ true → f o ≡ 0)
    → (items : List Item) → sum_by f (origins_of items) ≡ sum_by (λ i. f i.origin) items
origins_sum f none [] = refl
origins_sum f none (i ∷ items) = elim (is_overflow i.origin) as (λ b. is_overflow i.origin ≡ b
    → sum_by f (cond (not b) (i.origin ∷ origins_of items) (origins_of items)) ≡ sum_by
    (λ (j : Item). f j.origin) (i ∷ items)) [
      | true ↦ λ over. omega (
        arith,
        none i.origin over,
        origins_sum f none items,
        sum_by-cons
            (λ (j : Item). f j.origin) i items,
      )
      | false ↦ λ other. omega (
        arith,
        sum_by-cons f i.origin (origins_of items),
        origins_sum f none
            items,
        sum_by-cons (λ (j : Item). f j.origin) i items,
      )
    ] refl

pub reverse_sum : {X : Type 0} (f : X → ℕ) (xs : List X) → sum_by f (reverse xs) ≡ sum_by f xs
reverse_sum f [] = refl
reverse_sum f (x ∷ xs) = omega (
  arith,
  ap (sum_by f) (reverse-append (x ∷ []) xs),
  sum_by_push f
      (reverse xs) x,
  reverse_sum f xs,
  sum_by-cons f x xs,
)

weight-overflow : (w : Weights) (load : Load) (o : Origin) → is_overflow o ≡ true
    → weight w load o ≡ 0
weight-overflow w load (Overflow count) is = refl
weight-overflow w load (Call writer step) is = absurd cc
weight-overflow w load Sync is = absurd cc
weight-overflow w load (Reply kind index) is = absurd cc
weight-overflow w load (Command byte param) is = absurd cc

head_most-overflow : (w : Weights) (load : Load) (o : Origin) → is_overflow o ≡ true
    → head_most w load o ≡ 0
head_most-overflow w load (Overflow count) is = refl
head_most-overflow w load (Call writer step) is = absurd cc
head_most-overflow w load Sync is = absurd cc
head_most-overflow w load (Reply kind index) is = absurd cc
head_most-overflow w load (Command byte param) is = absurd cc

-- the items and what is owed after them weigh no more than the mosts of the heads among them
pub journal_weight : (w : Weights) (load : Load) (items : List Item) (owed : List Origin)
    → AreGroupsWith load (origins_of items) owed
    → sum_by (λ i. weight w load i.origin) (latest_first items) + weight_of w load owed ≤ sum_by
    (λ i. head_most w load i.origin) (latest_first items)
journal_weight w load items owed groups = omega (
  arith,
  reverse_sum (λ (i : Item). weight w load i.origin) items,
  origins_sum (weight w load) (weight-overflow w load) items,
  ap (weight_of w load) groups,
  sum_by-append (weight w load) (origins_of items) owed,
  groups_most w load (origins_of items),
  origins_sum (head_most w load) (head_most-overflow w load) items,
  reverse_sum (λ (i : Item). head_most w load i.origin) items,
)
