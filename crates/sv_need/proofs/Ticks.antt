-- The ticks of a journal's calls are those of steps of the scripts, each counted once at most.
use Rattle.std.proofs.Common.{◌≡◌, ℕ, zero, suc, ◌+◌, ◌*◌, ◌^◌, ◌<◌, ◌≤◌, ◌≢◌, cond, Some, List, []}
use Rattle.std.proofs.Common.{◌∷◌, length, get_or, refl, sym, ap, subst, ◌∙◌, arith}
use Rattle.std.specs.Prelude.{sum_by, slice_get, All}
use Rattle.std.specs.Option.{option_map_or}
use Rattle.std.proofs.lemmas.Bool.{eq-eqb, ne_eqb}
use Rattle.std.proofs.lemmas.Option.{slice_get-get_or}
use Rattle.std.proofs.lemmas.List.Elements.{All-head, All-tail}
use Rattle.std.proofs.lemmas.List.Sums.{sum_by-cons}
use Rattle.sv_load.specs.declared.load.Step.{Step}
use Rattle.sv_load.specs.Load.{Load, script_of, step_of}
use Rattle.sv_load.specs.Limits.{most_steps, most_ticks}
use Rattle.sv_load.specs.Need.{over_steps, IsWithinLimits}
use Rattle.sv_journal.specs.declared.journal.Origin.{Origin}
use Rattle.sv_journal.specs.declared.journal.Origin.TheVariants.{Call, Sync, Reply, Overflow}
use Rattle.sv_journal.specs.declared.journal.Origin.TheVariants.{Command}
use Rattle.sv_journal.specs.declared.journal.Item.{Item}
use Rattle.sv_journal.specs.Items.{latest_first, is_call_of}
use Rattle.sv_journal.specs.Legal.{EachItem, IsNextItem, IsNextStep, step_ticks}
use Rattle.sv_journal.specs.Clock.{clock_of}
use Rattle.sv_journal.specs.Open.{IsOpen}
use Rattle.sv_need.proofs.Scripts.{spent, spent-same, spent-more, spent-most, calls_at, one_call}
use Rattle.sv_need.proofs.Scripts.{no_step}

abbrev advance : Step → ℕ
advance step = step.advance

-- the ticks of the calls so far
abbrev ticks_spent : Load → (ℕ → ℕ) → ℕ
ticks_spent load counts = spent advance load.scripts counts

none-called : (load : Load) (counts : ℕ → ℕ)
    → ticks_spent load (λ v. 0 + counts v) ≡ ticks_spent load counts
none-called load counts = spent-same advance load.scripts (λ v. 0 + counts v) counts
    (λ v. omega arith)

-- one more
ticks-more : (load : Load) (earlier : List Item) (origin : Origin) → IsNextStep load earlier origin
    → step_ticks load origin + ticks_spent load (calls_at earlier) ≤ ticks_spent load
    (λ v. one_call origin v + calls_at earlier v)
ticks-more load earlier (Call writer step) next =
    let script = script_of load writer in
    let at : step ≡ calls_at earlier writer = next.0 in
    let below : calls_at earlier writer < length script =
    subst (λ n. n < length script) at next.1 in
    let found : step_of load writer step ≡ Some (get_or script (calls_at earlier writer) no_step) =
    ap (slice_get script) at ∙ slice_get-get_or script (calls_at earlier writer) no_step below in
    let here : step_ticks load (Call writer step) ≡ (get_or script (calls_at earlier writer)
    no_step).advance = ap (λ s. option_map_or advance s 0) found in
    let one : one_call (Call writer step) writer + calls_at earlier writer ≡ calls_at earlier writer
    + 1 = omega (arith, ap {B = ℕ} (λ b. cond b 1 0) (eq-eqb writer writer refl)) in
    let other : (v : ℕ) → writer ≢ v → one_call (Call writer step) v + calls_at earlier v ≡
    calls_at earlier v = λ v no. omega (arith, ap {B = ℕ} (λ b. cond b 1 0) (ne_eqb writer v no)) in
    omega (
      arith,
      here,
      spent-more advance no_step load.scripts writer (calls_at earlier)
          (λ v. one_call (Call writer step) v + calls_at earlier v) below one other,
    )
ticks-more load earlier Sync next = omega (arith, none-called load (calls_at earlier))
ticks-more load earlier (Reply kind index) next =
    omega (arith, none-called load (calls_at earlier))
ticks-more load earlier (Overflow count) next = omega (arith, none-called load (calls_at earlier))
ticks-more load earlier (Command byte param) next =
    omega (arith, none-called load (calls_at earlier))

ticks_so_far : (load : Load) (earlier : List Item) → EachItem (IsNextItem load) earlier
    → sum_by (λ i. step_ticks load i.origin) earlier ≤ ticks_spent load (calls_at earlier)
ticks_so_far load [] each = omega arith
ticks_so_far load (i ∷ earlier) each =
    let counts : (v : ℕ) → one_call i.origin v + calls_at earlier v ≡ calls_at (i ∷ earlier) v =
    λ v. sym (sum_by-cons (λ (j : Item). cond (is_call_of v j.origin) 1 0) i earlier) in
    omega (
      arith,
      sum_by-cons (λ (j : Item). step_ticks load j.origin) i earlier,
      ticks_so_far load earlier each.0,
      ticks-more load earlier i.origin each.1.step,
      spent-same advance load.scripts (λ v. one_call i.origin v + calls_at earlier v)
          (calls_at (i ∷ earlier)) counts,
    )

-- a sum of so many numbers, each of which is at most so much
row_most : {X : Type 0} (P : X → Type 0) (f g : X → ℕ) → ((x : X) → P x → f x ≤ most_ticks * g x)
    → (xs : List X) → All P xs → sum_by f xs ≤ most_ticks * sum_by g xs
row_most P f g le [] all = omega arith
row_most P f g le (x ∷ xs) all = omega (
  arith,
  sum_by-cons f x xs,
  sum_by-cons g x xs,
  le x (All-head P x xs all),
  row_most P f g le xs (All-tail P x xs all),
)

all_ticks : (load : Load) → IsWithinLimits load → over_steps advance load ≤ 2 ^ 53
all_ticks load s =
    let all = row_most (λ (script : List Step). All (λ s. s.advance ≤ most_ticks) script)
    (λ (script : List Step). sum_by advance script) (λ (script : List Step). sum_by (λ s. 1) script)
    (λ script each. row_most (λ (s : Step). s.advance ≤ most_ticks) advance (λ (s : Step). 1)
    (λ s is. omega (arith, is)) script each) load.scripts s.advances in
    omega (arith, all, s.steps)

-- the moment of the next step
pub ticks_next : (load : Load) (items : List Item) (owed : List Origin) (next : Origin)
    → IsOpen load items owed → IsNextStep load (latest_first items) next → IsWithinLimits load
    → clock_of load items + step_ticks load next ≤ 2 ^ 53
ticks_next load items owed next journal step limits = omega (
  arith,
  ticks_so_far load (latest_first items) journal.each,
  ticks-more load (latest_first items) next step,
  spent-most advance load.scripts (λ v. one_call next v + calls_at (latest_first items) v),
  all_ticks load limits,
)

-- no script has more steps than a workload may have
ones : (steps : List Step) → sum_by (λ (s : Step). 1) steps ≡ length steps
ones [] = refl
ones (s ∷ steps) = omega (arith, ones steps, sum_by-cons (λ (t : Step). 1) s steps)

one_script : (scripts : List (List Step)) (writer : ℕ) → writer < length scripts
    → length (get_or scripts writer []) ≤ sum_by (λ script. sum_by (λ s. 1) script) scripts
one_script [] writer there = absurd (omega (arith, there))
one_script (script ∷ scripts) zero there = omega (
  arith,
  ones script,
  sum_by-cons (λ (s : List Step). sum_by (λ t. 1) s) script scripts,
)
one_script (script ∷ scripts) (suc writer) there = omega (
  arith,
  one_script scripts writer (omega (arith, there)),
  sum_by-cons (λ (s : List Step). sum_by (λ t. 1) s) script scripts,
)

pub script_short : (load : Load) (writer : ℕ) → writer < length load.scripts → IsWithinLimits load
    → length (script_of load writer) ≤ most_steps
script_short load writer there limits =
    omega (arith, one_script load.scripts writer there, limits.steps)
