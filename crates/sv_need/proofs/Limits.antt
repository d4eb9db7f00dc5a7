-- At the limits of a workload its need is below the numbers that a host keeps for it.
use Rattle.std.proofs.Common.{ℕ, ◌+◌, ◌*◌, ◌<◌, ◌≤◌, List, [], ◌∷◌, length, arith}
use Rattle.std.specs.Prelude.{sum_by, All}
use Rattle.std.proofs.lemmas.Nat.{mul-le}
use Rattle.std.proofs.lemmas.List.Elements.{All-head, All-tail}
use Rattle.std.proofs.lemmas.List.Sums.{sum_by-cons}
use Rattle.sv_load.specs.declared.load.Act.{Act}
use Rattle.sv_load.specs.declared.load.Act.TheVariants as acts
use Rattle.sv_load.specs.declared.load.Step.{Step}
use Rattle.sv_load.specs.Load.{Load}
use Rattle.sv_load.specs.Need.{over_steps, steps_in, starts_in, replies_in, act_bytes}
use Rattle.sv_load.specs.Need.{need_items, need_bytes, IsStepAct, IsWithinLimits}
use Rattle.sv_journal.specs.declared.journal.Item.{Item}
use Rattle.sv_journal.specs.Legal.{IsLegal}
use Rattle.sv_journal.specs.Stream.{stream_of}
use Rattle.sv_need.proofs.ItemCounts.{within_items}
use Rattle.sv_need.proofs.ByteCounts.{within_bytes}

-- starts and commands together
answering : (load : Load) (k most : ℕ) → IsWithinLimits load → k ≤ most
    → (starts_in load + length load.commands) * k ≤ 512 * most
answering load k most s le = mul-le (starts_in load + length load.commands) k 512 most
    (omega (arith, s.starts, s.commands)) le

pub few_needed : (load : Load) → IsWithinLimits load → need_items load < 3400000
few_needed load s = omega (
  arith,
  s.steps,
  answering load (2 + 2 * replies_in load) 274 s
      (omega (arith, s.lines, s.tasks, s.modules)),
)

act_small : (act : Act) → IsStepAct act → act_bytes act ≤ 153
act_small (acts.Event event) is = omega (arith, is)
act_small acts.Start is = omega arith
act_small acts.Stop is = omega arith

row_small : {X : Type 0} (P : X → Type 0) (f g : X → ℕ) → ((x : X) → P x → f x ≤ 153 * g x)
    → (xs : List X) → All P xs → sum_by f xs ≤ 153 * sum_by g xs
row_small P f g le [] all = omega arith
row_small P f g le (x ∷ xs) all = omega (
  arith,
  sum_by-cons f x xs,
  sum_by-cons g x xs,
  le x
      (All-head P x xs all),
  row_small P f g le xs (All-tail P x xs all),
)

steps_small : (load : Load) → IsWithinLimits load
    → over_steps (λ s. act_bytes s.act) load ≤ 153 * steps_in load
steps_small load s =
    row_small (λ (script : List Step). All (λ s. IsStepAct s.act) script)
    (λ (script : List Step). sum_by (λ s. act_bytes s.act) script)
    (λ (script : List Step). sum_by (λ s. 1) script)
    (λ script all. row_small (λ (s : Step). IsStepAct s.act) (λ (s : Step). act_bytes s.act)
    (λ (s : Step). 1) (λ s is. omega (arith, act_small s.act is)) script all) load.scripts
    s.acts

pub short_needed : (load : Load) → IsWithinLimits load → need_bytes load < 181000000
short_needed load s = omega (
  arith,
  s.steps,
  steps_small load s,
  answering load
      (27 + 156 * replies_in load) 21243 s (omega (arith, s.lines, s.tasks, s.modules)),
)

pub few_items : (load : Load) (items : List Item) → IsLegal load items → IsWithinLimits load
    → length items < 3400000
few_items load items legal s = omega (arith, within_items load items legal, few_needed load s)

pub short_stream : (load : Load) (items : List Item) → IsLegal load items → IsWithinLimits load
    → length (stream_of load items) < 181000000
short_stream load items legal s = omega (
  arith,
  within_bytes load items legal s.texts,
  short_needed load s,
)
