-- Sums over the steps of all scripts: what each step needs, and more for a start.
use Rattle.std.proofs.Common.{ℕ, ◌+◌, ◌*◌, ◌≤◌, List, [], ◌∷◌, length, ap, arith}
use Rattle.std.specs.Prelude.{sum_by}
use Rattle.std.proofs.Math.Nat.{mul-add, add-mul, zero-mul, mul-zero, mul-le-mul_left}
use Rattle.std.proofs.lemmas.List.Sums.{sum_by-cons}
use Rattle.sv_load.specs.declared.load.Act.{Act}
use Rattle.sv_load.specs.declared.load.Step.{Step}
use Rattle.sv_load.specs.Load.{Load}
use Rattle.sv_load.specs.Need.{over_steps, one_if, is_start_act, starts_in}
use Rattle.sv_need.specs.Weights.{Weights}
use Rattle.sv_need.proofs.Groups.{act_most, group_most}
use Rattle.sv_need.proofs.Sizes.{need_of}

row_sum : {X : Type 0} (f g h : X → ℕ) (c k : ℕ) → ((x : X) → f x ≤ c * g x + h x * k)
    → (xs : List X) → sum_by f xs ≤ c * sum_by g xs + sum_by h xs * k
row_sum f g h c k le [] = omega (arith, mul-zero c, zero-mul k)
row_sum f g h c k le (x ∷ xs) = omega (
  arith,
  sum_by-cons f x xs,
  le x,
  row_sum f g h c k le xs,
  ap (λ n. c * n) (sum_by-cons g x xs),
  mul-add c (g x) (sum_by g xs),
  ap (λ n. n * k) (sum_by-cons h x xs),
  add-mul (h x) (sum_by h xs) k,
)

-- what the steps and the commands need, where a step has c times its own and a start and a command
-- k more
pub need_most : (w : Weights) (load : Load) (g : Act → ℕ) (c k : ℕ)
    → ((act : Act) → act_most w load act ≤ c * g act + one_if (is_start_act act) * k)
    → group_most w load ≤ k
    → need_of w load ≤ c * over_steps (λ s. g s.act) load + (starts_in load + length load.commands)
    * k
need_most w load g c k each group =
    let steps = row_sum (λ (script : List Step). sum_by (λ s. act_most w load s.act) script)
    (λ (script : List Step). sum_by (λ s. g s.act) script)
    (λ (script : List Step). sum_by (λ s. one_if (is_start_act s.act)) script) c k
    (λ script. row_sum (λ (s : Step). act_most w load s.act) (λ (s : Step). g s.act)
    (λ (s : Step). one_if (is_start_act s.act)) c k (λ s. each s.act) script) load.scripts in
    omega (
      arith,
      steps,
      mul-le-mul_left (length load.commands) group,
      add-mul (starts_in load)
          (length load.commands) k,
    )
