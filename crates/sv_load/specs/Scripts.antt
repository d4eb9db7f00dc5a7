-- The scripts of the writers as they grow: steps go to the writer that was named last.
use Rattle.std.specs.Prelude.{◌≡◌, ℕ, ◌+◌, ◌<◌, ◌≤◌, ◌*◌, List, [], ◌∷◌, ◌++◌, length, sum_by, All}
use Rattle.sv_load.specs.declared.load.Step.{Step}
use Rattle.sv_load.specs.declared.load.Need.{Need}
use Rattle.sv_load.specs.Need.{act_bytes, is_start_act, one_if, IsStepAct}
use Rattle.sv_load.specs.Limits.{most_steps, most_starts, most_writers, most_ticks}

-- one more step for the last script
abbrev pub onto_last : Step → List (List Step) → List (List Step)
onto_last step [] = []
onto_last step (script ∷ []) = (script ++ step ∷ []) ∷ []
onto_last step (script ∷ next ∷ scripts) = script ∷ onto_last step (next ∷ scripts)

-- a number for each step, summed over all scripts
abbrev pub over_scripts : (Step → ℕ) → List (List Step) → ℕ
over_scripts f scripts = sum_by (λ script. sum_by f script) scripts

-- what is counted over scripts, which are within the limits
pub record AreCounted (scripts : List (List Step)) (steps starts bytes : ℕ) : Type 0 where
  pub few_scripts : length scripts ≤ most_writers
  pub steps_is : steps ≡ over_scripts (λ s. 1) scripts
  pub few_steps : steps ≤ most_steps
  pub starts_is : starts ≡ over_scripts (λ s. one_if (is_start_act s.act)) scripts
  pub few_starts : starts ≤ most_starts
  pub bytes_is : bytes ≡ over_scripts (λ s. act_bytes s.act) scripts
  pub small : bytes ≤ 153 * steps
  pub advances : All (λ script. All (λ s. s.advance ≤ most_ticks) script) scripts
  pub acts : All (λ script. All (λ s. IsStepAct s.act) script) scripts

-- what these scripts need where a start or one of so many commands has so many replies, and what a
-- workload asks of them
pub record NeedOf (scripts : List (List Step)) (replies commands : ℕ) (need : Need) : Type 0 where
  pub items : need.items ≡ 3 * over_scripts (λ s. 1) scripts +
      (over_scripts (λ s. one_if (is_start_act s.act)) scripts + commands) * (2 + 2 * replies)
  pub bytes : need.bytes ≡ 16 + over_scripts (λ s. act_bytes s.act) scripts +
      (over_scripts (λ s. one_if (is_start_act s.act)) scripts + commands) * (27 + 156 * replies)
  pub few : need.items < 3400000
  pub short : need.bytes < 181000000
  pub writers : length scripts ≤ most_writers
  pub steps : over_scripts (λ s. 1) scripts ≤ most_steps
  pub starts : over_scripts (λ s. one_if (is_start_act s.act)) scripts ≤ most_starts
  pub advances : All (λ script. All (λ s. s.advance ≤ most_ticks) script) scripts
  pub acts : All (λ script. All (λ s. IsStepAct s.act) script) scripts
