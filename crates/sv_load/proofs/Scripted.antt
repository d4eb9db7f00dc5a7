-- What is counted over scripts, with one step more for the last.
use Rattle.std.proofs.Common.{◌≡◌, ℕ, Bool, true, false, zero, suc, ◌+◌, ◌<◌, ◌≤◌, List, [], ◌∷◌}
use Rattle.std.proofs.Common.{◌++◌, length, get_or, set, refl, ap, ◌∙◌, arith}
use Rattle.std.specs.Prelude.{map, sum_by, All}
use Rattle.std.proofs.lemmas.List.Sums.{sum_by-append, sum_by-cons}
use Rattle.std.proofs.lemmas.List.Elements.{All-nil, All-cons, All-push, All-head, All-tail}
use Rattle.sv_load.specs.declared.load.Step.{Step}
use Rattle.sv_load.specs.Need.{IsStepAct, act_bytes, is_start_act, one_if}
use Rattle.sv_load.specs.Scripts.{onto_last, over_scripts, AreCounted}

-- a sum over the scripts with one step more, and with one script more
pub over_last : (f : Step → ℕ) (s : Step) (scripts : List (List Step)) → 0 < length scripts
    → over_scripts f (onto_last s scripts) ≡ over_scripts f scripts + f s
over_last f s [] some = absurd (omega (arith, some))
over_last f s (script ∷ []) some = omega (arith, sum_by-append f script (s ∷ []))
over_last f s (script ∷ next ∷ scripts) some =
    let sum = λ (script : List Step). sum_by f script in
    omega (
      arith,
      over_last f s (next ∷ scripts) (omega arith),
      sum_by-cons sum script
          (onto_last s (next ∷ scripts)),
      sum_by-cons sum script (next ∷ scripts),
    )

pub over_begun : (f : Step → ℕ) (scripts : List (List Step))
    → over_scripts f (scripts ++ [] ∷ []) ≡ over_scripts f scripts
over_begun f scripts =
    sum_by-append (λ (script : List Step). sum_by f script) scripts ([] ∷ []) ∙ omega arith

-- the last of the lists that f gives is the one that grows
pub last_set : {X : Type 0} (f : X → List Step) (xs : List X) (i : ℕ) (v d : X) (step : Step)
    → i + 1 ≡ length xs → f v ≡ f (get_or xs i d) ++ step ∷ []
    → map f (set xs i v) ≡ onto_last step (map f xs)
last_set f [] i v d step e more = absurd (omega arith)
last_set f (x ∷ []) zero v d step e more = ap (λ (l : List Step). l ∷ []) more
last_set f (x ∷ []) (suc i) v d step e more = absurd (omega arith)
last_set f (x ∷ y ∷ xs) zero v d step e more = absurd (omega arith)
last_set f (x ∷ y ∷ xs) (suc i) v d step e more =
    ap (λ (l : List (List Step)). f x ∷ l) (last_set f (y ∷ xs) i v d step (omega arith) more)

-- there are no more scripts than before
pub length_onto : (step : Step) (scripts : List (List Step))
    → length (onto_last step scripts) ≡ length scripts
length_onto step [] = refl
length_onto step (script ∷ []) = refl
length_onto step (script ∷ next ∷ scripts) = omega (arith, length_onto step (next ∷ scripts))

all_onto : (P : Step → Type 0) (step : Step) (scripts : List (List Step))
    → All (λ script. All P script) scripts → P step
    → All (λ script. All P script) (onto_last step scripts)
all_onto P step [] all here = all
all_onto P step (script ∷ []) all here =
    All-cons (All P) (script ++ step ∷ []) []
    (All-push P script step (All-head (All P) script [] all) here) (All-nil (All P))
all_onto P step (script ∷ next ∷ scripts) all here =
    All-cons (All P) script (onto_last step (next ∷ scripts))
    (All-head (All P) script (next ∷ scripts) all)
    (all_onto P step (next ∷ scripts) (All-tail (All P) script (next ∷ scripts) all) here)

-- one more start within the limit
still_few : (starts : Bool) (n : ℕ) → n ≤ 256 → (starts ≡ true → n < 256) → n + one_if starts ≤ 256
still_few true n few left = omega (arith, left refl)
still_few false n few left = omega (arith, few)

pub counted_onto : (scripts : List (List Step)) (step : Step)
    (steps starts bytes more_starts more_bytes : ℕ)
    → AreCounted scripts steps starts bytes → 0 < length scripts
    → over_scripts (λ s. 1) scripts < 1048576
    → (is_start_act step.act ≡ true → over_scripts (λ s. one_if (is_start_act s.act)) scripts < 256)
    → step.advance ≤ 8589934592 → IsStepAct step.act
    → more_starts ≡ one_if (is_start_act step.act) → more_bytes ≡ act_bytes step.act → more_bytes ≤
    153 → AreCounted (onto_last step scripts) (steps + 1) (starts + more_starts)
    (bytes + more_bytes)
counted_onto scripts step steps starts bytes more_starts more_bytes is some few few_starts advance
    act started counted most =
    record {
      few_scripts = omega (arith, length_onto step scripts, is.few_scripts);
      steps_is = omega (arith, is.steps_is, over_last (λ (s : Step). 1) step scripts some);
      few_steps = omega (arith, is.steps_is, few);
      starts_is = omega (
        arith,
        is.starts_is,
        started,
        over_last
            (λ (s : Step). one_if (is_start_act s.act)) step scripts some,
      );
      few_starts = omega (
        arith,
        is.starts_is,
        started,
        still_few (is_start_act step.act)
            (over_scripts (λ s. one_if (is_start_act s.act)) scripts)
            (omega (arith, is.starts_is, is.few_starts)) few_starts,
      );
      bytes_is = omega (
        arith,
        is.bytes_is,
        counted,
        over_last (λ (s : Step). act_bytes s.act) step
            scripts some,
      );
      small = omega (arith, is.small, most);
      advances = all_onto (λ (s : Step). s.advance ≤ 8589934592) step scripts is.advances advance;
      acts = all_onto (λ (s : Step). IsStepAct s.act) step scripts is.acts act;
    }
