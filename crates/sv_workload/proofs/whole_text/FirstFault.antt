-- The first line with a fault, found by a walk over the lines.
use Rattle.std.proofs.Common.{◌≡◌, ℕ, zero, suc, ◌+◌, ◌<◌, List, [], ◌∷◌, ◌++◌, length, take}
use Rattle.std.proofs.Common.{get_or, Option, Some, None, refl, sym, ap, subst, ◌∙◌, append_assoc}
use Rattle.std.proofs.Common.{arith}
use Rattle.std.specs.Prelude.{option_map}
use Rattle.std.specs.Option.{option_or}
use Rattle.std.proofs.lemmas.List.{append-nil, length-append}
use Rattle.sv_workload.specs.declared.fault.LineFault.{LineFault}
use Rattle.sv_workload.specs.Grammar.{fault_at, first_fault_after}

-- what stands after good lines and one more good line
pub one_good : (before : List (List ℕ)) (line : List ℕ) (more : List (List ℕ))
    → fault_at before line ≡ None
    → first_fault_after before (line ∷ more) ≡ first_fault_after (before ++ line ∷ []) more
one_good before line more good =
    ap (λ (o : Option LineFault). option_or (option_map (λ fault. (length before + 1, fault)) o)
    (first_fault_after (before ++ line ∷ []) more)) good

-- one more good line at the end
pub last_good : (before lines : List (List ℕ)) (line : List ℕ)
    → first_fault_after before lines ≡ None → fault_at (before ++ lines) line ≡ None
    → first_fault_after before (lines ++ line ∷ []) ≡ None
last_good before [] line good here =
    one_good before line []
    (subst (λ (b : List (List ℕ)). fault_at b line ≡ None) (append-nil before) here)
last_good before (first ∷ lines) line good here =
    let both = neither (fault_at before first) (first_fault_after (before ++ first ∷ []) lines) good
    in
    one_good before first (lines ++ line ∷ []) both.0
    ∙ last_good (before ++ first ∷ []) lines line both.1
    (subst (λ (b : List (List ℕ)). fault_at b line ≡ None)
    (sym (append_assoc before (first ∷ []) lines)) here)
  where
    neither : (o : Option LineFault) (more : Option (ℕ × LineFault))
        → option_or (option_map (λ fault. (length before + 1, fault)) o) more ≡ None
        → (o ≡ None) × (more ≡ None)
    neither None more e = (refl, e)
    neither (Some fault) more e = cc

-- the lines before a place after one more line
shifted : (before : List (List ℕ)) (line : List ℕ) (more : List (List ℕ)) (k : ℕ)
    → before ++ take (suc k) (line ∷ more) ≡ (before ++ line ∷ []) ++ take k more
shifted before line more k = sym (append_assoc before (line ∷ []) (take k more))

pub all_good : (before left : List (List ℕ))
    → ((k : ℕ) → k < length left → fault_at (before ++ take k left) (get_or left k []) ≡ None)
    → first_fault_after before left ≡ None
all_good before [] good = refl
all_good before (line ∷ more) good =
    let first : fault_at before line ≡ None = subst (λ (b : List (List ℕ)). fault_at b line ≡ None)
    (append-nil before) (good 0 (omega arith)) in
    one_good before line more first
    ∙ all_good (before ++ line ∷ []) more
    (λ k lt. subst (λ (b : List (List ℕ)). fault_at b (get_or more k []) ≡ None)
    (shifted before line more k) (good (suc k) (omega arith)))

pub first_at : (before left : List (List ℕ)) (place : ℕ) (fault : LineFault) → place < length left
    → fault_at (before ++ take place left) (get_or left place []) ≡ Some fault
    → ((k : ℕ) → k < place → fault_at (before ++ take k left) (get_or left k []) ≡ None) →
    first_fault_after before left ≡ Some (length before + place + 1, fault)
first_at before [] place fault within here earlier = absurd (omega arith)
first_at before (line ∷ more) zero fault within here earlier =
    let now : fault_at before line ≡ Some fault = subst
    (λ (b : List (List ℕ)). fault_at b line ≡ Some fault) (append-nil before) here in
    let n : length before + 1 ≡ length before + 0 + 1 = omega arith in
    ap (λ (o : Option LineFault). option_or (option_map (λ f. (length before + 1, f)) o)
    (first_fault_after (before ++ line ∷ []) more)) now ∙ ap (λ (m : ℕ). Some (m, fault)) n
first_at before (line ∷ more) (suc place) fault within here earlier =
    let first : fault_at before line ≡ None = subst (λ (b : List (List ℕ)). fault_at b line ≡ None)
    (append-nil before) (earlier 0 (omega arith)) in
    let n : length (before ++ line ∷ []) + place + 1 ≡ length before + suc place + 1 = omega
    (arith, length-append before (line ∷ [])) in
    one_good before line more first
    ∙ first_at (before ++ line ∷ []) more place fault (omega arith)
    (subst (λ (b : List (List ℕ)). fault_at b (get_or more place []) ≡ Some fault)
    (shifted before line more place) here)
    (λ k lt. subst (λ (b : List (List ℕ)). fault_at b (get_or more k []) ≡ None)
    (shifted before line more k) (earlier (suc k) (omega arith)))
    ∙ ap (λ (m : ℕ). Some (m, fault)) n
