-- How many exits of a list find no enter in it: what decides whether an enter before the list is
-- open after it.
use Rattle.std.proofs.Common.{◌≡◌, ℕ, zero, suc, ◌+◌, ◌-◌, List, [], ◌∷◌, ◌++◌, map, refl, ap, ◌∙◌}
use Rattle.std.proofs.Common.{arith}
use Rattle.std.specs.Prelude.{Bool, true, false, not, cond, ◌&&◌, nat_le, max, count_by}
use Rattle.std.specs.List.{list_any, list_all}
use Rattle.std.proofs.lemmas.Bool.Decides.{nat_tests}
use Rattle.std.proofs.lemmas.List.Sums.{sum_by-append}
use Rattle.sv_packet.specs.Lists.{fronts}
use Rattle.sv_context.specs.declared.context.Context.{Context}
use Rattle.sv_context.specs.Role.{Role, base, enter, exit, nothing, is_base, is_enter, is_exit}
use Rattle.sv_context.specs.Context.{is_covered, is_open_after}

pub count_cons : {A : Type 0} (p : A → Bool) (x : A) (xs : List A)
    → count_by p (x ∷ xs) ≡ cond (p x) 1 0 + count_by p xs
count_cons p x xs = sum_by-append (λ y. cond (p y) 1 0) (x ∷ []) xs ∙ omega arith

-- how many exits find no enter before them
abbrev pub short_by : List Role → ℕ
short_by [] = 0
short_by (base context ∷ roles) = short_by roles
short_by (enter context ∷ roles) = short_by roles - 1
short_by (exit ∷ roles) = short_by roles + 1
short_by (nothing ∷ roles) = short_by roles

-- covered with some enters before
abbrev covered_with : ℕ → List Role → Bool
covered_with more roles = nat_le (count_by is_exit roles) (count_by is_enter roles + more)

all_map : {A B : Type 0} (p : B → Bool) (f : A → B) (xs : List A)
    → list_all p (map f xs) ≡ list_all (λ x. p (f x)) xs
all_map p f [] = refl
all_map p f (x ∷ xs) = ap (λ t. p (f x) && t) (all_map p f xs)

all_same : {A : Type 0} (p q : A → Bool) (xs : List A) → ((x : A) → p x ≡ q x)
    → list_all p xs ≡ list_all q xs
all_same p q [] same = refl
all_same p q (x ∷ xs) same = let head : p x ≡ q x = same x in let rest : list_all p xs
    ≡ list_all q xs = all_same p q xs same in cc

with_enter : (more : ℕ) (context : Context) (front : List Role)
    → covered_with more (enter context ∷ front) ≡ covered_with (suc more) front
with_enter more context front =
    let a : count_by is_exit (enter context ∷ front) ≡ 0 + count_by is_exit front =
    count_cons is_exit (enter context) front in
    let b : count_by is_enter (enter context ∷ front) ≡ 1 + count_by is_enter front =
    count_cons is_enter (enter context) front in
    rw (a, b) (grind (arith, nat_tests))

with_exit : (more : ℕ) (front : List Role) → covered_with (suc more) (exit ∷ front)
    ≡ covered_with more front
with_exit more front =
    let a : count_by is_exit (exit ∷ front) ≡ 1 + count_by is_exit front = count_cons is_exit exit
    front in
    let b : count_by is_enter (exit ∷ front) ≡ 0 + count_by is_enter front =
    count_cons is_enter exit front in
    rw (a, b) (grind (arith, nat_tests))

with_other : (more : ℕ) (role : Role) (front : List Role) → is_exit role ≡ false
    → is_enter role ≡ false → covered_with more (role ∷ front) ≡ covered_with more front
with_other more role front no_exit no_enter =
    let a : count_by is_exit (role ∷ front) ≡ count_by is_exit front = count_cons is_exit role front
    ∙ rw no_exit (omega arith) in
    let b : count_by is_enter (role ∷ front) ≡ count_by is_enter front = count_cons is_enter role
    front ∙ rw no_enter (omega arith) in
    rw (a, b) refl

exit_fails : (roles : List Role) → list_all (covered_with 0) (map (λ front. exit ∷ front) (fronts
    roles)) ≡ false
exit_fails [] = refl
exit_fails (role ∷ roles) = refl

all_covered : (more : ℕ) (roles : List Role) → list_all (covered_with more) (fronts roles)
    ≡ nat_le (short_by roles) more
all_covered more [] = grind (arith, nat_tests)
all_covered more (base context ∷ roles) =
    let here : covered_with more [] ≡ true = grind (arith, nat_tests) in
    let rest : list_all (covered_with more) (map (λ front. base context ∷ front) (fronts roles))
    ≡ nat_le (short_by roles) more
    = all_map (covered_with more) (λ front. base context ∷ front) (fronts roles)
    ∙ all_same _ _ (fronts roles) (λ front. with_other more (base context) front refl refl)
    ∙ all_covered more roles in
    rw (here, rest) refl
all_covered more (enter context ∷ roles) =
    let here : covered_with more [] ≡ true = grind (arith, nat_tests) in
    let rest : list_all (covered_with more) (map (λ front. enter context ∷ front) (fronts roles))
    ≡ nat_le (short_by roles) (suc more)
    = all_map (covered_with more) (λ front. enter context ∷ front) (fronts roles)
    ∙ all_same _ _ (fronts roles) (with_enter more context) ∙ all_covered (suc more) roles in
    rw (here, rest) (grind (arith, nat_tests))
all_covered zero (exit ∷ roles) = exit_fails roles ∙ grind (arith, nat_tests)
all_covered (suc more) (exit ∷ roles) =
    let here : covered_with (suc more) [] ≡ true = grind (arith, nat_tests) in
    let rest : list_all (covered_with (suc more)) (map (λ front. exit ∷ front) (fronts roles))
    ≡ nat_le (short_by roles) more
    = all_map (covered_with (suc more)) (λ front. exit ∷ front) (fronts roles)
    ∙ all_same _ _ (fronts roles) (with_exit more) ∙ all_covered more roles in
    rw (here, rest) (grind (arith, nat_tests))
all_covered more (nothing ∷ roles) =
    let here : covered_with more [] ≡ true = grind (arith, nat_tests) in
    let rest : list_all (covered_with more) (map (λ front. nothing ∷ front) (fronts roles))
    ≡ nat_le (short_by roles) more
    = all_map (covered_with more) (λ front. nothing ∷ front) (fronts roles)
    ∙ all_same _ _ (fronts roles) (λ front. with_other more nothing front refl refl)
    ∙ all_covered more roles in
    rw (here, rest) refl

covered_plain : (roles : List Role) → is_covered roles ≡ covered_with 0 roles
covered_plain roles = grind (arith, nat_tests)

-- an enter is open after what follows it exactly where no base and no unmatched exit came
pub open_by_short : (roles : List Role) → is_open_after roles ≡ (not (list_any is_base roles) &&
    nat_le (short_by roles) 0)
open_by_short roles = ap (λ t. not (list_any is_base roles) && t) (all_same is_covered (covered_with
    0) (fronts roles) covered_plain ∙ all_covered 0 roles)

-- one more at the end
pub short-nothing : (roles : List Role) → short_by (roles ++ nothing ∷ []) ≡ short_by roles
short-nothing [] = refl
short-nothing (base context ∷ roles) = short-nothing roles
short-nothing (enter context ∷ roles) = ap (λ n. n - 1) (short-nothing roles)
short-nothing (exit ∷ roles) = ap (λ n. n + 1) (short-nothing roles)
short-nothing (nothing ∷ roles) = short-nothing roles

pub short-enter : (roles : List Role) (c : Context) → short_by (roles ++ enter c ∷ [])
    ≡ short_by roles
short-enter [] c = refl
short-enter (base context ∷ roles) c = short-enter roles c
short-enter (enter context ∷ roles) c = ap (λ n. n - 1) (short-enter roles c)
short-enter (exit ∷ roles) c = ap (λ n. n + 1) (short-enter roles c)
short-enter (nothing ∷ roles) c = short-enter roles c

pub short-exit : (roles : List Role) → short_by (roles ++ exit ∷ []) ≡ max (short_by roles)
    (count_by is_exit roles + 1 - count_by is_enter roles)
short-exit [] = refl
short-exit (base context ∷ roles) = omega (
  arith,
  short-exit roles,
  count_cons is_exit
      (base context) roles,
  count_cons is_enter (base context) roles,
)
short-exit (enter context ∷ roles) = omega (
  arith,
  short-exit roles,
  count_cons is_exit (enter
      context) roles,
  count_cons is_enter (enter context) roles,
)
short-exit (exit ∷ roles) = omega (
  arith,
  short-exit roles,
  count_cons is_exit exit roles,
  count_cons is_enter exit roles,
)
short-exit (nothing ∷ roles) = omega (
  arith,
  short-exit roles,
  count_cons is_exit nothing roles,
  count_cons is_enter nothing roles,
)
