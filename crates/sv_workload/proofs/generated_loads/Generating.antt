-- What a generated workload counts.
use Rattle.std.proofs.Common.{◌≡◌, ℕ, zero, suc, ◌+◌, ◌*◌, ◌≤◌, Bool, true, false, cond, List, []}
use Rattle.std.proofs.Common.{◌∷◌, length, refl, arith}
use Rattle.std.specs.Prelude.{◌/◌, ◌%◌, ◌==◌, sum_by}
use Rattle.std.proofs.lemmas.List.{length-append}
use Rattle.std.proofs.lemmas.List.Sums.{sum_by-append, sum_by-cons}
use Rattle.sv_packet.specs.declared.event.Event.TheVariants.{TaskStart, TaskReady, IsrEnter}
use Rattle.sv_packet.specs.declared.event.Event.TheVariants.{IsrExit, Idle, MarkStart}
use Rattle.sv_packet.specs.Spelling.{spelling_of}
use Rattle.sv_load.specs.declared.load.Step.{Step}
use Rattle.sv_load.specs.declared.load.Action.TheVariants as actions
use Rattle.sv_load.specs.Need.{act_bytes, is_start_act, need_bytes, need_items, one_if}
use Rattle.sv_load.specs.Scripts.{over_scripts}
use Rattle.sv_workload.specs.Generated.{event_from, generated_load, drawn_number, rounds}
use Rattle.sv_workload.specs.Generated.{start_step}
use Rattle.sv_workload.specs.Generated.{step_from, steps_to}

pub length_rounds : (count : ℕ) → length (rounds count) ≡ 2 * count
length_rounds zero = refl
length_rounds (suc count) =
    omega (
      arith,
      length-append (rounds count) (actions.Step 0 64 ∷ actions.Read 128 ∷ []),
      length_rounds count,
    )

-- a number for each step, summed over the one script
over_one : (f : Step → ℕ) (script : List Step) →
    over_scripts f ((start_step ∷ script) ∷ []) ≡ f start_step + sum_by f script
over_one f script =
    omega (
      arith,
      sum_by-cons (λ (steps : List Step). sum_by f steps) (start_step ∷ script) [],
      sum_by-cons f start_step script,
    )

one_more : (f : Step → ℕ) (n k : ℕ) →
    sum_by f (steps_to n (suc k)) ≡ sum_by f (steps_to n k) + f (step_from (drawn_number n (suc k)))
one_more f n k =
    omega (arith, sum_by-append f (steps_to n k) (step_from (drawn_number n (suc k)) ∷ []))

count_steps : (n k : ℕ) → sum_by (λ (s : Step). 1) (steps_to n k) ≡ k
count_steps n zero = refl
count_steps n (suc k) = omega (arith, one_more (λ (s : Step). 1) n k, count_steps n k)

pub all_steps : (n k : ℕ) →
    over_scripts (λ s. 1) ((start_step ∷ steps_to n k) ∷ []) ≡ suc k
all_steps n k =
    omega (arith, over_one (λ (s : Step). 1) (steps_to n k), count_steps n k)

-- no step but the first starts the recorder
count_starts : (n k : ℕ) →
    sum_by (λ (s : Step). one_if (is_start_act s.act)) (steps_to n k) ≡ 0
count_starts n zero = refl
count_starts n (suc k) =
    omega (arith, one_more (λ (s : Step). one_if (is_start_act s.act)) n k, count_starts n k)

all_starts : (n k : ℕ) →
    over_scripts (λ s. one_if (is_start_act s.act)) ((start_step ∷ steps_to n k) ∷ []) ≡ 1
all_starts n k =
    omega (
      arith,
      over_one (λ (s : Step). one_if (is_start_act s.act)) (steps_to n k),
      count_starts n k,
    )

-- the packets have at most three bytes
by_tests : (a b c d e f g : Bool) →
    length (spelling_of (cond a (TaskStart 1) (cond b (TaskStart 2) (cond c (TaskReady 1)
    (cond d (TaskReady 2) (cond e (IsrEnter 5) (cond f IsrExit (cond g Idle (MarkStart 5)))))))) 0)
    ≤ 3
by_tests true b c d e f g = omega arith
by_tests false true c d e f g = omega arith
by_tests false false true d e f g = omega arith
by_tests false false false true e f g = omega arith
by_tests false false false false true f g = omega arith
by_tests false false false false false true g = omega arith
by_tests false false false false false false true = omega arith
by_tests false false false false false false false = omega arith

short_event : (choice : ℕ) → length (spelling_of (event_from choice) 0) ≤ 3
short_event choice =
    by_tests (choice == 0) (choice == 1) (choice == 2) (choice == 3) (choice == 4) (choice == 5)
    (choice == 6)

count_bytes : (n k : ℕ) → sum_by (λ (s : Step). act_bytes s.act) (steps_to n k) ≤ 18 * k
count_bytes n zero = omega arith
count_bytes n (suc k) =
    omega (
      arith,
      one_more (λ (s : Step). act_bytes s.act) n k,
      count_bytes n k,
      short_event ((drawn_number n (suc k) / 65536) % 8),
    )

all_bytes : (n k : ℕ) →
    over_scripts (λ s. act_bytes s.act) ((start_step ∷ steps_to n k) ∷ []) ≤ 18 * k
all_bytes n k =
    omega (arith, over_one (λ (s : Step). act_bytes s.act) (steps_to n k), count_bytes n k)

pub items_needed : (n : ℕ) → need_items (generated_load n) ≡ 3 * n + 21
items_needed n = omega (arith, all_steps n n, all_starts n n)

pub bytes_needed : (n : ℕ) → need_bytes (generated_load n) ≤ 18 * n + 1291
bytes_needed n = omega (arith, all_bytes n n, all_starts n n)
