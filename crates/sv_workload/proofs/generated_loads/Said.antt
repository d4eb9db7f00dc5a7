-- The text of a generated workload says that workload.
use Rattle.std.proofs.Common.{◌≡◌, ℕ, zero, suc, ◌≤◌, Bool, true, false, cond, ◌==◌, List, [], ◌∷◌}
use Rattle.std.proofs.Common.{◌++◌}
use Rattle.std.proofs.Common.{refl, sym, ap, ◌∙◌, arith, All}
use Rattle.std.specs.Prelude.{codes, ◌/◌, ◌%◌}
use Rattle.std.proofs.lemmas.List.Elements.{All-nil, All-cons, All-append}
use Rattle.sv_text.specs.Lines.{lines_of, IsOneLine}
use Rattle.sv_text.proofs.Shared.{lines_back}
use Rattle.sv_workload.specs.Grammar.{IsWorkload, first_fault_after, said}
use Rattle.sv_workload.specs.Generated.{drawn_number, generated_load}
use Rattle.sv_workload.specs.GeneratedText.{first_lines, words_from, step_text, lines_to}
use Rattle.sv_workload.specs.GeneratedText.{round_lines}
use Rattle.sv_workload.specs.GeneratedText.{generated_lines, generated_text}
use Rattle.sv_workload.specs.Meaning.{workload_of}
use Rattle.sv_workload.proofs.whole_text.Walking.{load_is}
use Rattle.sv_workload.proofs.generated_loads.StepLines.{is_one_line}
use Rattle.sv_workload.proofs.generated_loads.Reading.{few_ticks, all_read}

-- no line feed stands in a line
by_tests : (a b c d e f g : Bool) →
    IsOneLine (cond a (codes "run 536870916") (cond b (codes "run 536870920")
    (cond c (codes "ready 536870916") (cond d (codes "ready 536870920") (cond e (codes "isr 5")
    (cond f (codes "isr-exit") (cond g (codes "idle") (codes "mark 5"))))))))
by_tests true b c d e f g = refl
by_tests false true c d e f g = refl
by_tests false false true d e f g = refl
by_tests false false false true e f g = refl
by_tests false false false false true f g = refl
by_tests false false false false false true g = refl
by_tests false false false false false false true = refl
by_tests false false false false false false false = refl

one_step : (n k : ℕ) → IsOneLine (step_text (drawn_number n (suc k)))
one_step n k =
    let x = drawn_number n (suc k) in
    let choice = (x / 65536) % 8 in
    is_one_line (x / 16777216) (omega (arith, few_ticks n k)) (words_from choice)
    (by_tests (choice == 0) (choice == 1) (choice == 2) (choice == 3) (choice == 4) (choice == 5)
    (choice == 6))

steps_are : (n k : ℕ) → All IsOneLine (lines_to n k)
steps_are n zero = All-nil IsOneLine
steps_are n (suc k) =
    All-append IsOneLine (lines_to n k) (step_text (drawn_number n (suc k)) ∷ []) (steps_are n k)
    (All-cons IsOneLine (step_text (drawn_number n (suc k))) [] (one_step n k) (All-nil IsOneLine))

two : (a b : List ℕ) (more : List (List ℕ)) → IsOneLine a → IsOneLine b → All IsOneLine more
    → All IsOneLine (a ∷ b ∷ more)
two a b more first second rest =
    All-cons IsOneLine a (b ∷ more) first (All-cons IsOneLine b more second rest)

rounds_are : (count : ℕ) → All IsOneLine (round_lines count)
rounds_are zero = All-nil IsOneLine
rounds_are (suc count) =
    All-append IsOneLine (round_lines count) (codes "step 0 64" ∷ codes "read 128" ∷ [])
    (rounds_are count)
    (two (codes "step 0 64") (codes "read 128") [] refl refl (All-nil IsOneLine))

lines_are : (n : ℕ) → All IsOneLine (generated_lines n)
lines_are n =
    let rest = codes "schedule" ∷ codes "step 0" ∷ round_lines (n / 64) in
    All-append IsOneLine first_lines (lines_to n n ++ rest)
    (two (codes "ring 4096") (codes "task 536870916 1 536875008 1024 0 A")
    (codes "task 536870920 2 536876032 1024 0 B" ∷ codes "writer" ∷ codes "0 start" ∷ []) refl refl
    (two (codes "task 536870920 2 536876032 1024 0 B") (codes "writer") (codes "0 start" ∷ []) refl
    refl (All-cons IsOneLine (codes "0 start") [] refl (All-nil IsOneLine))))
    (All-append IsOneLine (lines_to n n) rest (steps_are n n)
    (two (codes "schedule") (codes "step 0") (round_lines (n / 64)) refl refl
    (rounds_are (n / 64))))

pub text_says : (n : ℕ) → n ≤ 1000000 → IsWorkload (generated_text n) (generated_load n)
text_says n few =
    let lines : lines_of (generated_text n) ≡ generated_lines n = lines_back (generated_lines n)
    (lines_are n) in
    let reads = all_read n few in
    record {
      good = ap (first_fault_after []) lines ∙ reads.good;
      meaning = load_is _ (said (generated_lines n)) reads.stands
          ∙ ap (λ (l : List (List ℕ)). workload_of (said l)) (sym lines);
    }
