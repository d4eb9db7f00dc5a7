-- The text of a generated workload, line by line.
use Rattle.std.specs.Prelude.{ℕ, zero, suc, ◌/◌, ◌%◌, ◌==◌, List, [], ◌∷◌, ◌++◌, codes}
use Rattle.std.specs.Prelude.{if◌then◌else◌}
use Rattle.std.specs.Fmt.{decimal}
use Rattle.sv_text.specs.Lines.{text_from}
use Rattle.sv_workload.specs.Generated.{drawn_number}

-- what stands before the steps that are drawn
abbrev pub first_lines : List (List ℕ)
first_lines =
    codes "ring 4096"
    ∷ codes "task 536870916 1 536875008 1024 0 A"
    ∷ codes "task 536870920 2 536876032 1024 0 B"
    ∷ codes "writer"
    ∷ codes "0 start"
    ∷ []

-- what stands in a step's line after its ticks, by a choice from 0 to 7
abbrev pub words_from : ℕ → List ℕ
words_from choice =
    if choice == 0 then codes "run 536870916"
    else if choice == 1 then codes "run 536870920"
    else if choice == 2 then codes "ready 536870916"
    else if choice == 3 then codes "ready 536870920"
    else if choice == 4 then codes "isr 5"
    else if choice == 5 then codes "isr-exit"
    else if choice == 6 then codes "idle"
    else codes "mark 5"

-- the line of a number's step: its ticks, a space, and what it does
abbrev pub step_text : ℕ → List ℕ
step_text x = decimal (x / 16777216) ++ 32 ∷ words_from ((x / 65536) % 8)

-- the lines of the first steps, so many
abbrev pub lines_to : ℕ → ℕ → List (List ℕ)
lines_to n zero = []
lines_to n (suc k) = lines_to n k ++ step_text (drawn_number n (suc k)) ∷ []

-- so many times 64 steps and a read
abbrev pub round_lines : ℕ → List (List ℕ)
round_lines zero = []
round_lines (suc k) = round_lines k ++ codes "step 0 64" ∷ codes "read 128" ∷ []

-- all lines: the steps, and the schedule, which leaves the last steps that fill no round
abbrev pub generated_lines : ℕ → List (List ℕ)
generated_lines n =
    first_lines ++ (lines_to n n ++ codes "schedule" ∷ codes "step 0" ∷ round_lines (n / 64))

abbrev pub generated_text : ℕ → List ℕ
generated_text n = text_from (generated_lines n)
