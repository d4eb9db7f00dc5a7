-- The frees of turns, and how many of them the items of a journal use.
use Rattle.std.specs.Prelude.{◌≡◌, ℕ, ◌≤◌, Bool, List, ◌++◌, length, take}
use Rattle.sv_journal.specs.declared.journal.Item.{Item}
use Rattle.sv_journal.specs.Items.{latest_first, is_after_refused_overflow}
use Rattle.sv_journal.specs.Frees.{written_freed, frees_before}
use Rattle.sv_core.specs.Turns.{StepTurn, Turns}

abbrev pub turns_by : List StepTurn → List ℕ → Turns
turns_by steps frees = record { steps = steps; frees = frees }

-- the items free by so many of the frees, the first ones
abbrev pub IsUsing : List Item → List ℕ → ℕ → Type 0
IsUsing items frees count =
    (frees_before (latest_first items) ≡ take count frees) × (count ≤ length frees)

-- they free by no first ones of them
abbrev pub IsUsingOthers : List Item → List ℕ → Type 0
IsUsingOthers items frees =
    (left : List ℕ) → frees_before (latest_first items) ++ left ≡ frees → ⊥

-- so many of the frees are used by these items, of which the last written one has this freed
pub record HasUsed (done : List Item) (frees : List ℕ) (count freed : ℕ) (after_lost : Bool) :
    Type 0 where
  pub using : frees_before (latest_first done) ≡ take count frees
  pub most : count ≤ length frees
  pub freed_is : freed ≡ written_freed (latest_first done)
  pub after_lost_is : after_lost ≡ is_after_refused_overflow (latest_first done)
