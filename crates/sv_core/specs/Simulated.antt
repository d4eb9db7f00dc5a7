-- The journal of a simulation.
use Rattle.std.specs.Prelude.{◌≡◌, ℕ, ◌+◌, ◌-◌, min, Bool, List, [], ◌∷◌, ◌++◌, reverse, count_by}
use Rattle.std.specs.Prelude.{nat_lt, if◌then◌else◌}
use Rattle.sv_load.specs.Load.{Load}
use Rattle.sv_journal.specs.declared.journal.Origin.{Origin}
use Rattle.sv_journal.specs.declared.journal.Origin.TheVariants.{Overflow}
use Rattle.sv_journal.specs.declared.journal.Item.{Item}
use Rattle.sv_journal.specs.Items.{latest_first, is_call, is_command, before_overflow}
use Rattle.sv_journal.specs.Items.{stored_before}
use Rattle.sv_journal.specs.Frees.{overflow_freed}
use Rattle.sv_journal.specs.Legal.{IsLegal, IsWhole, EachItem}
use Rattle.sv_core.specs.Turns.{StepTurn, step_turns}
use Rattle.sv_core.specs.Order.{Turn, Takes_step, Reads, Reads_all, Sends, is_step, is_send}
use Rattle.sv_core.specs.Order.{order_of}

-- of a list with the latest first, what came before the one with this number that passes, counted
-- from 0
abbrev pub before_number : {X : Type 0} → (X → Bool) → ℕ → List X → List X
before_number test number [] = []
before_number test number (x ∷ earlier) =
    if nat_lt number (count_by test (x ∷ earlier)) then before_number test number earlier else x ∷
    earlier

-- the items before a call's section; an overflow directly before the call is part of its section
abbrev pub before_section : List Item → ℕ → List Item
before_section items number =
    before_overflow (before_number (λ i. is_call i.origin) number (latest_first items))

-- the turns before a step, the latest first
abbrev pub before_step : List Turn → ℕ → List Turn
before_step turns number = before_number is_step number (reverse turns)

-- the bytes that a journal's first sections stored
abbrev pub stored_by : Load → List Item → ℕ → ℕ
stored_by load items sections = stored_before load (before_section items sections)

-- the bytes that the host took in these turns, the latest first
abbrev pub taken_in : Load → List Item → List Turn → ℕ
taken_in load items [] = 0
taken_in load items (Reads most ∷ earlier) =
    min (taken_in load items earlier + most) (stored_by load items (count_by is_step earlier))
taken_in load items (Reads_all ∷ earlier) = stored_by load items (count_by is_step earlier)
taken_in load items (Takes_step writer ∷ earlier) = taken_in load items earlier
taken_in load items (Sends ∷ earlier) = taken_in load items earlier

-- the calls' turns in the order's turns: a section has a command exactly where more were sent
-- before its step than stand before it
abbrev pub ordered_turns : Load → List Item → List Turn → List StepTurn
ordered_turns load items [] = []
ordered_turns load items (Takes_step writer ∷ earlier) =
    ordered_turns load items earlier
    ++ record {
      writer = writer;
      command = nat_lt (count_by (λ i. is_command i.origin)
          (before_section items (count_by is_step earlier))) (count_by is_send earlier);
    } ∷ []
ordered_turns load items (Reads most ∷ earlier) = ordered_turns load items earlier
ordered_turns load items (Reads_all ∷ earlier) = ordered_turns load items earlier
ordered_turns load items (Sends ∷ earlier) = ordered_turns load items earlier

-- the freed of an item is what was taken before its section's step; an overflow's is told by the
-- item after it
abbrev pub IsTaken : Load → List Turn → List Item → List Item → Item → Origin → Type 0
IsTaken load turns items earlier item (Overflow count) = Unit {0}
IsTaken load turns items earlier item other =
    item.freed ≡ taken_in load items
    (before_step turns (count_by (λ i. is_call i.origin) (item ∷ earlier) - 1))

pub record IsTakenItem (load : Load) (turns : List Turn) (items earlier : List Item) (item : Item) :
    Type 0 where
  pub taken : IsTaken load turns items earlier item item.origin
  pub overflow_freed : overflow_freed earlier item.freed ≡ item.freed

-- the sections are those of the turns' steps, with the commands sent and the bytes taken before
-- each
pub record IsInOrder (load : Load) (turns : List Turn) (items : List Item) : Type 0 where
  pub steps : step_turns items ≡ ordered_turns load items (reverse turns)
  pub freed : EachItem (IsTakenItem load turns items) (latest_first items)

-- the journal of a run in the order of a simulation
pub record IsSimulated (load : Load) (items : List Item) : Type 0 where
  pub legal : IsLegal load items
  pub whole : IsWhole load items
  pub ordered : IsInOrder load (order_of load) items
