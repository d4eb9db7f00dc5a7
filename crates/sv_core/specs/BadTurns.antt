-- Turns that no journal has, by the place where they fail.
use Rattle.std.specs.Prelude.{◌≡◌, ℕ, suc, ◌-◌, ◌<◌, ◌≤◌, List, [], ◌∷◌, ◌++◌, length, take}
use Rattle.std.specs.Prelude.{slice_get, count_by, IsTrue, Some, All}
use Rattle.sv_load.specs.Load.{Load, script_of}
use Rattle.sv_journal.specs.declared.journal.Item.{Item}
use Rattle.sv_journal.specs.Items.{latest_first, is_call_of, is_command, is_written, stored_before}
use Rattle.sv_journal.specs.Frees.{written_freed, frees_before}
use Rattle.sv_core.specs.Turns.{StepTurn, Turns, IsReplayed}

-- a journal that these step turns give, whatever is freed
abbrev pub IsReplayedBy : Load → List StepTurn → List Item → Type 0
IsReplayedBy load steps items =
    IsReplayed load (record { steps = steps; frees = frees_before (latest_first items) }) items

-- the first step turns, so many, give this journal by the first of the frees, and these are left
pub record IsReplayedTo (load : Load) (turns : Turns) (number : ℕ) (items : List Item)
    (left : List ℕ) : Type 0 where
  pub run : IsReplayedBy load (take number turns.steps) items
  pub frees : frees_before (latest_first items) ++ left ≡ turns.frees

-- there is no number, or it is more than this
abbrev pub IsAmiss : ℕ → List ℕ → Type 0
IsAmiss most [] = Unit {0}
IsAmiss most (number ∷ numbers) = most < number

-- before a written item of these, the latest first, the frees run out, or free more than is stored
-- and not freed
pub record FallsShort (load : Load) (frees : List ℕ) (items : List Item) : Type 0 where
  pub later : List Item
  pub item : Item
  pub earlier : List Item
  pub left : List ℕ
  pub place : items ≡ later ++ item ∷ earlier
  pub written : IsTrue (is_written earlier item)
  pub used : frees_before earlier ++ left ≡ frees
  pub amiss : IsAmiss (stored_before load earlier - written_freed earlier) left

-- why the step turn at a place cannot be taken behind the journal of those before it
pub data IsFault (load : Load) (turns : Turns) (at : ℕ) (before : List Item) (turn : StepTurn) :
    Type 0 where
  -- its writer does not exist or is through
  No_step : length (script_of load turn.writer)
      ≤ count_by (λ i. is_call_of turn.writer i.origin) before → IsFault load turns at before turn
  -- its command does not exist
  No_command : IsTrue turn.command →
      length load.commands ≤ count_by (λ i. is_command i.origin) before →
      IsFault load turns at before turn
  -- the frees run out in it, or free more than is stored and not freed
  No_frees : (items : List Item) → IsReplayedBy load (take (suc at) turns.steps) items →
      FallsShort load turns.frees (latest_first items) → IsFault load turns at before turn

-- what is left to take at a place
pub data IsEnd (load : Load) (turns : Turns) (at : ℕ) (before : List Item) (left : List ℕ) :
    Type 0 where
  -- all step turns are taken, and numbers are left over
  Left_over : at ≡ length turns.steps → 0 < length left → IsEnd load turns at before left
  -- the next one cannot be taken
  Faulty : (turn : StepTurn) → slice_get turns.steps at ≡ Some turn →
      IsFault load turns at before turn → IsEnd load turns at before left

-- the step turns before this place are taken, and there the replay fails
pub record IsBadTurns (load : Load) (turns : Turns) (at : ℕ) : Type 0 where
  pub before : List Item
  pub left : List ℕ
  pub replayed : IsReplayedTo load turns at before left
  pub ends : IsEnd load turns at before left

-- a command below 128 has no parameter
abbrev pub AreAskable : Load → Type 0
AreAskable load = All (λ c. c.byte < 128 → c.param ≡ 0) load.commands
