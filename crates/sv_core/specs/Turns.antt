-- The turns of a journal, and journals that have given turns.
use Rattle.std.specs.Prelude.{◌≡◌, ℕ, Bool, not, List, [], ◌∷◌, ◌++◌, take_while, IsTrue}
use Rattle.std.specs.Prelude.{if◌then◌else◌}
use Rattle.std.specs.List.{list_any}
use Rattle.sv_load.specs.Load.{Load}
use Rattle.sv_journal.specs.declared.journal.Origin.{Origin}
use Rattle.sv_journal.specs.declared.journal.Origin.TheVariants.{Call}
use Rattle.sv_journal.specs.declared.journal.Item.{Item}
use Rattle.sv_journal.specs.Items.{latest_first, is_call, is_command, is_written}
use Rattle.sv_journal.specs.Frees.{written_freed, frees_before}
use Rattle.sv_journal.specs.Legal.{IsLegal, EachItem, AreFirstCommands}
pub use Rattle.sv_core.specs.declared.turns.StepTurn.{StepTurn}

-- what a journal's run was: its steps, and the bytes that were freed before each write
pub record Turns : Type 0 where
  pub steps : List StepTurn
  pub frees : List ℕ

-- a command stands before the next call
abbrev pub has_command : List Item → Bool
has_command later =
    list_any (λ i. is_command i.origin) (take_while (λ i. not (is_call i.origin)) later)

-- the turn of a call; `later` is the items after it
abbrev pub turn_at : Origin → List Item → List StepTurn
turn_at (Call writer step) later = record { writer = writer; command = has_command later } ∷ []
turn_at other later = []

-- a turn for each call
abbrev pub step_turns : List Item → List StepTurn
step_turns [] = []
step_turns (i ∷ later) = turn_at i.origin later ++ step_turns later

-- the turns of a journal
abbrev pub turns_of : List Item → Turns
turns_of items = record { steps = step_turns items; frees = frees_before (latest_first items) }

-- an item that is not written has the freed of the latest written item
abbrev pub HasLatestFreed : List Item → Item → Type 0
HasLatestFreed earlier item = IsTrue (not (is_written earlier item))
    → item.freed ≡ written_freed earlier

-- a journal that these turns give
pub record IsReplayed (load : Load) (turns : Turns) (items : List Item) : Type 0 where
  pub legal : IsLegal load items
  pub turned : turns_of items ≡ turns
  pub commands : AreFirstCommands load items
  pub settled : EachItem HasLatestFreed (latest_first items)

-- the items, with no freed where nothing was written
abbrev pub without_idle : List Item → List Item
without_idle [] = []
without_idle (i ∷ earlier) =
    without_idle earlier ++ (if is_written earlier i then i else record i { freed = 0 }) ∷ []

-- two journals are the same, but for the freed of items that are not written
abbrev pub IsSameButIdle : List Item → List Item → Type 0
IsSameButIdle items others = without_idle (latest_first items) ≡ without_idle (latest_first others)
