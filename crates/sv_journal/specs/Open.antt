-- A journal in the middle of a section: what it still owes.
use Rattle.std.specs.Prelude.{◌≡◌, ◌≤◌, false, List, [], ◌∷◌, ◌++◌, ◌⊎◌, true, length, filter}
use Rattle.std.specs.Prelude.{flat_map, count_by}
use Rattle.sv_load.specs.Load.{Load}
use Rattle.sv_journal.specs.declared.journal.Origin.{Origin}
use Rattle.sv_journal.specs.declared.journal.Item.{Item}
use Rattle.sv_journal.specs.Items.{latest_first, is_command, is_after_overflow}
use Rattle.sv_journal.specs.Legal.{EachItem, IsNextItem, group_of, answers_of, is_head, origins_of}

-- the origins and the answers that are owed are the heads' groups
abbrev pub AreGroupsWith : Load → List Origin → List Origin → Type 0
AreGroupsWith load os owed = os ++ owed ≡ flat_map (group_of load) (filter is_head os)

-- a journal that is legal once these answers follow
pub record IsOpen (load : Load) (items : List Item) (owed : List Origin) : Type 0 where
  pub groups : AreGroupsWith load (origins_of items) owed
  pub commands : count_by (λ i. is_command i.origin) items ≤ length load.commands
  pub ends : is_after_overflow (latest_first items) ≡ false
  pub each : EachItem (IsNextItem load) (latest_first items)

-- an origin that may come next: an answer that is owed, or a head where nothing is owed; and what
-- is owed after it
abbrev pub IsDue : Load → List Origin → Origin → List Origin → Type 0
IsDue load owed next rest =
    ((is_head next ≡ false) × (owed ≡ next ∷ rest))
    ⊎ ((is_head next ≡ true) × (owed ≡ []) × (rest ≡ answers_of load next))
