-- Journals that start their recorder.
use Rattle.std.specs.Prelude.{Bool, List}
use Rattle.std.specs.List.{list_any}
use Rattle.sv_load.specs.Load.{Load}
use Rattle.sv_journal.specs.declared.journal.Item.{Item}
use Rattle.sv_journal.specs.Items.{is_start}

-- some item is a start
abbrev pub has_start : Load → List Item → Bool
has_start load items = list_any (λ i. is_start load i.origin) items
