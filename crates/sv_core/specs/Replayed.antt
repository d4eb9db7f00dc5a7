-- A journal with the freed that a replay gives it.
use Rattle.std.specs.Prelude.{List, [], ◌∷◌, reverse, if◌then◌else◌}
use Rattle.sv_journal.specs.declared.journal.Item.{Item}
use Rattle.sv_journal.specs.Items.{latest_first, is_written}
use Rattle.sv_journal.specs.Frees.{written_freed}

-- the items, the latest first; one that is not written gets the freed of the latest written item
abbrev pub replay_before : List Item → List Item
replay_before [] = []
replay_before (i ∷ earlier) =
    record i { freed = if is_written earlier i then i.freed else written_freed earlier } ∷
    replay_before earlier

-- the journal, the first item first
abbrev pub replay_of : List Item → List Item
replay_of items = reverse (replay_before (latest_first items))
