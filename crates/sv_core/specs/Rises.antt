-- How far the freed of a journal rises.
use Rattle.std.specs.Prelude.{ℕ, ◌-◌, ◌≤◌, List, IsTrue}
use Rattle.sv_journal.specs.declared.journal.Item.{Item}
use Rattle.sv_journal.specs.Items.{is_written}
use Rattle.sv_journal.specs.Frees.{written_freed}

-- from one written item to the next freed does not fall, and rises by at most so much
pub record IsRise (most : ℕ) (earlier : List Item) (item : Item) : Type 0 where
  pub rises : IsTrue (is_written earlier item) → written_freed earlier ≤ item.freed
  pub bounded : IsTrue (is_written earlier item) → item.freed - written_freed earlier ≤ most
