-- What was known to be freed, from one written item of a journal to the next.
use Rattle.std.specs.Prelude.{ℕ, ◌-◌, List, [], ◌∷◌, ◌++◌, if◌then◌else◌}
use Rattle.sv_journal.specs.declared.journal.Item.{Item}
use Rattle.sv_journal.specs.Items.{is_overflow, is_written}

-- the freed of the latest written item
abbrev pub written_freed : List Item → ℕ
written_freed [] = 0
written_freed (i ∷ earlier) = if is_written earlier i then i.freed else written_freed earlier

-- for each written item, what was freed since the one before
abbrev pub frees_before : List Item → List ℕ
frees_before [] = []
frees_before (i ∷ earlier) =
    frees_before earlier ++ (if is_written earlier i then (i.freed - written_freed earlier) ∷ []
    else [])

-- the freed of the overflow directly before, if there is one, and else this one
abbrev pub overflow_freed : List Item → ℕ → ℕ
overflow_freed [] freed = freed
overflow_freed (i ∷ earlier) freed = if is_overflow i.origin then i.freed else freed
