-- What a section asks of the host.
use Rattle.std.specs.Prelude.{◌≡◌, ℕ, ◌<◌, ◌≤◌, List, [], ◌++◌, Option, None, IfSome, length}
use Rattle.std.specs.Prelude.{count_by}
use Rattle.sv_prim.specs.Counts.{Rose}
use Rattle.sv_load.specs.declared.load.Command.{Command}
use Rattle.sv_journal.specs.Items.{is_command}
use Rattle.sv_recorder.specs.Commands.{found_bytes, HasParam}
use Rattle.sv_recorder.specs.Recording.{Recording}

-- nothing is taken from the host's ring, and no byte of it is looked for
pub record IsUnasked (old new : Recording) : Type 0 where
  pub answered : new.answered ≡ old.answered
  pub empties : new.empties ≡ old.empties
  pub kept : new.kept ≡ old.kept

-- the last call of the host's ring gave no byte, and all of them are taken where it tells which
-- were sent
pub record IsEmptied (old new : Recording) : Type 0 where
  pub empties : Rose old.empties new.empties
  pub all : IfSome new.asked (λ asked. new.answered ≡ asked)

-- what a section that found this command took: its bytes, after the one that waited, and no more;
-- where it found none, up to the one that waits now. It asks exactly while the journal has fewer
-- commands than the workload, and where it then finds none, there was none
pub record HasAsked (old new : Recording) (found : Option Command) : Type 0 where
  pub taken : List ℕ
  pub answered : new.answered ≡ old.answered ++ taken
  pub bytes : old.kept ++ taken ≡ found_bytes found ++ new.kept
  pub param : IfSome found HasParam
  pub alone : IfSome found (λ command. new.kept ≡ [])
  pub through : length old.load.commands ≤ count_by (λ i. is_command i.origin) old.items →
      (found ≡ None) × IsUnasked old new
  pub none : count_by (λ i. is_command i.origin) old.items < length old.load.commands →
      found ≡ None → IsEmptied old new
