-- What a line is once the checks of its own words are after it.
use Rattle.std.specs.Prelude.{◌≡◌, false, []}
use Rattle.sv_workload.specs.Line.{Line}
use Rattle.sv_workload.specs.Checks.{is_misshapen, has_bad_number, has_bad_text}

-- its words are as many as they should be, its numbers are in their ranges, and its text can be
-- kept. The lines before it don't matter
pub record FitsForm (line : Line) : Type 0 where
  pub shape : is_misshapen [] line ≡ false
  pub numbers : has_bad_number [] line ≡ false
  pub text : has_bad_text [] line ≡ false
