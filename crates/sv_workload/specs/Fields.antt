-- What is read of a line besides its keyword.
use Rattle.std.specs.Prelude.{◌≡◌, ◌-◌, ◌^◌, min, not, [], map, option_and_then, unwrap_or}
use Rattle.sv_workload.specs.declared.fields.Fields.{Fields}
use Rattle.sv_workload.specs.Forms.{form_of}
use Rattle.sv_text.specs.Words.{number_of}
use Rattle.sv_workload.specs.Numbers.{capped}
use Rattle.sv_workload.specs.Line.{Line, numbers_of, text_after}
use Rattle.sv_workload.specs.Checks.{fits, has_bad_number}

-- these are the fields of the line. The lines before it don't matter
pub record AreFieldsOf (line : Line) (fields : Fields) : Type 0 where
  -- more than the greatest `u64` count as that many, and a line without a number for them has 0
  pub ticks : fields.ticks ≡ min (unwrap_or (option_and_then number_of line.advance) 0) (2 ^ 64 - 1)
  pub numbers : fields.numbers.items ≡ map capped (numbers_of line)
  pub text : fields.text.now ≡ text_after line
  pub shaped : fields.shaped ≡ fits (form_of line.keyword) line.words (text_after line)
  pub ranged : not fields.ranged ≡ has_bad_number [] line
