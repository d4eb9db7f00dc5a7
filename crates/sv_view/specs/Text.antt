-- What a command writes of a recording.
use Rattle.std.specs.Prelude.{ℕ, List, [], ◌∷◌, ◌++◌}
use Rattle.sv_stream.specs.declared.end.End.{End}
use Rattle.sv_stream.specs.declared.seen.Seen.{Seen}

-- what is written of an event or a mark that follows the earlier ones, and what after all of them,
-- by how the recording ends
pub record Text : Type 0 where
  pub line : List Seen → Seen → List ℕ
  pub last : List Seen → End → List ℕ

-- what is written of entries that follow the earlier ones
abbrev pub lines_after : Text → List Seen → List Seen → List ℕ
lines_after text earlier [] = []
lines_after text earlier (one ∷ later) =
    text.line earlier one ++ lines_after text (earlier ++ one ∷ []) later

-- what is written of a recording's entries
abbrev pub lines_of : Text → List Seen → List ℕ
lines_of text seen = lines_after text [] seen

-- all that is written of a recording with these entries and this end
abbrev pub whole_text : Text → List Seen → End → List ℕ
whole_text text seen end = lines_of text seen ++ text.last seen end
