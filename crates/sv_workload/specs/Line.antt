-- One line, cut into its keyword and the words around it.
use Rattle.std.specs.Prelude.{ℕ, ◌+◌, List, [], ◌∷◌, length, take, drop, map, Option, Some, None}
use Rattle.std.specs.Prelude.{unwrap_or, slice_index, if◌then◌else◌}
use Rattle.std.specs.List.{join_with_byte}
use Rattle.std.specs.Char.{is_ascii_digit}
use Rattle.sv_workload.specs.declared.keyword.Keyword.{Keyword}
use Rattle.sv_workload.specs.declared.keyword.Keyword.TheVariants.{Unknown}
use Rattle.sv_workload.specs.Keywords.{step_keywords, other_keywords, keyword_among}
use Rattle.sv_workload.specs.Forms.{form_of}
use Rattle.sv_text.specs.Words.{words_of, number_of}

-- a line that is no remark
pub record Line : Type 0 where
  -- the word before the keyword of a step: the ticks that pass first
  pub advance : Option (List ℕ)
  pub keyword : Keyword
  -- what is after the keyword
  pub words : List (List ℕ)

-- the words of a line that begins with its keyword
abbrev pub other_line : List (List ℕ) → Line
other_line [] = record { advance = None; keyword = Unknown; words = [] }
other_line (word ∷ words) =
    record { advance = None; keyword = keyword_among other_keywords word; words = words }

-- the words of a line that begins with its ticks
abbrev pub step_line : List (List ℕ) → Line
step_line [] = record { advance = None; keyword = Unknown; words = [] }
step_line (advance ∷ []) = record { advance = Some advance; keyword = Unknown; words = [] }
step_line (advance ∷ word ∷ words) =
    record { advance = Some advance; keyword = keyword_among step_keywords word; words = words }

-- a digit in front makes it a step
abbrev pub line_from : List ℕ → Line
line_from bytes =
    if is_ascii_digit (slice_index bytes 0) then step_line (words_of bytes) else other_line
    (words_of bytes)

-- the numbers after the keyword, in order
abbrev pub numbers_of : Line → List ℕ
numbers_of line =
    let form = form_of line.keyword in map (λ word. unwrap_or (number_of word) 0)
    (take (length form.numbers + length form.more) line.words)

-- the text after the keyword and its numbers, with all its spaces
abbrev pub text_after : Line → List ℕ
text_after line = join_with_byte 32 (drop (length (form_of line.keyword).numbers) line.words)
