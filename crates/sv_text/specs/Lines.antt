-- Lines: a text is cut at its line feeds.
use Rattle.std.specs.Prelude.{◌≡◌, ℕ, ◌<◌, ◌==◌, Bool, true, false, List, [], ◌∷◌, ◌++◌, length}
use Rattle.std.specs.Prelude.{flat_map}
use Rattle.std.specs.List.{slice_split, list_any}

-- after a last line feed stands no further line
abbrev pub without_empty_end : List (List ℕ) → List (List ℕ)
without_empty_end [] = []
without_empty_end ([] ∷ []) = []
without_empty_end ((b ∷ bytes) ∷ []) = (b ∷ bytes) ∷ []
without_empty_end (line ∷ next ∷ lines) = line ∷ without_empty_end (next ∷ lines)

-- the lines of a text: each ends at a line feed, and the last one there or at the end
abbrev pub lines_of : List ℕ → List (List ℕ)
lines_of text = without_empty_end (slice_split (λ b. b == 10) text)

-- no line feed stands in the line
abbrev pub IsOneLine : List ℕ → Type 0
IsOneLine line = list_any (λ b. b == 10) line ≡ false

-- these lines as a text: a line feed ends each
abbrev pub text_from : List (List ℕ) → List ℕ
text_from lines = flat_map (λ line. line ++ 10 ∷ []) lines

-- a line that is for the reader alone: it is empty, or begins with `;`
abbrev pub is_remark : List ℕ → Bool
is_remark [] = true
is_remark (b ∷ bytes) = b == 59

-- the first line of a text, and what stands after it
pub record IsFirstLine (text line rest : List ℕ) : Type 0 where
  pub lines : lines_of text ≡ line ∷ lines_of rest
  pub left : length rest < length text
