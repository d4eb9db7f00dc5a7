-- Texts (after the target's sources): a length, and so many bytes.
use Rattle.std.specs.Prelude.{◌≡◌, ℕ, ◌+◌, ◌*◌, ◌%◌, ◌/◌, ◌<◌, ◌≤◌, ◌⊎◌, List, ◌∷◌, length, nat_lt}
use Rattle.std.specs.Prelude.{if◌then◌else◌}
use Rattle.std.specs.List.{AllByRecursion}

-- each element is a byte
abbrev pub AreBytes : List ℕ → Type 0
AreBytes bytes = AllByRecursion (λ byte. byte < 256) bytes

-- at most 254 bytes behind their number
pub record IsShortText (text bytes : List ℕ) : Type 0 where
  pub most : length text ≤ 254
  pub whole : bytes ≡ length text ∷ text

-- 255 to 65535 bytes behind the byte 255 and their number in two bytes, the low one first
pub record IsLongText (text bytes : List ℕ) : Type 0 where
  pub low : ℕ
  pub high : ℕ
  pub low_byte : low < 256
  pub high_byte : high < 256
  pub number : length text ≡ low + 256 * high
  pub least : 255 ≤ length text
  pub whole : bytes ≡ 255 ∷ low ∷ high ∷ text

-- the bytes spell the text
abbrev pub IsText : List ℕ → List ℕ → Type 0
IsText text bytes = AreBytes text × (IsShortText text bytes ⊎ IsLongText text bytes)

-- the length in one byte, or from 255 on behind the byte 255 in two bytes with the low one first,
-- and the text
abbrev pub text_spelling : List ℕ → List ℕ
text_spelling text =
    if nat_lt (length text) 255
    then length text ∷ text
    else 255 ∷ (length text % 256) ∷ (length text / 256) ∷ text
