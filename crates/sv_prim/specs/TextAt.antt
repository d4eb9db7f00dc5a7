-- Texts in a slice: where a text's own bytes stand in its spelling.
use Rattle.std.specs.Prelude.{◌≡◌, ℕ, ◌+◌, ◌*◌, ◌<◌, ◌≤◌, ◌⊎◌, List, [], ◌∷◌, length, drop}
use Rattle.sv_prim.specs.declared.got.Reason.{Reason}
use Rattle.sv_prim.specs.declared.got.Reason.TheVariants.{BadText}
use Rattle.sv_prim.specs.declared.text.TextAt.{TextAt}
use Rattle.sv_prim.specs.Code.{Always}
use Rattle.sv_prim.specs.Text.{IsText}

-- the bytes spell a text, whose own bytes are the last of them, from the start on
pub record IsTextAt (at : TextAt) (bytes : List ℕ) : Type 0 where
  pub spelled : IsText (drop at.start bytes) bytes
  pub whole : at.start + at.len ≡ length bytes

-- a text is refused for one reason
abbrev pub text_reason : List ℕ → Reason → Type 0
text_reason = Always BadText

-- the bytes are the length of a text: one byte, or from 255 on 255 and two bytes with the low one
-- first
abbrev pub IsTextLength : ℕ → List ℕ → Type 0
IsTextLength size bytes =
    ((size ≤ 254) × (bytes ≡ size ∷ []))
    ⊎ ((255 ≤ size) × (low : ℕ) × (high : ℕ) × (low < 256) × (high < 256) ×
    (size ≡ low + 256 * high) × (bytes ≡ 255 ∷ low ∷ high ∷ []))
