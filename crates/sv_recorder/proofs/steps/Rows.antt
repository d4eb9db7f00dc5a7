-- Elements by their places.
use Rattle.std.proofs.Common.{◌≡◌, ℕ, zero, suc, ◌<◌, ◌≤◌, List, [], ◌∷◌, length, sym, ap, ◌∙◌}
use Rattle.std.proofs.Common.{subst, arith}
use Rattle.std.specs.Prelude.{All, slice_get, slice_index_or, Some, unwrap_or}
use Rattle.sv_desc.specs.Modules.{ModuleRow}

pub got : {X : Type 0} (xs : List X) (place : ℕ) (d : X) → place < length xs
    → slice_get xs place ≡ Some (slice_index_or xs place d)
got [] place d within = absurd (omega (arith, within))
got (x ∷ xs) zero d within = cc
got (x ∷ xs) (suc place) d within = got xs place d (omega (arith, within))

-- the text of a module that is there is short
pub module_short : (rows : List ModuleRow) (k : ℕ) (row : ModuleRow) → k < length rows
    → All (λ r. length r.name ≤ 128) rows → slice_get rows k ≡ Some row → length row.name ≤ 128
module_short rows k row within short is =
    let same : slice_index_or rows k row ≡ row =
    ap (λ o. unwrap_or o row) (sym (got rows k row within) ∙ is) in
    subst (λ (r : ModuleRow). length r.name ≤ 128) same (short k row within)
