-- The first file of a name, found by its place.
use Rattle.std.proofs.Common.{◌≡◌, ℕ, ◌+◌, Bool, List, [], ◌∷◌, length, Option, Some, None, true}
use Rattle.std.proofs.Common.{false, refl, ap, ◌∙◌, sym, arith}
use Rattle.std.specs.Prelude.{map, position, nat_lt, slice_get, String, string_bytes, cond, not}
use Rattle.std.specs.List.{position_or_len}
use Rattle.std.specs.Option.{option_map}
use Rattle.std.specs.Global.{Global, Vec}
use Rattle.std.proofs.lemmas.List.{length-map}
use Rattle.std.proofs.lemmas.Option.{slice_get-get_or, slice_get_past}
use Rattle.std.proofs.lemmas.Bool.Decides.{nat_tests}
use Rattle.std.proofs.lemmas.List.Folds.{find_at}
use Rattle.sv_base.specs.Memory.{File, files_of, bytes_at, bytes_of, first_place, is_named}

position_or_len-map : {X Y : Type 0} (v : X → Y) (q : Y → Bool) (xs : List X)
    → position_or_len q (map v xs) ≡ position_or_len (λ x. q (v x)) xs
position_or_len-map v q [] = refl
position_or_len-map v q (x ∷ xs) =
    ap (λ (n : ℕ). cond (not (q (v x))) (1 + n) 0) (position_or_len-map v q xs)

position-map : {X Y : Type 0} (v : X → Y) (q : Y → Bool) (xs : List X)
    → position q (map v xs) ≡ position (λ x. q (v x)) xs
position-map v q xs = rw (position_or_len-map v q xs, length-map xs v) refl

-- the bytes at a place, if it is one of the list's
abbrev bytes_if : List File → Option ℕ → Option (List ℕ)
bytes_if files place = option_map (λ k. bytes_at files (Some k)) place

bytes_if-within : (files : List File) (place : ℕ) (b : Bool) → nat_lt place (length files) ≡ b
    → bytes_if files (cond b (Some place) None) ≡ option_map (λ file. file.1)
    (slice_get files place)
bytes_if-within files place true e =
    rw (slice_get-get_or files place ([], []) (grind (arith, nat_tests))) refl
bytes_if-within files place false e =
    rw (slice_get_past files place (grind (arith, nat_tests))) refl

bytes_if-first : (files : List (String Global × Vec ℕ)) (name : List ℕ)
    → bytes_if (files_of files) (first_place files name) ≡ bytes_of (files_of files) name
bytes_if-first files name =
    ap (bytes_if (files_of files))
    (sym (position-map (λ (file : String Global × Vec ℕ). (string_bytes file.0, file.1.items))
    (is_named name) files))
    ∙ bytes_if-within (files_of files) (position_or_len (is_named name) (files_of files)) _ refl
    ∙ ap (λ (found : Option File). option_map (λ file. file.1) found)
    (sym (find_at (is_named name) (files_of files)))

-- the bytes at the first place are those of the first file
pub bytes_of_found : (files : List (String Global × Vec ℕ)) (name : List ℕ) (place : ℕ)
    → first_place files name ≡ Some place
    → bytes_of (files_of files) name ≡ Some (bytes_at (files_of files) (Some place))
bytes_of_found files name place e =
    sym (bytes_if-first files name) ∙ ap (bytes_if (files_of files)) e

-- with no place there is no file
pub bytes_of_missing : (files : List (String Global × Vec ℕ)) (name : List ℕ)
    → first_place files name ≡ None → bytes_of (files_of files) name ≡ None
bytes_of_missing files name e = sym (bytes_if-first files name) ∙ ap (bytes_if (files_of files)) e
