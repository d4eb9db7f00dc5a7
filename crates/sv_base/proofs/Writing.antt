-- Written bytes that grow piece by piece.
use Rattle.std.proofs.Common.{◌≡◌, ℕ, ◌+◌, ◌-◌, List, ◌++◌, length, take, drop, Option, Some, None}
use Rattle.std.proofs.Common.{sym, ap, ◌∙◌, append_assoc, arith, subst}
use Rattle.std.proofs.lemmas.List.{drop-drop, take_all, length-drop}
use Rattle.std.proofs.Math.Seq.{take-add}
use Rattle.std.specs.Io.KnownBytes.{Appends}

pub Appends-then : (a b c : Option (List ℕ)) (x y : List ℕ) → Appends a b x → Appends b c y
    → Appends a c (x ++ y)
Appends-then None b c x y p q = tt
Appends-then (Some s) None c x y p q = absurd p
Appends-then (Some s) (Some t) None x y p q = absurd q
Appends-then (Some s) (Some t) (Some u) x y p q =
    q ∙ ap (λ (k : List ℕ). k ++ y) p ∙ append_assoc s x y

pub Appends-more : (a b c : Option (List ℕ)) (bytes : List ℕ) (m n : ℕ) → Appends a b (take m bytes)
    → Appends b c (take n (drop m bytes)) → Appends a c (take (m + n) bytes)
Appends-more a b c bytes m n p q =
    subst (Appends a c) (sym (take-add m n bytes))
    (Appends-then a b c (take m bytes) (take n (drop m bytes)) p q)

-- what `&rest[n..]` is, where rest is behind m bytes
pub rest_behind : (bytes rest : List ℕ) (m n : ℕ) → rest ≡ drop m bytes
    → take (length rest - n) (drop n rest) ≡ drop (m + n) bytes
rest_behind bytes rest m n e =
    take_all (length rest - n) (drop n rest) (omega (arith, length-drop n rest)) ∙ ap (drop n) e ∙
    drop-drop n m bytes
