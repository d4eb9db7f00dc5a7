-- What was popped from a queue, and what is left in it.
use Rattle.std.proofs.Common.{◌≡◌, ℕ, List, ◌++◌, length, take, sym, ap, ◌∙◌, append-nil}
use Rattle.std.proofs.lemmas.List.{nil_from_length}
use Rattle.std.proofs.Math.Seq.{take-append_seam}

-- what stands before what is left is the front of the whole
pub front_of : (xs ys zs : List ℕ) → xs ++ ys ≡ zs → xs ≡ take (length xs) zs
front_of xs ys zs e = sym (take-append_seam xs ys) ∙ ap (λ (l : List ℕ). take (length xs) l) e

-- where nothing is left, all is popped
pub all_of : (xs left zs : List ℕ) → length left ≡ 0 → xs ++ left ≡ zs → xs ≡ zs
all_of xs left zs none e =
    sym (append-nil xs)
    ∙ (ap (λ (l : List ℕ). xs ++ l) (sym (nil_from_length left none)) ∙ e)
