-- What tests say together.
use Rattle.std.proofs.Common.{◌≡◌, Bool, true, false, ◌&&◌, ◌||◌, refl, sym, ◌∙◌}

pub clash : (t : Bool) → t ≡ true → t ≡ false → ⊥
clash t is none = let e : true ≡ false = sym is ∙ none in absurd cc

pub by_test : (t : Bool) → (t ≡ true → ⊥) → t ≡ false
by_test true wrong = absurd (wrong refl)
by_test false wrong = refl

pub and_no : (b : Bool) → (b && false) ≡ false
and_no true = refl
and_no false = refl

pub and_second : (a b : Bool) → (a && b) ≡ true → b ≡ true
and_second true b e = e
and_second false b e = absurd cc

pub or_last : (a : Bool) → (a || true) ≡ true
or_last true = refl
or_last false = refl
