-- Words on lists in the order in which things came.
use Rattle.std.specs.Prelude.{Bool, List, [], ◌∷◌, map, filter, zip, drop, Option, None, not, fold}
use Rattle.std.specs.Prelude.{if◌then◌else◌}
use Rattle.std.specs.List.{last_or, list_any}
use Rattle.sv_packet.specs.Time.{with_before}

-- the fronts of a list, from the empty one to the whole
abbrev pub fronts : {A : Type 0} → List A → List (List A)
fronts [] = [] ∷ []
fronts (x ∷ xs) = [] ∷ map (λ front. x ∷ front) (fronts xs)

-- each element but the last, with the next
abbrev pub neighbours : {A : Type 0} → List A → List (A × A)
neighbours xs = zip xs (drop 1 xs)

-- the last element, if there is one
abbrev pub last_of : {A : Type 0} → List A → Option A
last_of xs = last_or None xs

-- the elements that none before them is the same as
abbrev pub first_seen : {A : Type 0} → (A → A → Bool) → List A → List A
first_seen same xs = map (λ at. at.1) (filter (λ at. not (list_any (same at.1) at.0)) (with_before
    xs))

-- an element put into a list in order, unless it stands there
abbrev pub insert_once : {A : Type 0} → (A → A → Bool) → A → List A → List A
insert_once before x [] = x ∷ []
insert_once before x (y ∷ ys) = if before x y then x ∷ y ∷ ys else if before y x then y ∷
    insert_once before x ys else y ∷ ys

-- the different elements of a list, in order
abbrev pub in_order : {A : Type 0} → (A → A → Bool) → List A → List A
in_order before xs = fold (λ found x. insert_once before x found) [] xs
