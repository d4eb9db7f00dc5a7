-- What one more line at the end adds to what lines say.
use Rattle.std.proofs.Common.{◌≡◌, ℕ, ◌+◌, ◌<◌, Bool, true, false, cond, ◌||◌, List, [], ◌∷◌, ◌++◌}
use Rattle.std.proofs.Common.{length, map, drop, Option, Some, None, refl, sym, ap, ◌∙◌, nat_lt}
use Rattle.std.proofs.Common.{arith, rules}
use Rattle.std.specs.Prelude.{filter, filter_map, find, count_by, option_map}
use Rattle.std.specs.List.{slice_split, onto_first}
use Rattle.std.specs.Option.{option_or}
use Rattle.std.proofs.lemmas.List.{length-append, map-append, append-nil}
use Rattle.std.proofs.lemmas.List.Elements.{filter-append, filter_map-append}
use Rattle.std.proofs.lemmas.List.Folds.{find-append}
use Rattle.std.proofs.lemmas.List.Sums.{length-filter}
use Rattle.std.proofs.lemmas.List.Splits.{length-slice_split}
use Rattle.sv_load.specs.declared.load.Step.{Step}
use Rattle.sv_workload.specs.declared.keyword.SetupWord.{SetupWord}
use Rattle.sv_workload.specs.declared.keyword.SetupWord.TheVariants as setup
use Rattle.sv_workload.specs.declared.keyword.Keyword.{Keyword}
use Rattle.sv_workload.specs.declared.keyword.Keyword.TheVariants as keyword
use Rattle.sv_workload.specs.Line.{Line}
use Rattle.sv_load.specs.Scripts.{onto_last}
use Rattle.sv_workload.specs.Meaning.{says, those, count, is_there, number, told, task_in, tasks_in}

module _ {X : Type 0} (p : X → Bool) where
  pub counted_more : (xs : List X) (y : X) → count_by p (xs ++ y ∷ []) ≡ count_by p xs + count_by p
      (y ∷ [])
  counted_more xs y =
      sym (length-filter p (xs ++ y ∷ [])) ∙ ap length (filter-append p xs (y ∷ [])) ∙ length-append
      (filter p xs) (filter p (y ∷ []))
      ∙ omega (arith, length-filter p xs, length-filter p (y ∷ []))

-- the setting that a line tells where none before it does
pub told_more : (word : SetupWord) (lines : List Line) (line : Line)
    → told word (lines ++ line ∷ []) ≡ option_or (told word lines) (told word (line ∷ []))
told_more word lines line =
    ap (option_map (λ (l : Line). number l 0))
    (find-append (says (keyword.Setup word)) lines (line ∷ []))
    ∙ mapped (λ (l : Line). number l 0) (find (says (keyword.Setup word)) lines)
    (find (says (keyword.Setup word)) (line ∷ []))
  where
    mapped : (f : Line → ℕ) (a b : Option Line) → option_map f (option_or a b) ≡ option_or
        (option_map f a) (option_map f b)
    mapped f None b = refl
    mapped f (Some x) b = refl

-- what each line of one keyword gives
pub those_more : {X : Type 0} (f : Line → X) (k : Keyword) (lines : List Line) (line : Line)
    → map f (those k (lines ++ line ∷ [])) ≡ map f (those k lines) ++ map f (those k (line ∷ []))
those_more f k lines line =
    ap (map f) (filter-append (says k) lines (line ∷ []))
    ∙ map-append f (those k lines) (those k (line ∷ []))

pub tasks_more : (lines : List Line) (line : Line)
    → tasks_in (lines ++ line ∷ []) ≡ tasks_in lines ++ tasks_in (line ∷ [])
tasks_more lines line = those_more task_in (keyword.Setup setup.Task) lines line

-- what no line says yet is there once a line says it
pub there_more : (k : Keyword) (lines : List Line) (line : Line)
    → is_there k (lines ++ line ∷ []) ≡ (is_there k lines || says k line)
there_more k lines line =
    ap (nat_lt 0) (counted_more (says k) lines line) ∙ by (says k line) refl (count k lines)
  where
    by : (b : Bool) → says k line ≡ b → (n : ℕ) → nat_lt 0 (n + count_by (says k) (line ∷ [])) ≡
        (nat_lt 0 n || b)
    by true e n = rw e (some n)
      where
        some : (m : ℕ) → nat_lt 0 (m + 1) ≡ (nat_lt 0 m || true)
        some m = search rules
    by false e n = rw e (same n)
      where
        same : (m : ℕ) → nat_lt 0 (m + 0) ≡ (nat_lt 0 m || false)
        same m = search rules

-- one more element for the last of these lists
abbrev pub last_on : {X : Type 0} → X → List (List X) → List (List X)
last_on x [] = []
last_on x (part ∷ []) = (part ++ x ∷ []) ∷ []
last_on x (part ∷ next ∷ parts) = part ∷ last_on x (next ∷ parts)

module _ {X : Type 0} (p : X → Bool) (x : X) where
  some_part : (xs : List X) → 0 < length (slice_split p xs)
  some_part xs = omega (arith, length-slice_split p xs)

  -- an element that passes begins a part
  pub split_begins : p x ≡ true → (xs : List X) → slice_split p (xs ++ x ∷ []) ≡ slice_split p xs ++
      [] ∷ []
  split_begins e [] = rw e refl
  split_begins e (y ∷ ys) =
      ap (λ (parts : List (List X)). cond (p y) ([] ∷ parts) (onto_first y parts))
      (split_begins e ys) ∙ by (p y) (slice_split p ys) (some_part ys)
    where
      by : (b : Bool) (parts : List (List X)) → 0 < length parts → cond b ([] ∷ (parts ++ [] ∷ []))
          (onto_first y (parts ++ [] ∷ [])) ≡ cond b ([] ∷ parts) (onto_first y parts) ++ [] ∷ []
      by b [] some = absurd (omega (arith, some))
      by true (part ∷ parts) some = refl
      by false (part ∷ parts) some = refl

  -- any other goes on with the last part
  pub split_goes_on : p x ≡ false → (xs : List X) → slice_split p (xs ++ x ∷ []) ≡ last_on x
      (slice_split p xs)
  split_goes_on e [] = rw e refl
  split_goes_on e (y ∷ ys) =
      ap (λ (parts : List (List X)). cond (p y) ([] ∷ parts) (onto_first y parts))
      (split_goes_on e ys) ∙ by (p y) (slice_split p ys) (some_part ys)
    where
      by : (b : Bool) (parts : List (List X)) → 0 < length parts → cond b ([] ∷ last_on x parts)
          (onto_first y (last_on x parts)) ≡ last_on x (cond b ([] ∷ parts) (onto_first y parts))
      by b [] some = absurd (omega (arith, some))
      by true (part ∷ []) some = refl
      by true (part ∷ next ∷ parts) some = refl
      by false (part ∷ []) some = refl
      by false (part ∷ next ∷ parts) some = refl

dropped_last : {X : Type 0} (x : X) (parts : List (List X))
    → drop 1 (last_on x parts) ≡ last_on x (drop 1 parts)
dropped_last x [] = refl
dropped_last x (part ∷ []) = refl
dropped_last x (part ∷ next ∷ parts) = refl

-- the parts after the first, each with what h gives of it
abbrev pub parts_by : {X : Type 0} → (X → Bool) → (X → Option Step) → List X → List (List Step)
parts_by p h xs = map (filter_map h) (drop 1 (slice_split p xs))

module _ {X : Type 0} (p : X → Bool) (h : X → Option Step) (x : X) where
  pub parts_begin : p x ≡ true → (xs : List X) → parts_by p h (xs ++ x ∷ []) ≡ parts_by p h xs ++ []
      ∷ []
  parts_begin e xs =
      ap (λ (parts : List (List X)). map (filter_map h) (drop 1 parts)) (split_begins p x e xs) ∙ by
      (slice_split p xs) (some_part p x xs)
    where
      by : (parts : List (List X)) → 0 < length parts → map (filter_map h)
          (drop 1 (parts ++ [] ∷ [])) ≡ map (filter_map h) (drop 1 parts) ++ [] ∷ []
      by [] some = absurd (omega (arith, some))
      by (part ∷ parts) some = map-append (filter_map h) parts ([] ∷ [])

  mapped_none : h x ≡ None → (parts : List (List X)) → map (filter_map h) (last_on x parts) ≡ map
      (filter_map h) parts
  mapped_none e [] = refl
  mapped_none e (part ∷ []) =
      let last : filter_map h (part ++ x ∷ []) ≡ filter_map h part = filter_map-append h part
      (x ∷ []) ∙ (rw e (append-nil (filter_map h part))) in
      ap (λ (l : List Step). l ∷ []) last
  mapped_none e (part ∷ next ∷ parts) = ap (λ (l : List (List Step)). filter_map h part ∷ l)
      (mapped_none e (next ∷ parts))

  mapped_some : (s : Step) → h x ≡ Some s → (parts : List (List X)) → map (filter_map h)
      (last_on x parts) ≡ onto_last s (map (filter_map h) parts)
  mapped_some s e [] = refl
  mapped_some s e (part ∷ []) =
      let last : filter_map h (part ++ x ∷ []) ≡ filter_map h part ++ s ∷ [] = filter_map-append h
      part (x ∷ []) ∙ (rw e refl) in
      ap (λ (l : List Step). l ∷ []) last
  mapped_some s e (part ∷ next ∷ parts) = ap (λ (l : List (List Step)). filter_map h part ∷ l)
      (mapped_some s e (next ∷ parts))

  pub parts_same : p x ≡ false → h x ≡ None → (xs : List X) → parts_by p h (xs ++ x ∷ []) ≡ parts_by
      p h xs
  parts_same e none xs =
      ap (λ (parts : List (List X)). map (filter_map h) (drop 1 parts)) (split_goes_on p x e xs) ∙
      ap (map (filter_map h)) (dropped_last x (slice_split p xs)) ∙ mapped_none none
      (drop 1 (slice_split p xs))

  pub parts_go_on : (s : Step) → p x ≡ false → h x ≡ Some s → (xs : List X) → parts_by p h
      (xs ++ x ∷ []) ≡ onto_last s (parts_by p h xs)
  parts_go_on s e some xs =
      ap (λ (parts : List (List X)). map (filter_map h) (drop 1 parts)) (split_goes_on p x e xs) ∙
      ap (map (filter_map h)) (dropped_last x (slice_split p xs)) ∙ mapped_some s some
      (drop 1 (slice_split p xs))
