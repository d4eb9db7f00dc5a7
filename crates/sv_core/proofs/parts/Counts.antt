-- How many of a list pass a test, and what stands before a number.
use Rattle.std.proofs.Common.{◌≡◌, ℕ, ◌+◌, ◌<◌, ◌≤◌, Bool, true, false, cond, List, [], ◌∷◌, refl}
use Rattle.std.proofs.Common.{ap, ◌∙◌, arith, rules, zero-add}
use Rattle.std.specs.Prelude.{count_by, nat_lt}
use Rattle.std.proofs.lemmas.List.Sums.{sum_by-cons}
use Rattle.sv_journal.specs.declared.journal.Item.{Item}
use Rattle.sv_journal.specs.Items.{is_call}
use Rattle.sv_core.specs.Simulated.{before_number}

pub lt_true : (m n : ℕ) → m < n → nat_lt m n ≡ true
lt_true m n h = search (rules, h)

pub lt_false : (m n : ℕ) → n ≤ m → nat_lt m n ≡ false
lt_false m n h = search (rules, h)

-- how many pass, with one element more
pub count-cons : {X : Type 0} (p : X → Bool) (x : X) (xs : List X)
    → count_by p (x ∷ xs) ≡ cond (p x) 1 0 + count_by p xs
count-cons p x xs = sum_by-cons (λ y. cond (p y) 1 0) x xs

-- what does not pass is not counted
pub count-not : {X : Type 0} (p : X → Bool) (x : X) (xs : List X) → p x ≡ false
    → count_by p (x ∷ xs) ≡ count_by p xs
count-not p x xs h =
    count-cons p x xs ∙ (ap (λ b. cond b 1 0 + count_by p xs) h ∙ zero-add (count_by p xs))

-- WHAT STANDS BEFORE A NUMBER

-- all that stands, where it has no more than the number
pub before_number-all : {X : Type 0} (p : X → Bool) (number : ℕ) (xs : List X)
    → count_by p xs ≤ number → before_number p number xs ≡ xs
before_number-all p number [] h = refl
before_number-all p number (x ∷ xs) h =
    ap (λ b. cond b (before_number p number xs) (x ∷ xs)) (lt_false number (count_by p (x ∷ xs)) h)

-- the first element goes, where more than the number pass
pub before_number-more : {X : Type 0} (p : X → Bool) (number : ℕ) (x : X) (xs : List X)
    → number < count_by p (x ∷ xs) → before_number p number (x ∷ xs) ≡ before_number p number xs
before_number-more p number x xs h =
    ap (λ b. cond b (before_number p number xs) (x ∷ xs)) (lt_true number (count_by p (x ∷ xs)) h)

-- at most so many pass before the one with this number
pub before_number-le : {X : Type 0} (p : X → Bool) (number : ℕ) (xs : List X)
    → count_by p (before_number p number xs) ≤ number
before_number-le p number [] = omega arith
before_number-le p number (x ∷ xs) =
    at (nat_lt number (count_by p (x ∷ xs))) refl (before_number-le p number xs) where
      at : (b : Bool) → nat_lt number (count_by p (x ∷ xs)) ≡ b →
          count_by p (before_number p number xs)
          ≤ number → count_by p (cond b (before_number p number xs) (x ∷ xs)) ≤ number
      at true e earlier = earlier
      at false e earlier = search (rules, e)

-- CALLS

-- how many calls there are
abbrev pub calls_in : List Item → ℕ
calls_in items = count_by (λ i. is_call i.origin) items

-- the calls with one item more
pub calls-cons : (i : Item) (earlier : List Item)
    → calls_in (i ∷ earlier) ≡ cond (is_call i.origin) 1 0 + calls_in earlier
calls-cons i earlier = count-cons (λ (j : Item). is_call j.origin) i earlier
