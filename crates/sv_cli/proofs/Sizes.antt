-- Words that say a number of at most 32 bits.
use Rattle.std.proofs.Common.{◌≡◌, ℕ, ◌<◌, ◌^◌, Bool, true, false, List, Some, None}
use Rattle.std.proofs.Common.{Result, Ok, Err, refl, sym, ap, ◌∙◌, arith}
use Rattle.std.specs.Prelude.{◌&&◌, nat_le, not, if◌then◌else◌}
use Rattle.std.specs.Fmt.{decimal}
use Rattle.std.specs.Str.{bytes_eq}
use Rattle.std.specs.Str.Parse.{ParsesUnsigned, digits_value}
use Rattle.std.proofs.lemmas.Bool.{and_from, and_parts, le-leb, leb-true}
use Rattle.std.proofs.lemmas.Fmt.{parse-decimal, decimal_is_IsNumeral}
use Rattle.std.proofs.lemmas.Slice.Eq.{bytes_eq-Decides}
use Rattle.sv_cli.specs.Commands.{IsUpTo, is_number, number_in}

-- a number is what its word is read as
read_as : {E : Type 0} (most : ℕ) → most < 2 ^ 32 → (word : List ℕ) (result : Result ℕ E)
    → ParsesUnsigned 32 10 word result
    → (n : ℕ) → IsUpTo most n → decimal n ≡ word → result ≡ Ok n
read_as most wide word result parses n size is =
    let few : n < 2 ^ 32 = omega (arith, size.1, wide) in
    let small : n < 2 ^ 64 = omega (arith, size.1, wide) in
    parse-decimal 32 n word result few small (sym is) parses

not_both : {T E : Type 0} (r : Result T E) (x : T) (e : E) → r ≡ Ok x → r ≡ Err e → ⊥
not_both r x e ok err = absurd cc

one_value : {E : Type 0} (r : Result ℕ E) (x y : ℕ) → r ≡ Ok x → r ≡ Ok y → x ≡ y
one_value r x y one other = cc

pub no_number : {E : Type 0} (most : ℕ) → most < 2 ^ 32 → (word : List ℕ) (result : Result ℕ E)
    (e : E) → ParsesUnsigned 32 10 word result → result ≡ Err e
    → (n : ℕ) → IsUpTo most n → decimal n ≡ word → ⊥
no_number most wide word result e parses err n size is =
    not_both result n e (read_as most wide word result parses n size is) err

pub that_number : {E : Type 0} (most : ℕ) → most < 2 ^ 32 → (word : List ℕ) (result : Result ℕ E)
    (m : ℕ) → ParsesUnsigned 32 10 word result → result ≡ Ok m
    → (n : ℕ) → IsUpTo most n → decimal n ≡ word → n ≡ m
that_number most wide word result m parses ok n size is =
    one_value result n m (read_as most wide word result parses n size is) ok

pub not_true : (b : Bool) → not b ≡ true → b ≡ false
not_true true e = sym e
not_true false e = refl

-- what a word says whose digits' value passes, and one whose does not
tested : (most : ℕ) (word : List ℕ) (n : ℕ) → (IsUpTo most n → decimal n ≡ word → ⊥)
    → (b : Bool) → is_number most word n ≡ b → (if b then Some n else None) ≡ None
tested most word n never true is =
    let all = and_parts (nat_le 1 n) (nat_le n most && bytes_eq (decimal n) word) is in
    let rest = and_parts (nat_le n most) (bytes_eq (decimal n) word) all.1 in
    absurd (never (leb-true 1 n all.0, leb-true n most rest.0)
    ((bytes_eq-Decides (decimal n) word).0 rest.1))
tested most word n never false is = refl

pub says_none : (most : ℕ) (word : List ℕ) → ((n : ℕ) → IsUpTo most n → decimal n ≡ word → ⊥)
    → None ≡ number_in most word
says_none most word never =
    let n = digits_value 10 word in
    sym (tested most word n (never n) (is_number most word n) refl)

pub says_number : (most : ℕ) → most < 2 ^ 32 → (word : List ℕ) (n : ℕ) → IsUpTo most n
    → decimal n ≡ word → number_in most word ≡ Some n
says_number most wide word n size is =
    let value : digits_value 10 word ≡ n =
    ap (digits_value 10) (sym is) ∙ (decimal_is_IsNumeral n (omega (arith, size.1, wide))).1 in
    let test : is_number most word n ≡ true =
    and_from (nat_le 1 n) (nat_le n most && bytes_eq (decimal n) word) (le-leb 1 n size.0)
    (and_from (nat_le n most) (bytes_eq (decimal n) word) (le-leb n most size.1)
    ((bytes_eq-Decides (decimal n) word).1 is)) in
    ap (λ (k : ℕ). if is_number most word k then Some k else None) value
    ∙ ap (λ (b : Bool). if b then Some n else None) test

pub not_false : (b : Bool) → not b ≡ false → b ≡ true
not_false true e = refl
not_false false e = sym e
