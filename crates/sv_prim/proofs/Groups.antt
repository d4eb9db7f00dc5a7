-- Groups of seven bits: what a loop over them knows.
use Rattle.std.proofs.Common.{◌≡◌, ℕ, zero, suc, ◌+◌, ◌-◌, ◌*◌, ◌%◌, ◌^◌, ◌<◌, ◌≤◌, List, [], ◌∷◌}
use Rattle.std.proofs.Common.{◌++◌, length, get_or, refl, sym, ap, subst, ◌∙◌, append_assoc, arith}
use Rattle.std.proofs.lemmas.List.{length-append, append-nil}
use Rattle.std.specs.Prelude.{bit_and, bit_or}
use Rattle.std.proofs.lemmas.Nat.{pow-add, mod_below, and_mask, or_comm, or_shifted}
use Rattle.std.proofs.Math.Nat.{mod-eq_of_lt, mod-le, mul_comm}
use Rattle.std.proofs.Math.Seq.{get_or-append_seam}
use Rattle.sv_prim.specs.Code.{GoesOn, IsCutShort, IsPrefixFree}
use Rattle.sv_prim.specs.Number.{groups_sum, IsGroups, IsNumber}

-- bytes with bit 7 set
abbrev pub AreFlagged : List ℕ → Type 0
AreFlagged [] = Unit {0}
AreFlagged (b ∷ bs) = (128 ≤ b) × (b < 256) × AreFlagged bs

pub AreFlagged-push : (xs : List ℕ) (b : ℕ) → AreFlagged xs → 128 ≤ b → b < 256 →
    AreFlagged (xs ++ b ∷ [])
AreFlagged-push [] b f low high = (low, high, tt)
AreFlagged-push (x ∷ xs) b f low high = (f.0, f.1, AreFlagged-push xs b f.2 low high)

pub groups_after : (front : List ℕ) (b : ℕ) (rest : List ℕ) → AreFlagged front →
    IsGroups (b ∷ rest) → IsGroups (front ++ b ∷ rest)
groups_after [] b rest f g = g
groups_after (x ∷ []) b rest f g = (f.0, f.1, g)
groups_after (x ∷ y ∷ ys) b rest f g = (f.0, f.1, groups_after (y ∷ ys) b rest f.2 g)

-- behind flagged bytes the rest is groups, and there is some
pub groups_behind : (front rest : List ℕ) → AreFlagged front → IsGroups (front ++ rest) →
    IsGroups rest
groups_behind [] rest f g = g
groups_behind (x ∷ []) [] f g = absurd (omega (arith, f.0, g))
groups_behind (x ∷ []) (b ∷ rest) f g = g.2
groups_behind (x ∷ y ∷ ys) rest f g = groups_behind (y ∷ ys) rest f.2 g.2

pub groups_sum-append : (xs ys : List ℕ) →
    groups_sum (xs ++ ys) ≡ groups_sum xs + 2 ^ (7 * length xs) * groups_sum ys
groups_sum-append [] ys = omega arith
groups_sum-append (x ∷ xs) ys =
    let step : 2 ^ (7 * suc (length xs)) ≡ 128 * 2 ^ (7 * length xs) =
    ap (λ (k : ℕ). 2 ^ k) (omega arith) ∙ pow-add 2 7 (7 * length xs) in
    let so_far = groups_sum-append xs ys in
    rw (step, so_far) (grind arith)

pub groups_sum_below : (xs : List ℕ) → groups_sum xs < 2 ^ (7 * length xs)
groups_sum_below [] = omega arith
groups_sum_below (x ∷ xs) =
    let step : 2 ^ (7 * suc (length xs)) ≡ 128 * 2 ^ (7 * length xs) =
    ap (λ (k : ℕ). 2 ^ k) (omega arith) ∙ pow-add 2 7 (7 * length xs) in
    let so_far = groups_sum_below xs in
    let low : x % 128 < 128 = mod_below x 128 (omega arith) in
    rw step (omega arith)

-- no groups begin others
pub groups_free : (a b x y : List ℕ) → IsGroups a → IsGroups b → a ++ x ≡ b ++ y → a ≡ b
groups_free [] b x y p q e = absurd p
groups_free (c ∷ cs) [] x y p q e = absurd q
groups_free (c ∷ []) (d ∷ []) x y p q e = cc
groups_free (c ∷ []) (d ∷ d2 ∷ ds) x y p q e = let same : c ≡ d = cc in
    absurd (omega (arith, p, q.0))
groups_free (c ∷ c2 ∷ cs) (d ∷ []) x y p q e = let same : c ≡ d = cc in
    absurd (omega (arith, q, p.0))
groups_free (c ∷ c2 ∷ cs) (d ∷ d2 ∷ ds) x y p q e =
    let same : c ≡ d = cc in
    let others : (c2 ∷ cs) ++ x ≡ (d2 ∷ ds) ++ y = cc in
    let rest = groups_free (c2 ∷ cs) (d2 ∷ ds) x y p.2 q.2 others in
    cc

pub number_free : IsPrefixFree IsNumber
number_free u v a b x y p q e =
    let same = groups_free a b x y p.groups q.groups e in
    (same, p.sum ∙ ap groups_sum same ∙ sym q.sum)

below_32 : (k sum b : ℕ) → k ≤ 4 → sum < 2 ^ (7 * k) → b < 128 → (k ≡ 4 → b < 16) →
    sum + 2 ^ (7 * k) * b < 2 ^ 32
below_32 zero sum b few below low fits = omega arith
below_32 (suc zero) sum b few below low fits = omega arith
below_32 (suc (suc zero)) sum b few below low fits = omega arith
below_32 (suc (suc (suc zero))) sum b few below low fits = omega arith
below_32 (suc (suc (suc (suc zero)))) sum b few below low fits = let last : b < 16 = fits refl in
    omega arith
below_32 (suc (suc (suc (suc (suc k))))) sum b few below low fits = absurd (omega arith)

pub groups_sum-push : (front : List ℕ) (b : ℕ) →
    groups_sum (front ++ b ∷ []) ≡ groups_sum front + 2 ^ (7 * length front) * (b % 128)
groups_sum-push front b =
    groups_sum-append front (b ∷ [])
    ∙ ap (λ (k : ℕ). groups_sum front + 2 ^ (7 * length front) * k) (omega arith)

last_of : (front : List ℕ) (b : ℕ) → get_or (front ++ b ∷ []) (length (front ++ b ∷ []) - 1) 0 ≡ b
last_of front b =
    let len = length-append front (b ∷ []) in
    ap (λ (k : ℕ). get_or (front ++ b ∷ []) k 0) (omega arith) ∙ get_or-append_seam front b [] 0

pub number_is : (front : List ℕ) (b : ℕ) → AreFlagged front → length front ≤ 4 → b < 128 →
    (0 < length front → 0 < b) → (length front ≡ 4 → b < 16) →
    IsNumber (groups_sum (front ++ b ∷ [])) (front ++ b ∷ [])
number_is front b flagged few low short fits =
    let len = length-append front (b ∷ []) in
    let small : b % 128 ≡ b = mod-eq_of_lt low in
    record {
      groups = groups_after front b [] flagged low;
      few = omega arith;
      shortest = λ more zero. let pos = short (omega arith) in omega (arith, last_of front b, zero);
      sum = refl;
      fits =
          rw (groups_sum-push front b, small)
          (below_32 (length front) (groups_sum front) b few (groups_sum_below front) low fits);
    }

pub cut_short : (front : List ℕ) → AreFlagged front → length front ≤ 4 → IsCutShort IsNumber front
cut_short front flagged few = (
  groups_sum (front ++ 1 ∷ []),
  1 ∷ [],
  (λ e. absurd cc),
  number_is front 1 flagged few (omega arith) (λ _. omega arith) (λ _. omega arith),
)

pub padding_breaks : (front : List ℕ) → AreFlagged front → 0 < length front →
    GoesOn IsNumber (front ++ 0 ∷ []) → ⊥
padding_breaks front flagged some (v, [], n) =
    let whole : IsNumber v (front ++ 0 ∷ []) =
    subst (IsNumber v) (append-nil (front ++ 0 ∷ [])) n in
    let len = length-append front (0 ∷ []) in
    whole.shortest (omega arith) (last_of front 0)
padding_breaks front flagged some (v, x ∷ more, n) =
    let whole : IsGroups (front ++ 0 ∷ x ∷ more) =
    subst IsGroups (append_assoc front (0 ∷ []) (x ∷ more)) n.groups in
    let rest = groups_behind front (0 ∷ x ∷ more) flagged whole in
    omega (arith, rest.0)

pub beyond_breaks : (front : List ℕ) (b : ℕ) → AreFlagged front → length front ≡ 4 → 16 ≤ b →
    GoesOn IsNumber (front ++ b ∷ []) → ⊥
beyond_breaks front b flagged four big (v, [], n) =
    let whole : IsNumber v (front ++ b ∷ []) =
    subst (IsNumber v) (append-nil (front ++ b ∷ [])) n in
    let low : b < 128 = groups_behind front (b ∷ []) flagged whole.groups in
    let small : b % 128 ≡ b = mod-eq_of_lt low in
    let sum : v ≡ groups_sum front + 2 ^ (7 * length front) * (b % 128) =
    whole.sum ∙ groups_sum-push front b in
    let sum4 : v ≡ groups_sum front + 2 ^ (7 * 4) * b = rw (four, small) at sum in
    omega (arith, sum4, whole.fits)
beyond_breaks front b flagged four big (v, x ∷ more, n) =
    omega (arith, n.few, length-append (front ++ b ∷ []) (x ∷ more), length-append front (b ∷ []))

pub group_or : (value place byte : ℕ) → place ≤ 4 → value < 2 ^ (7 * place) →
    (place ≡ 4 → byte < 16) →
    bit_or value ((bit_and byte 127 * 2 ^ (7 * place)) % 4294967296)
    ≡ value + 2 ^ (7 * place) * (byte % 128)
group_or value place byte few below fits =
    let group = byte % 128 in
    let mask : bit_and byte 127 ≡ group = and_mask byte 7 in
    let low : group < 128 = mod_below byte 128 (omega arith) in
    let last : place ≡ 4 → group < 16 = λ e. let small = fits e in omega (arith, mod-le byte 128) in
    let all = below_32 place value group few below low last in
    let turn : 2 ^ (7 * place) * group ≡ group * 2 ^ (7 * place) =
    mul_comm (2 ^ (7 * place)) group in
    let whole : (group * 2 ^ (7 * place)) % 4294967296 ≡ group * 2 ^ (7 * place) =
    mod-eq_of_lt (omega (arith, all, turn)) in
    rw (
      mask,
      whole,
      or_comm value (group * 2 ^ (7 * place)),
      or_shifted group (7 * place) value below,
    ) (omega (arith, turn))

pub zero_number : IsNumber 0 (0 ∷ [])
zero_number = record {
  groups = omega arith;
  few = omega arith;
  shortest = λ more. absurd (omega arith);
  sum = refl;
  fits = omega arith;
}
