-- The one spelling of a number: the function's bytes spell it, and no others do.
use Rattle.std.proofs.Common.{◌≡◌, ◌≢◌, ℕ, zero, suc, ◌+◌, ◌-◌, ◌*◌, ◌/◌, ◌%◌, ◌^◌, ◌<◌, ◌≤◌, List}
use Rattle.std.proofs.Common.{[], ◌∷◌, length, refl, sym, ap, subst, ◌∙◌, arith, inl, inr}
use Rattle.std.specs.Prelude.{slice_index}
use Rattle.std.proofs.lemmas.Bool.{cases_lt}
use Rattle.std.proofs.lemmas.Bool.Decides.{nat_tests}
use Rattle.std.proofs.lemmas.Nat.{pow-add}
use Rattle.sv_prim.specs.Number.{groups_sum, IsGroups, IsNumber, groups_of, number_spelling}

-- ---- the two equations of groups_of

pub groups_of-last : (more value : ℕ) → value < 128 → groups_of more value ≡ value ∷ []
groups_of-last zero value low = refl
groups_of-last (suc more) value low = grind (arith, nat_tests)

pub groups_of-next : (more value : ℕ) → 128 ≤ value →
    groups_of (suc more) value ≡ (value % 128 + 128) ∷ groups_of more (value / 128)
groups_of-next more value high = grind (arith, nat_tests)

-- ---- the function's bytes spell the number

groups_cons : (b : ℕ) (bs : List ℕ) → 128 ≤ b → b < 256 → IsGroups bs → IsGroups (b ∷ bs)
groups_cons b [] low high g = absurd g
groups_cons b (c ∷ cs) low high g = (low, high, g)

groups_some : (bs : List ℕ) → IsGroups bs → 0 < length bs
groups_some [] g = absurd g
groups_some (b ∷ bs) g = omega arith

-- the last byte of a list is the last behind its first
last_behind : (b : ℕ) (bs : List ℕ) → 0 < length bs →
    slice_index (b ∷ bs) (length (b ∷ bs) - 1) ≡ slice_index bs (length bs - 1)
last_behind b [] some = absurd (omega arith)
last_behind b (c ∷ cs) some =
    let two : suc (suc (length cs)) - 1 ≡ suc (length cs) = omega arith in
    let one : suc (length cs) - 1 ≡ length cs = omega arith in
    ap (slice_index (b ∷ c ∷ cs)) two ∙ sym (ap (slice_index (c ∷ cs)) one)

of_groups : (more value : ℕ) → value < 2 ^ (7 * more) * 128 → IsGroups (groups_of more value)
of_groups zero value below = omega arith
of_groups (suc more) value below = elim (cases_lt value 128) [
  | inl low ↦ subst IsGroups (sym (groups_of-last (suc more) value low)) low
  | inr high ↦
      let step : 2 ^ (7 * suc more) ≡ 128 * 2 ^ (7 * more) =
      ap (λ (k : ℕ). 2 ^ k) (omega arith) ∙ pow-add 2 7 (7 * more) in
      let rest = of_groups more (value / 128) (omega (arith, step)) in
      subst IsGroups (sym (groups_of-next more value high))
      (groups_cons (value % 128 + 128) (groups_of more (value / 128)) (omega arith)
      (omega arith) rest)
]

pub of_few : (more value : ℕ) → length (groups_of more value) ≤ suc more
of_few zero value = omega arith
of_few (suc more) value = elim (cases_lt value 128) [
  | inl low ↦ rw (groups_of-last (suc more) value low) (omega arith)
  | inr high ↦ let rest = of_few more (value / 128) in
      rw (groups_of-next more value high) (omega arith)
]

of_last : (more value : ℕ) → value < 2 ^ (7 * more) * 128 → 0 < value →
    0 < slice_index (groups_of more value) (length (groups_of more value) - 1)
of_last zero value below some = some
of_last (suc more) value below some = elim (cases_lt value 128) [
  | inl low ↦ rw (groups_of-last (suc more) value low) some
  | inr high ↦
      let step : 2 ^ (7 * suc more) ≡ 128 * 2 ^ (7 * more) =
      ap (λ (k : ℕ). 2 ^ k) (omega arith) ∙ pow-add 2 7 (7 * more) in
      let small : value / 128 < 2 ^ (7 * more) * 128 = omega (arith, step) in
      let rest = of_last more (value / 128) small (omega arith) in
      let behind =
      last_behind (value % 128 + 128) (groups_of more (value / 128))
      (groups_some (groups_of more (value / 128)) (of_groups more (value / 128) small)) in
      rw (groups_of-next more value high, behind) rest
]

of_sum : (more value : ℕ) → value < 2 ^ (7 * more) * 128 → groups_sum (groups_of more value) ≡ value
of_sum zero value below = omega arith
of_sum (suc more) value below = elim (cases_lt value 128) [
  | inl low ↦ rw (groups_of-last (suc more) value low) (omega arith)
  | inr high ↦
      let step : 2 ^ (7 * suc more) ≡ 128 * 2 ^ (7 * more) =
      ap (λ (k : ℕ). 2 ^ k) (omega arith) ∙ pow-add 2 7 (7 * more) in
      let rest = of_sum more (value / 128) (omega (arith, step)) in
      rw (groups_of-next more value high, rest) (omega arith)
]

pub spelled : (value : ℕ) → value < 2 ^ 32 → IsNumber value (number_spelling value)
spelled value fits =
    let below : value < 2 ^ (7 * 4) * 128 = omega arith in
    record {
      groups = of_groups 4 value below;
      few = of_few 4 value;
      shortest = λ more zero. elim (cases_lt value 128) [
        | inl low ↦ omega (arith, ap length (groups_of-last 4 value low))
        | inr high ↦ omega (arith, of_last 4 value below (omega arith), zero)
      ];
      sum = sym (of_sum 4 value below);
      fits = fits;
    }

-- ---- no other bytes spell it

groups_sum_some : (bs : List ℕ) → IsGroups bs → slice_index bs (length bs - 1) ≢ 0 →
    0 < groups_sum bs
groups_sum_some [] g last = absurd g
groups_sum_some (b ∷ []) g last = elim (cases_lt 0 b) [
  | inl some ↦ omega (arith, g)
  | inr none ↦ absurd (last (omega arith))
]
groups_sum_some (b ∷ c ∷ cs) g last =
    let rest =
    groups_sum_some (c ∷ cs) g.2 (λ zero. last (last_behind b (c ∷ cs) (omega arith) ∙ zero)) in
    omega arith

of_bytes : (more : ℕ) (bs : List ℕ) → IsGroups bs → length bs ≤ suc more →
    (1 < length bs → slice_index bs (length bs - 1) ≢ 0) → bs ≡ groups_of more (groups_sum bs)
of_bytes more [] g few last = absurd g
of_bytes more (b ∷ []) g few last =
    let same : groups_sum (b ∷ []) ≡ b = omega (arith, g) in
    rw same (sym (groups_of-last more b g))
of_bytes zero (b ∷ c ∷ cs) g few last = absurd (omega arith)
of_bytes (suc more) (b ∷ c ∷ cs) g few last =
    let sum = groups_sum (c ∷ cs) in
    let ends : slice_index (c ∷ cs) (length (c ∷ cs) - 1) ≢ 0 =
    λ zero. last (omega arith) (last_behind b (c ∷ cs) (omega arith) ∙ zero) in
    let some : 0 < sum = groups_sum_some (c ∷ cs) g.2 ends in
    let rest : c ∷ cs ≡ groups_of more sum = of_bytes more (c ∷ cs) g.2 (omega arith) (λ _. ends) in
    let whole : ℕ = b % 128 + 128 * sum in
    let first : whole % 128 + 128 ≡ b = omega (arith, g.0, g.1) in
    let others : whole / 128 ≡ sum = omega arith in
    let next : groups_of (suc more) whole ≡ (whole % 128 + 128) ∷ groups_of more (whole / 128) =
    groups_of-next more whole (omega (arith, some)) in
    rw rest (sym (next ∙ rw (first, others) refl))

pub once : (value : ℕ) (bytes : List ℕ) → IsNumber value bytes → bytes ≡ number_spelling value
once value bytes n = of_bytes 4 bytes n.groups n.few n.shortest ∙ ap number_spelling (sym n.sum)
