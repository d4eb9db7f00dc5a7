-- Numbers (UM08027, encoding of U32): seven bits in each byte, the least significant group first.
-- That only the shortest form is read is this format's own rule: so a number has one spelling.
use Rattle.std.specs.Prelude.{◌≡◌, ◌≢◌, ℕ, zero, suc, ◌+◌, ◌-◌, ◌*◌, ◌/◌, ◌%◌, ◌^◌, ◌<◌, ◌≤◌, List}
use Rattle.std.specs.Prelude.{[], ◌∷◌, length, slice_index, nat_lt, if◌then◌else◌}
use Rattle.std.specs.List.{flat_map, AllByRecursion}
use Rattle.sv_prim.specs.declared.got.Reason.{Reason}
use Rattle.sv_prim.specs.declared.got.Reason.TheVariants.{BadNumber}
use Rattle.sv_prim.specs.Code.{Always}

-- the seven low bits of each byte, each byte's counting 128 times those of the one before
abbrev pub groups_sum : List ℕ → ℕ
groups_sum [] = 0
groups_sum (b ∷ bs) = b % 128 + 128 * groups_sum bs

-- every byte but the last has bit 7 set, and the last hasn't
abbrev pub IsGroups : List ℕ → Type 0
IsGroups [] = ⊥
IsGroups (b ∷ []) = b < 128
IsGroups (b ∷ c ∷ bs) = (128 ≤ b) × (b < 256) × IsGroups (c ∷ bs)

-- the bytes spell the number: at most five, and the last is 0 only if it stands alone
pub record IsNumber (value : ℕ) (bytes : List ℕ) : Type 0 where
  pub groups : IsGroups bytes
  pub few : length bytes ≤ 5
  pub shortest : 1 < length bytes → slice_index bytes (length bytes - 1) ≢ 0
  pub sum : value ≡ groups_sum bytes
  pub fits : value < 2 ^ 32

-- a number is refused for one reason
abbrev pub number_reason : List ℕ → Reason → Type 0
number_reason = Always BadNumber

-- a number as seven bits a byte, the lowest first, in at most so many bytes and one more
abbrev pub groups_of : ℕ → ℕ → List ℕ
groups_of zero value = value ∷ []
groups_of (suc more) value =
    if nat_lt value 128 then value ∷ [] else (value % 128 + 128) ∷ groups_of more (value / 128)

-- the one spelling of a number below 2 ^ 32
abbrev pub number_spelling : ℕ → List ℕ
number_spelling value = groups_of 4 value

-- the spellings of numbers, one after another
abbrev pub numbers_spelling : List ℕ → List ℕ
numbers_spelling values = flat_map number_spelling values

-- each element is below 2 ^ 32
abbrev pub AreWords : List ℕ → Type 0
AreWords numbers = AllByRecursion (λ number. number < 2 ^ 32) numbers
