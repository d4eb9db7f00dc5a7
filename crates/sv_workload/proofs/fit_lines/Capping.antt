-- Numbers in their ranges are below 2 ^ 32, so that nothing is lost where they are kept in words of
-- 32 bits.
use Rattle.std.proofs.Common.{◌≡◌, ℕ, ◌+◌, ◌-◌, ◌^◌, ◌<◌, ◌≤◌, Bool, true, false, ◌&&◌, List, []}
use Rattle.std.proofs.Common.{◌∷◌, ◌++◌, length, take, map, get_or, Option, Some, None, refl, sym}
use Rattle.std.proofs.Common.{ap, subst, ◌∙◌, arith, nat_le}
use Rattle.std.specs.Prelude.{unwrap_or}
use Rattle.std.specs.List.{list_all}
use Rattle.std.specs.Option.{option_map_or}
use Rattle.std.proofs.Math.Nat.{min-eq_left}
use Rattle.std.proofs.lemmas.Bool.{and_parts, leb-true, not-false}
use Rattle.std.proofs.lemmas.List.{length-append}
use Rattle.sv_workload.specs.declared.range.Range.{Range}
use Rattle.sv_workload.specs.declared.keyword.SetupWord.TheVariants as setup
use Rattle.sv_workload.specs.declared.keyword.ActWord.{ActWord}
use Rattle.sv_workload.specs.declared.keyword.ActWord.TheVariants.{Start, Stop, Nop, Isr, IsrExit}
use Rattle.sv_workload.specs.declared.keyword.ActWord.TheVariants.{Run, Halt, Ready, Unready}
use Rattle.sv_workload.specs.declared.keyword.ActWord.TheVariants.{Create, Terminate, Mark, MarkEnd}
use Rattle.sv_workload.specs.declared.keyword.ActWord.TheVariants.{Idle, Sched, Timer, TimerExit}
use Rattle.sv_workload.specs.declared.keyword.ActWord.TheVariants.{Name, Print, Call, Return}
use Rattle.sv_workload.specs.declared.keyword.TurnWord.{TurnWord}
use Rattle.sv_workload.specs.declared.keyword.TurnWord.TheVariants.{Step, Read, Send}
use Rattle.sv_workload.specs.declared.keyword.Keyword.{Keyword}
use Rattle.sv_workload.specs.declared.keyword.Keyword.TheVariants as keyword
use Rattle.sv_workload.specs.Numbers.{capped}
use Rattle.sv_text.specs.Words.{number_of}
use Rattle.sv_workload.specs.Forms.{between, form_of}
use Rattle.sv_workload.specs.Line.{Line, numbers_of}
use Rattle.sv_workload.specs.Checks.{is_within, are_within}
use Rattle.sv_workload.specs.Meaning.{number}
use Rattle.sv_workload.specs.Fit.{FitsForm}

-- every number of the range is below 2 ^ 32
abbrev pub is_low : Range → Bool
is_low range = option_map_or (λ most. nat_le most (2 ^ 32 - 1)) range.most false

-- a word as a number, 0 if it is none
abbrev pub number_or_0 : List ℕ → ℕ
number_or_0 word = unwrap_or (number_of word) 0

-- the first number of a line is the capped one
pub first_capped : (line : Line) (numbers : List ℕ) → numbers ≡ map capped (numbers_of line)
    → get_or numbers 0 0 ≡ capped (number line 0)
first_capped line numbers e = ap (λ (l : List ℕ). get_or l 0 0) e ∙ first_of (numbers_of line) where
  first_of : (ns : List ℕ) → get_or (map capped ns) 0 0 ≡ capped (get_or ns 0 0)
  first_of [] = refl
  first_of (n ∷ ns) = refl

-- a number below 2 ^ 32 stays as it is
pub capped_low : (n : ℕ) → n < 2 ^ 32 → capped n ≡ n
capped_low n low = let le : n ≤ 2 ^ 32 - 1 = omega arith in min-eq_left le

-- a word in a low range
within_low : (least : ℕ) (most : Option ℕ) (number : Option ℕ)
    → option_map_or (λ m. nat_le m (2 ^ 32 - 1)) most false ≡ true
    → option_map_or (λ n. nat_le least n && option_map_or (λ m. nat_le n m) most true) number false
    ≡ true → unwrap_or number 0 < 2 ^ 32
within_low least None number low e = absurd cc
within_low least (Some most) None low e = omega arith
within_low least (Some most) (Some n) low e =
    omega (
      arith,
      leb-true most (2 ^ 32 - 1) low,
      leb-true n most
          (and_parts (nat_le least n) (nat_le n most) e).1,
    )

-- the numbers of words in low ranges lose nothing
pub all_low : (ranges : List Range) (words : List (List ℕ)) → list_all is_low ranges ≡ true
    → are_within ranges words ≡ true
    → map capped (map number_or_0 (take (length ranges) words)) ≡ map number_or_0
    (take (length ranges) words)
all_low [] words low e = refl
all_low (range ∷ ranges) [] low e = refl
all_low (range ∷ ranges) (word ∷ words) low e =
    let lows = and_parts (is_low range) (list_all is_low ranges) low in
    let both = and_parts (is_within range word) (are_within ranges words) e in
    let first : capped (number_or_0 word) ≡ number_or_0 word = capped_low (number_or_0 word)
    (within_low range.least range.most (number_of word) lows.0 both.0) in
    let rest = all_low ranges words lows.1 both.1 in
    ap (λ (n : ℕ). n ∷ map capped (map number_or_0 (take (length ranges) words))) first ∙ ap
    (λ (ns : List ℕ). number_or_0 word ∷ ns) rest

-- the ranges after a keyword, and its numbers among some words
abbrev pub ranges : Keyword → List Range
ranges word = (form_of word).numbers ++ (form_of word).more

abbrev pub numbers_behind : Keyword → List (List ℕ) → List ℕ
numbers_behind word words =
    map number_or_0 (take (length (form_of word).numbers + length (form_of word).more) words)

abbrev pub IsKept : Keyword → List (List ℕ) → Type 0
IsKept word words = map capped (numbers_behind word words) ≡ numbers_behind word words

-- with low ranges alone the numbers after a keyword lose nothing
low_kept : (word : Keyword) (words : List (List ℕ)) → list_all is_low (ranges word) ≡ true
    → are_within (ranges word) words ≡ true → IsKept word words
low_kept word words low e =
    subst (λ (n : ℕ). map capped (map number_or_0 (take n words)) ≡ map number_or_0 (take n words))
    (length-append (form_of word).numbers (form_of word).more)
    (all_low (ranges word) words low e)

-- the writer's number may be too great, the count after it not
step_kept : (words : List (List ℕ)) → are_within (ranges (keyword.Turn Step)) words ≡ true
    → get_or (numbers_behind (keyword.Turn Step) words) 0 0 < 2 ^ 32
    → IsKept (keyword.Turn Step) words
step_kept [] e low = refl
step_kept (word ∷ words) e low =
    let both = and_parts (is_within (record { least = 0; most = None }) word)
    (are_within (between 1 1048576 ∷ []) words) e in
    let first : capped (number_or_0 word) ≡ number_or_0 word = capped_low (number_or_0 word) low in
    let rest = all_low (between 1 1048576 ∷ []) words refl both.1 in
    ap (λ (n : ℕ). n ∷ map capped (map number_or_0 (take 1 words))) first ∙ ap
    (λ (ns : List ℕ). number_or_0 word ∷ ns) rest

-- nor do those of the schedule, where the first is low
turn_kept : (word : TurnWord) (words : List (List ℕ))
    → are_within (ranges (keyword.Turn word)) words ≡ true
    → get_or (numbers_behind (keyword.Turn word) words) 0 0 < 2 ^ 32
    → IsKept (keyword.Turn word) words
turn_kept Step words e low = step_kept words e low
turn_kept Read words e low = low_kept (keyword.Turn Read) words refl e
turn_kept Send words e low = low_kept (keyword.Turn Send) words refl e

-- nor do those of a step: each word has low ranges alone
act_kept : (word : ActWord) (words : List (List ℕ))
    → are_within (ranges (keyword.Act word)) words ≡ true → IsKept (keyword.Act word) words
act_kept word words e = low_kept (keyword.Act word) words (act_low word) e where
  act_low : (word : ActWord) → list_all is_low (ranges (keyword.Act word)) ≡ true
  act_low Start = refl
  act_low Stop = refl
  act_low Nop = refl
  act_low Isr = refl
  act_low IsrExit = refl
  act_low Run = refl
  act_low Halt = refl
  act_low Ready = refl
  act_low Unready = refl
  act_low Create = refl
  act_low Terminate = refl
  act_low Mark = refl
  act_low MarkEnd = refl
  act_low Idle = refl
  act_low Sched = refl
  act_low Timer = refl
  act_low TimerExit = refl
  act_low Name = refl
  act_low Print = refl
  act_low Call = refl
  act_low Return = refl

-- each number of a fit line is in its range
pub in_ranges : (line : Line) (word : Keyword) → line.keyword ≡ word → FitsForm line
    → are_within (ranges word) line.words ≡ true
in_ranges line word e fit =
    let within : are_within (ranges line.keyword) line.words ≡ true =
    (and_parts _ _ (not-false _ fit.numbers)).1 in
    subst (λ (k : Keyword). are_within (ranges k) line.words ≡ true) e within

-- the numbers of a fit line are kept as they are
pub act_numbers : (line : Line) (word : ActWord) → line.keyword ≡ keyword.Act word → FitsForm line
    → map capped (numbers_of line) ≡ numbers_of line
act_numbers line word e fit =
    subst (λ (k : Keyword). IsKept k line.words) (sym e)
    (act_kept word line.words (in_ranges line (keyword.Act word) e fit))

-- of a task
pub task_numbers : (line : Line) → line.keyword ≡ keyword.Setup setup.Task → FitsForm line
    → map capped (numbers_of line) ≡ numbers_of line
task_numbers line e fit =
    subst (λ (k : Keyword). IsKept k line.words) (sym e)
    (low_kept (keyword.Setup setup.Task) line.words refl
    (in_ranges line (keyword.Setup setup.Task) e fit))

-- of a command
pub command_numbers : (line : Line) → line.keyword ≡ keyword.Setup setup.Command → FitsForm line
    → map capped (numbers_of line) ≡ numbers_of line
command_numbers line e fit =
    subst (λ (k : Keyword). IsKept k line.words) (sym e)
    (low_kept (keyword.Setup setup.Command) line.words refl
    (in_ranges line (keyword.Setup setup.Command) e fit))

-- of a module
pub module_numbers : (line : Line) → line.keyword ≡ keyword.Setup setup.Module → FitsForm line
    → map capped (numbers_of line) ≡ numbers_of line
module_numbers line e fit =
    subst (λ (k : Keyword). IsKept k line.words) (sym e)
    (low_kept (keyword.Setup setup.Module) line.words refl
    (in_ranges line (keyword.Setup setup.Module) e fit))

-- of a line of the schedule, where the first is low
pub turn_numbers : (line : Line) (word : TurnWord) → line.keyword ≡ keyword.Turn word
    → FitsForm line → number line 0 < 2 ^ 32 → map capped (numbers_of line) ≡ numbers_of line
turn_numbers line word e fit low =
    let first : get_or (numbers_behind (keyword.Turn word) line.words) 0 0 < 2 ^ 32 = subst
    (λ (k : Keyword). get_or (numbers_behind k line.words) 0 0 < 2 ^ 32) e low in
    subst (λ (k : Keyword). IsKept k line.words) (sym e)
    (turn_kept word line.words (in_ranges line (keyword.Turn word) e fit) first)
