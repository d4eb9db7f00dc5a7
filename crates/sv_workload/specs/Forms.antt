-- What stands after each keyword: numbers, each with its range, and at the end maybe a text.
use Rattle.std.specs.Prelude.{ℕ, ◌-◌, ◌^◌, nat_le, Bool, true, false, ◌&&◌, List, [], ◌∷◌}
use Rattle.std.specs.Prelude.{replicate, Option, Some, None}
use Rattle.std.specs.Option.{option_map_or}
use Rattle.sv_workload.specs.declared.range.Range.{Range}
use Rattle.sv_workload.specs.declared.keyword.SetupWord.TheVariants.{Ring, Clock, Cpu, Base, Shift}
use Rattle.sv_workload.specs.declared.keyword.SetupWord.TheVariants.{Time, Desc, Task, Module}
use Rattle.sv_workload.specs.declared.keyword.SetupWord.TheVariants.{Command}
use Rattle.sv_workload.specs.declared.keyword.ActWord.TheVariants.{Start, Stop, Nop, Isr, IsrExit}
use Rattle.sv_workload.specs.declared.keyword.ActWord.TheVariants.{Run, Halt, Ready, Unready}
use Rattle.sv_workload.specs.declared.keyword.ActWord.TheVariants.{Create, Terminate, Mark, MarkEnd}
use Rattle.sv_workload.specs.declared.keyword.ActWord.TheVariants.{Idle, Sched, Timer, TimerExit}
use Rattle.sv_workload.specs.declared.keyword.ActWord.TheVariants.{Name, Print, Call, Return}
use Rattle.sv_workload.specs.declared.keyword.TurnWord.TheVariants.{Step, Read, Send}
use Rattle.sv_workload.specs.declared.keyword.Keyword.{Keyword}
use Rattle.sv_workload.specs.declared.keyword.Keyword.TheVariants.{Setup, Writer, Act, Schedule}
use Rattle.sv_workload.specs.declared.keyword.Keyword.TheVariants.{Turn, Unknown}
use Rattle.sv_load.specs.Limits.{most_steps}

-- both ends belong to the range
abbrev pub between : ℕ → ℕ → Range
between least most = record { least = least; most = Some most }

-- what 32 bits hold
abbrev pub word32 : Range
word32 = between 0 (2 ^ 32 - 1)

-- a range without an end
abbrev pub any : Range
any = record { least = 0; most = None }

abbrev pub is_in : Range → ℕ → Bool
is_in range n = nat_le range.least n && option_map_or (λ most. nat_le n most) range.most true

-- the words that a keyword wants after it
pub record Form : Type 0 where
  -- the numbers that it can't be without, and then those that it can
  pub numbers : List Range
  pub more : List Range
  -- how many bytes its text has at most, if it has one
  pub text : Option ℕ
  -- whether its first number is an identifier of the target
  pub identifier : Bool

-- nothing at all
abbrev pub bare : Form
bare = record { numbers = []; more = []; text = None; identifier = false }

-- these numbers
abbrev pub of_numbers : List Range → Form
of_numbers ranges = record bare { numbers = ranges }

-- a text alone
abbrev pub of_text : ℕ → Form
of_text most = record bare { text = Some most }

-- an identifier, and these numbers
abbrev pub of_identifier : List Range → Form
of_identifier ranges = record bare { numbers = word32 ∷ ranges; identifier = true }

-- some of these numbers too, from the first on
abbrev pub with_more : List Range → Form → Form
with_more ranges form = record form { more = ranges }

-- a text after the numbers
abbrev pub then_text : ℕ → Form → Form
then_text most form = record form { text = Some most }

-- the language's table: what each keyword wants after it
abbrev pub form_of : Keyword → Form
form_of (Setup Ring) = of_numbers (between 64 65536 ∷ [])
form_of (Setup Clock) = of_numbers (between 1 4294967295 ∷ [])
form_of (Setup Cpu) = of_numbers (between 1 4294967295 ∷ [])
form_of (Setup Base) = of_numbers (word32 ∷ [])
form_of (Setup Shift) = of_numbers (between 0 31 ∷ [])
form_of (Setup Time) = bare
form_of (Setup Desc) = of_text 128
form_of (Setup Task) = then_text 32 (of_identifier (replicate 4 word32))
form_of (Setup Module) = then_text 128 (of_numbers (between 0 16384 ∷ []))
form_of (Setup Command) = with_more (between 0 255 ∷ []) (of_numbers (between 0 255 ∷ []))
form_of Writer = bare
form_of (Act Start) = bare
form_of (Act Stop) = bare
form_of (Act Nop) = bare
form_of (Act Isr) = of_numbers (word32 ∷ [])
form_of (Act IsrExit) = bare
form_of (Act Run) = of_identifier []
form_of (Act Halt) = bare
form_of (Act Ready) = of_identifier []
form_of (Act Unready) = of_identifier (word32 ∷ [])
form_of (Act Create) = of_identifier []
form_of (Act Terminate) = of_identifier []
form_of (Act Mark) = of_numbers (word32 ∷ [])
form_of (Act MarkEnd) = of_numbers (word32 ∷ [])
form_of (Act Idle) = bare
form_of (Act Sched) = bare
form_of (Act Timer) = of_identifier []
form_of (Act TimerExit) = bare
form_of (Act Name) = then_text 128 (of_identifier [])
form_of (Act Print) = of_text 128
form_of (Act Call) = with_more (replicate 8 word32) (of_numbers (between 32 16383 ∷ []))
form_of (Act Return) = with_more (word32 ∷ []) (of_numbers (word32 ∷ []))
form_of Schedule = bare
form_of (Turn Step) = with_more (between 1 most_steps ∷ []) (of_numbers (any ∷ []))
form_of (Turn Read) = of_numbers (between 1 65536 ∷ [])
form_of (Turn Send) = bare
form_of Unknown = bare
