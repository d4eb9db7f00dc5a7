-- What is asked of a line, given the lines before it, all of which are good.
use Rattle.std.specs.Prelude.{ℕ, ◌+◌, ◌%◌, ◌^◌, nat_lt, nat_le, ◌==◌, Bool, true, false, not, ◌&&◌}
use Rattle.std.specs.Prelude.{◌||◌, List, [], ◌∷◌, ◌++◌, length, map, take, count_by, find, Option}
use Rattle.std.specs.Prelude.{option_map, if◌then◌else◌}
use Rattle.std.specs.List.{list_all, list_any}
use Rattle.std.specs.Option.{option_map_or}
use Rattle.sv_prim.specs.Shrink.{offset_from}
use Rattle.sv_workload.specs.declared.fault.LineFault.{LineFault}
use Rattle.sv_workload.specs.declared.fault.LineFault.TheVariants.{UnknownWord, Shape, Number}
use Rattle.sv_workload.specs.declared.fault.LineFault.TheVariants.{Repeated, TooMany, Unaligned}
use Rattle.sv_workload.specs.declared.fault.LineFault.TheVariants.{Misplaced, BadText, NoSuchWriter}
use Rattle.sv_workload.specs.declared.fault.LineFault.TheVariants.{ModuleFull}
use Rattle.sv_workload.specs.declared.keyword.SetupWord.{SetupWord}
use Rattle.sv_workload.specs.declared.keyword.SetupWord.TheVariants.{Ring, Clock, Cpu, Base, Shift}
use Rattle.sv_workload.specs.declared.keyword.SetupWord.TheVariants.{Time, Desc, Task, Module}
use Rattle.sv_workload.specs.declared.keyword.SetupWord.TheVariants.{Command}
use Rattle.sv_workload.specs.declared.keyword.ActWord.TheVariants.{Start}
use Rattle.sv_workload.specs.declared.keyword.TurnWord.TheVariants.{Step}
use Rattle.sv_workload.specs.declared.keyword.Keyword.{Keyword}
use Rattle.sv_workload.specs.declared.keyword.Keyword.TheVariants.{Setup, Writer, Act, Schedule}
use Rattle.sv_workload.specs.declared.keyword.Keyword.TheVariants.{Turn, Unknown}
use Rattle.sv_workload.specs.declared.range.Range.{Range}
use Rattle.sv_desc.specs.Modules.{is_full_for}
use Rattle.sv_workload.specs.Keywords.{is_same}
use Rattle.sv_workload.specs.Forms.{between, is_in, Form, form_of}
use Rattle.sv_text.specs.Words.{number_of}
use Rattle.sv_workload.specs.Line.{Line, text_after}
use Rattle.sv_workload.specs.Meaning.{says, count, is_there, number, base_in, shift_in, tasks_in}
use Rattle.sv_workload.specs.Meaning.{modules_of}
use Rattle.sv_load.specs.Limits.{most_steps, most_starts, most_writers, most_ticks}

-- a test of a line after other lines; it is true of a line that fails
abbrev pub Check : Type 0
Check = List Line → Line → Bool

-- no keyword stands where it should
abbrev pub lacks_keyword : Check
lacks_keyword before line = is_same Unknown line.keyword

-- the words that say how identifiers are shrunk
abbrev pub sets_identifiers : SetupWord → Bool
sets_identifiers Base = true
sets_identifiers Shift = true
sets_identifiers _ = false

-- whether a keyword may follow: a text is settings first, then writers with their steps, then the
-- schedule, and how identifiers are shrunk is told before the first task. The tests are for a
-- writer, a task and the schedule before it
abbrev pub may_stand : Bool → Bool → Bool → Keyword → Bool
may_stand writer task schedule (Setup word) = not writer && not (sets_identifiers word && task)
may_stand writer task schedule Writer = not schedule
may_stand writer task schedule (Act word) = writer && not schedule
may_stand writer task schedule Schedule = writer && not schedule
may_stand writer task schedule (Turn word) = schedule
may_stand writer task schedule Unknown = false

-- it stands in another part of the text than its own
abbrev pub is_misplaced : Check
is_misplaced before line =
    not (may_stand (is_there Writer before) (is_there (Setup Task) before)
    (is_there Schedule before) line.keyword)

abbrev pub is_word : List ℕ → Bool
is_word word = nat_lt 0 (length word)

-- the words are as many as the form has numbers, and none is empty. With a text only those before
-- it count
abbrev pub fits : Form → List (List ℕ) → List ℕ → Bool
fits form words text = option_map_or
    (λ most. list_all is_word (take (length form.numbers) words) && is_word text)
    form.text
    (nat_le (length form.numbers) (length words) && nat_le (length words)
    (length form.numbers + length form.more) && list_all is_word words)

-- the words of a command: from the byte 128 on there is a parameter. A byte that is no number is
-- left to the next check
abbrev pub fits_command : List (List ℕ) → Bool
fits_command [] = false
fits_command (byte ∷ params) =
    option_map_or (λ n. list_all is_word params &&
    (length params == (if nat_lt n 128 then 0 else 1))) (number_of byte) true

-- a word is missing, empty or too many
abbrev pub is_misshapen : Check
is_misshapen before line =
    not (if says (Setup Command) line then fits_command line.words else fits (form_of line.keyword)
    line.words (text_after line))

-- the word is a number of the range
abbrev pub is_within : Range → List ℕ → Bool
is_within range word = option_map_or (is_in range) (number_of word) false

-- each word is a number of its range, as far as both lists go
abbrev pub are_within : List Range → List (List ℕ) → Bool
are_within [] words = true
are_within (range ∷ ranges) [] = true
are_within (range ∷ ranges) (word ∷ words) = is_within range word && are_within ranges words

-- the ticks or a word for a number are none, or are out of their range
abbrev pub has_bad_number : Check
has_bad_number before line =
    let form = form_of line.keyword in not
    (option_map_or (is_within (between 0 most_ticks)) line.advance true && are_within
    (form.numbers ++ form.more) line.words)

-- ASCII from the space to the tilde
abbrev pub is_printable : ℕ → Bool
is_printable byte = nat_le 0x20 byte && nat_le byte 0x7E

-- the text is too long, or not all of it can be printed
abbrev pub has_bad_text : Check
has_bad_text before line =
    option_map_or (λ most. not
    (nat_le (length (text_after line)) most && list_all is_printable (text_after line)))
    (form_of line.keyword).text false

-- nothing of the identifier is lost as it is shrunk
abbrev pub is_aligned : ℕ → ℕ → ℕ → Bool
is_aligned id base shift = (offset_from base id % 2 ^ shift) == 0

-- its identifier has low bits that the target would not send
abbrev pub is_unaligned : Check
is_unaligned before line =
    (form_of line.keyword).identifier && not
    (is_aligned (number line 0) (base_in before) (shift_in before))

-- the settings, each of which is told once
abbrev pub single_keywords : List Keyword
single_keywords = map Setup (Ring ∷ Clock ∷ Cpu ∷ Base ∷ Shift ∷ Time ∷ [])

-- a setting was told before, or a task with this identifier was
abbrev pub is_repeated : Check
is_repeated before line =
    (list_any (is_same line.keyword) single_keywords && is_there line.keyword before)
    || (says (Setup Task) line && list_any (λ task. task.id == number line 0) (tasks_in before))

-- lines of scripts
abbrev pub is_step_word : Keyword → Bool
is_step_word (Act word) = true
is_step_word _ = false

-- lines after the line `schedule`
abbrev pub is_turn_word : Keyword → Bool
is_turn_word (Turn word) = true
is_turn_word _ = false

-- how many lines have a keyword of this kind
abbrev pub count_of : (Keyword → Bool) → List Line → ℕ
count_of kind lines = count_by (λ line. kind line.keyword) lines

-- no further line with this keyword is within the limits
abbrev pub is_all_there : List Line → Keyword → Bool
is_all_there before (Setup Desc) = nat_le 4 (count (Setup Desc) before)
is_all_there before (Setup Task) = nat_le 32 (count (Setup Task) before)
is_all_there before (Setup Module) = nat_le 64 (count (Setup Module) before)
is_all_there before (Setup Command) = nat_le 256 (count (Setup Command) before)
is_all_there before Writer = nat_le most_writers (count Writer before)
is_all_there before (Act Start) =
    nat_le most_steps (count_of is_step_word before)
    || nat_le most_starts (count (Act Start) before)
is_all_there before (Act word) = nat_le most_steps (count_of is_step_word before)
is_all_there before (Turn word) = nat_le most_steps (count_of is_turn_word before)
is_all_there before _ = false

-- its like stands before it as often as it may
abbrev pub is_too_many : Check
is_too_many before line = is_all_there before line.keyword

-- its turn goes to a writer that there isn't
abbrev pub has_no_writer : Check
has_no_writer before line = says (Turn Step) line && nat_le (count Writer before) (number line 0)

-- its module finds no identifiers for its events
abbrev pub has_no_room : Check
has_no_room before line =
    says (Setup Module) line && is_full_for (modules_of before) (number line 0)

-- the checks, first to last, and what each finds wrong
abbrev pub checks : List (Check × LineFault)
checks =
    (lacks_keyword, UnknownWord)
    ∷ (is_misplaced, Misplaced)
    ∷ (is_misshapen, Shape)
    ∷ (has_bad_number, Number)
    ∷ (has_bad_text, BadText)
    ∷ (is_unaligned, Unaligned)
    ∷ (is_repeated, Repeated)
    ∷ (is_too_many, TooMany)
    ∷ (has_no_writer, NoSuchWriter)
    ∷ (has_no_room, ModuleFull)
    ∷ []

-- what the first check that a line fails finds wrong
abbrev pub fault_of : List Line → Line → Option LineFault
fault_of before line = option_map (λ check. check.1) (find (λ check. check.0 before line) checks)
