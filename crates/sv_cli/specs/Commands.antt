-- The commands of a command line: what their words ask for.
use Rattle.std.specs.Prelude.{ℕ, ◌≤◌, ◌&&◌, nat_le, Bool, List, [], ◌∷◌, Option, Some, None}
use Rattle.std.specs.Prelude.{map, codes, if◌then◌else◌}
use Rattle.std.specs.Borrow.{Bor}
use Rattle.std.specs.Fmt.{decimal}
use Rattle.std.specs.Str.{bytes_eq}
use Rattle.std.specs.Str.Parse.{digits_value}
use Rattle.sv_view.specs.Text.{Text}
use Rattle.sv_view.specs.texts
use Rattle.sv_cli.specs.declared.make.Make.{Make}
use Rattle.sv_cli.specs.declared.make.Make.TheVariants as makes

-- what a command line asks for, of a file by its name or of a number
pub data Request : Type 0 where
  show : Text → List ℕ → Request
  live : ℕ → List ℕ → Request
  play : Make → List ℕ → Request
  generate : ℕ → Request
  run : List ℕ → Request

-- the views: the name of each, and what it writes of a recording
abbrev pub shows : List (List ℕ × Text)
shows =
    (codes "events", texts.Events.events_text)
    ∷ (codes "check", texts.Check.check_text)
    ∷ (codes "timeline", texts.Timeline.timeline_text)
    ∷ (codes "report", texts.Report.report_text)
    ∷ []

-- the simulations: the name of each, and what it makes of a workload
abbrev pub plays : List (List ℕ × Make)
plays = (codes "simulate", makes.Report) ∷ (codes "record", makes.Recording) ∷ []

-- what a name stands for in a table
abbrev pub named_in : {A : Type 0} → List (List ℕ × A) → List ℕ → Option A
named_in [] word = None
named_in ((name, entry) ∷ rest) word = if bytes_eq name word then Some entry else named_in rest word

-- a number from 1 to the most
abbrev pub IsUpTo : ℕ → ℕ → Type 0
IsUpTo most number = (1 ≤ number) × (number ≤ most)

-- the most bytes of a piece of a recording that comes piece by piece
abbrev pub most_of_piece : ℕ
most_of_piece = 65536

-- the most steps of a workload that a number makes
abbrev pub most_of_steps : ℕ
most_of_steps = 1000000

-- the word is this number in decimal, with no zero before it, which is from 1 to the most
abbrev pub is_number : ℕ → List ℕ → ℕ → Bool
is_number most word number =
    nat_le 1 number && (nat_le number most && bytes_eq (decimal number) word)

-- the number from 1 to the most that a word says, if it says one: the value of its digits
abbrev pub number_in : ℕ → List ℕ → Option ℕ
number_in most word =
    if is_number most word (digits_value 10 word) then Some (digits_value 10 word) else None

-- the request for a file of an entry of the views
abbrev pub show_request : Option Text → List ℕ → Option Request
show_request (Some text) file = Some (show text file)
show_request None file = None

-- the request for a file of an entry of the simulations, or else of the views
abbrev pub file_request : Option Make → Option Text → List ℕ → Option Request
file_request (Some made) text file = Some (play made file)
file_request None text file = show_request text file

-- the request for reports of a file piece by piece, of a size that was said
abbrev pub live_request : Option ℕ → List ℕ → Option Request
live_request (Some size) file = Some (live size file)
live_request None file = None

-- the request for the counts of a number's workload
abbrev pub generate_request : Option ℕ → Option Request
generate_request (Some number) = Some (generate number)
generate_request None = None

-- what two words ask for without threads, and three
abbrev pub by_two : List ℕ → List ℕ → Option Request
by_two name word =
    if bytes_eq (codes "generate") name then generate_request (number_in most_of_steps word)
    else file_request (named_in plays name) (named_in shows name) word

abbrev pub by_three : List ℕ → List ℕ → List ℕ → Option Request
by_three name size file =
    if bytes_eq (codes "live") name then live_request (number_in most_of_piece size) file else None

-- what words ask for without threads
abbrev pub offline_in : List (List ℕ) → Option Request
offline_in (name ∷ word ∷ []) = by_two name word
offline_in (name ∷ size ∷ file ∷ []) = by_three name size file
offline_in words = None

-- what words ask for: a run in threads too
abbrev pub request_in : List (List ℕ) → Option Request
request_in (name ∷ file ∷ []) =
    if bytes_eq (codes "run") name then Some (run file) else by_two name file
request_in words = offline_in words

-- the same of the borrowed words of a command line
abbrev pub offline_of : List (Bor (List ℕ)) → Option Request
offline_of words = offline_in (map (λ word. word.now) words)

abbrev pub request_of : List (Bor (List ℕ)) → Option Request
request_of words = request_in (map (λ word. word.now) words)

-- the file that is read, if one is: every request reads one, but for that of a number
abbrev pub file_of : Option Request → Option (List ℕ)
file_of None = None
file_of (Some (show text file)) = Some file
file_of (Some (live size file)) = Some file
file_of (Some (play made file)) = Some file
file_of (Some (generate number)) = None
file_of (Some (run file)) = Some file
