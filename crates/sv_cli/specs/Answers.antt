-- What the answer of each kind of request means: a row a kind.
use Rattle.std.specs.Prelude.{◌≡◌, ℕ, Bool, true, false, List, [], Option, Some, None, Result}
use Rattle.sv_stream.specs.declared.end.End.{End}
use Rattle.sv_report.specs.ReportText.{text_of}
use Rattle.sv_view.specs.declared.cut.Cut.{Cut}
use Rattle.sv_view.specs.Answer.{IsShown}
use Rattle.sv_view.specs.Files.{OfFile}
use Rattle.sv_view.specs.Live.{IsToldLive}
use Rattle.sv_ring.specs.declared.story.Story.{Story}
use Rattle.sv_journal.specs.declared.journal.Item.{Item}
use Rattle.sv_core.specs.Simulated.{IsSimulated}
use Rattle.sv_cli.specs.declared.status.Status.{Status}
use Rattle.sv_cli.specs.Commands.{Request, show, live, play, generate, run}
use Rattle.sv_cli.specs.Recorded.{HasRun, IsGenerated, IsRecorded, IsReportText, is_unwritten}
use Rattle.sv_cli.specs.Recorded.{makes_of}
use Rattle.sv_cli.specs.Status.{status_for}

-- a recording ended so, or was cut, of which this is said, and the status tells it
pub record Ended (says : Result End Cut → Type 0) (status : Status) : Type 0 where
  pub ended : Result End Cut
  pub so : says ended
  pub is : status ≡ status_for ended

-- what is written, what the dock tells, the journal, and the status, by the files that the source
-- holds and what it has left: over the bytes that were taken of the request's file, or its number
abbrev pub Answers : (List ℕ → Option (List ℕ)) → Option (List ℕ) → Request
    → Option (List ℕ) → Option (List ℕ) → Option (List Story) → Option (List Story)
    → List Item → Status → Type 0
Answers held left (show text name) old new before now items status =
    Ended (λ ended. OfFile (held name) left
    (λ file taken. IsShown text taken (taken ≡ file) old new ended)) status × (items ≡ [])
Answers held left (live size name) old new before now items status =
    Ended (λ ended. OfFile (held name) left
    (λ file taken. IsToldLive size taken (taken ≡ file) old new ended)) status × (items ≡ [])
Answers held left (play make name) old new before now items status =
    OfFile (held name) left
    (λ file taken. IsRecorded IsSimulated (makes_of make) file taken old new items status)
Answers held left (generate number) old new before now items status =
    IsGenerated number old new items status
Answers held left (run name) old new before now items status =
    OfFile (held name) left
    (λ file taken. IsRecorded (HasRun before now) (IsReportText text_of) file taken old new
    items status)

-- what ends so has not written at all: words that ask for nothing, and workloads that are not known
abbrev pub is_silent : Option Request → Status → Bool
is_silent None status = true
is_silent (Some (show text file)) status = false
is_silent (Some (live size file)) status = false
is_silent (Some (play make file)) status = is_unwritten status
is_silent (Some (generate number)) status = false
is_silent (Some (run file)) status = is_unwritten status

-- what ends so has made no rings: all but a run whose workload is known
abbrev pub is_ringless : Option Request → Status → Bool
is_ringless None status = true
is_ringless (Some (show text file)) status = true
is_ringless (Some (live size file)) status = true
is_ringless (Some (play make file)) status = true
is_ringless (Some (generate number)) status = true
is_ringless (Some (run file)) status = is_unwritten status
