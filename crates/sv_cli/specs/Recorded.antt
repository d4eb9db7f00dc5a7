-- What `record`, `simulate` and `run` make of a workload's text, and `generate` of a number, and
-- what they answer where a device fails.
use Rattle.std.specs.Prelude.{◌≡◌, ℕ, ◌^◌, ◌<◌, ◌≤◌, Bool, true, false, List, [], ◌++◌, length}
use Rattle.std.specs.Prelude.{Option, Some, Result, Ok, Err, codes, map}
use Rattle.std.specs.Global.{Vec}
use Rattle.std.specs.Io.KnownBytes.{Appends}
use Rattle.sv_base.specs.Streams.{AppendsPart}
use Rattle.sv_packet.specs.declared.event.Packet.{Packet}
use Rattle.sv_stream.specs.declared.end.End.{End}
use Rattle.sv_stream.specs.declared.end.End.TheVariants as ends
use Rattle.sv_stream.specs.Input.{Whole}
use Rattle.sv_stream.specs.Reads.{Reads}
use Rattle.sv_ring.specs.declared.story.Story.{Story}
use Rattle.sv_analyse.specs.declared.report.Report.{Report}
use Rattle.sv_analyse.specs.Report.{report_of}
use Rattle.sv_report.specs.ReportText.{text_of, short_text_of}
use Rattle.sv_load.specs.Load.{Load}
use Rattle.sv_workload.specs.Grammar.{first_reason, IsWorkload}
use Rattle.sv_workload.specs.Generated.{generated_load}
use Rattle.sv_journal.specs.declared.journal.Item.{Item}
use Rattle.sv_journal.specs.Legal.{IsLegal, IsWhole}
use Rattle.sv_journal.specs.Stream.{stream_of}
use Rattle.sv_core.specs.Simulated.{IsSimulated}
use Rattle.sv_sent.specs.Start.{has_start}
use Rattle.sv_truth.specs.Truth.{TellsTruly}
use Rattle.sv_run.specs.Ran.{HasStory}
use Rattle.sv_cli.specs.declared.make.Make.{Make}
use Rattle.sv_cli.specs.declared.make.Make.TheVariants as makings
use Rattle.sv_cli.specs.declared.status.Status.{Status}
use Rattle.sv_cli.specs.declared.status.Status.TheVariants.{Done, ReadFault, WriteFault}
use Rattle.sv_cli.specs.declared.status.Status.TheVariants.{NoSync, Workload}
use Rattle.sv_cli.specs.declared.status.Status.TheVariants.{TooLong, NoMemory}

-- the most bytes of a workload
abbrev pub most_of_workload : ℕ
most_of_workload = 2 ^ 26

-- the line before the bytes of a recording
abbrev pub header : List ℕ
header = codes "; sysview recording\n"

-- this is said of the workload, this has happened by the journal, and its stream names nothing that
-- is not true of all calls, the lost ones included
pub record IsRun (says : Load → Type 0) (happens : Load → List Item → Type 0) (load : Load)
    (items : List Item) : Type 0 where
  pub said : says load
  pub happened : happens load items
  pub names : TellsTruly load items

-- the journal is one of a run in threads, of which the dock tells where it tells its stories
pub record HasRun (before now : Option (List Story)) (load : Load) (items : List Item) : Type 0
  where
    pub legal : IsLegal load items
    pub whole : IsWhole load items
    pub story : HasStory load items before now

-- what `record` writes of a journal
abbrev pub IsRecordingText : Load → List Item → List ℕ → Type 0
IsRecordingText load items made = made ≡ header ++ stream_of load items

-- how the bytes of a journal end, which has a start or not
abbrev pub sent_end : Bool → End
sent_end true = ends.Clean
sent_end false = ends.NoSync

-- what `simulate`, `run` and `generate` write of a journal: a text of the report of the bytes that
-- were sent, which are packets alone, with no damage
pub record IsReportText (text : Report → List ℕ) (load : Load) (items : List Item)
    (made : List ℕ) : Type 0 where
  pub packets : List Packet
  pub reads : Reads (stream_of load items) (map Whole packets) (sent_end (has_start load items))
  pub made_is : made ≡ text (report_of (map Whole packets) (sent_end (has_start load items)))

-- what is made of a simulation: a text of its report, or a recording
abbrev pub makes_of : Make → Load → List Item → List ℕ → Type 0
makes_of makings.Report = IsReportText text_of
makes_of makings.Counts = IsReportText short_text_of
makes_of makings.Recording = IsRecordingText

-- the line before what is made, if there is one
abbrev pub head_of : Make → List ℕ
head_of makings.Report = []
head_of makings.Counts = []
head_of makings.Recording = header

-- all that a command makes of a run is written, which has a start or not
pub record IsRecording (runs : Load → List Item → Type 0)
    (makes : Load → List Item → List ℕ → Type 0) (old new : Option (List ℕ)) (items : List Item)
    (started : Bool) : Type 0 where
  pub load : Load
  pub run : runs load items
  pub start : has_start load items ≡ started
  pub made : List ℕ
  pub makes_it : makes load items made
  pub written : Appends old new made

-- a part of it is written
pub record IsRecordingPart (runs : Load → List Item → Type 0)
    (makes : Load → List Item → List ℕ → Type 0) (old new : Option (List ℕ))
    (items : List Item) : Type 0 where
  pub load : Load
  pub run : runs load items
  pub made : List ℕ
  pub makes_it : makes load items made
  pub part : AppendsPart old new made

-- nothing is written, and there is no journal
abbrev pub IsNothing : Option (List ℕ) → Option (List ℕ) → List Item → Type 0
IsNothing old new items = Appends old new [] × (items ≡ [])

-- a file's bytes, of which so many were taken, say this workload, or why there is none: no more were
-- taken than a workload may have, and one piece
abbrev pub IsLoaded : List ℕ → List ℕ → Result Load Status → Type 0
IsLoaded file taken (Ok load) =
    (taken ≡ file) × (length file ≤ most_of_workload) × IsWorkload file load
IsLoaded file taken (Err ReadFault) = length taken ≤ most_of_workload
IsLoaded file taken (Err (TooLong limit)) =
    (limit ≡ most_of_workload) × (most_of_workload < length taken)
IsLoaded file taken (Err (Workload line reason)) =
    (taken ≡ file) × (length file ≤ most_of_workload)
    × (first_reason file ≡ Some (line, reason))
IsLoaded file taken (Err NoMemory) = Unit {0}
IsLoaded file taken (Err other) = ⊥

-- what was made of a workload is written behind a head, and its history is the journal
abbrev pub IsPut : {E : Type 0} → Load → List ℕ → Result (Vec ℕ) E → List Item → Option (List ℕ)
    → Option (List ℕ) → List Item → Status → Type 0
IsPut load head (Ok rest) history old new items Done =
    (items ≡ history) × (has_start load history ≡ true) × Appends old new (head ++ rest.items)
IsPut load head (Ok rest) history old new items NoSync =
    (items ≡ history) × (has_start load history ≡ false) × Appends old new (head ++ rest.items)
IsPut load head (Ok rest) history old new items WriteFault =
    (items ≡ history) × AppendsPart old new (head ++ rest.items)
IsPut load head (Err none) history old new items NoMemory = IsNothing old new items
IsPut load head made history old new items other = ⊥

-- the answer over a workload of which this is said
abbrev pub IsPlayed : (Load → Type 0) → (Load → List Item → Type 0)
    → (Load → List Item → List ℕ → Type 0) → Option (List ℕ) → Option (List ℕ) → List Item → Status
    → Type 0
IsPlayed says happens makes old new items Done =
    IsRecording (IsRun says happens) makes old new items true
IsPlayed says happens makes old new items NoSync =
    IsRecording (IsRun says happens) makes old new items false
IsPlayed says happens makes old new items WriteFault =
    IsRecordingPart (IsRun says happens) makes old new items
IsPlayed says happens makes old new items NoMemory = IsNothing old new items
IsPlayed says happens makes old new items other = ⊥

-- the answer over a text that was read whole: that over the workload that it says, or why it says
-- none
abbrev pub IsTextRecorded : (Load → List Item → Type 0) → (Load → List Item → List ℕ → Type 0)
    → List ℕ → Option (List ℕ) → Option (List ℕ) → List Item → Status → Type 0
IsTextRecorded happens makes text old new items (Workload line reason) =
    (first_reason text ≡ Some (line, reason)) × IsNothing old new items
IsTextRecorded happens makes text old new items other =
    IsPlayed (IsWorkload text) happens makes old new items other

-- the answer over a file's bytes, of which so many were taken: no more than a workload may have,
-- and one piece
abbrev pub IsRecorded : (Load → List Item → Type 0) → (Load → List Item → List ℕ → Type 0)
    → List ℕ → List ℕ → Option (List ℕ) → Option (List ℕ) → List Item → Status → Type 0
IsRecorded happens makes file taken old new items ReadFault =
    (length taken ≤ most_of_workload) × IsNothing old new items
IsRecorded happens makes file taken old new items (TooLong limit) =
    (limit ≡ most_of_workload) × (most_of_workload < length taken) × IsNothing old new items
IsRecorded happens makes file taken old new items NoMemory = IsNothing old new items
IsRecorded happens makes file taken old new items other =
    (taken ≡ file) × (length file ≤ most_of_workload)
    × IsTextRecorded happens makes file old new items other

-- the workload is the one of the number
abbrev pub IsOfNumber : ℕ → Load → Type 0
IsOfNumber number load = load ≡ generated_load number

-- the answer of a number: the counts of the report of its workload's simulation, which has a start
abbrev pub IsGenerated : ℕ → Option (List ℕ) → Option (List ℕ) → List Item → Status → Type 0
IsGenerated number old new items NoSync = ⊥
IsGenerated number old new items other =
    IsPlayed (IsOfNumber number) IsSimulated (makes_of makings.Counts) old new items other

-- a workload that ends so has written nothing at all
abbrev pub is_unwritten : Status → Bool
is_unwritten ReadFault = true
is_unwritten (TooLong limit) = true
is_unwritten (Workload line reason) = true
is_unwritten status = false
