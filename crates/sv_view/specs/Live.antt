-- What `live` answers: a report of the bytes so far after each piece of some size, and after a last
-- one that is shorter.
use Rattle.std.specs.Prelude.{◌≡◌, ℕ, zero, suc, ◌+◌, ◌*◌, ◌<◌, ◌≤◌, false, List, [], ◌∷◌}
use Rattle.std.specs.Prelude.{◌++◌, length, take, Option, Result, Ok, Err, codes}
use Rattle.std.specs.Io.KnownBytes.{Appends, Consumes, IsAtEnd}
use Rattle.sv_prim.specs.Text.{AreBytes}
use Rattle.sv_base.specs.Streams.{AppendsPart}
use Rattle.sv_packet.specs.declared.event.Packet.{Packet}
use Rattle.sv_stream.specs.declared.end.End.{End}
use Rattle.sv_stream.specs.declared.seen.Seen.{Seen}
use Rattle.sv_stream.specs.Decoding.{IsSettled, StandsFor, pushed}
use Rattle.sv_stream.specs.Entries.{timed_entries}
use Rattle.sv_stream.specs.Input.{Entry}
use Rattle.sv_stream.specs.Reads.{Reads}
use Rattle.sv_timeline.specs.declared.span.Span.{Span}
use Rattle.sv_analyse.specs.Report.{report_of}
use Rattle.sv_analyse.specs.State.{AnalysisStandsFor}
use Rattle.sv_report.specs.ReportText.{count_line, text_of}
use Rattle.sv_view.specs.declared.cut.Cut.{Cut}
use Rattle.sv_view.specs.declared.cut.Cut.TheVariants as cuts
use Rattle.sv_view.specs.declared.scan.Scan.{Scan}
use Rattle.sv_view.specs.declared.views.report.Summary.{Summary}
use Rattle.sv_view.specs.Answer.{most_bytes, verdict}
use Rattle.sv_view.specs.Scan.{HasShown}

-- the line of how many bytes there are, and the report of bytes with these entries and this end
abbrev pub after_text : ℕ → List (Entry Packet) → End → List ℕ
after_text count entries end =
    count_line (codes "after ") count ++ text_of (report_of entries end)

-- the same of these bytes
pub record IsReportSoFar (bytes text : List ℕ) : Type 0 where
  pub entries : List (Entry Packet)
  pub end : End
  pub reads : Reads bytes entries end
  pub text_is : text ≡ after_text (length bytes) entries end

-- the reports after so many pieces of this size, of which the last may be shorter
abbrev pub AreReports : ℕ → List ℕ → ℕ → List ℕ → Type 0
AreReports size bytes zero text = text ≡ []
AreReports size bytes (suc pieces) text =
    (earlier : List ℕ) × (last : List ℕ) × (text ≡ earlier ++ last)
    × AreReports size bytes pieces earlier
    × IsReportSoFar (take (suc pieces * size) bytes) last

-- how many pieces there are, where more bytes stand after so many whole ones, or none
abbrev pub pieces_with : ℕ → List ℕ → ℕ
pieces_with whole [] = whole
pieces_with whole (byte ∷ bytes) = suc whole

-- all reports of the bytes that were taken, which are all there are, are written; what is told is
-- the first damage, or how they end
pub record IsTold (size : ℕ) (taken : List ℕ) (pieces : ℕ) (all : Type 0) (told : End)
    (old new : Option (List ℕ)) : Type 0 where
  pub entries : List (Entry Packet)
  pub end : End
  pub reads : Reads taken entries end
  pub through : all
  pub short : length taken ≤ most_bytes
  pub text : List ℕ
  pub reports : AreReports size taken pieces text
  pub written : Appends old new text
  pub told_is : told ≡ verdict (timed_entries entries) end

-- exactly the reports of the whole pieces before the last one are written
pub record IsToldBefore (size : ℕ) (front : List ℕ) (whole : ℕ) (old new : Option (List ℕ)) : Type
    0 where
  pub text : List ℕ
  pub reports : AreReports size front whole text
  pub written : Appends old new text

-- a part of the reports of the bytes that were taken is written
pub record IsToldPart (size : ℕ) (taken : List ℕ) (pieces : ℕ) (old new : Option (List ℕ)) : Type 0
  where
    pub text : List ℕ
    pub reports : AreReports size taken pieces text
    pub part : AppendsPart old new text

-- the answer over the bytes that were taken, of which so many whole pieces are their front: what is
-- told of them, or why they were cut
abbrev pub IsLiveAnswer : ℕ → List ℕ → List ℕ → ℕ → ℕ → Type 0 → Option (List ℕ)
    → Option (List ℕ) → Result End Cut → Type 0
IsLiveAnswer size taken front whole pieces all old new (Ok told) =
    IsTold size taken pieces all told old new
IsLiveAnswer size taken front whole pieces all old new (Err cuts.Unread) =
    (length taken < length front + size) × IsToldBefore size front whole old new
IsLiveAnswer size taken front whole pieces all old new (Err cuts.TooLong) =
    (most_bytes < length taken) × IsToldBefore size front whole old new
IsLiveAnswer size taken front whole pieces all old new (Err cuts.Unwritten) =
    IsToldPart size taken pieces old new
IsLiveAnswer size taken front whole pieces all old new (Err cuts.NoMemory) =
    IsToldPart size taken pieces old new

-- the same: the front is whole pieces, and at most one piece more was taken; `all` says that no
-- bytes are left
pub record IsToldLive (size : ℕ) (taken : List ℕ) (all : Type 0) (old new : Option (List ℕ))
    (result : Result End Cut) : Type 0 where
  pub front : List ℕ
  pub piece : List ℕ
  pub taken_is : taken ≡ front ++ piece
  pub whole : ℕ
  pub front_is : length front ≡ whole * size
  pub one : length piece ≤ size
  pub short : length front ≤ most_bytes
  pub answer : IsLiveAnswer size taken front whole (pieces_with whole piece) all old new result

-- the view of reports was shown these entries
abbrev pub HasSummed : Summary → List Seen → Type 0
HasSummed view seen =
    (view.analysis.failed ≡ false) × ((given : List Span) × AnalysisStandsFor view.analysis seen given)

-- between two pieces: the bytes so far are whole pieces, and their reports are written
pub record IsBetweenReports (size : ℕ) (left_before left out_before out : Option (List ℕ))
    (scan : Scan Summary) : Type 0 where
  pub input : List ℕ
  pub given : List Seen
  pub stands : StandsFor scan.decoder input given
  pub settled : IsSettled scan.decoder
  pub all : (entries : List (Entry Packet)) (end : End) → Reads input entries end →
      given ≡ timed_entries entries
  pub bytes : AreBytes input
  pub read : Consumes left_before left input
  pub viewed : HasShown HasSummed scan.showing given
  pub total_is : scan.total ≡ length input
  pub pushed_is : pushed scan.decoder ≡ scan.total
  pub within : scan.total ≤ most_bytes
  pub whole : ℕ
  pub pieces : length input ≡ whole * size
  pub text : List ℕ
  pub reports : AreReports size input whole text
  pub written : Appends out_before out text

-- what came of a file, whose bytes may be known
pub record IsLiveEnd (size : ℕ) (left_before left out_before out : Option (List ℕ))
    (result : Result End Cut) : Type 0 where
  pub taken : List ℕ
  pub read : Consumes left_before left taken
  pub shown : IsToldLive size taken (IsAtEnd left) out_before out result
