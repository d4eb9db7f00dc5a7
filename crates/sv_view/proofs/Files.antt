-- What a scan has made of a file.
use Rattle.std.proofs.Common.{◌≡◌, ℕ, List, Option, Result, Ok, Err, inl, inr}
use Rattle.std.specs.Prelude.{◌⊎◌}
use Rattle.std.specs.Io.KnownBytes.{IsAtEnd}
use Rattle.sv_base.specs.Streams.{AppendsPart}
use Rattle.sv_stream.specs.declared.end.End.{End}
use Rattle.sv_stream.specs.Entries.{timed_entries}
use Rattle.sv_view.specs.declared.cut.Cut.{Cut}
use Rattle.sv_view.specs.declared.cut.Cut.TheVariants as cuts
use Rattle.sv_view.specs.Answer.{IsAllShown, IsPart, IsAnswer, IsShown}
use Rattle.sv_view.specs.Files.{OfFile}
use Rattle.sv_view.specs.Scan.{IsScanEnd}
use Rattle.sv_view.specs.Text.{Text, lines_of, whole_text}
use Rattle.sv_view.proofs.Shared.{of_taken}

-- an answer stands, whatever says that no bytes are left
module _ (text : Text) (taken : List ℕ) (all every : Type 0) (old new : Option (List ℕ))
    (then : all → every) where
  whole : (told : End) → IsAllShown text taken all told old new → IsAllShown text taken every told old new
  whole told w = record {
    entries = w.entries;
    end = w.end;
    reads = w.reads;
    through = then w.through;
    short = w.short;
    written = w.written;
    told_is = w.told_is;
  }

  part : IsPart text taken all old new → IsPart text taken every old new
  part p = record { entries = p.entries; end = p.end; reads = p.reads; part = by p.part }
    where
      by : AppendsPart old new (lines_of text (timed_entries p.entries)) ⊎
          (all × AppendsPart old new (whole_text text (timed_entries p.entries) p.end))
          → AppendsPart old new (lines_of text (timed_entries p.entries)) ⊎
          (every × AppendsPart old new (whole_text text (timed_entries p.entries) p.end))
      by (inl lines) = inl lines
      by (inr (is, last)) = inr (then is, last)

  answer_then : (front : List ℕ) (result : Result End Cut)
      → IsAnswer text taken front all old new result
      → IsAnswer text taken front every old new result
  answer_then front (Ok told) a = whole told a
  answer_then front (Err cuts.Unread) a = a
  answer_then front (Err cuts.TooLong) a = a
  answer_then front (Err cuts.Unwritten) a = part a
  answer_then front (Err cuts.NoMemory) a = part a

  pub shown_then : (result : Result End Cut) → IsShown text taken all old new result
      → IsShown text taken every old new result
  shown_then result s = record
      { front = s.front; intake = s.intake; answer = answer_then s.front result s.answer }

-- what a scan has made of a file that was begun
pub of_scan : (text : Text) (held left0 left out0 out : Option (List ℕ)) (result : Result End Cut)
    → left0 ≡ held → IsScanEnd text left0 left out0 out result
    → OfFile held left (λ file taken. IsShown text taken (taken ≡ file) out0 out result)
of_scan text held left0 left out0 out result begun s =
    of_taken held left0 left s.taken
    (λ file taken. IsShown text taken (taken ≡ file) out0 out result) begun s.read
    (λ file rest front ended.
    shown_then text s.taken (IsAtEnd left) (s.taken ≡ file) out0 out ended result s.shown)
