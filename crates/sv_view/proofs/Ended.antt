-- What is written after the last entry, and what a scan then came to.
use Rattle.std.proofs.Common.{◌≡◌, ℕ, List, ◌++◌, Option, Ok, Err, sym, ap, ◌∙◌, subst, arith}
use Rattle.std.proofs.Common.{inl, inr}
use Rattle.std.specs.Io.KnownBytes.{Appends, IsAtEnd}
use Rattle.sv_base.specs.Streams.{AppendsPart}
use Rattle.sv_base.proofs.Shared.{Appends-then}
use Rattle.sv_packet.specs.declared.event.Packet.{Packet}
use Rattle.sv_stream.specs.declared.end.End.{End}
use Rattle.sv_stream.specs.declared.seen.Seen.{Seen}
use Rattle.sv_stream.specs.Decoding.{StandsFor}
use Rattle.sv_stream.specs.Entries.{timed_entries}
use Rattle.sv_stream.specs.Input.{Entry}
use Rattle.sv_stream.specs.Reads.{Reads}
use Rattle.sv_stream.proofs.Shared.{reading}
use Rattle.sv_view.specs.declared.cut.Cut.TheVariants as cuts
use Rattle.sv_view.specs.declared.scan.Scan.{Scan}
use Rattle.sv_view.specs.Answer.{or_end, verdict}
use Rattle.sv_view.specs.Scan.{IsScanned, IsScanEnd}
use Rattle.sv_view.specs.Text.{Text, lines_of, whole_text}
use Rattle.sv_view.proofs.Outcomes.{comes_to, in_part}
use Rattle.sv_view.proofs.Parts.{part_after, whole_part}

module _ {V : Type 0} (text : Text) (shown : V → List Seen → Type 0)
    (left0 out0 : Option (List ℕ)) where
  module _ (left out : Option (List ℕ)) (scan : Scan V)
      (s : IsScanned text shown left0 left out0 out scan) (ended : IsAtEnd left) where
    -- no memory for what is written after the last entry
    pub end_unmade : IsScanEnd text left0 left out0 out (Err cuts.NoMemory)
    end_unmade =
        comes_to (Err cuts.NoMemory) s.input s.front s.read s.intake
        (in_part s.input s.bytes (λ entries end reads.
        inl (subst (λ (es : List Seen). AppendsPart out0 out (lines_of text es))
        (s.all entries end reads) (whole_part out0 out (lines_of text s.given) s.written))))

    module _ (out_now : Option (List ℕ)) (lines : List ℕ) (end : End)
        (ends_so : (input : List ℕ) (given : List Seen) → StandsFor scan.decoder input given →
        (entries : List (Entry Packet)) (e : End) → Reads input entries e → end ≡ e)
        (last : (given : List Seen) → shown scan.showing.view given → lines ≡ scan.lines.items ++
        text.last given end) where
      last_is : lines ≡ text.last s.given end
      last_is = last s.given s.viewed.0 ∙ ap (λ (k : List ℕ). k ++ text.last s.given end) s.empty

      -- it is written in part
      pub end_cut : AppendsPart out out_now lines → IsScanEnd text left0 left out0 out_now
          (Err cuts.Unwritten)
      end_cut part =
          let whole : AppendsPart out0 out_now (whole_text text s.given end) = part_after out0 out
          out_now (lines_of text s.given) (text.last s.given end) s.written
          (subst (AppendsPart out out_now) last_is part) in
          comes_to (Err cuts.Unwritten) s.input s.front s.read s.intake
          (in_part s.input s.bytes (λ entries e reads. inr (
            ended,
            subst (λ (es : List Seen). AppendsPart out0 out_now (whole_text text es e))
                (s.all entries e reads)
                (subst (λ (e : End). AppendsPart out0 out_now (whole_text text s.given e))
                (ends_so s.input s.given s.stands entries e reads) whole),
          )))

      -- it is written whole
      pub end_written : Appends out out_now lines → (told : End) → told ≡ or_end scan.showing.first end
          → IsScanEnd text left0 left out0 out_now (Ok told)
      end_written written told is =
          let r = reading s.input s.bytes in
          let same : end ≡ r.1 = ends_so s.input s.given s.stands r.0 r.1 r.2 in
          let all : s.given ≡ timed_entries r.0 = s.all r.0 r.1 r.2 in
          let whole : Appends out0 out_now (whole_text text s.given end) =
          Appends-then out0 out out_now (lines_of text s.given) (text.last s.given end) s.written
          (subst (Appends out out_now) last_is written) in
          comes_to (Ok told) s.input s.front s.read s.intake
          (record {
            entries = r.0;
            end = r.1;
            reads = r.2;
            through = ended;
            short = omega (arith, s.total_is, s.within);
            written =
                subst (λ (es : List Seen). Appends out0 out_now (whole_text text es r.1)) all
                (subst (λ (e : End). Appends out0 out_now (whole_text text s.given e)) same whole);
            told_is =
                is ∙ sym (s.viewed.1 end) ∙ ap (λ (es : List Seen). verdict es end) all
                ∙ ap (verdict (timed_entries r.0)) same;
          })
