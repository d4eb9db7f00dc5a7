-- One piece of a recording more, and what came of it.
use Rattle.std.proofs.Common.{◌≡◌, ℕ, ◌+◌, ◌*◌, ◌<◌, ◌≤◌, List, [], ◌++◌, length}
use Rattle.std.proofs.Common.{take, Option, Err, refl, sym, ap, ◌∙◌, subst, arith, length-append}
use Rattle.std.proofs.Common.{inl}
use Rattle.std.proofs.lemmas.List.{length-take}
use Rattle.std.specs.Io.KnownBytes.{Appends, Consumes, IsAtEnd}
use Rattle.sv_prim.specs.Text.{AreBytes}
use Rattle.sv_base.specs.Streams.{AppendsPart, ConsumesFewer}
use Rattle.sv_base.proofs.Shared.{Consumes-then, Appends-then}
use Rattle.sv_packet.specs.declared.event.Packet.{Packet}
use Rattle.sv_stream.specs.declared.end.End.{End}
use Rattle.sv_stream.specs.declared.seen.Seen.{Seen}
use Rattle.sv_stream.specs.Decoding.{Decoding, StandsFor, IsSettled, pushed}
use Rattle.sv_stream.specs.Entries.{timed_entries}
use Rattle.sv_stream.specs.Input.{Entry}
use Rattle.sv_stream.specs.Reads.{Reads}
use Rattle.sv_stream.proofs.Shared.{reading, seen_grown, bytes_both}
use Rattle.sv_view.specs.declared.cut.Cut.{Cut}
use Rattle.sv_view.specs.declared.cut.Cut.TheVariants as cuts
use Rattle.sv_view.specs.declared.scan.Scan.{Scan}
use Rattle.sv_view.specs.declared.showing.Showing.{Showing}
use Rattle.sv_view.specs.Answer.{piece_size, most_bytes, IsIntake, IsCutOff}
use Rattle.sv_view.specs.Scan.{HasShown, IsLost, IsUnfed, IsTaken, IsScanned, IsBetween}
use Rattle.sv_view.specs.Scan.{IsScanEnd}
use Rattle.sv_view.specs.Text.{Text, lines_of}
use Rattle.sv_view.proofs.Lines.{part_of_lines}
use Rattle.sv_view.proofs.Outcomes.{comes_to, in_part}
use Rattle.sv_view.proofs.Parts.{part_after, whole_part}

module _ {V : Type 0} (text : Text) (shown : V → List Seen → Type 0)
    (left0 out0 : Option (List ℕ)) where
  -- BETWEEN TWO PIECES

  module _ (left out : Option (List ℕ)) (scan : Scan V)
      (b : IsBetween text shown left0 left out0 out scan) where
    abbrev input : List ℕ
    input = b.scanned.input

    input_is : scan.total ≡ length input
    input_is = b.scanned.total_is

    -- what is written so far is the lines of the input
    cut_off : IsCutOff text input out0 out
    cut_off =
        let r = reading input b.scanned.bytes in
        record {
          entries = r.0;
          end = r.1;
          reads = r.2;
          written = subst (λ (es : List Seen). Appends out0 out (lines_of text es))
              (b.scanned.all r.0 r.1 r.2) b.scanned.written;
        }

    -- one piece more is taken
    pub one_more : (piece : List ℕ) → length piece ≤ piece_size → IsIntake (input ++ piece) input
    one_more piece few = record {
      piece = piece;
      taken_is = refl;
      pieces = b.pieces;
      front_is = b.whole;
      one = few;
      short = omega (arith, input_is, b.scanned.within);
    }

    -- one piece more is read
    read_more : (left_now : Option (List ℕ)) (piece : List ℕ) → Consumes left left_now piece
        → Consumes left0 left_now (input ++ piece)
    read_more left_now piece = Consumes-then left0 left left_now input piece b.scanned.read

    -- what is written so far is a part of the lines of entries that begin with those given
    given_part : (seen more : List Seen) → seen ≡ b.scanned.given ++ more
        → AppendsPart out0 out (lines_of text seen)
    given_part seen more is = part_of_lines text out0 out b.scanned.given more seen is
        (whole_part out0 out (lines_of text b.scanned.given) b.scanned.written)

    -- the source has failed in the middle of a piece
    cut_unread : (left_now : Option (List ℕ)) → ConsumesFewer left left_now piece_size → IsScanEnd
        text left0 left_now out0 out (Err cuts.Unread)
    cut_unread left_now (bytes, read, fewer) =
        comes_to (Err cuts.Unread) (input ++ bytes) input (read_more left_now bytes read)
        (one_more bytes (omega (arith, fewer)))
        (omega (arith, length-append input bytes, fewer), cut_off)

    -- more bytes came than are taken
    cut_long : (left_now : Option (List ℕ)) (lost : IsLost piece_size left left_now) → most_bytes < scan.total
        + length lost.piece → IsScanEnd text left0 left_now out0 out (Err cuts.TooLong)
    cut_long left_now lost more =
        comes_to (Err cuts.TooLong) (input ++ lost.piece) input
        (read_more left_now lost.piece lost.read) (one_more lost.piece lost.one) (
          omega (arith, more, input_is, b.whole, b.scanned.within, lost.one),
          omega (arith, more, input_is, length-append input lost.piece),
          cut_off,
        )

    -- there is no memory for a piece, or for what is made of it
    cut_full : (left_now : Option (List ℕ)) → IsLost piece_size left left_now → IsScanEnd text left0 left_now
        out0 out (Err cuts.NoMemory)
    cut_full left_now lost =
        let r = reading input b.scanned.bytes in
        comes_to (Err cuts.NoMemory) (input ++ lost.piece) input
        (read_more left_now lost.piece lost.read) (one_more lost.piece lost.one)
        (in_part (input ++ lost.piece) (bytes_both input lost.piece b.scanned.bytes lost.bytes)
        (λ entries end reads.
        let grown = seen_grown input lost.piece r.0 entries r.1 end r.2 reads in
        inl (given_part (timed_entries entries) grown.0
        (grown.1 ∙ ap (λ (es : List Seen). es ++ grown.0)
        (sym (b.scanned.all r.0 r.1 r.2))))))

    pub cut_untaken : (left_now : Option (List ℕ)) (cut : Cut) → IsUnfed piece_size left left_now scan.total cut
        → IsScanEnd text left0 left_now out0 out (Err cut)
    cut_untaken left_now cuts.Unread unfed = cut_unread left_now unfed
    cut_untaken left_now cuts.TooLong unfed = cut_long left_now unfed.0 unfed.1
    cut_untaken left_now cuts.NoMemory unfed = cut_full left_now unfed
    cut_untaken left_now cuts.Unwritten unfed = absurd unfed

    -- A PIECE MORE

    module _ (left_now : Option (List ℕ)) (mid : Scan V) (count : ℕ) (buf : List ℕ)
        (size : length buf ≡ piece_size)
        (t : IsTaken text shown left left_now scan mid count buf) where
      count_is : length (take count buf) ≡ count
      count_is = omega (arith, length-take count buf, t.fed.few)

      abbrev input_now : List ℕ
      input_now = input ++ take count buf

      bytes_now : AreBytes input_now
      bytes_now = bytes_both input (take count buf) b.scanned.bytes t.fed.bytes

      stands_mid : StandsFor t.mid input_now b.scanned.given
      stands_mid = t.fed.stands input b.scanned.given b.scanned.stands

      read_now : Consumes left0 left_now input_now
      read_now = read_more left_now (take count buf) t.fed.read

      total_now : scan.total + count ≡ length input_now
      total_now = omega (arith, input_is, length-append input (take count buf), count_is)

      intake_now : IsIntake input_now input
      intake_now = one_more (take count buf) (omega (arith, count_is, t.fed.few, size))

      abbrev given_now : List Seen
      given_now = b.scanned.given ++ t.entries

      all_lines : lines_of text given_now ≡ lines_of text b.scanned.given ++ mid.lines.items
      all_lines =
          let more = t.showed.items b.scanned.given b.scanned.viewed in
          more.2 ∙ ap (λ (k : List ℕ). lines_of text b.scanned.given ++ k)
          (sym (more.1 ∙ ap (λ (k : List ℕ). k ++ more.0) b.scanned.empty))

      all_now : (entries : List (Entry Packet)) (end : End) → Reads input_now entries end →
          given_now ≡ timed_entries entries
      all_now entries end reads = t.drained.all input_now b.scanned.given stands_mid entries end
          reads

      -- the lines of the piece are written in part
      pub cut_lines : (out_now : Option (List ℕ)) → AppendsPart out out_now mid.lines.items
          → IsScanEnd text left0 left_now out0 out_now (Err cuts.Unwritten)
      cut_lines out_now part =
          let whole : AppendsPart out0 out_now (lines_of text given_now) =
          subst (AppendsPart out0 out_now) (sym all_lines)
          (part_after out0 out out_now (lines_of text b.scanned.given) mid.lines.items
          b.scanned.written part) in
          comes_to (Err cuts.Unwritten) input_now input read_now intake_now
          (in_part input_now bytes_now (λ entries end reads.
          inl (subst (λ (es : List Seen). AppendsPart out0 out_now (lines_of text es))
          (all_now entries end reads) whole)))

      pub ended_now : count < piece_size → IsAtEnd left_now
      ended_now fewer = t.fed.ended (omega (arith, fewer, size))

      -- the lines of the piece are written
      module _ (out_now : Option (List ℕ)) (later : Scan V)
          (written : Appends out out_now mid.lines.items)
          (decoder : later.decoder ≡ mid.decoder) (view : later.showing ≡ mid.showing)
          (empty : later.lines.items ≡ []) (total_is : later.total ≡ mid.total) where
        pub scanned_now : IsScanned text shown left0 left_now out0 out_now later
        scanned_now = record {
          input = input_now;
          front = input;
          intake = intake_now;
          given = given_now;
          stands = subst (λ (d : Decoding). StandsFor d input_now given_now) (sym decoder)
              (t.given.stands input_now b.scanned.given stands_mid);
          settled = subst IsSettled (sym decoder) t.drained.settled;
          all = all_now;
          bytes = bytes_now;
          read = read_now;
          written = subst (Appends out0 out_now) (sym all_lines)
              (Appends-then out0 out out_now (lines_of text b.scanned.given) mid.lines.items
              b.scanned.written written);
          viewed = subst (λ (v : Showing V). HasShown shown v given_now) (sym view)
              (t.showed.took b.scanned.given b.scanned.viewed);
          total_is = total_is ∙ t.total_is ∙ total_now;
          pushed_is = omega (
            arith,
            ap pushed decoder,
            t.given.pushed_same,
            t.fed.pushed_more,
            b.scanned.pushed_is,
            total_is,
            t.total_is,
          );
          within = omega (arith, total_is, t.total_is, t.fed.within);
          empty = empty;
        }

        pub between_now : piece_size ≤ count → IsBetween text shown left0 left_now out0 out_now later
        unfolding scanned_now
        between_now full =
            let whole : length input_now ≡ (b.pieces + 1) * piece_size =
            omega (arith, total_now, input_is, b.whole, full, t.fed.few, size) in
            record { scanned = scanned_now; pieces = b.pieces + 1; whole = whole }
