-- Reports after each piece of a recording, and what came of it.
use Rattle.std.proofs.Common.{◌≡◌, ℕ, zero, suc, ◌+◌, ◌*◌, ◌<◌, ◌≤◌, List, [], ◌∷◌, ◌++◌, length}
use Rattle.std.proofs.Common.{take, Option, Result, Ok, Err, refl, sym, ap, ◌∙◌, subst, arith}
use Rattle.std.proofs.Common.{length-append, append-nil, ◌^◌}
use Rattle.std.specs.Prelude.{codes}
use Rattle.std.proofs.lemmas.List.{length-take, take-append-le, take_all}
use Rattle.std.specs.Io.KnownBytes.{Appends, Consumes, IsAtEnd}
use Rattle.sv_prim.specs.Text.{AreBytes}
use Rattle.sv_base.specs.Streams.{AppendsPart}
use Rattle.sv_base.proofs.Shared.{Consumes-then, Appends-then}
use Rattle.sv_packet.specs.declared.event.Packet.{Packet}
use Rattle.sv_stream.specs.declared.end.End.{End}
use Rattle.sv_stream.specs.declared.seen.Seen.{Seen}
use Rattle.sv_stream.specs.Decoding.{Decoding, IsSettled, StandsFor, pushed}
use Rattle.sv_stream.specs.Entries.{timed_entries}
use Rattle.sv_stream.specs.Input.{Entry}
use Rattle.sv_stream.specs.Reads.{Reads}
use Rattle.sv_stream.proofs.Shared.{reading, bytes_both}
use Rattle.sv_analyse.specs.declared.report.Report.{Report}
use Rattle.sv_analyse.specs.Report.{report_from, report_of}
use Rattle.sv_report.specs.ReportText.{count_line, text_of}
use Rattle.sv_view.specs.declared.cut.Cut.{Cut}
use Rattle.sv_view.specs.declared.cut.Cut.TheVariants as cuts
use Rattle.sv_view.specs.declared.scan.Scan.{Scan}
use Rattle.sv_view.specs.declared.showing.Showing.{Showing}
use Rattle.sv_view.specs.declared.views.report.Summary.{Summary}
use Rattle.sv_view.specs.texts.Report.{report_text}
use Rattle.sv_view.specs.Answer.{verdict}
use Rattle.sv_view.specs.Files.{OfFile}
use Rattle.sv_view.specs.Live.{after_text, IsReportSoFar, AreReports, pieces_with, IsTold}
use Rattle.sv_view.specs.Live.{IsToldBefore, IsToldPart, IsLiveAnswer, IsToldLive}
use Rattle.sv_view.specs.Live.{HasSummed, IsBetweenReports, IsLiveEnd}
use Rattle.sv_view.specs.Scan.{HasShown, IsTaken, IsToldOf, IsUnfed}
use Rattle.sv_view.proofs.Shared.{of_taken}
use Rattle.sv_view.proofs.Begun.{nothing_read, consumes_none}
use Rattle.sv_view.proofs.Parts.{nothing, part_after, part_front}

-- bytes have a report
report_so_far : (bytes : List ℕ) → AreBytes bytes → (text : List ℕ) × IsReportSoFar bytes text
report_so_far bytes are =
    let r = reading bytes are in (
      after_text (length bytes) r.0 r.1,
      record { entries = r.0; end = r.1; reads = r.2; text_is = refl },
    )

pieces-some : (whole : ℕ) (piece : List ℕ) → 0 < length piece → pieces_with whole piece ≡ suc whole
pieces-some whole [] some =
    let no : ⊥ = omega (arith, some) in absurd no
pieces-some whole (byte ∷ piece) some = refl

pieces-none : (whole : ℕ) (piece : List ℕ) → length piece ≡ 0 → pieces_with whole piece ≡ whole
pieces-none whole [] none = refl
pieces-none whole (byte ∷ piece) none = absurd cc

no_bytes : (piece : List ℕ) → length piece ≡ 0 → piece ≡ []
no_bytes [] none = refl
no_bytes (byte ∷ piece) none = absurd cc

module _ (size : ℕ) where
  -- the reports so far stay as bytes come
  reports_grow : (bytes more : List ℕ) (pieces : ℕ) (text : List ℕ) → pieces * size ≤ length bytes
      → AreReports size bytes pieces text → AreReports size (bytes ++ more) pieces text
  reports_grow bytes more zero text few r = r
  reports_grow bytes more (suc n) text few (earlier, last, is, before, now) =
      let fewer : n * size ≤ length bytes = omega (arith, few) in (
        earlier,
        last,
        is,
        reports_grow bytes more n earlier fewer before,
        subst (λ (bs : List ℕ). IsReportSoFar bs last)
            (sym (take-append-le (suc n * size) bytes more few)) now,
      )

  one_report_more : (bytes piece : List ℕ) (whole : ℕ) (text last : List ℕ)
      → length bytes ≡ whole * size → length piece ≤ size → AreReports size bytes whole text
      → IsReportSoFar (bytes ++ piece) last
      → AreReports size (bytes ++ piece) (suc whole) (text ++ last)
  one_report_more bytes piece whole text last is few r now =
      let all : length (bytes ++ piece) ≤ suc whole * size =
      omega (arith, is, few, length-append bytes piece) in (
        text,
        last,
        refl,
        reports_grow bytes piece whole text (omega (arith, is)) r,
        subst (λ (bs : List ℕ). IsReportSoFar bs last)
            (sym (take_all (suc whole * size) (bytes ++ piece) all)) now,
      )

  all_reports : (bytes piece : List ℕ) (whole : ℕ) (text : List ℕ)
      → length bytes ≡ whole * size → length piece ≤ size → AreBytes (bytes ++ piece)
      → AreReports size bytes whole text
      → (more : List ℕ) × AreReports size (bytes ++ piece) (pieces_with whole piece) (text ++ more)
  all_reports bytes [] whole text is few are r = (
    [],
    subst (λ (bs : List ℕ). AreReports size bs whole (text ++ [])) (sym (append-nil bytes))
        (subst (AreReports size bytes whole) (sym (append-nil text)) r),
  )
  all_reports bytes (byte ∷ piece) whole text is few are r =
      let so_far = report_so_far (bytes ++ byte ∷ piece) are in
      (so_far.0, one_report_more bytes (byte ∷ piece) whole text so_far.0 is few r so_far.1)

  -- before the first piece
  pub between-nothing : (left out : Option (List ℕ))
      (scan : Scan Summary) → StandsFor scan.decoder [] [] → IsSettled scan.decoder
      → HasShown HasSummed scan.showing [] → scan.total ≡ 0
      → IsBetweenReports size left left out out scan
  between-nothing left out scan stands settled viewed total = record {
    input = [];
    given = [];
    stands = stands;
    settled = settled;
    all = nothing_read;
    bytes = tt;
    read = consumes_none left;
    viewed = viewed;
    total_is = total;
    pushed_is = omega (arith, stands.all, total);
    within = omega (arith, total);
    whole = 0;
    pieces = omega arith;
    text = [];
    reports = refl;
    written = nothing out;
  }

  -- a source that could not begin the file has taken nothing of it
  pub nothing_told : (file : List ℕ) (out : Option (List ℕ)) → 1 ≤ size
      → IsToldLive size [] ([] ≡ file) out out (Err cuts.Unread)
  nothing_told file out some = record {
    front = [];
    piece = [];
    taken_is = refl;
    whole = 0;
    front_is = omega arith;
    one = omega arith;
    short = omega arith;
    answer = (omega (arith, some), record { text = []; reports = refl; written = nothing out });
  }

  module _ (left0 out0 left out : Option (List ℕ)) (scan : Scan Summary)
      (b : IsBetweenReports size left0 left out0 out scan) where
    -- it took one piece more, and answers so
    comes_to : (left_now out_now : Option (List ℕ)) (result : Result End Cut) (piece : List ℕ)
        → length piece ≤ size → Consumes left left_now piece
        → IsLiveAnswer size (b.input ++ piece) b.input b.whole (pieces_with b.whole piece)
        (IsAtEnd left_now) out0 out_now result
        → IsLiveEnd size left0 left_now out0 out_now result
    comes_to left_now out_now result piece few read answer = record {
      taken = b.input ++ piece;
      read = Consumes-then left0 left left_now b.input piece b.read read;
      shown = record {
        front = b.input;
        piece = piece;
        taken_is = refl;
        whole = b.whole;
        front_is = b.pieces;
        one = few;
        short = omega (arith, b.total_is, b.within);
        answer = answer;
      };
    }

    told_before : IsToldBefore size b.input b.whole out0 out
    told_before = record { text = b.text; reports = b.reports; written = b.written }

    part_of : (piece : List ℕ) → length piece ≤ size → AreBytes (b.input ++ piece)
        → IsToldPart size (b.input ++ piece) (pieces_with b.whole piece) out0 out
    part_of piece few are =
        let all = all_reports b.input piece b.whole b.text b.pieces few are b.reports in
        record {
          text = b.text ++ all.0;
          reports = all.1;
          part = part_front out0 out b.text all.0 b.written;
        }

    pub live_unfed : (left_now : Option (List ℕ)) (cut : Cut)
        → IsUnfed size left left_now scan.total cut
        → IsLiveEnd size left0 left_now out0 out (Err cut)
    live_unfed left_now cuts.Unread (bytes, read, fewer) =
        comes_to left_now out (Err cuts.Unread) bytes (omega (arith, fewer)) read
        (omega (arith, length-append b.input bytes, fewer), told_before)
    live_unfed left_now cuts.TooLong (lost, more) =
        comes_to left_now out (Err cuts.TooLong) lost.piece lost.one lost.read (
          omega (arith, more, b.total_is, length-append b.input lost.piece),
          told_before,
        )
    live_unfed left_now cuts.NoMemory lost =
        comes_to left_now out (Err cuts.NoMemory) lost.piece lost.one lost.read
        (part_of lost.piece lost.one (bytes_both b.input lost.piece b.bytes lost.bytes))
    live_unfed left_now cuts.Unwritten unfed = absurd unfed

    module _ (left_now : Option (List ℕ)) (mid : Scan Summary) (count : ℕ) (buf : List ℕ)
        (is_size : length buf ≡ size) (t : IsTaken report_text HasSummed left left_now scan mid count buf) where
      abbrev piece : List ℕ
      piece = take count buf

      count_is : length piece ≡ count
      count_is = omega (arith, length-take count buf, t.fed.few)

      one : length piece ≤ size
      one = omega (arith, count_is, t.fed.few, is_size)

      abbrev input_now : List ℕ
      input_now = b.input ++ piece

      abbrev given_now : List Seen
      given_now = b.given ++ t.entries

      bytes_now : AreBytes input_now
      bytes_now = bytes_both b.input piece b.bytes t.fed.bytes

      total_now : mid.total ≡ length input_now
      total_now = omega (arith, t.total_is, b.total_is, count_is, length-append b.input piece)

      within_now : length input_now ≤ 2 ^ 33
      within_now = omega (arith, t.fed.within, b.total_is, count_is, length-append b.input piece)

      stands_mid : StandsFor t.mid input_now b.given
      stands_mid = t.fed.stands b.input b.given b.stands

      pub stands_now : StandsFor mid.decoder input_now given_now
      stands_now = t.given.stands input_now b.given stands_mid

      pub viewed_now : HasShown HasSummed mid.showing given_now
      viewed_now = t.showed.took b.given b.viewed

      pub all_now : (entries : List (Entry Packet)) (end : End) → Reads input_now entries end
          → given_now ≡ timed_entries entries
      all_now = t.drained.all input_now b.given stands_mid

      -- no byte came
      pub live_over : count ≡ 0 → 0 < size → (told : End)
          → ((input : List ℕ) (given : List Seen) → StandsFor mid.decoder input given
          → HasShown HasSummed mid.showing given → IsToldOf input told)
          → IsLiveEnd size left0 left_now out0 out (Ok told)
      live_over none some told tells =
          let r = reading input_now bytes_now in
          let no : length piece ≡ 0 = count_is ∙ none in
          let same : b.input ≡ input_now =
          sym (ap (λ (p : List ℕ). b.input ++ p) (no_bytes piece no) ∙ append-nil b.input) in
          comes_to left_now out (Ok told) piece one t.fed.read
          (record {
            entries = r.0;
            end = r.1;
            reads = r.2;
            through = t.fed.ended (omega (arith, none, some, is_size));
            short = within_now;
            text = b.text;
            reports =
                subst (λ (n : ℕ). AreReports size input_now n b.text)
                (sym (pieces-none b.whole piece no))
                (subst (λ (bs : List ℕ). AreReports size bs b.whole b.text) same b.reports);
            written = b.written;
            told_is = tells input_now given_now stands_now viewed_now r.0 r.1 r.2;
          })

      module _ (some : 0 < count) where
        pieces_now : pieces_with b.whole piece ≡ suc b.whole
        pieces_now = pieces-some b.whole piece (omega (arith, count_is, some))

        reports_now : (entries : List (Entry Packet)) (end : End) → Reads input_now entries end
            → AreReports size input_now (suc b.whole) (b.text ++ after_text mid.total entries end)
        reports_now entries end reads =
            one_report_more b.input piece b.whole b.text (after_text mid.total entries end) b.pieces
            one b.reports
            (record {
              entries = entries;
              end = end;
              reads = reads;
              text_is = ap (λ (n : ℕ). after_text n entries end) total_now;
            })

        -- a part of the report of the piece is written
        pub live_part : (out_now : Option (List ℕ))
            → ((input : List ℕ) (given : List Seen) → StandsFor mid.decoder input given
            → HasShown HasSummed mid.showing given → (entries : List (Entry Packet)) (end : End)
            → Reads input entries end → given ≡ timed_entries entries
            → AppendsPart out out_now (after_text mid.total entries end))
            → IsLiveEnd size left0 left_now out0 out_now (Err cuts.Unwritten)
        live_part out_now told =
            let r = reading input_now bytes_now in
            let text : List ℕ = b.text ++ after_text mid.total r.0 r.1 in
            comes_to left_now out_now (Err cuts.Unwritten) piece one t.fed.read
            (record {
              text = text;
              reports =
                  subst (λ (n : ℕ). AreReports size input_now n text) (sym pieces_now)
                  (reports_now r.0 r.1 r.2);
              part =
                  part_after out0 out out_now b.text (after_text mid.total r.0 r.1) b.written
                  (told input_now given_now stands_now viewed_now r.0 r.1 r.2
                  (all_now r.0 r.1 r.2));
            })

        -- there is no memory for it
        pub live_unmade : (out_now : Option (List ℕ)) → out_now ≡ out
            → IsLiveEnd size left0 left_now out0 out_now (Err cuts.NoMemory)
        live_unmade out_now same =
            subst (λ (o : Option (List ℕ)). IsLiveEnd size left0 left_now out0 o
            (Err cuts.NoMemory)) (sym same)
            (comes_to left_now out (Err cuts.NoMemory) piece one t.fed.read
            (part_of piece one bytes_now))

        module _ (out_now : Option (List ℕ)) (later : Scan Summary)
            (decoder : later.decoder ≡ mid.decoder) (showing : later.showing ≡ mid.showing)
            (told_of : (input : List ℕ) (given : List Seen) → StandsFor mid.decoder input given
            → HasShown HasSummed mid.showing given → (entries : List (Entry Packet)) (end : End)
            → Reads input entries end → given ≡ timed_entries entries
            → Appends out out_now (after_text mid.total entries end)) where
          told_now : (entries : List (Entry Packet)) (e : End) → Reads input_now entries e
              → Appends out out_now (after_text mid.total entries e)
          told_now entries e reads =
              told_of input_now given_now stands_now viewed_now entries e reads
              (all_now entries e reads)

          stands_later : StandsFor later.decoder input_now given_now
          stands_later =
              subst (λ (d : Decoding). StandsFor d input_now given_now) (sym decoder) stands_now

          viewed_later : HasShown HasSummed later.showing given_now
          viewed_later =
              subst (λ (v : Showing Summary). HasShown HasSummed v given_now) (sym showing)
              viewed_now

          -- the last report is written
          pub live_ended : count < size → (told : End)
              → ((input : List ℕ) (given : List Seen) → StandsFor later.decoder input given
              → HasShown HasSummed later.showing given → IsToldOf input told)
              → IsLiveEnd size left0 left_now out0 out_now (Ok told)
          live_ended fewer told tells =
              let r = reading input_now bytes_now in
              let text : List ℕ = b.text ++ after_text mid.total r.0 r.1 in
              comes_to left_now out_now (Ok told) piece one t.fed.read
              (record {
                entries = r.0;
                end = r.1;
                reads = r.2;
                through = t.fed.ended (omega (arith, fewer, is_size));
                short = within_now;
                text = text;
                reports =
                    subst (λ (n : ℕ). AreReports size input_now n text) (sym pieces_now)
                    (reports_now r.0 r.1 r.2);
                written = Appends-then out0 out out_now b.text (after_text mid.total r.0 r.1)
                    b.written (told_now r.0 r.1 r.2);
                told_is = tells input_now given_now stands_later viewed_later r.0 r.1 r.2;
              })

          -- and more bytes may come
          pub live_between : later.total ≡ mid.total → size ≤ count
              → IsBetweenReports size left0 left_now out0 out_now later
          live_between total full =
              let r = reading input_now bytes_now in
              record {
                input = input_now;
                given = given_now;
                stands = stands_later;
                settled = subst IsSettled (sym decoder) t.drained.settled;
                all = all_now;
                viewed = viewed_later;
                pushed_is = omega (
                  arith,
                  ap pushed decoder,
                  t.given.pushed_same,
                  t.fed.pushed_more,
                  b.pushed_is,
                  total,
                  t.total_is,
                );
                total_is = total ∙ total_now;
                within = omega (arith, total, total_now, within_now);
                bytes = bytes_now;
                read = Consumes-then left0 left left_now b.input piece b.read t.fed.read;
                whole = suc b.whole;
                pieces = omega (
                  arith,
                  b.pieces,
                  length-append b.input piece,
                  count_is,
                  t.fed.few,
                  is_size,
                  full,
                );
                text = b.text ++ after_text mid.total r.0 r.1;
                reports = reports_now r.0 r.1 r.2;
                written = Appends-then out0 out out_now b.text (after_text mid.total r.0 r.1)
                    b.written (told_now r.0 r.1 r.2);
              }

-- an answer stands, whatever says that no bytes are left
module _ (size : ℕ) (taken : List ℕ) (all every : Type 0) (old new : Option (List ℕ))
    (then : all → every) where
  told_then : (pieces : ℕ) (told : End) → IsTold size taken pieces all told old new
      → IsTold size taken pieces every told old new
  told_then pieces told t = record {
    entries = t.entries;
    end = t.end;
    reads = t.reads;
    through = then t.through;
    short = t.short;
    text = t.text;
    reports = t.reports;
    written = t.written;
    told_is = t.told_is;
  }

  answer_then : (front : List ℕ) (whole pieces : ℕ) (result : Result End Cut)
      → IsLiveAnswer size taken front whole pieces all old new result
      → IsLiveAnswer size taken front whole pieces every old new result
  answer_then front whole pieces (Ok told) a = told_then pieces told a
  answer_then front whole pieces (Err cuts.Unread) a = a
  answer_then front whole pieces (Err cuts.TooLong) a = a
  answer_then front whole pieces (Err cuts.Unwritten) a = a
  answer_then front whole pieces (Err cuts.NoMemory) a = a

  pub live_then : (result : Result End Cut) → IsToldLive size taken all old new result
      → IsToldLive size taken every old new result
  live_then result l = record {
    front = l.front;
    piece = l.piece;
    taken_is = l.taken_is;
    whole = l.whole;
    front_is = l.front_is;
    one = l.one;
    short = l.short;
    answer = answer_then l.front l.whole (pieces_with l.whole l.piece) result l.answer;
  }

-- what came of a file that was begun
pub of_live : (size : ℕ) (held left0 left out0 out : Option (List ℕ)) (result : Result End Cut)
    → left0 ≡ held → IsLiveEnd size left0 left out0 out result
    → OfFile held left (λ file taken. IsToldLive size taken (taken ≡ file) out0 out result)
of_live size held left0 left out0 out result begun l =
    of_taken held left0 left l.taken
    (λ file taken. IsToldLive size taken (taken ≡ file) out0 out result) begun l.read
    (λ file rest front ended.
    live_then size l.taken (IsAtEnd left) (l.taken ≡ file) out0 out ended result l.shown)

-- the text that is written of a piece
pub line_is : (bytes lines before : List ℕ) (total : ℕ) (report : Report) (seen : List Seen)
    (entries : List (Entry Packet)) (ended end : End)
    → bytes ≡ lines → lines ≡ before ++ (count_line (codes "after ") total ++ text_of report)
    → before ≡ [] → report ≡ report_from seen ended → seen ≡ timed_entries entries → ended ≡ end
    → bytes ≡ after_text total entries end
line_is bytes lines before total report seen entries ended end same are none is all so =
    same ∙ are
    ∙ ap (λ (k : List ℕ). k ++ (count_line (codes "after ") total ++ text_of report)) none
    ∙ ap (λ (r : Report). count_line (codes "after ") total ++ text_of r)
    (is ∙ ap (λ (es : List Seen). report_from es ended) all
    ∙ ap (report_from (timed_entries entries)) so)

pub positive : (n : ℕ) → (n ≡ 0 → ⊥) → 0 < n
positive zero some = absurd (some refl)
positive (suc n) some = omega arith

-- why no report was written
pub by_cut : (P : Cut → Type 0) (cut : Cut)
    → (cut ≡ cuts.Unread → ⊥) × (cut ≡ cuts.TooLong → ⊥)
    → (cut ≡ cuts.Unwritten → P cuts.Unwritten) → (cut ≡ cuts.NoMemory → P cuts.NoMemory) → P cut
by_cut P cuts.Unread none written made = absurd (none.0 refl)
by_cut P cuts.TooLong none written made = absurd (none.1 refl)
by_cut P cuts.Unwritten none written made = written refl
by_cut P cuts.NoMemory none written made = made refl
