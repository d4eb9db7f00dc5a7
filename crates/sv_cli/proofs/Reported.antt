-- The report of the bytes that a run has sent.
use Rattle.std.proofs.Common.{◌≡◌, Bool, true, false, List, [], ℕ, Result, Ok, Err, map}
use Rattle.std.proofs.Common.{refl, sym, ap, ◌∙◌, subst, inl, inr}
use Rattle.std.specs.Prelude.{◌⊎◌, IfOk}
use Rattle.sv_prim.specs.Text.{AreBytes}
use Rattle.sv_packet.specs.declared.event.Packet.{Packet}
use Rattle.sv_stream.specs.declared.end.End.{End}
use Rattle.sv_stream.specs.declared.end.End.TheVariants as ends
use Rattle.sv_stream.specs.Input.{Entry, Whole}
use Rattle.sv_stream.specs.Reads.{Reads}
use Rattle.sv_stream.proofs.Shared.{reading}
use Rattle.sv_analyse.specs.declared.report.Report.{Report}
use Rattle.sv_analyse.specs.Report.{report_of}
use Rattle.sv_load.specs.Load.{Load}
use Rattle.sv_journal.specs.declared.journal.Item.{Item}
use Rattle.sv_journal.specs.Stream.{stream_of}
use Rattle.sv_sent.specs.Sent.{sent_packets}
use Rattle.sv_sent.specs.Start.{has_start}
use Rattle.sv_cli.specs.Recorded.{sent_end, IsReportText}

report_made : (text : Report → List ℕ) (load : Load) (items : List Item) (bytes made : List ℕ)
    → bytes ≡ stream_of load items → AreBytes bytes
    → ((entries : List (Entry Packet)) (end : End) → Reads bytes entries end
    → (entries ≡ map Whole (sent_packets load items)) × (end ≡ sent_end (has_start load items)))
    → ((entries : List (Entry Packet)) (end : End) → Reads bytes entries end
    → made ≡ text (report_of entries end))
    → IsReportText text load items made
report_made text load items bytes made sent are ends reports =
    let r = reading bytes are in
    let is = ends r.0 r.1 r.2 in
    let packets : List Packet = sent_packets load items in
    let started : End = sent_end (has_start load items) in
    record {
      packets = packets;
      reads =
          subst (λ (es : List (Entry Packet)). Reads (stream_of load items) es started) is.0
          (subst (λ (e : End). Reads (stream_of load items) r.0 e) is.1
          (subst (λ (bs : List ℕ). Reads bs r.0 r.1) sent r.2));
      made_is =
          reports r.0 r.1 r.2 ∙ ap (λ (es : List (Entry Packet)). text (report_of es r.1)) is.0
          ∙ ap (λ (e : End). text (report_of (map Whole packets) e)) is.1;
    }

-- the same, of the slices that were handed on and the report whose text was written
pub report_of_run : (text : Report → List ℕ) (load : Load) (items : List Item)
    (bytes slice : List ℕ) (report : Report) (lines made : List ℕ)
    → slice ≡ bytes → bytes ≡ stream_of load items → AreBytes slice
    → ((entries : List (Entry Packet)) (end : End) → Reads bytes entries end
    → (entries ≡ map Whole (sent_packets load items)) × (end ≡ sent_end (has_start load items)))
    → ((entries : List (Entry Packet)) (end : End) → Reads slice entries end
    → report ≡ report_of entries end)
    → lines ≡ text report → made ≡ lines → IsReportText text load items made
report_of_run text load items bytes slice report lines made same sent are ends reports told is =
    report_made text load items slice made (same ∙ sent) are
    (λ entries end reads.
    ends entries end (subst (λ (bs : List ℕ). Reads bs entries end) same reads))
    (λ entries end reads. is ∙ told ∙ ap text (reports entries end reads))

-- how a journal's bytes end
pub ends_so : (started : Bool) (end : End)
    → ((started ≡ true) × (end ≡ ends.Clean)) ⊎ ((started ≡ false) × (end ≡ ends.NoSync))
    → end ≡ sent_end started
ends_so started end (inl (is, so)) = so ∙ ap sent_end (sym is)
ends_so started end (inr (is, so)) = so ∙ ap sent_end (sym is)

-- what a fact of an Ok gives
pub then_if : {A E : Type 0} {P Q : A → Type 0} (r : Result A E) → IfOk r P
    → ((x : A) → P x → Q x) → IfOk r Q
then_if (Ok value) p f = f value p
then_if (Err e) p f = tt

module _ (load : Load) (items : List Item)
    (clean : has_start load items ≡ true
    → Reads (stream_of load items) (map Whole (sent_packets load items)) ends.Clean)
    (silent : has_start load items ≡ false → stream_of load items ≡ [])
    (alone : (entries : List (Entry Packet)) (end : End) → Reads (stream_of load items) entries end
    → entries ≡ map Whole (sent_packets load items))
    (end_is : (entries : List (Entry Packet)) (end : End) → Reads (stream_of load items) entries end
    → ((has_start load items ≡ true) × (end ≡ ends.Clean))
    ⊎ ((has_start load items ≡ false) × (end ≡ ends.NoSync))) where
  abbrev packets : List (Entry Packet)
  packets = map Whole (sent_packets load items)

  -- the stream of a journal reads, with a start or without
  stream_reads : (started : Bool) → has_start load items ≡ started
      → Reads (stream_of load items) packets (sent_end started)
  stream_reads true is = clean is
  stream_reads false is =
      let r = reading [] tt in
      let reads = subst (λ (bs : List ℕ). Reads bs r.0 r.1) (sym (silent is)) r.2 in
      let end = ends_so (has_start load items) r.1 (end_is r.0 r.1 reads) ∙ ap sent_end is in
      subst (λ (es : List (Entry Packet)). Reads (stream_of load items) es ends.NoSync)
      (alone r.0 r.1 reads) (subst (λ (e : End). Reads (stream_of load items) r.0 e) end reads)

  -- the text of a report of it is written
  pub report_of_stream : (text : Report → List ℕ) (report : Report) (lines : List ℕ)
      → ((entries : List (Entry Packet)) (end : End) → Reads (stream_of load items) entries end
      → report ≡ report_of entries end)
      → lines ≡ text report → IsReportText text load items lines
  report_of_stream text report lines reports told =
      let started = has_start load items in
      let reads = stream_reads started refl in
      record {
        packets = sent_packets load items;
        reads = reads;
        made_is = told ∙ ap text (reports packets (sent_end started) reads);
      }
