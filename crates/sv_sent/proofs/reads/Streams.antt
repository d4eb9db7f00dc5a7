-- What a journal's stream is read as: of whatever entries and end.
use Rattle.std.proofs.Common.{◌≡◌, ℕ, Bool, true, false, List, [], ◌∷◌, refl, sym, subst, ◌∙◌, ◌⊎◌, inl}
use Rattle.std.proofs.Common.{inr, map, ap}
use Rattle.sv_packet.specs.declared.event.Packet.{Packet}
use Rattle.sv_packet.specs.Time.{timed}
use Rattle.sv_stream.specs.declared.end.End.{End}
use Rattle.sv_stream.specs.declared.end.End.TheVariants.{Clean, NoSync}
use Rattle.sv_stream.specs.Entries.{packets_of}
use Rattle.sv_stream.specs.Input.{Entry, Whole}
use Rattle.sv_stream.specs.Reads.{Reads}
use Rattle.sv_stream.proofs.Shared.{one_reading}
use Rattle.sv_load.specs.Load.{Load}
use Rattle.sv_load.specs.Need.{IsWithinLimits}
use Rattle.sv_journal.specs.declared.journal.Item.{Item}
use Rattle.sv_journal.specs.Legal.{IsLegal}
use Rattle.sv_journal.specs.Stream.{stream_of, sent_events, IsCalm}
use Rattle.sv_sent.specs.Sent.{sent_packets}
use Rattle.sv_sent.specs.Start.{has_start}
use Rattle.sv_sent.proofs.reads.Reading.{nothing_sent, reads_sent, silent}
use Rattle.sv_sent.proofs.texts.Speakable.{spellable}
use Rattle.sv_sent.proofs.times.Timed.{times_sent}

pub read_as : (load : Load) (items : List Item) → IsLegal load items → IsWithinLimits load →
    has_start load items ≡ true →
    Reads (stream_of load items) (map Whole (sent_packets load items)) Clean
read_as load items legal l start =
    reads_sent load items legal l.ring_least (spellable load items legal l) start

pub silence : (load : Load) (items : List Item) → IsLegal load items → IsWithinLimits load →
    has_start load items ≡ false → stream_of load items ≡ []
silence load items legal l none =
    silent load items legal l.ring_least (spellable load items legal l) none

pub times_as : (load : Load) (items : List Item) → IsLegal load items → IsWithinLimits load →
    IsCalm load items →
    timed (sent_packets load items) ≡ sent_events load items
times_as load items legal l calm =
    times_sent load items legal l.ring_least (spellable load items legal l) calm

nothing : Reads [] [] NoSync
nothing = inl (refl, refl, refl)

-- the end of a journal's stream is clean where something was sent, and else there is no sync
abbrev EndsBy : Load → List Item → End → Type 0
EndsBy load items end =
    ((has_start load items ≡ true) × (end ≡ Clean)) ⊎
    ((has_start load items ≡ false) × (end ≡ NoSync))

record IsReadAs (load : Load) (items : List Item) (entries : List (Entry Packet)) (end : End) :
    Type 0 where
  entries_are : entries ≡ map Whole (sent_packets load items)
  ends : EndsBy load items end

both : (load : Load) (items : List Item) (entries : List (Entry Packet)) (end : End) →
    IsLegal load items → IsWithinLimits load →
    Reads (stream_of load items) entries end → IsReadAs load items entries end
both load items entries end legal l reads = by (has_start load items) refl
  where
    by : (b : Bool) → has_start load items ≡ b → IsReadAs load items entries end
    by true start =
        let one =
        one_reading (stream_of load items) entries (map Whole (sent_packets load items)) end Clean
        reads (read_as load items legal l start) in
        record { entries_are = one.0; ends = inl (start, one.1) }
    by false none =
        let empty : Reads [] entries end = subst (λ (bytes : List ℕ). Reads bytes entries end)
        (silence load items legal l none) reads in
        let one = one_reading [] entries [] end NoSync empty nothing in
        record {
          entries_are = one.0 ∙ ap (map Whole) (sym (nothing_sent load items legal l.ring_least
              (spellable load items legal l) none));
          ends = inr (none, one.1);
        }

pub entries_as : (load : Load) (items : List Item) (entries : List (Entry Packet)) (end : End) →
    IsLegal load items → IsWithinLimits load →
    Reads (stream_of load items) entries end → entries ≡ map Whole (sent_packets load items)
entries_as load items entries end legal l reads =
    (both load items entries end legal l reads).entries_are

whole_packets : (packets : List Packet) → packets_of (map Whole packets) ≡ packets
whole_packets [] = refl
whole_packets (p ∷ packets) = ap (λ (x : List Packet). p ∷ x) (whole_packets packets)

-- and as packets
pub packets_as : (load : Load) (items : List Item) (entries : List (Entry Packet)) (end : End) →
    IsLegal load items → IsWithinLimits load →
    Reads (stream_of load items) entries end → packets_of entries ≡ sent_packets load items
packets_as load items entries end legal l reads =
    ap packets_of (entries_as load items entries end legal l reads)
    ∙ whole_packets (sent_packets load items)

pub ends_as : (load : Load) (items : List Item) (entries : List (Entry Packet)) (end : End) →
    IsLegal load items → IsWithinLimits load →
    Reads (stream_of load items) entries end → EndsBy load items end
ends_as load items entries end legal l reads =
    (both load items entries end legal l reads).ends
