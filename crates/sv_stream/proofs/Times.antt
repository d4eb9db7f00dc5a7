-- The times of entries, when more of them come after others.
use Rattle.std.proofs.Common.{◌≡◌, ℕ, ◌+◌, List, [], ◌∷◌, ◌++◌, map, refl, sym, ap, ◌∙◌, arith}
use Rattle.std.proofs.Common.{append_assoc}
use Rattle.std.proofs.lemmas.List.{append-nil, map-append}
use Rattle.std.proofs.lemmas.List.Sums.{sum_by-append}
use Rattle.sv_prim.specs.declared.got.Reason.{Reason}
use Rattle.sv_packet.specs.declared.event.Packet.{Packet}
use Rattle.sv_packet.specs.declared.event.TimedEvent.{TimedEvent}
use Rattle.sv_packet.specs.Events.{last_time}
use Rattle.sv_packet.specs.Time.{with_before_from, with_before, time_of, timed}
use Rattle.sv_packet.proofs.Shared.{last_time-timed, time_of-push, timed_after}
use Rattle.sv_stream.specs.declared.seen.Seen.{Seen}
use Rattle.sv_stream.specs.declared.seen.Seen.TheVariants.{Event}
use Rattle.sv_stream.specs.Entries.{packets_in, entries_time, seen_of, timed_entries, event_of}
use Rattle.sv_stream.specs.Entries.{events_of, packet_of, packets_of}
use Rattle.sv_stream.specs.Input.{Entry, Whole, Mark}

with_before_from-append : {A : Type 0} (before xs ys : List A) →
    with_before_from before (xs ++ ys)
    ≡ with_before_from before xs ++ with_before_from (before ++ xs) ys
with_before_from-append before [] ys = rw append-nil refl
with_before_from-append before (x ∷ xs) ys =
    ap (λ rest. (before, x) ∷ rest)
    (with_before_from-append (before ++ x ∷ []) xs ys ∙ rw append_assoc refl)

-- an event, at the time of the packets up to its own
abbrev event_at : List Packet × Packet → TimedEvent
event_at at = record { time = time_of (at.0 ++ at.1 ∷ []); event = at.1.event }

packets_in-append : (es fs : List (Entry Packet)) →
    packets_in (es ++ fs) ≡ packets_in es ++ packets_in fs
packets_in-append [] fs = refl
packets_in-append (Whole p ∷ es) fs = ap (λ (x : List Packet). p ∷ x) (packets_in-append es fs)
packets_in-append (Mark place reason ∷ es) fs = packets_in-append es fs

-- one packet more takes its delta
pub time-whole : (entries : List (Entry Packet)) (p : Packet) →
    entries_time (entries ++ Whole p ∷ []) ≡ entries_time entries + p.delta
time-whole entries p =
    ap time_of (packets_in-append entries (Whole p ∷ [])) ∙ time_of-push (packets_in entries) p

-- and a mark no time
pub time-mark : (entries : List (Entry Packet)) (place : ℕ) (reason : Reason) →
    entries_time (entries ++ Mark place reason ∷ []) ≡ entries_time entries
time-mark entries place reason =
    ap time_of
    (packets_in-append entries (Mark place reason ∷ []) ∙ append-nil (packets_in entries))

-- an entry at the time of the packets up to it
abbrev seen_at : List (Entry Packet) × Entry Packet → Seen
seen_at at = seen_of (entries_time (at.0 ++ at.1 ∷ [])) at.1

abbrev seen_after : List (Entry Packet) → List (Entry Packet) → List Seen
seen_after before entries = map seen_at (with_before_from before entries)

timed-append : (es fs : List (Entry Packet)) →
    timed_entries (es ++ fs) ≡ timed_entries es ++ seen_after es fs
timed-append es fs =
    ap (map seen_at) (with_before_from-append [] es fs)
    ∙ map-append seen_at (with_before es) (with_before_from es fs)

-- what is seen of more entries comes after that of the first
pub timed-grown : (es fs : List (Entry Packet)) →
    (more : List Seen) × (timed_entries (es ++ fs) ≡ timed_entries es ++ more)
timed-grown es fs = (seen_after es fs, timed-append es fs)

-- the next of the entries
pub timed-next : (es : List (Entry Packet)) (e : Entry Packet) (others : List (Entry Packet))
    (time : ℕ) → time ≡ entries_time (es ++ e ∷ [])
    → (more : List Seen)
    × (timed_entries (es ++ e ∷ others) ≡ timed_entries es ++ seen_of time e ∷ more)
timed-next es e others time clock =
    let more = seen_after (es ++ e ∷ []) others in (
      more,
      timed-append es (e ∷ others)
          ∙ ap (λ (k : ℕ). timed_entries es ++ seen_of k e ∷ more) (sym clock),
    )

-- one entry more
pub timed-push : (es : List (Entry Packet)) (e : Entry Packet) (time : ℕ) →
    time ≡ entries_time (es ++ e ∷ [])
    → timed_entries (es ++ e ∷ []) ≡ timed_entries es ++ seen_of time e ∷ []
timed-push es e time clock =
    timed-append es (e ∷ []) ∙ ap (λ (k : ℕ). timed_entries es ++ seen_of k e ∷ []) (sym clock)

-- ---- marks as the end of a recording

time_cons : (p : Packet) (packets : List Packet) →
    time_of (p ∷ packets) ≡ p.delta + time_of packets
time_cons p packets = omega (arith, sum_by-append (λ (q : Packet). q.delta) (p ∷ []) packets)

pub time_same : (entries : List (Entry Packet)) →
    entries_time entries ≡ time_of (packets_of entries)
time_same [] = refl
time_same (Whole p ∷ entries) =
    time_cons p (packets_in entries) ∙ ap (λ (n : ℕ). p.delta + n) (time_same entries)
    ∙ sym (time_cons p (packets_of entries))
time_same (Mark place reason ∷ entries) = omega (
  arith,
  time_same entries,
  time_cons (packet_of (Mark place reason)) (packets_of entries),
)

time_at : (before : List (Entry Packet)) (e : Entry Packet) →
    entries_time (before ++ e ∷ []) ≡ time_of (packets_of before ++ packet_of e ∷ [])
time_at before e =
    time_same (before ++ e ∷ []) ∙ ap time_of (map-append packet_of before (e ∷ []))

event_same : (before : List (Entry Packet)) (e : Entry Packet) →
    event_of (seen_at (before, e)) ≡ event_at (packets_of before, packet_of e)
event_same before (Whole p) =
    ap (λ (n : ℕ). event_of (seen_of n (Whole p))) (time_at before (Whole p))
event_same before (Mark place reason) =
    ap (λ (n : ℕ). event_of (seen_of n (Mark place reason))) (time_at before (Mark place reason))

events_after : (before entries : List (Entry Packet)) →
    events_of (seen_after before entries) ≡ timed_after (packets_of before) (packets_of entries)
events_after before [] = refl
events_after before (e ∷ entries) =
    ap (λ (x : TimedEvent). x ∷ events_of (seen_after (before ++ e ∷ []) entries))
    (event_same before e)
    ∙ ap (λ (x : List TimedEvent). event_at (packets_of before, packet_of e) ∷ x)
    (events_after (before ++ e ∷ []) entries
    ∙ ap (λ (x : List Packet). timed_after x (packets_of entries))
    (map-append packet_of before (e ∷ [])))

pub events-timed : (entries : List (Entry Packet)) →
    events_of (timed_entries entries) ≡ timed (packets_of entries)
events-timed entries = events_after [] entries

-- the last of them has the time of the entries
pub last_time-entries : (entries : List (Entry Packet)) →
    last_time (events_of (timed_entries entries)) ≡ entries_time entries
last_time-entries entries =
    ap last_time (events-timed entries) ∙ last_time-timed (packets_of entries)
    ∙ sym (time_same entries)

-- ---- packets alone

packets_in-whole : (packets : List Packet) → packets_in (map Whole packets) ≡ packets
packets_in-whole [] = refl
packets_in-whole (p ∷ packets) = ap (λ (x : List Packet). p ∷ x) (packets_in-whole packets)

whole_after : (before packets : List Packet) →
    seen_after (map Whole before) (map Whole packets) ≡ map Event (timed_after before packets)
whole_after before [] = refl
whole_after before (p ∷ packets) =
    let front : map Whole before ++ Whole p ∷ [] ≡ map Whole (before ++ p ∷ []) =
    sym (map-append Whole before (p ∷ [])) in
    ap
    (λ (x : List (Entry Packet)).
    seen_of (entries_time x) (Whole p) ∷ seen_after x (map Whole packets)) front
    ∙ ap
    (λ (x : List Packet).
    seen_of (time_of x) (Whole p) ∷ seen_after (map Whole (before ++ p ∷ [])) (map Whole packets))
    (packets_in-whole (before ++ p ∷ []))
    ∙ ap (λ (x : List Seen). Event (event_at (before, p)) ∷ x)
    (whole_after (before ++ p ∷ []) packets)

pub timed-whole : (packets : List Packet) →
    timed_entries (map Whole packets) ≡ map Event (timed packets)
timed-whole packets = whole_after [] packets
