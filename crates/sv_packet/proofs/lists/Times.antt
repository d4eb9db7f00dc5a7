-- Times, when one more packet comes or packets are parted.
use Rattle.std.proofs.Common.{◌≡◌, ℕ, ◌+◌, List, [], ◌∷◌, ◌++◌, map, refl, ap, ◌∙◌, append_assoc}
use Rattle.std.proofs.Common.{arith}
use Rattle.std.proofs.lemmas.List.{map-append, append-nil}
use Rattle.std.proofs.lemmas.List.Sums.{sum_by-append}
use Rattle.sv_packet.specs.declared.event.Packet.{Packet}
use Rattle.sv_packet.specs.declared.event.TimedEvent.{TimedEvent}
use Rattle.sv_packet.specs.Time.{with_before_from, with_before, time_of, timed}

pub with_before_from-append : {A : Type 0} (before xs ys : List A) →
    with_before_from before (xs ++ ys)
    ≡ with_before_from before xs ++ with_before_from (before ++ xs) ys
with_before_from-append before [] ys = rw append-nil refl
with_before_from-append before (x ∷ xs) ys =
    ap (λ rest. (before, x) ∷ rest)
    (with_before_from-append (before ++ x ∷ []) xs ys ∙ rw append_assoc refl)

-- an event, at the time of the packets up to its own
abbrev pub event_at : List Packet × Packet → TimedEvent
event_at at = record { time = time_of (at.0 ++ at.1 ∷ []); event = at.1.event }

-- the events of packets that come after others
abbrev pub timed_after : List Packet → List Packet → List TimedEvent
timed_after before packets = map event_at (with_before_from before packets)

pub timed-append : (ps qs : List Packet) → timed (ps ++ qs) ≡ timed ps ++ timed_after ps qs
timed-append ps qs =
    ap (map event_at) (with_before_from-append [] ps qs)
    ∙ map-append event_at (with_before ps) (with_before_from ps qs)

pub time_of-push : (ps : List Packet) (p : Packet) → time_of (ps ++ p ∷ []) ≡ time_of ps + p.delta
time_of-push ps p = omega (arith, sum_by-append (λ (q : Packet). q.delta) ps (p ∷ []))

-- one more packet
pub timed-push : (ps : List Packet) (p : Packet) (time : ℕ) → time ≡ time_of ps →
    timed (ps ++ p ∷ []) ≡ timed ps ++ record { time = time + p.delta; event = p.event } ∷ []
timed-push ps p time clock =
    let now : time_of (ps ++ p ∷ []) ≡ time + p.delta = omega (arith, time_of-push ps p, clock) in
    timed-append ps (p ∷ [])
    ∙ ap (λ (k : ℕ). timed ps ++ record { time = k; event = p.event } ∷ []) now
