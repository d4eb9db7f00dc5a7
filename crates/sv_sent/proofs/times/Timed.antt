-- Of a calm journal the packets have the times of its stored items.
use Rattle.std.proofs.Common.{◌≡◌, ℕ, zero, suc, ◌+◌, ◌-◌, ◌%◌, ◌^◌, ◌<◌, ◌≤◌, Bool, true, false}
use Rattle.std.proofs.Common.{not, ◌&&◌, cond, List, [], ◌∷◌, ◌++◌, map, refl, sym, ap, ◌∙◌}
use Rattle.std.proofs.Common.{append_assoc, append-nil, arith, inl, inr}
use Rattle.std.specs.Prelude.{replicate}
use Rattle.std.proofs.lemmas.List.{map-append}
use Rattle.sv_packet.specs.declared.event.Event.{Event}
use Rattle.sv_packet.specs.declared.event.Event.TheVariants as events
use Rattle.sv_packet.specs.declared.event.Packet.{Packet}
use Rattle.sv_packet.specs.declared.event.TimedEvent.{TimedEvent}
use Rattle.sv_packet.specs.Time.{time_of, timed}
use Rattle.sv_packet.proofs.Shared.{timed-push, time_of-push}
use Rattle.sv_load.specs.Load.{Load, period}
use Rattle.sv_journal.specs.declared.journal.Item.{Item}
use Rattle.sv_journal.specs.Items.{latest_first, is_sync, is_stored, last_moment, event_of}
use Rattle.sv_journal.specs.Items.{delta_of}
use Rattle.sv_journal.specs.Legal.{EachItem, IsLegal}
use Rattle.sv_journal.specs.Stream.{is_synced, events_told_by, events_before, sent_events, IsSoon}
use Rattle.sv_journal.specs.Stream.{IsCalm}
use Rattle.sv_journal.proofs.Shared.{last_moment-stored, last_moment-other}
use Rattle.sv_sent.specs.Sent.{packets_before, packets_of, sent_packets}
use Rattle.sv_sent.proofs.times.Sending.{at_time, event-told, events-kept, nops-told}
use Rattle.sv_sent.proofs.texts.Speakable.{AreSpellable, IsSpellable}
use Rattle.sv_sent.proofs.places.Placed.{IsPlaced, placed}
use Rattle.sv_sent.proofs.reads.OneMore.{packets-five, packets-kept, packets-one, packets-told}
use Rattle.sv_sent.proofs.reads.Stages.{HowFar}
use Rattle.sv_sent.proofs.reads.Waiting.{waiting-kept}
use Rattle.sv_sent.proofs.reads.Going.{how_far}
use Rattle.sv_sent.proofs.texts.Spelled.{as_packet}
use Rattle.sv_sent.proofs.places.Tests.{and_no, clash}

-- THE EVENTS, WHATEVER THEIR TIMES

abbrev pub sent_by : List Packet → List Event
sent_by packets = map (λ p. p.event) packets

abbrev events_in : List TimedEvent → List Event
events_in events = map (λ e. e.event) events

same-one : (load : Load) (earlier : List Item) (item : Item) →
    sent_by (packets_of load earlier item) ≡ events_in (events_told_by load earlier item)
same-one load earlier item = by (is_sync item.origin)
  where
    by : (t : Bool) →
        sent_by
        (cond t (replicate 5 (as_packet events.Nop 0))
        (as_packet (event_of load item) (delta_of load earlier item) ∷ [])) ≡
        events_in
        (cond t (replicate 5 (at_time (last_moment earlier) events.Nop))
        (at_time item.moment (event_of load item) ∷ []))
    by true = refl
    by false = refl

same-if : (t : Bool) (ps : List Packet) (es : List TimedEvent) → sent_by ps ≡ events_in es →
    sent_by (cond t ps []) ≡ events_in (cond t es [])
same-if true ps es e = e
same-if false ps es e = refl

pub same_events : (load : Load) (earlier : List Item) →
    sent_by (packets_before load earlier) ≡ events_in (events_before load earlier)
same_events load [] = refl
same_events load (i ∷ earlier) =
    let t : Bool = is_stored i.outcome && is_synced earlier in
    map-append (λ (p : Packet). p.event) (packets_before load earlier)
    (cond t (packets_of load earlier i) [])
    ∙ ap (λ es. es ++ sent_by (cond t (packets_of load earlier i) [])) (same_events load earlier)
    ∙ ap (λ es. events_in (events_before load earlier) ++ es)
    (same-if t (packets_of load earlier i) (events_told_by load earlier i)
    (same-one load earlier i))
    ∙ sym
    (map-append (λ (e : TimedEvent). e.event) (events_before load earlier)
    (cond t (events_told_by load earlier i) []))

-- THE TIMES

record AreTimed (load : Load) (earlier : List Item) : Type 0 where
  times : timed (packets_before load earlier) ≡ events_before load earlier
  now : time_of (packets_before load earlier) ≡ last_moment earlier

nops-now : (count : ℕ) (ps : List Packet) →
    time_of (ps ++ replicate count (as_packet events.Nop 0)) ≡ time_of ps
nops-now zero ps = ap time_of (append-nil ps)
nops-now (suc count) ps =
    ap time_of
    (sym (append_assoc ps (as_packet events.Nop 0 ∷ []) (replicate count (as_packet events.Nop 0))))
    ∙ nops-now count (ps ++ as_packet events.Nop 0 ∷ [])
    ∙ omega (arith, time_of-push ps (as_packet events.Nop 0))

nops-timed : (count : ℕ) (ps : List Packet) (time : ℕ) → time ≡ time_of ps →
    timed (ps ++ replicate count (as_packet events.Nop 0)) ≡
    timed ps ++ replicate count (at_time time events.Nop)
nops-timed zero ps time clock = ap timed (append-nil ps) ∙ sym (append-nil (timed ps))
nops-timed (suc count) ps time clock =
    let one : timed (ps ++ as_packet events.Nop 0 ∷ []) ≡
    timed ps ++ at_time (time + 0) events.Nop ∷ [] =
    timed-push ps (as_packet events.Nop 0) time clock in
    let same : time + 0 ≡ time = omega arith in
    let next : time ≡ time_of (ps ++ as_packet events.Nop 0 ∷ []) =
    omega (arith, time_of-push ps (as_packet events.Nop 0), clock) in
    ap timed
    (sym
    (append_assoc ps (as_packet events.Nop 0 ∷ []) (replicate count (as_packet events.Nop 0))))
    ∙ nops-timed count (ps ++ as_packet events.Nop 0 ∷ []) time next
    ∙ ap (λ es. es ++ replicate count (at_time time events.Nop))
    (one ∙ ap (λ (t : ℕ). timed ps ++ at_time t events.Nop ∷ []) same)
    ∙ append_assoc (timed ps) (at_time time events.Nop ∷ [])
    (replicate count (at_time time events.Nop))

timed-same : (load : Load) (earlier : List Item) (item : Item) →
    (is_stored item.outcome && is_synced earlier) ≡ false →
    last_moment (item ∷ earlier) ≡ last_moment earlier → AreTimed load earlier →
    AreTimed load (item ∷ earlier)
timed-same load earlier item test last t = record {
  times =
      ap timed (packets-kept load earlier item test)
      ∙ t.times
      ∙ sym (events-kept load earlier item test);
  now = ap time_of (packets-kept load earlier item test) ∙ t.now ∙ sym last;
}

-- a packet is stored only after the first sync
pub synced-before : (load : Load) (earlier : List Item) (item : Item) → IsPlaced load earlier item →
    is_stored item.outcome ≡ true → is_sync item.origin ≡ false → HowFar load earlier →
    is_synced earlier ≡ true
synced-before load earlier item here stored other (inl w) =
    absurd (clash (is_stored item.outcome) stored (waiting-kept load earlier item here w other).0)
synced-before load earlier item here stored other (inr (inl r)) = r.synced
synced-before load earlier item here stored other (inr (inr g)) = g.synced

small : (a b n : ℕ) → b ≤ a → a - b < 2 ^ 32 → n ≡ (a - b) % 2 ^ 32 → b + n ≡ a
small a b n le fits is = omega (arith, le, fits, is)

timed-step : (load : Load) (earlier : List Item) (item : Item) → IsPlaced load earlier item →
    IsSoon load earlier item → HowFar load earlier → AreTimed load earlier →
    AreTimed load (item ∷ earlier)
timed-step load earlier item here soon far t =
    by (is_stored item.outcome) (is_sync item.origin) refl refl
  where
    synced-by : (b : Bool) → is_stored item.outcome ≡ true → is_sync item.origin ≡ true →
        is_synced earlier ≡ b → AreTimed load (item ∷ earlier)
    synced-by false stored sync none =
        timed-same load earlier item
        (ap (λ b. is_stored item.outcome && b) none ∙ and_no (is_stored item.outcome))
        (last_moment-other earlier item
        (ap (λ b. is_stored item.outcome && not b) sync ∙ and_no (is_stored item.outcome))) t
    synced-by true stored sync synced =
        let ps : packets_before load (item ∷ earlier) ≡
        packets_before load earlier ++ replicate 5 (as_packet events.Nop 0) =
        packets-told load earlier item stored synced
        ∙ ap (λ xs. packets_before load earlier ++ xs) (packets-five load earlier item sync) in
        let last : last_moment (item ∷ earlier) ≡ last_moment earlier =
        last_moment-other earlier item
        (ap (λ b. is_stored item.outcome && not b) sync ∙ and_no (is_stored item.outcome)) in
        record {
          times =
              ap timed ps
              ∙ nops-timed 5 (packets_before load earlier) (last_moment earlier) (sym t.now)
              ∙ ap (λ es. es ++ replicate 5 (at_time (last_moment earlier) events.Nop)) t.times
              ∙ sym (nops-told load earlier item stored synced sync);
          now = ap time_of ps ∙ nops-now 5 (packets_before load earlier) ∙ t.now ∙ sym last;
        }

    by : (s n : Bool) → is_stored item.outcome ≡ s → is_sync item.origin ≡ n →
        AreTimed load (item ∷ earlier)
    by false n kept sync =
        timed-same load earlier item (ap (λ b. b && is_synced earlier) kept)
        (last_moment-other earlier item (ap (λ b. b && not (is_sync item.origin)) kept)) t
    by true true stored sync = synced-by (is_synced earlier) stored sync refl
    by true false stored sync =
        let synced : is_synced earlier ≡ true =
        synced-before load earlier item here stored sync far in
        let p : Packet = as_packet (event_of load item) (delta_of load earlier item) in
        let ps : packets_before load (item ∷ earlier) ≡
        packets_before load earlier ++ as_packet (event_of load item)
        (delta_of load earlier item) ∷ [] =
        packets-told load earlier item stored synced
        ∙ ap (λ xs. packets_before load earlier ++ xs) (packets-one load earlier item sync) in
        let test : (is_stored item.outcome && not (is_sync item.origin)) ≡ true =
        ap (λ b. is_stored item.outcome && not b) sync ∙ ap (λ b. b && true) stored in
        let near : item.moment - last_moment earlier < period load = soon test in
        let time : last_moment earlier + delta_of load earlier item ≡ item.moment =
        small item.moment (last_moment earlier) (delta_of load earlier item) here.later.last
        near refl in
        record {
          times =
              ap timed ps
              ∙ timed-push (packets_before load earlier)
              (as_packet (event_of load item) (delta_of load earlier item)) (last_moment earlier)
              (sym t.now)
              ∙ ap
              (λ (m : ℕ).
              timed (packets_before load earlier) ++ at_time m (event_of load item) ∷ []) time
              ∙ ap (λ es. es ++ at_time item.moment (event_of load item) ∷ []) t.times
              ∙ sym (event-told load earlier item stored synced sync);
          now =
              ap time_of ps
              ∙ time_of-push (packets_before load earlier)
              (as_packet (event_of load item) (delta_of load earlier item))
              ∙ ap (λ (m : ℕ). m + delta_of load earlier item) t.now
              ∙ time
              ∙ sym (last_moment-stored earlier item stored sync);
        }

are-timed : (load : Load) (earlier : List Item) → 64 ≤ load.ring →
    EachItem (IsPlaced load) earlier → EachItem (IsSpellable load) earlier →
    EachItem (IsSoon load) earlier → AreTimed load earlier
are-timed load [] ring each spellable calm = record { times = refl; now = refl }
are-timed load (i ∷ earlier) ring each spellable calm =
    timed-step load earlier i each.1 calm.1 (how_far load earlier ring each.0 spellable.0)
    (are-timed load earlier ring each.0 spellable.0 calm.0)

pub times_sent : (load : Load) (items : List Item) → IsLegal load items → 64 ≤ load.ring →
    AreSpellable load items → IsCalm load items →
    timed (sent_packets load items) ≡ sent_events load items
times_sent load items legal ring spellable calm =
    (are-timed load (latest_first items) ring (placed load items legal) spellable calm).times
