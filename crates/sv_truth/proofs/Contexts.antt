-- Contexts through gaps: what the events that were sent name at a tick is true of all calls.
use Rattle.std.proofs.Common.{◌≡◌, ℕ, zero, suc, ◌<◌, ◌≤◌, Bool, true, false, not, ◌&&◌, ◌||◌, cond}
use Rattle.std.proofs.Common.{rules, Some, None, List, [], ◌∷◌, ◌++◌, map, refl, sym, ap, subst}
use Rattle.std.proofs.Common.{◌∙◌, append_assoc, append-nil, arith, ◌⊎◌, inl, inr}
use Rattle.std.specs.Prelude.{nat_lt, nat_le, replicate}
use Rattle.std.proofs.lemmas.Bool.{cases_lt}
use Rattle.std.proofs.lemmas.Bool.Decides.{nat_tests}
use Rattle.sv_packet.specs.declared.event.Event.TheVariants as events
use Rattle.sv_packet.specs.declared.event.TimedEvent.{TimedEvent}
use Rattle.sv_packet.specs.Events.{last_time}
use Rattle.sv_packet.proofs.Shared.{last_time-more}
use Rattle.sv_load.specs.Load.{Load}
use Rattle.sv_journal.specs.declared.journal.Origin.{Origin}
use Rattle.sv_journal.specs.declared.journal.Outcome.TheVariants.{Stored}
use Rattle.sv_journal.specs.declared.journal.Item.{Item}
use Rattle.sv_journal.specs.Items.{latest_first, is_sync, is_overflow, is_stored, is_packet}
use Rattle.sv_journal.specs.Items.{holds_packet, is_on, pending_at, last_moment, event_of, event_at}
use Rattle.sv_journal.specs.Items.{is_after_refused_overflow}
use Rattle.sv_journal.specs.Legal.{EachItem, IsLegal, is_control}
use Rattle.sv_journal.specs.Stream.{is_synced, events_before, sent_events}
use Rattle.sv_journal.proofs.Shared.{last_moment-stored, last_moment-other}
use Rattle.sv_sent.proofs.Shared.{Fate, IsPlaced, and_no, by_test, clash, event-told, events-kept}
use Rattle.sv_sent.proofs.Shared.{at_time, fate, handling, ignoring, nops-told, overflow_plain}
use Rattle.sv_sent.proofs.Shared.{placed, refusing, storing}
use Rattle.sv_context.specs.declared.context.Context.TheVariants.{Gap}
use Rattle.sv_context.specs.Context.{context_after}
use Rattle.sv_timeline.specs.Ticks.{is_gap_from, is_gap_to, events_until, context_at}
use Rattle.sv_timeline.proofs.Shared.{AreUpTo, context_at-later, context_at-new, context_before}
use Rattle.sv_timeline.proofs.Shared.{filter_all, until_later, up_to_more}
use Rattle.sv_truth.specs.Truth.{AreContextsTrue, IsNamed, call_event, calls_before}
use Rattle.sv_truth.proofs.Telling.{HasNoBreaks}
use Rattle.sv_truth.proofs.Facts.{stored_packet, unsynced}
use Rattle.sv_truth.proofs.Agreeing.{agree-context, events_of}
use Rattle.sv_truth.proofs.Clear.{IsClear, agree-here, clear}
use Rattle.sv_truth.proofs.Intact.{calls-kept, calls-more}
use Rattle.sv_truth.proofs.Quiet.{Begins, begins, is_restarting, quiet, up_to-append, up_to-one}

-- THE LAST OF THE EVENTS THAT WERE SENT

-- none was sent, or the last has the moment of the latest stored packet
abbrev EndsAt : Load → List Item → Type 0
EndsAt load earlier =
    (events_before load earlier ≡ []) ⊎
    ((xs : List TimedEvent) × (y : TimedEvent) × (events_before load earlier ≡ xs ++ y ∷ []) ×
    (y.time ≡ last_moment earlier))

record AreSent (load : Load) (earlier : List Item) : Type 0 where
  up : AreUpTo (last_moment earlier) (events_before load earlier)
  ends : EndsAt load earlier

sent-same : (load : Load) (earlier : List Item) (item : Item) →
    events_before load (item ∷ earlier) ≡ events_before load earlier →
    last_moment (item ∷ earlier) ≡ last_moment earlier → AreSent load earlier →
    AreSent load (item ∷ earlier)
sent-same load earlier item events last sent =
    record { up = rw (events, last) sent.up; ends = by sent.ends }
  where
    by : EndsAt load earlier → EndsAt load (item ∷ earlier)
    by (inl none) = inl (events ∙ none)
    by (inr (xs, y, whole, time)) = inr (xs, y, events ∙ whole, time ∙ sym last)

five : (xs : List TimedEvent) (e : TimedEvent) →
    xs ++ replicate 5 e ≡ (xs ++ replicate 4 e) ++ e ∷ []
five xs e = sym (append_assoc xs (replicate 4 e) (e ∷ []))

up-many : (count : ℕ) (tick : ℕ) (e : TimedEvent) → e.time ≤ tick → AreUpTo tick (replicate count e)
up-many zero tick e le = refl
up-many (suc count) tick e le =
    up_to-append tick (e ∷ []) (replicate count e) (up_to-one tick e le) (up-many count tick e le)

sent-step : (load : Load) (earlier : List Item) (item : Item) → IsPlaced load earlier item →
    Fate load earlier item → AreSent load earlier → AreSent load (item ∷ earlier)
sent-step load earlier item here (handling control out) sent =
    sent-same load earlier item
    (events-kept load earlier item (ap (λ b. b && is_synced earlier) (ap is_stored out)))
    (last_moment-other earlier item (ap (λ b. b && not (is_sync item.origin)) (ap is_stored out)))
    sent
sent-step load earlier item here (ignoring control off out) sent =
    sent-same load earlier item
    (events-kept load earlier item (ap (λ b. b && is_synced earlier) (ap is_stored out)))
    (last_moment-other earlier item (ap (λ b. b && not (is_sync item.origin)) (ap is_stored out)))
    sent
sent-step load earlier item here (refusing control on out) sent =
    sent-same load earlier item
    (events-kept load earlier item (ap (λ b. b && is_synced earlier) (ap is_stored out)))
    (last_moment-other earlier item (ap (λ b. b && not (is_sync item.origin)) (ap is_stored out)))
    sent
sent-step load earlier item here (storing control on free out) sent =
    by (is_synced earlier) (is_sync item.origin) refl refl
  where
    stored : is_stored item.outcome ≡ true
    stored = ap is_stored out

    by : (t s : Bool) → is_synced earlier ≡ t → is_sync item.origin ≡ s →
        AreSent load (item ∷ earlier)
    by false s none sync =
        let empty : events_before load (item ∷ earlier) ≡ [] =
        events-kept load earlier item
        (ap (λ b. is_stored item.outcome && b) none ∙ and_no (is_stored item.outcome))
        ∙ unsynced load earlier none in
        record { up = rw empty refl; ends = inl empty }
    by true true synced sync =
        let nop : TimedEvent = at_time (last_moment earlier) events.Nop in
        let told : events_before load (item ∷ earlier) ≡ events_before load earlier ++
        replicate 5 nop = nops-told load earlier item stored synced sync in
        let last : last_moment (item ∷ earlier) ≡ last_moment earlier =
        last_moment-other earlier item
        (ap (λ b. is_stored item.outcome && not b) sync ∙ and_no (is_stored item.outcome)) in
        record {
          up = rw (told, last)
              (up_to-append (last_moment earlier) (events_before load earlier)
              (replicate 5 nop) sent.up (up-many 5 (last_moment earlier) nop (omega arith)));
          ends = inr (
            events_before load earlier ++ replicate 4 nop,
            nop,
            told
                ∙ five (events_before load earlier) nop,
            sym last,
          );
        }
    by true false synced sync =
        let e : TimedEvent = at_time item.moment (event_of load item) in
        let told : events_before load (item ∷ earlier) ≡ events_before load earlier ++ e ∷ [] =
        event-told load earlier item stored synced sync in
        let last : last_moment (item ∷ earlier) ≡ item.moment =
        last_moment-stored earlier item stored sync in
        record {
          up = rw (told, last)
              (up_to-append item.moment (events_before load earlier) (e ∷ [])
              (up_to_more (last_moment earlier) item.moment
              (events_before load earlier) here.later.last sent.up)
              (up_to-one item.moment e (omega arith)));
          ends = inr (events_before load earlier, e, told, sym last);
        }

sent : (load : Load) (earlier : List Item) → EachItem (IsPlaced load) earlier → AreSent load earlier
sent load [] each = record { up = refl; ends = inl refl }
sent load (i ∷ earlier) each =
    sent-step load earlier i each.1 (fate load earlier i each.1.next.outcome)
    (sent load earlier each.0)

last-is : (load : Load) (earlier : List Item) → EndsAt load earlier →
    last_time (events_before load earlier) ≤ last_moment earlier
last-is load earlier (inl none) = let zero_is : last_time (events_before load earlier) ≡ 0 =
    ap last_time none in omega (arith, zero_is)
last-is load earlier (inr (xs, y, whole, time)) =
    let is : last_time (events_before load earlier) ≡ y.time =
    ap last_time whole ∙ last_time-more xs y in omega (arith, is, time)

-- TICKS

abbrev IsTrueAt : Load → List Item → ℕ → Type 0
IsTrueAt load earlier tick =
    context_at (events_before load earlier) tick ≡
    context_after (events_until (calls_before load earlier) tick)

abbrev AreTrue : Load → List Item → Type 0
AreTrue load earlier =
    (tick : ℕ) → tick < last_time (events_before load earlier) →
    IsNamed (context_at (events_before load earlier) tick) → IsTrueAt load earlier tick

-- the calls up to a tick before the item
until-before : (load : Load) (earlier : List Item) (item : Item) (tick : ℕ) → tick < item.moment →
    events_until (calls_before load (item ∷ earlier)) tick ≡
    events_until (calls_before load earlier) tick
until-before load earlier item tick before =
    elim (call_event load item.origin) as
    (λ o. call_event load item.origin ≡ o →
    events_until (calls_before load (item ∷ earlier)) tick ≡
    events_until (calls_before load earlier) tick) [
      | None ↦ λ none. ap (λ es. events_until es tick) (calls-kept load earlier item none)
      | Some event ↦ λ some.
          ap (λ es. events_until es tick) (calls-more load earlier item event some)
          ∙ until_later (calls_before load earlier) (at_time item.moment event) tick before
    ] refl

-- an item that tells nothing
true-same : (load : Load) (earlier : List Item) (item : Item) → IsPlaced load earlier item →
    AreSent load earlier → events_before load (item ∷ earlier) ≡ events_before load earlier →
    AreTrue load earlier → AreTrue load (item ∷ earlier)
true-same load earlier item here was same before tick below named =
    let below_before : tick < last_time (events_before load earlier) =
    subst (λ (n : ℕ). tick < n) (ap last_time same) below in
    let named_before : IsNamed (context_at (events_before load earlier) tick) =
    subst IsNamed (ap (λ es. context_at es tick) same) named in
    ap (λ es. context_at es tick) same ∙ before tick below_before named_before ∙ ap context_after
    (sym (until-before load earlier item tick
    (omega (arith, below_before, last-is load earlier was.ends, here.later.last))))

-- before the first event all is a gap
gap-first : (e : TimedEvent) (es : List TimedEvent) (tick : ℕ) → tick < e.time →
    context_at (e ∷ es) tick ≡ Gap
gap-first e es tick before =
    let first : nat_lt tick e.time ≡ true = grind (arith, nat_tests) in
    rw first refl

later-many : (count : ℕ) (xs : List TimedEvent) (y e : TimedEvent) (tick : ℕ) → tick < y.time →
    y.time ≡ e.time → context_at ((xs ++ y ∷ []) ++ replicate count e) tick ≡
    context_at (xs ++ y ∷ []) tick
later-many zero xs y e tick below same = ap (λ es. context_at es tick) (append-nil (xs ++ y ∷ []))
later-many (suc count) xs y e tick below same =
    ap (λ es. context_at es tick) (sym (append_assoc (xs ++ y ∷ []) (e ∷ []) (replicate count e)))
    ∙ later-many count (xs ++ y ∷ []) e e tick (omega (arith, below, same)) refl
    ∙ context_at-later xs y e tick below (omega (arith, same))

true-nops : (load : Load) (earlier : List Item) (item : Item) → IsPlaced load earlier item →
    AreSent load earlier → events_before load (item ∷ earlier) ≡ events_before load earlier ++
    replicate 5 (at_time (last_moment earlier) events.Nop) → AreTrue load earlier →
    AreTrue load (item ∷ earlier)
true-nops load earlier item here was told before tick below named = by was.ends
  where
    nop : TimedEvent
    nop = at_time (last_moment earlier) events.Nop

    till : tick < last_moment earlier
    till = subst (λ (n : ℕ). tick < n)
        (ap last_time
        (told ∙ five (events_before load earlier) (at_time (last_moment earlier) events.Nop))
        ∙ last_time-more
        (events_before load earlier ++ replicate 4 (at_time (last_moment earlier) events.Nop))
        (at_time (last_moment earlier) events.Nop)) below

    by : EndsAt load earlier → IsTrueAt load (item ∷ earlier) tick
    by (inl none) =
        absurd (named.0
        (ap (λ es. context_at es tick)
        (told ∙ ap (λ es. es ++ replicate 5 (at_time (last_moment earlier) events.Nop)) none)
        ∙ gap-first (at_time (last_moment earlier) events.Nop)
        (replicate 4 (at_time (last_moment earlier) events.Nop)) tick till))
    by (inr (xs, y, whole, time)) =
        let same : context_at (events_before load (item ∷ earlier)) tick ≡
        context_at (events_before load earlier) tick
        = ap (λ es. context_at es tick)
        (told ∙ ap (λ es. es ++ replicate 5 (at_time (last_moment earlier) events.Nop)) whole)
        ∙ later-many 5 xs y (at_time (last_moment earlier) events.Nop) tick
        (omega (arith, till, time)) time ∙ ap (λ es. context_at es tick) (sym whole) in
        let end : last_time (events_before load earlier) ≡ last_moment earlier =
        ap last_time whole ∙ last_time-more xs y ∙ time in
        same ∙ before tick (omega (arith, till, end)) (subst IsNamed same named) ∙ ap context_after
        (sym (until-before load earlier item tick (omega (arith, till, here.later.last))))

-- a stored packet that ends no gap, after some ticks
gap_to-begins : (load : Load) (moment : ℕ) (o : Origin) → Begins o → is_sync o ≡ false →
    is_gap_to (event_at load moment o) ≡ true
gap_to-begins load moment o (inl sync) other = let wrong : is_sync o ≡ true = ap is_sync sync in
    absurd cc
gap_to-begins load moment o (inr start) other = ap (λ p. is_gap_to (event_at load moment p)) start

gap_to-over : (load : Load) (moment : ℕ) (o : Origin) → is_overflow o ≡ true →
    is_gap_to (event_at load moment o) ≡ true
gap_to-over = search rules

-- the tick lies between the latest event and the packet
true-between : (load : Load) (earlier : List Item) (item : Item) (tick : ℕ) (xs : List TimedEvent)
    (y : TimedEvent) → HasNoBreaks load → EachItem (IsPlaced load) (item ∷ earlier) →
    is_control load item.origin ≡ false → is_on load earlier ≡ true →
    is_after_refused_overflow earlier ≡ false → item.outcome ≡ Stored →
    is_sync item.origin ≡ false → AreSent load earlier → events_before load earlier ≡ xs ++ y ∷ [] →
    y.time ≡ last_moment earlier → events_before load (item ∷ earlier) ≡
    events_before load earlier ++ at_time item.moment (event_of load item) ∷ [] →
    last_moment earlier ≤ tick → tick < item.moment →
    IsNamed (context_at (events_before load (item ∷ earlier)) tick) →
    IsTrueAt load (item ∷ earlier) tick
true-between load earlier item tick xs y plain each control on free out other was whole time told
    low high named =
    shown ∙ agree-context (events_before load earlier) (calls_before load earlier)
    (agree-here load earlier item plain each.0 clears) (λ e. named.1 (shown ∙ e))
    ∙ ap context_after (sym truth)
  where
    e : TimedEvent
    e = at_time item.moment (event_of load item)

    up : AreUpTo tick (xs ++ y ∷ [])
    up = subst (AreUpTo tick) whole
        (up_to_more (last_moment earlier) tick (events_before load earlier) low was.up)

    new : context_at (events_before load (item ∷ earlier)) tick ≡
        context_before (events_before load earlier) y (at_time item.moment (event_of load item))
    new = ap (λ es. context_at es tick)
        (told ∙ ap (λ es. es ++ at_time item.moment (event_of load item) ∷ []) whole)
        ∙ context_at-new xs y (at_time item.moment (event_of load item)) tick up
        (omega (arith, time, low)) high
        ∙ ap (λ es. context_before es y (at_time item.moment (event_of load item))) (sym whole)

    no-gap : (is_gap_from y.event || is_gap_to (event_of load item)) ≡ false
    no-gap =
        by_test (is_gap_from y.event || is_gap_to (event_of load item))
        (λ test. named.0
        (new ∙ ap (λ b. cond b Gap (context_after (events_of (events_before load earlier)))) test))

    second : (a b : Bool) → (a || b) ≡ false → b ≡ false
    second true b test = absurd cc
    second false b test = test

    goes : is_gap_to (event_of load item) ≡ false
    goes = second (is_gap_from y.event) (is_gap_to (event_of load item)) no-gap

    shown : context_at (events_before load (item ∷ earlier)) tick ≡
        context_after (events_of (events_before load earlier))
    shown = new
        ∙ ap (λ b. cond b Gap (context_after (events_of (events_before load earlier)))) no-gap

    not_over : is_overflow item.origin ≡ false
    not_over =
        by_test (is_overflow item.origin)
        (λ over. clash (is_gap_to (event_of load item))
        (gap_to-over load item.moment item.origin over) goes)

    packet : is_packet item ≡ true
    packet =
        ap (holds_packet item.origin) out ∙ stored_packet load item.origin control other not_over

    calm : is_restarting load earlier ≡ false
    calm = by_test (is_restarting load earlier)
        (λ begun. clash (is_gap_to (event_of load item))
        (gap_to-begins load item.moment item.origin
        (begins load earlier item each.1 not_over begun) other) goes)

    clears : IsClear load earlier item
    clears = clear load earlier item each.0 each.1 packet on free

    none : IsClear load earlier item → pending_at earlier ≡ 0
    none (inl (empty, last)) = empty
    none (inr t) =
        let last : last_moment (t.overflow ∷ t.rest) ≡ t.overflow.moment =
        last_moment-stored t.rest t.overflow t.stored
        (overflow_plain load t.overflow.origin t.over).1 in
        let here : last_moment earlier ≡ item.moment = ap last_moment t.whole ∙ last ∙ t.moment in
        absurd (omega (arith, low, high, here))

    all : AreUpTo tick (calls_before load earlier)
    all = up_to_more (last_moment earlier) tick (calls_before load earlier) low
        (quiet load earlier each.0 (none clears) on calm)

    truth : events_until (calls_before load (item ∷ earlier)) tick ≡
        events_of (calls_before load earlier)
    truth = until-before load earlier item tick high ∙ ap (map (λ (x : TimedEvent). x.event))
        (filter_all (λ (x : TimedEvent). nat_le x.time tick) (calls_before load earlier) all)

true-packet : (load : Load) (earlier : List Item) (item : Item) → HasNoBreaks load →
    EachItem (IsPlaced load) (item ∷ earlier) → is_control load item.origin ≡ false →
    is_on load earlier ≡ true → is_after_refused_overflow earlier ≡ false → item.outcome ≡ Stored →
    is_sync item.origin ≡ false → AreSent load earlier →
    events_before load (item ∷ earlier) ≡ events_before load earlier ++
    at_time item.moment (event_of load item) ∷ [] → AreTrue load earlier →
    AreTrue load (item ∷ earlier)
true-packet load earlier item plain each control on free out other was told before tick below
    named = by was.ends
  where
    till : tick < item.moment
    till = subst (λ (n : ℕ). tick < n)
        (ap last_time told ∙ last_time-more (events_before load earlier)
        (at_time item.moment (event_of load item))) below

    by : EndsAt load earlier → IsTrueAt load (item ∷ earlier) tick
    by (inl none) =
        absurd (named.0
        (ap (λ es. context_at es tick)
        (told ∙ ap (λ es. es ++ at_time item.moment (event_of load item) ∷ []) none)
        ∙ gap-first (at_time item.moment (event_of load item)) [] tick till))
    by (inr (xs, y, whole, time)) = elim (cases_lt tick (last_moment earlier)) [
      | inl low ↦
          let same : context_at (events_before load (item ∷ earlier)) tick ≡
          context_at (events_before load earlier) tick
          = ap (λ es. context_at es tick)
          (told ∙ ap (λ es. es ++ at_time item.moment (event_of load item) ∷ []) whole)
          ∙ context_at-later xs y (at_time item.moment (event_of load item)) tick
          (omega (arith, low, time)) (omega (arith, time, each.1.later.last))
          ∙ ap (λ es. context_at es tick) (sym whole) in
          let end : last_time (events_before load earlier) ≡ last_moment earlier =
          ap last_time whole ∙ last_time-more xs y ∙ time in
          same ∙ before tick (omega (arith, low, end)) (subst IsNamed same named)
          ∙ ap context_after (sym (until-before load earlier item tick till))
      | inr high ↦
          true-between load earlier item tick xs y plain each control on free out other was whole
          time told high till named
    ]

true-step : (load : Load) (earlier : List Item) (item : Item) → HasNoBreaks load →
    EachItem (IsPlaced load) (item ∷ earlier) → Fate load earlier item → AreSent load earlier →
    AreTrue load earlier → AreTrue load (item ∷ earlier)
true-step load earlier item plain each (handling control out) was before =
    true-same load earlier item each.1 was
    (events-kept load earlier item (ap (λ b. b && is_synced earlier) (ap is_stored out))) before
true-step load earlier item plain each (ignoring control off out) was before =
    true-same load earlier item each.1 was
    (events-kept load earlier item (ap (λ b. b && is_synced earlier) (ap is_stored out))) before
true-step load earlier item plain each (refusing control on out) was before =
    true-same load earlier item each.1 was
    (events-kept load earlier item (ap (λ b. b && is_synced earlier) (ap is_stored out))) before
true-step load earlier item plain each (storing control on free out) was before =
    by (is_synced earlier) (is_sync item.origin) refl refl
  where
    stored : is_stored item.outcome ≡ true
    stored = ap is_stored out

    by : (t s : Bool) → is_synced earlier ≡ t → is_sync item.origin ≡ s →
        AreTrue load (item ∷ earlier)
    by false s none sync =
        let empty : events_before load (item ∷ earlier) ≡ events_before load earlier =
        events-kept load earlier item
        (ap (λ b. is_stored item.outcome && b) none ∙ and_no (is_stored item.outcome)) in
        true-same load earlier item each.1 was empty before
    by true true synced sync =
        true-nops load earlier item each.1 was
        (nops-told load earlier item stored synced sync) before
    by true false synced sync =
        true-packet load earlier item plain each control on free out sync was
        (event-told load earlier item stored synced sync) before

are-true : (load : Load) (earlier : List Item) → HasNoBreaks load →
    EachItem (IsPlaced load) earlier → AreTrue load earlier
are-true load [] plain each = λ tick below named. absurd (omega (arith, below))
are-true load (i ∷ earlier) plain each =
    true-step load earlier i plain each (fate load earlier i each.1.next.outcome)
    (sent load earlier each.0) (are-true load earlier plain each.0)

pub contexts_true : (load : Load) (items : List Item) → IsLegal load items → HasNoBreaks load →
    AreContextsTrue load items (sent_events load items)
contexts_true load items legal plain =
    are-true load (latest_first items) plain (placed load items legal)
