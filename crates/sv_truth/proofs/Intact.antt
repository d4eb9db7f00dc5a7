-- While nothing is pending, the events that were sent agree with all calls; and while the recorder
-- is off besides, they
-- tell nothing since the last break.
use Rattle.std.proofs.Common.{◌≡◌, ℕ, zero, suc, ◌+◌, Bool, true, false, not, ◌&&◌, Some, None}
use Rattle.std.proofs.Common.{List, [], ◌∷◌, ◌++◌, refl, sym, ap, subst, ◌∙◌, append_assoc}
use Rattle.std.proofs.Common.{append-nil, arith}
use Rattle.std.specs.Prelude.{replicate, option_map, option_to_list}
use Rattle.sv_packet.specs.declared.event.Event.{Event}
use Rattle.sv_packet.specs.declared.event.Event.TheVariants.{Nop}
use Rattle.sv_packet.specs.declared.event.TimedEvent.{TimedEvent}
use Rattle.sv_packet.specs.Events.{is_break}
use Rattle.sv_load.specs.Load.{Load}
use Rattle.sv_journal.specs.declared.journal.Origin.TheVariants.{Sync}
use Rattle.sv_journal.specs.declared.journal.Item.{Item}
use Rattle.sv_journal.specs.Items.{is_sync, is_overflow, is_start, is_stop_reply, is_stored}
use Rattle.sv_journal.specs.Items.{is_refused, is_packet, is_on, pending_at, last_moment, event_of}
use Rattle.sv_journal.specs.Legal.{EachItem, outcome_at}
use Rattle.sv_journal.specs.Stream.{is_synced, events_before}
use Rattle.sv_journal.proofs.Shared.{pending_at-refused, pending_at-other, is_on-start, is_on-other}
use Rattle.sv_journal.proofs.Shared.{is_on-told}
use Rattle.sv_sent.proofs.Shared.{Fate, and_no, event-told, events-kept, fate, handling, ignoring}
use Rattle.sv_sent.proofs.Shared.{at_time, nops-told, refusing, start_off_control, storing, sync_is}
use Rattle.sv_truth.specs.Truth.{call_event, calls_before}
use Rattle.sv_truth.proofs.Facts.{packet_no_overflow, stop_is_packet, stop_not_control, unsynced}
use Rattle.sv_truth.proofs.Agreeing.{Agree, IsBlank, IsIdle, agree-blank, agree-both, agree-idle}
use Rattle.sv_truth.proofs.Agreeing.{blank-break, blank-idle, blank-none}
use Rattle.sv_truth.proofs.Telling.{Telling, breaking, control_no_call, idle_nop, idling, making}
use Rattle.sv_truth.proofs.Telling.{HasNoBreaks, no_packet_no_call, stop_breaks, telling}

pub record IsIntact (load : Load) (earlier : List Item) : Type 0 where
  pub agree : pending_at earlier ≡ 0 →
      Agree (events_before load earlier) (calls_before load earlier)
  pub blank : pending_at earlier ≡ 0 → is_on load earlier ≡ false →
      IsBlank (events_before load earlier)

-- PIECES

-- an item that makes no event leaves the calls
pub calls-kept : (load : Load) (earlier : List Item) (item : Item) →
    call_event load item.origin ≡ None →
    calls_before load (item ∷ earlier) ≡ calls_before load earlier
calls-kept load earlier item none =
    ap (λ o. calls_before load earlier ++ option_to_list (option_map (at_time item.moment) o)) none
    ∙ append-nil (calls_before load earlier)

pub calls-more : (load : Load) (earlier : List Item) (item : Item) (event : Event) →
    call_event load item.origin ≡ Some event →
    calls_before load (item ∷ earlier) ≡ calls_before load earlier ++ at_time item.moment event ∷ []
calls-more load earlier item event some =
    ap (λ o. calls_before load earlier ++ option_to_list (option_map (at_time item.moment) o)) some

agree-many : (count : ℕ) (sent more : List TimedEvent) (e : TimedEvent) → IsIdle e.event →
    Agree sent more → Agree (sent ++ replicate count e) more
agree-many zero sent more e idle agree =
    subst (λ (es : List TimedEvent). Agree es more) (sym (append-nil sent)) agree
agree-many (suc count) sent more e idle agree =
    subst (λ (es : List TimedEvent). Agree es more) (append_assoc sent (e ∷ []) (replicate count e))
    (agree-many count (sent ++ e ∷ []) more e idle (agree-idle sent more e idle agree))

blank-many : (count : ℕ) (sent : List TimedEvent) (e : TimedEvent) → IsIdle e.event → IsBlank sent →
    IsBlank (sent ++ replicate count e)
blank-many zero sent e idle blank = subst IsBlank (sym (append-nil sent)) blank
blank-many (suc count) sent e idle blank =
    subst IsBlank (append_assoc sent (e ∷ []) (replicate count e))
    (blank-many count (sent ++ e ∷ []) e idle (blank-idle sent e idle blank))

-- what is blank agrees
from-blank : (load : Load) (earlier : List Item) → IsBlank (events_before load earlier) →
    IsIntact load earlier
from-blank load earlier blank = record {
  agree = λ none. agree-blank (events_before load earlier) (calls_before load earlier) blank;
  blank = λ none off. blank;
}

-- A STEP

-- an item that is not stored and makes no event leaves all as it was
intact-kept : (load : Load) (earlier : List Item) (item : Item) → is_stored item.outcome ≡ false →
    call_event load item.origin ≡ None → pending_at (item ∷ earlier) ≡ pending_at earlier →
    (is_on load (item ∷ earlier) ≡ false → is_on load earlier ≡ false) → IsIntact load earlier →
    IsIntact load (item ∷ earlier)
intact-kept load earlier item kept none same off intact =
    let events : events_before load (item ∷ earlier) ≡ events_before load earlier =
    events-kept load earlier item (ap (λ b. b && is_synced earlier) kept) in
    let made : calls_before load (item ∷ earlier) ≡ calls_before load earlier =
    calls-kept load earlier item none in
    record {
      agree = λ empty. rw (events, made) (intact.agree (sym same ∙ empty));
      blank = λ empty now. rw events (intact.blank (sym same ∙ empty) (off now));
    }

-- a recorder that was on, and has told no break, is on
stays-on : (load : Load) (earlier : List Item) (item : Item) → is_start load item.origin ≡ false →
    is_on load earlier ≡ true → is_break (event_of load item) ≡ false →
    is_on load (item ∷ earlier) ≡ true
stays-on load earlier item start on goes =
    is_on-told load earlier item start on ∙ ap not (by (is_stop_reply item.origin) refl)
  where
    by : (t : Bool) → is_stop_reply item.origin ≡ t → is_stop_reply item.origin ≡ false
    by false is = is
    by true is = let wrong : is_break (event_of load item) ≡ true =
        stop_breaks load item.moment item.origin is in absurd cc

-- a stored packet, as it tells
intact-told : (load : Load) (earlier : List Item) (item : Item) → HasNoBreaks load →
    Telling (call_event load item.origin) (event_of load item) (is_overflow item.origin) →
    is_start load item.origin ≡ false → is_on load earlier ≡ true →
    is_refused item.outcome ≡ false → events_before load (item ∷ earlier) ≡
    events_before load earlier ++ at_time item.moment (event_of load item) ∷ [] →
    IsIntact load earlier → IsIntact load (item ∷ earlier)
intact-told load earlier item plain (breaking none test) start on kept told intact =
    from-blank load (item ∷ earlier)
    (subst IsBlank (sym told)
    (blank-break (events_before load earlier) (at_time item.moment (event_of load item)) test))
intact-told load earlier item plain (making some other) start on kept told intact =
    let goes : is_break (event_of load item) ≡ false =
    plain item.origin (event_of load item) some in
    let same : pending_at (item ∷ earlier) ≡ pending_at earlier =
    pending_at-other earlier item (ap (λ b. b && is_stored item.outcome) other)
    (ap (λ b. is_packet item && b) kept ∙ and_no (is_packet item)) in
    let now : is_on load (item ∷ earlier) ≡ true = stays-on load earlier item start on goes in
    record {
      agree = λ empty. rw (told, calls-more load earlier item (event_of load item) some)
          (agree-both (events_before load earlier) (calls_before load earlier)
          (at_time item.moment (event_of load item)) goes (intact.agree (sym same ∙ empty)));
      blank = λ empty off. absurd cc;
    }
intact-told load earlier item plain (idling none idle other) start on kept told intact =
    let same : pending_at (item ∷ earlier) ≡ pending_at earlier =
    pending_at-other earlier item (ap (λ b. b && is_stored item.outcome) other)
    (ap (λ b. is_packet item && b) kept ∙ and_no (is_packet item)) in
    let now : is_on load (item ∷ earlier) ≡ true =
    stays-on load earlier item start on idle.goes_on in
    record {
      agree = λ empty. rw (told, calls-kept load earlier item none)
          (agree-idle (events_before load earlier) (calls_before load earlier)
          (at_time item.moment (event_of load item)) idle (intact.agree (sym same ∙ empty)));
      blank = λ empty off. absurd cc;
    }

intact-synced : (load : Load) (earlier : List Item) (item : Item) → HasNoBreaks load →
    is_synced earlier ≡ true → Fate load earlier item → IsIntact load earlier →
    IsIntact load (item ∷ earlier)
intact-synced load earlier item plain synced (handling control out) intact =
    let kept : is_stored item.outcome ≡ false = ap is_stored out in
    let same : pending_at (item ∷ earlier) ≡ pending_at earlier =
    pending_at-other earlier item
    (ap (λ b. is_overflow item.origin && b) kept ∙ and_no (is_overflow item.origin))
    (ap (λ o. is_packet item && is_refused o) out ∙ and_no (is_packet item)) in
    intact-kept load earlier item kept (control_no_call load item.origin control) same
    (by (is_start load item.origin) refl) intact
  where
    by : (t : Bool) → is_start load item.origin ≡ t → is_on load (item ∷ earlier) ≡ false →
        is_on load earlier ≡ false
    by true start now = let on : is_on load (item ∷ earlier) ≡ true =
        is_on-start load earlier item start in absurd cc
    by false start now =
        sym (is_on-other load earlier item start (stop_not_control load item.origin control)) ∙ now
intact-synced load earlier item plain synced (ignoring control off out) intact =
    let kept : is_stored item.outcome ≡ false = ap is_stored out in
    let same : pending_at (item ∷ earlier) ≡ pending_at earlier =
    pending_at-other earlier item
    (ap (λ b. is_overflow item.origin && b) kept ∙ and_no (is_overflow item.origin))
    (ap (λ o. is_packet item && is_refused o) out ∙ and_no (is_packet item)) in
    let events : events_before load (item ∷ earlier) ≡ events_before load earlier =
    events-kept load earlier item (ap (λ b. b && is_synced earlier) kept) in
    record {
      agree = λ empty. agree-blank (events_before load (item ∷ earlier))
          (calls_before load (item ∷ earlier))
          (subst IsBlank (sym events) (intact.blank (sym same ∙ empty) off));
      blank = λ empty now. subst IsBlank (sym events) (intact.blank (sym same ∙ empty) off);
    }
intact-synced load earlier item plain synced (refusing control on out) intact =
    by (is_packet item) refl
  where
    kept : is_stored item.outcome ≡ false
    kept = ap is_stored out

    start : is_start load item.origin ≡ false
    start = start_off_control load item.origin control

    by : (t : Bool) → is_packet item ≡ t → IsIntact load (item ∷ earlier)
    by true packet =
        let more : pending_at (item ∷ earlier) ≡ 1 + pending_at earlier =
        pending_at-refused earlier item (packet_no_overflow item packet) packet
        (ap is_refused out) in
        record {
          agree = λ empty. absurd (omega (arith, more, empty));
          blank = λ empty off. absurd (omega (arith, more, empty));
        }
    by false packet =
        let same : pending_at (item ∷ earlier) ≡ pending_at earlier =
        pending_at-other earlier item
        (ap (λ b. is_overflow item.origin && b) kept ∙ and_no (is_overflow item.origin))
        (ap (λ b. b && is_refused item.outcome) packet) in
        intact-kept load earlier item kept (no_packet_no_call load item out packet) same
        (λ now. sym
        (is_on-other load earlier item start (no_stop (is_stop_reply item.origin) refl)) ∙ now)
        intact
      where
        no_stop : (t : Bool) → is_stop_reply item.origin ≡ t → is_stop_reply item.origin ≡ false
        no_stop false is = is
        no_stop true is = let wrong : is_packet item ≡ true = stop_is_packet item is in absurd cc
intact-synced load earlier item plain synced (storing control on lost out) intact =
    by (is_sync item.origin) refl
  where
    stored : is_stored item.outcome ≡ true
    stored = ap is_stored out

    start : is_start load item.origin ≡ false
    start = start_off_control load item.origin control

    by : (t : Bool) → is_sync item.origin ≡ t → IsIntact load (item ∷ earlier)
    by false other =
        intact-told load earlier item plain (telling load item.moment item.origin) start on
        (ap is_refused out) (event-told load earlier item stored synced other) intact
    by true sync =
        let is : item.origin ≡ Sync = sync_is item.origin sync in
        let same : pending_at (item ∷ earlier) ≡ pending_at earlier =
        pending_at-other earlier item
        (ap (λ b. b && is_stored item.outcome) (ap is_overflow is))
        (ap (λ o. is_packet item && is_refused o) out ∙ and_no (is_packet item)) in
        let now : is_on load (item ∷ earlier) ≡ true =
        is_on-other load earlier item start (ap is_stop_reply is) ∙ on in
        let nop : TimedEvent = at_time (last_moment earlier) Nop in
        record {
          agree = λ empty. rw (
            nops-told load earlier item stored synced sync,
            calls-kept load earlier item (ap (call_event load) is),
          )
              (agree-many 5 (events_before load earlier) (calls_before load earlier) nop idle_nop
              (intact.agree (sym same ∙ empty)));
          blank = λ empty off. absurd cc;
        }

intact-step : (load : Load) (earlier : List Item) (item : Item) → HasNoBreaks load →
    item.outcome ≡ outcome_at load earlier item → IsIntact load earlier →
    IsIntact load (item ∷ earlier)
intact-step load earlier item plain is intact = by (is_synced earlier) refl
  where
    by : (t : Bool) → is_synced earlier ≡ t → IsIntact load (item ∷ earlier)
    by true synced = intact-synced load earlier item plain synced (fate load earlier item is) intact
    by false none =
        let events : events_before load (item ∷ earlier) ≡ [] =
        events-kept load earlier item
        (ap (λ b. is_stored item.outcome && b) none ∙ and_no (is_stored item.outcome))
        ∙ unsynced load earlier none in
        from-blank load (item ∷ earlier) (subst IsBlank (sym events) blank-none)

-- what becomes of each item is what the items before it make of it
abbrev pub IsDecided : Load → List Item → Item → Type 0
IsDecided load earlier item = item.outcome ≡ outcome_at load earlier item

pub intact : (load : Load) (earlier : List Item) → HasNoBreaks load →
    EachItem (IsDecided load) earlier → IsIntact load earlier
intact load [] plain each = from-blank load [] blank-none
intact load (i ∷ earlier) plain each =
    intact-step load earlier i plain each.1 (intact load earlier plain each.0)
