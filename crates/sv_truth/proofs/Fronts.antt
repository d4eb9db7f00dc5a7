-- A stored call in the stream: the events that were sent before it, its own, and further ones.
use Rattle.std.proofs.Common.{◌≡◌, ◌≢◌, ◌≤◌, true, false, ◌&&◌, cond, Option, rules, Some, None}
use Rattle.std.proofs.Common.{List, [], ◌∷◌, ◌++◌, reverse, refl, sym, ap, subst, ◌∙◌, append_assoc}
use Rattle.std.proofs.Common.{append-nil}
use Rattle.std.specs.Prelude.{option_map, option_to_list}
use Rattle.std.proofs.lemmas.List.{reverse-append}
use Rattle.sv_packet.specs.declared.event.Event.{Event}
use Rattle.sv_packet.specs.declared.event.TimedEvent.{TimedEvent}
use Rattle.sv_load.specs.Load.{Load}
use Rattle.sv_journal.specs.declared.journal.Origin.{Origin}
use Rattle.sv_journal.specs.declared.journal.Item.{Item}
use Rattle.sv_journal.specs.Items.{latest_first, is_sync, is_overflow, is_stored, event_of}
use Rattle.sv_journal.specs.Legal.{EachItem, IsLegal}
use Rattle.sv_journal.specs.Stream.{is_synced, events_told_by, events_before, sent_events}
use Rattle.sv_sent.proofs.Shared.{AreSpellable, IsPlaced, IsSpellable, event-told, at_time, how_far}
use Rattle.sv_sent.proofs.Shared.{placed, synced-before}
use Rattle.sv_latency.specs.declared.class.Class.{Class}
use Rattle.sv_latency.specs.declared.class.Class.TheVariants.{Unknown}
use Rattle.sv_latency.specs.Class.{class_of}
use Rattle.sv_truth.specs.Truth.{IsStoredCall, all_calls, call_event, call_in}
use Rattle.sv_truth.proofs.Classes.{classes_true, IsClassTrue}
use Rattle.sv_truth.proofs.Telling.{Telling, breaking, idling, making, telling, HasNoBreaks}
use Rattle.sv_truth.proofs.Facts.{each_after}

pub parted : (before : List Item) (item : Item) (after : List Item) →
    latest_first (before ++ item ∷ after) ≡ latest_first after ++ item ∷ latest_first before
parted before item after =
    reverse-append before (item ∷ after)
    ∙ ap (λ (xs : List Item). xs ++ reverse before) (reverse-append (item ∷ []) after)
    ∙ append_assoc (reverse after) (item ∷ []) (reverse before)

at-place : (P : List Item → Item → Type 0) (items before after : List Item) (item : Item) →
    items ≡ before ++ item ∷ after → EachItem P (latest_first items) →
    EachItem P (item ∷ latest_first before)
at-place P items before after item stands each =
    each_after P (latest_first after) (item ∷ latest_first before)
    (subst (EachItem P) (ap latest_first stands ∙ parted before item after) each)

grown : (load : Load) (after earlier : List Item) →
    (more : List TimedEvent) ×
    (events_before load (after ++ earlier) ≡ events_before load earlier ++ more)
grown load [] earlier = ([], sym (append-nil (events_before load earlier)))
grown load (i ∷ after) earlier =
    let (more, is) = grown load after earlier in
    let last : List TimedEvent =
    cond (is_stored i.outcome && is_synced (after ++ earlier))
    (events_told_by load (after ++ earlier) i) [] in
    (more ++ last, ap (λ es. es ++ last) is ∙ append_assoc (events_before load earlier) more last)

call-not-sync : (load : Load) (o : Origin) (event : Event) → call_event load o ≡ Some event →
    is_sync o ≡ false
call-not-sync = search rules

-- what a call makes is what it tells
record IsCallOf (load : Load) (item : Item) (event : TimedEvent) : Type 0 where
  made : event ≡ at_time item.moment (event_of load item)
  other : is_sync item.origin ≡ false

call-of : (load : Load) (item : Item) (event : TimedEvent) → call_in load item ≡ event ∷ [] →
    IsCallOf load item event
call-of load item event makes =
    by (telling load item.moment item.origin) (call_event load item.origin) refl makes
  where
    by : Telling (call_event load item.origin) (event_of load item) (is_overflow item.origin) →
        (o : Option Event) → call_event load item.origin ≡ o →
        option_to_list (option_map (at_time item.moment) o) ≡ event ∷ [] → IsCallOf load item event
    by t None at e = absurd cc
    by (making some over) (Some found) at e =
        let same : found ≡ event_of load item = cc in
        let one : at_time item.moment found ≡ event = cc in
        record {
          made = sym one ∙ ap (at_time item.moment) same;
          other =
              call-not-sync load item.origin found at;
        }
    by (breaking none test) (Some found) at e = absurd cc
    by (idling none idle over) (Some found) at e = absurd cc

-- the events sent: those before the call, the call's, and more
pub stored_call : (load : Load) (items before : List Item) (event : TimedEvent) →
    IsLegal load items → 64 ≤ load.ring → AreSpellable load items →
    IsStoredCall load items before event →
    (more : List TimedEvent) × (sent_events load items ≡ sent_events load before ++ event ∷ more)
stored_call load items before event legal ring spellable call =
    let item : Item = call.item in
    let of = call-of load item event call.makes in
    let here =
    at-place (IsPlaced load) items before call.after item call.stands
    (placed load items legal) in
    let said = at-place (IsSpellable load) items before call.after item call.stands spellable in
    let synced : is_synced (latest_first before) ≡ true =
    synced-before load (latest_first before) item here.1 call.stored of.other
    (how_far load (latest_first before) ring here.0 said.0) in
    let told : events_before load (item ∷ latest_first before) ≡ sent_events load before ++
    event ∷ [] =
    event-told load (latest_first before) item call.stored synced of.other
    ∙ ap (λ e. sent_events load before ++ e ∷ []) (sym of.made) in
    let (more, all) = grown load (latest_first call.after) (item ∷ latest_first before) in (
      more,
      ap (events_before load) (ap latest_first call.stands ∙ parted before item call.after)
          ∙ all ∙ ap (λ es. es ++ more) told
          ∙ append_assoc (sent_events load before) (event ∷ []) more,
    )

-- its class by the events before it is the one by all calls before it, or it is unknown
pub class_told : (load : Load) (items before : List Item) (event : TimedEvent) (class : Class) →
    IsLegal load items → HasNoBreaks load → IsStoredCall load items before event →
    class_of (sent_events load before) event ≡ Some class → class ≢ Unknown →
    class_of (all_calls load before) event ≡ Some class
class_told load items before event class legal plain call =
    (at-place (IsClassTrue load) items before call.after call.item call.stands
    (classes_true load items legal plain)).1 event class call.stored call.makes
