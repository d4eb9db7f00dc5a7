-- An event of the stream that starts a task is a stored call's.
use Rattle.std.proofs.Common.{◌≡◌, ℕ, zero, suc, Bool, true, false, ◌&&◌, Some, None, List, [], ◌∷◌}
use Rattle.std.proofs.Common.{◌++◌, refl, sym, ap, ◌∙◌, append-nil, ◌⊎◌, inl, inr, rules}
use Rattle.std.specs.Prelude.{option_map, option_to_list, replicate}
use Rattle.std.proofs.lemmas.Bool.{and_parts}
use Rattle.std.proofs.lemmas.List.{reverse-reverse}
use Rattle.sv_packet.specs.declared.event.Event.{Event}
use Rattle.sv_packet.specs.declared.event.Event.TheVariants.{Nop}
use Rattle.sv_packet.specs.declared.event.TimedEvent.{TimedEvent}
use Rattle.sv_packet.specs.Events.{is_break}
use Rattle.sv_load.specs.Load.{Load}
use Rattle.sv_journal.specs.declared.journal.Item.{Item}
use Rattle.sv_journal.specs.Items.{latest_first, is_overflow, is_stored, is_sync, event_of}
use Rattle.sv_journal.specs.Items.{last_moment}
use Rattle.sv_journal.specs.Stream.{events_before, is_synced, sent_events}
use Rattle.sv_latency.specs.Class.{started_task, task_of}
use Rattle.sv_sent.proofs.Shared.{at_time, event-told, events-kept, nops-told}
use Rattle.sv_truth.specs.Truth.{IsStoredCall, call_event, call_in}
use Rattle.sv_truth.proofs.Fronts.{parted}
use Rattle.sv_truth.proofs.Telling.{Telling, breaking, idling, making, telling}

-- WHERE AN ELEMENT STANDS

-- it stands in the first of two lists, or in the second
abbrev Part : {X : Type 0} → List X → List X → List X → List X → X → Type 0
Part {X} xs ys front rest e =
    ((more : List X) × (xs ≡ front ++ e ∷ more)) ⊎
    ((mid : List X) × (front ≡ xs ++ mid) × (ys ≡ mid ++ e ∷ rest))

first : {X : Type 0} {x y : X} {xs ys : List X} → x ∷ xs ≡ y ∷ ys → x ≡ y
first e = cc

others : {X : Type 0} {x y : X} {xs ys : List X} → x ∷ xs ≡ y ∷ ys → xs ≡ ys
others e = cc

none : {X : Type 0} (front rest : List X) (e : X) → [] ≡ front ++ e ∷ rest → ⊥
none [] rest e is = absurd cc
none (f ∷ front) rest e is = absurd cc

part : {X : Type 0} (xs ys front rest : List X) (e : X) → xs ++ ys ≡ front ++ e ∷ rest →
    Part xs ys front rest e
part [] ys front rest e is = inr (front, refl, is)
part (x ∷ xs) ys [] rest e is = inl (xs, ap (λ y. y ∷ xs) (first is))
part (x ∷ xs) ys (f ∷ front) rest e is = by (part xs ys front rest e (others is))
  where
    by : Part xs ys front rest e → Part (x ∷ xs) ys (f ∷ front) rest e
    by (inl (more, same)) =
        inl (more, ap (λ y. y ∷ xs) (first is) ∙ ap (λ zs. f ∷ zs) same)
    by (inr (mid, same, there)) =
        inr (mid, ap (λ zs. f ∷ zs) same ∙ ap (λ y. y ∷ (xs ++ mid)) (sym (first is)), there)

-- of one element repeated each is it
repeated : {X : Type 0} (count : ℕ) (x e : X) (front rest : List X) →
    replicate count x ≡ front ++ e ∷ rest → e ≡ x
repeated zero x e front rest is = absurd (none front rest e is)
repeated (suc count) x e [] rest is = sym (first is)
repeated (suc count) x e (f ∷ front) rest is = repeated count x e front rest (others is)

alone : {X : Type 0} (x e : X) (front rest : List X) → x ∷ [] ≡ front ++ e ∷ rest →
    (e ≡ x) × (front ≡ [])
alone x e [] rest is = (sym (first is), refl)
alone x e (f ∷ front) rest is = absurd (none front rest e (others is))

-- STARTS

break_starts_none : (event : Event) → is_break event ≡ true → started_task event ≡ None
break_starts_none = search rules

taskless_starts_none : (event : Event) → task_of event ≡ None → started_task event ≡ None
taskless_starts_none = search rules

-- among some items, the latest first, stands a stored call, which makes the event
record IsFound (load : Load) (earlier : List Item) (front : List TimedEvent) (event : TimedEvent) :
    Type 0 where
  after : List Item
  item : Item
  before : List Item
  stands : earlier ≡ after ++ item ∷ before
  stored : is_stored item.outcome ≡ true
  makes : call_in load item ≡ event ∷ []
  fronts : front ≡ events_before load before

further : (load : Load) (earlier : List Item) (item : Item) (front : List TimedEvent)
    (event : TimedEvent) → IsFound load earlier front event →
    IsFound load (item ∷ earlier) front event
further load earlier item front event found = record {
  after = item ∷ found.after;
  item = found.item;
  before = found.before;
  stands = ap (λ (items : List Item). item ∷ items) found.stands;
  stored = found.stored;
  makes = found.makes;
  fronts = found.fronts;
}

-- what starts a task is what a call makes
made : (load : Load) (item : Item) (task : ℕ) → started_task (event_of load item) ≡ Some task →
    call_event load item.origin ≡ Some (event_of load item)
made load item task start = by (telling load item.moment item.origin)
  where
    by : Telling (call_event load item.origin) (event_of load item) (is_overflow item.origin) →
        call_event load item.origin ≡ Some (event_of load item)
    by (making some other) = some
    by (breaking nothing test) =
        let no : started_task (event_of load item) ≡ None =
        break_starts_none (event_of load item) test in absurd cc
    by (idling nothing idle other) =
        let no : started_task (event_of load item) ≡ None =
        taskless_starts_none (event_of load item) idle.no_task in absurd cc

here : (load : Load) (earlier : List Item) (item : Item) (front : List TimedEvent)
    (event : TimedEvent) (task : ℕ) → is_stored item.outcome ≡ true →
    event ≡ at_time item.moment (event_of load item) → front ≡ events_before load earlier →
    started_task event.event ≡ Some task → IsFound load (item ∷ earlier) front event
here load earlier item front event task stored is fronts start = record {
  after = [];
  item = item;
  before = earlier;
  stands = refl;
  stored = stored;
  makes =
      ap (λ o. option_to_list (option_map (at_time item.moment) o))
      (made load item task
      (sym (ap (λ (e : TimedEvent). started_task e.event) is) ∙ start))
      ∙ ap (λ e. e ∷ []) (sym is);
  fronts = fronts;
}

-- with one item more
found-step : (load : Load) (earlier : List Item) (i : Item) (front rest : List TimedEvent)
    (event : TimedEvent) (task : ℕ) → events_before load (i ∷ earlier) ≡ front ++ event ∷ rest →
    started_task event.event ≡ Some task →
    ((more : List TimedEvent) → events_before load earlier ≡ front ++ event ∷ more →
    IsFound load earlier front event) → IsFound load (i ∷ earlier) front event
found-step load earlier i front rest event task is start back =
    by (is_stored i.outcome && is_synced earlier) (is_sync i.origin) refl refl
  where
    nop : TimedEvent
    nop = at_time (last_moment earlier) Nop

    own : TimedEvent
    own = at_time i.moment (event_of load i)

    by_nops : Part (events_before load earlier) (replicate 5 nop) front rest event →
        IsFound load (i ∷ earlier) front event
    by_nops (inl (more, same)) = further load earlier i front event (back more same)
    by_nops (inr (mid, same, there)) =
        let no : started_task event.event ≡ None =
        ap (λ (e : TimedEvent). started_task e.event) (repeated 5 nop event mid rest there) in
        absurd cc

    by_one : is_stored i.outcome ≡ true →
        Part (events_before load earlier) (own ∷ []) front rest event →
        IsFound load (i ∷ earlier) front event
    by_one stored (inl (more, same)) = further load earlier i front event (back more same)
    by_one stored (inr (mid, same, there)) =
        let one = alone own event mid rest there in
        here load earlier i front event task stored one.0
        (same
        ∙ ap (λ more. events_before load earlier ++ more) one.1
        ∙ append-nil (events_before load earlier)) start

    by : (t s : Bool) → (is_stored i.outcome && is_synced earlier) ≡ t → is_sync i.origin ≡ s →
        IsFound load (i ∷ earlier) front event
    by false s test sync =
        further load earlier i front event
        (back rest (sym (events-kept load earlier i test) ∙ is))
    by true true test sync =
        let both = and_parts (is_stored i.outcome) (is_synced earlier) test in
        by_nops
        (part (events_before load earlier) (replicate 5 nop) front rest event
        (sym (nops-told load earlier i both.0 both.1 sync) ∙ is))
    by true false test sync =
        let both = and_parts (is_stored i.outcome) (is_synced earlier) test in
        by_one both.0
        (part (events_before load earlier) (own ∷ []) front rest event
        (sym (event-told load earlier i both.0 both.1 sync) ∙ is))

found : (load : Load) (earlier : List Item) (front rest : List TimedEvent) (event : TimedEvent)
    (task : ℕ) → events_before load earlier ≡ front ++ event ∷ rest →
    started_task event.event ≡ Some task → IsFound load earlier front event
found load [] front rest event task is start = absurd (none front rest event is)
found load (i ∷ earlier) front rest event task is start =
    found-step load earlier i front rest event task is start
    (λ more same. found load earlier front more event task same start)

-- so in the order of the journal
pub start_called : (load : Load) (items : List Item) (front rest : List TimedEvent)
    (event : TimedEvent) (task : ℕ) → sent_events load items ≡ front ++ event ∷ rest →
    started_task event.event ≡ Some task →
    (before : List Item) × IsStoredCall load items before event ×
    (front ≡ sent_events load before)
start_called load items front rest event task is start =
    let f = found load (latest_first items) front rest event task is start in (
      latest_first f.before,
      record {
        item = f.item;
        after = latest_first f.after;
        stands =
            sym (reverse-reverse items)
            ∙ ap latest_first f.stands
            ∙ parted f.after f.item f.before;
        stored = f.stored;
        makes = f.makes;
      },
      f.fronts ∙ ap (events_before load) (sym (reverse-reverse f.before)),
    )
