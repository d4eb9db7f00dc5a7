-- Classes through gaps: what the stream tells of a start's wait is true of all calls.
use Rattle.std.proofs.Common.{◌≡◌, ◌≢◌, true, false, Option, Some, None, List, [], ◌∷◌, refl, ap}
use Rattle.std.proofs.Common.{◌∙◌, rules}
use Rattle.std.specs.Prelude.{option_map, option_to_list}
use Rattle.sv_packet.specs.declared.event.Event.{Event}
use Rattle.sv_packet.specs.declared.event.TimedEvent.{TimedEvent}
use Rattle.sv_load.specs.Load.{Load}
use Rattle.sv_journal.specs.declared.journal.Origin.{Origin}
use Rattle.sv_journal.specs.declared.journal.Outcome.TheVariants.{Stored}
use Rattle.sv_journal.specs.declared.journal.Item.{Item}
use Rattle.sv_journal.specs.Items.{latest_first, is_stored, is_packet, holds_packet}
use Rattle.sv_journal.specs.Legal.{EachItem, IsLegal}
use Rattle.sv_journal.specs.Stream.{events_before}
use Rattle.sv_sent.proofs.Shared.{Fate, IsPlaced, fate, handling, ignoring, placed, refusing}
use Rattle.sv_sent.proofs.Shared.{at_time, storing}
use Rattle.sv_latency.specs.declared.class.Class.{Class}
use Rattle.sv_latency.specs.declared.class.Class.TheVariants.{Unknown}
use Rattle.sv_latency.specs.Class.{class_of}
use Rattle.sv_truth.specs.Truth.{call_event, call_in, calls_before}
use Rattle.sv_truth.proofs.Telling.{HasNoBreaks}
use Rattle.sv_truth.proofs.Agreeing.{agree-class}
use Rattle.sv_truth.proofs.Clear.{agree-here, clear}

-- the class that a stored call has by the events sent before it is the one by all calls, or it is
-- unknown
abbrev pub IsClassTrue : Load → List Item → Item → Type 0
IsClassTrue load earlier item =
    (event : TimedEvent) (class : Class) → is_stored item.outcome ≡ true →
    call_in load item ≡ event ∷ [] → class_of (events_before load earlier) event ≡ Some class →
    class ≢ Unknown → class_of (calls_before load earlier) event ≡ Some class

abbrev pub AreClassesTrue : Load → List Item → Type 0
AreClassesTrue load items = EachItem (IsClassTrue load) (latest_first items)

pub call_packet : (load : Load) (origin : Origin) (event : Event) →
    call_event load origin ≡ Some event → holds_packet origin Stored ≡ true
call_packet = search rules

made : (load : Load) (item : Item) (event : TimedEvent) → call_in load item ≡ event ∷ [] →
    (e : Event) × (call_event load item.origin ≡ Some e)
made load item event is = by (call_event load item.origin) refl is
  where
    by : (o : Option Event) → call_event load item.origin ≡ o →
        option_to_list (option_map (at_time item.moment) o) ≡ event ∷ [] →
        (e : Event) × (call_event load item.origin ≡ Some e)
    by None at e = absurd cc
    by (Some found) at e = (found, at)

class-true : (load : Load) (earlier : List Item) (item : Item) → HasNoBreaks load →
    EachItem (IsPlaced load) earlier → IsPlaced load earlier item → IsClassTrue load earlier item
class-true load earlier item plain each here event class stored makes is known =
    by (fate load earlier item here.next.outcome)
  where
    by : Fate load earlier item → class_of (calls_before load earlier) event ≡ Some class
    by (handling control out) = let not_stored : is_stored item.outcome ≡ false =
        ap is_stored out in absurd cc
    by (ignoring control off out) = let not_stored : is_stored item.outcome ≡ false =
        ap is_stored out in absurd cc
    by (refusing control on out) = let not_stored : is_stored item.outcome ≡ false =
        ap is_stored out in absurd cc
    by (storing control on free out) =
        let m = made load item event makes in
        let packet : is_packet item ≡ true =
        ap (holds_packet item.origin) out ∙ call_packet load item.origin m.0 m.1 in
        agree-class (events_before load earlier) (calls_before load earlier) event class
        (agree-here load earlier item plain each
        (clear load earlier item each here packet on free)) is known

each-true : (load : Load) (earlier : List Item) → HasNoBreaks load →
    EachItem (IsPlaced load) earlier → EachItem (IsClassTrue load) earlier
each-true load [] plain each = tt
each-true load (i ∷ earlier) plain each =
    (each-true load earlier plain each.0, class-true load earlier i plain each.0 each.1)

pub classes_true : (load : Load) (items : List Item) → IsLegal load items → HasNoBreaks load →
    AreClassesTrue load items
classes_true load items legal plain =
    each-true load (latest_first items) plain (placed load items legal)
