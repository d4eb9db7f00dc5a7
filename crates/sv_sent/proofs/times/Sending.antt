-- The events that were sent, with one item more.
use Rattle.std.proofs.Common.{ℕ, ◌≡◌, true, false, ◌&&◌, cond, List, [], ◌∷◌, ◌++◌, ap, ◌∙◌}
use Rattle.std.proofs.Common.{append-nil}
use Rattle.std.specs.Prelude.{replicate}
use Rattle.sv_packet.specs.declared.event.Event.{Event}
use Rattle.sv_packet.specs.declared.event.TimedEvent.{TimedEvent}
use Rattle.sv_packet.specs.declared.event.Event.TheVariants.{Nop}
use Rattle.sv_load.specs.Load.{Load}
use Rattle.sv_journal.specs.declared.journal.Item.{Item}
use Rattle.sv_journal.specs.Items.{is_sync, is_stored, last_moment, event_of}
use Rattle.sv_journal.specs.Stream.{is_synced, events_told_by, events_before}

abbrev pub at_time : ℕ → Event → TimedEvent
at_time time event = record { time = time; event = event }

pub events-kept : (load : Load) (earlier : List Item) (item : Item) →
    (is_stored item.outcome && is_synced earlier) ≡ false →
    events_before load (item ∷ earlier) ≡ events_before load earlier
events-kept load earlier item test =
    ap (λ b. events_before load earlier ++ cond b (events_told_by load earlier item) []) test
    ∙ append-nil (events_before load earlier)

pub events-told : (load : Load) (earlier : List Item) (item : Item) →
    is_stored item.outcome ≡ true → is_synced earlier ≡ true →
    events_before load (item ∷ earlier)
    ≡ events_before load earlier ++ events_told_by load earlier item
events-told load earlier item stored synced =
    ap (λ b. events_before load earlier ++
    cond (b && is_synced earlier) (events_told_by load earlier item) []) stored
    ∙ ap (λ b. events_before load earlier ++ cond b (events_told_by load earlier item) []) synced

pub event-told : (load : Load) (earlier : List Item) (item : Item) → is_stored item.outcome ≡ true →
    is_synced earlier ≡ true → is_sync item.origin ≡ false →
    events_before load (item ∷ earlier) ≡
    events_before load earlier ++ at_time item.moment (event_of load item) ∷ []
event-told load earlier item stored synced other =
    events-told load earlier item stored synced
    ∙ ap
    (λ b.
    events_before load earlier ++ cond b (replicate 5 (at_time (last_moment earlier) Nop))
    (at_time item.moment (event_of load item) ∷ [])) other

pub nops-told : (load : Load) (earlier : List Item) (item : Item) → is_stored item.outcome ≡ true →
    is_synced earlier ≡ true → is_sync item.origin ≡ true →
    events_before load (item ∷ earlier) ≡
    events_before load earlier ++ replicate 5 (at_time (last_moment earlier) Nop)
nops-told load earlier item stored synced sync =
    events-told load earlier item stored synced
    ∙ ap
    (λ b.
    events_before load earlier ++ cond b (replicate 5 (at_time (last_moment earlier) Nop))
    (at_time item.moment (event_of load item) ∷ [])) sync
