-- What a journal's stream tells.
use Rattle.std.specs.Prelude.{ℕ, ◌-◌, ◌<◌, Bool, List, [], ◌∷◌, ◌++◌, replicate, IsTrue, not, ◌&&◌}
use Rattle.std.specs.Prelude.{if◌then◌else◌}
use Rattle.std.specs.List.{list_any}
use Rattle.sv_packet.specs.declared.event.TimedEvent.{TimedEvent}
use Rattle.sv_packet.specs.declared.event.Event.TheVariants.{Nop}
use Rattle.sv_load.specs.Load.{Load, period}
use Rattle.sv_journal.specs.declared.journal.Item.{Item}
use Rattle.sv_journal.specs.Items.{latest_first, is_sync, is_stored, last_moment, event_of}
use Rattle.sv_journal.specs.Items.{stream_before}
use Rattle.sv_journal.specs.Legal.{EachItem}

-- the bytes of a journal: the blocks of its stored items, joined
abbrev pub stream_of : Load → List Item → List ℕ
stream_of load items = stream_before load (latest_first items)

-- a sync has come before
abbrev pub is_synced : List Item → Bool
is_synced earlier = list_any (λ i. is_sync i.origin) earlier

-- what a stored item tells a decoder: a sync is read as five Nops
abbrev pub events_told_by : Load → List Item → Item → List TimedEvent
events_told_by load earlier item =
    if is_sync item.origin
    then replicate 5 (record { time = last_moment earlier; event = Nop })
    else record { time = item.moment; event = event_of load item } ∷ []

-- the events of the stored items after the first sync, at their moments
abbrev pub events_before : Load → List Item → List TimedEvent
events_before load [] = []
events_before load (i ∷ earlier) =
    events_before load earlier ++
    (if is_stored i.outcome && is_synced earlier then events_told_by load earlier i else [])

abbrev pub sent_events : Load → List Item → List TimedEvent
sent_events load items = events_before load (latest_first items)

-- a stored packet comes before the counter begins again
abbrev pub IsSoon : Load → List Item → Item → Type 0
IsSoon load earlier item = IsTrue (is_stored item.outcome && not (is_sync item.origin))
    → item.moment - last_moment earlier < period load

-- stored packets are less than one counter period apart
abbrev pub IsCalm : Load → List Item → Type 0
IsCalm load items = EachItem (IsSoon load) (latest_first items)
