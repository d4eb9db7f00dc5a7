-- The packets that a journal's stream is read as.
use Rattle.std.specs.Prelude.{◌&&◌, List, [], ◌∷◌, ◌++◌, replicate, if◌then◌else◌}
use Rattle.sv_packet.specs.declared.event.Packet.{Packet}
use Rattle.sv_packet.specs.declared.event.Event.TheVariants.{Nop}
use Rattle.sv_load.specs.Load.{Load}
use Rattle.sv_journal.specs.declared.journal.Item.{Item}
use Rattle.sv_journal.specs.Items.{latest_first, is_sync, is_stored, event_of, delta_of}
use Rattle.sv_journal.specs.Stream.{is_synced}

-- the packets of a stored item: the ten zeros of a sync are read as five Nops (UM08027,
-- synchronisation)
abbrev pub packets_of : Load → List Item → Item → List Packet
packets_of load earlier item =
    if is_sync item.origin
    then replicate 5 (record { event = Nop; delta = 0 })
    else record { event = event_of load item; delta = delta_of load earlier item } ∷ []

-- the packets of the stored items after the first sync, which is where a decoder begins
abbrev pub packets_before : Load → List Item → List Packet
packets_before load [] = []
packets_before load (i ∷ earlier) =
    packets_before load earlier ++
    (if is_stored i.outcome && is_synced earlier then packets_of load earlier i else [])

abbrev pub sent_packets : Load → List Item → List Packet
sent_packets load items = packets_before load (latest_first items)
