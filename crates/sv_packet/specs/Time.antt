-- Times (UM08027): a packet's delta counts the ticks since the packet before it.
use Rattle.std.specs.Prelude.{ℕ, List, [], ◌∷◌, ◌++◌, map, sum_by}
use Rattle.sv_packet.specs.declared.event.Packet.{Packet}
use Rattle.sv_packet.specs.declared.event.TimedEvent.{TimedEvent}

-- each element of a list, with the given ones and those of the list before it
abbrev pub with_before_from : {A : Type 0} → List A → List A → List (List A × A)
with_before_from before [] = []
with_before_from before (x ∷ xs) = (before, x) ∷ with_before_from (before ++ x ∷ []) xs

-- each element of a list, with those before it
abbrev pub with_before : {A : Type 0} → List A → List (List A × A)
with_before xs = with_before_from [] xs

-- the time of the last of some packets: the sum of their deltas
abbrev pub time_of : List Packet → ℕ
time_of packets = sum_by (λ packet. packet.delta) packets

-- each packet's event at the sum of the deltas up to it
abbrev pub timed : List Packet → List TimedEvent
timed packets =
    map (λ at. record { time = time_of (at.0 ++ at.1 ∷ []); event = at.1.event })
    (with_before packets)
