-- Packets one after another, as a recording holds them.
use Rattle.std.specs.Prelude.{◌≡◌, ℕ, List, [], ◌∷◌, ◌++◌}
use Rattle.sv_prim.specs.Code.{Begins}
use Rattle.sv_packet.specs.declared.event.Packet.{Packet}
use Rattle.sv_packet.specs.Packet.{IsPacket}

-- the bytes spell these packets, one after another
abbrev pub ArePackets : List Packet → List ℕ → Type 0
ArePackets [] bytes = bytes ≡ []
ArePackets (packet ∷ packets) bytes =
    (first : List ℕ) × (rest : List ℕ) × IsPacket packet first × ArePackets packets rest ×
    (bytes ≡ first ++ rest)

-- the bytes begin with no packet
abbrev pub BeginsWithNone : List ℕ → Type 0
BeginsWithNone bytes = (packet : Packet) (used : ℕ) → Begins IsPacket bytes packet used → ⊥
