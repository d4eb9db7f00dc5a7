-- Items that hold packets, and the bytes of those.
use Rattle.std.specs.Prelude.{ℕ, ◌-◌, ◌%◌, Bool, true, false, List}
use Rattle.sv_packet.specs.Spelling.{spelling_of}
use Rattle.sv_load.specs.Load.{Load, period}
use Rattle.sv_journal.specs.declared.journal.Origin.{Origin}
use Rattle.sv_journal.specs.declared.journal.Origin.TheVariants.{Call, Reply}
use Rattle.sv_journal.specs.Items.{event_at}

-- the spelling of an item's packet, where the packet stored before it has this moment
abbrev pub packet_block : Load → Origin → ℕ → ℕ → List ℕ
packet_block load origin moment last = spelling_of (event_at load moment origin)
    ((moment - last) % period load)

-- calls and replies hold packets
abbrev pub is_call_or_reply : Origin → Bool
is_call_or_reply (Call writer step) = true
is_call_or_reply (Reply kind index) = true
is_call_or_reply other = false
