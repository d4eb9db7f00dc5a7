-- Which packets a recorder can form, and how long they are at most.
use Rattle.std.specs.Prelude.{◌≡◌, ℕ, ◌-◌, ◌<◌, Some, length}
use Rattle.sv_packet.specs.declared.event.Event.{Event}
use Rattle.sv_packet.specs.Spelling.{IsRecordable}
use Rattle.sv_load.specs.declared.load.Act.TheVariants as acts
use Rattle.sv_load.specs.Load.{Load, act_of}
use Rattle.sv_journal.specs.declared.journal.Kind.{Kind}
use Rattle.sv_journal.specs.declared.journal.Kind.TheVariants as kinds
use Rattle.sv_journal.specs.declared.journal.Origin.{Origin}
use Rattle.sv_journal.specs.declared.journal.Origin.TheVariants.{Call, Sync, Reply, Overflow}
use Rattle.sv_journal.specs.declared.journal.Origin.TheVariants.{Command}
use Rattle.sv_need.specs.Weights.{weight, byte_weights}

-- there is the line, task or module that a reply describes
abbrev pub IsThere : Load → Kind → ℕ → Type 0
IsThere load kinds.Line index = index < length load.lines
IsThere load kinds.Task index = index < length load.tasks
IsThere load kinds.Stack index = index < length load.tasks
IsThere load kinds.Module index = index < length load.modules
IsThere load other index = Unit {0}

-- an item's packet can be formed: a step's event that a recorder takes, an overflow, or a reply
-- about what is there
abbrev pub IsFormed : Load → Origin → Type 0
IsFormed load (Call writer step) = (event : Event)
    × (act_of load writer step ≡ Some (acts.Event event)) × IsRecordable event
IsFormed load (Overflow count) = Unit {0}
IsFormed load (Reply kind index) = IsThere load kind index
IsFormed load Sync = ⊥
IsFormed load (Command byte param) = ⊥

-- the most bytes of an overflow: an identifier, and a count and a delta of five bytes each
abbrev pub overflow_bytes : ℕ
overflow_bytes = 11

-- the most bytes of an item's packet and of the overflow before it; an overflow has none before it
abbrev pub packet_bytes : Load → Origin → ℕ
packet_bytes load (Overflow count) = 22
packet_bytes load other = weight byte_weights load other

-- the bytes of a packet without the overflow before it
abbrev pub block_bytes : Load → Origin → ℕ
block_bytes load origin = packet_bytes load origin - overflow_bytes
