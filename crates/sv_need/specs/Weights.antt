-- What is to come weighs at most, as items or as bytes, each packet with the overflow that may
-- stand before it.
use Rattle.std.specs.Prelude.{ℕ, ◌+◌, List, length, sum_by, if◌then◌else◌}
use Rattle.std.specs.Option.{option_map_or}
use Rattle.sv_packet.specs.declared.event.Event.{Event}
use Rattle.sv_packet.specs.declared.event.Event.TheVariants.{Nop}
use Rattle.sv_packet.specs.Spelling.{spelling_of}
use Rattle.sv_load.specs.Load.{Load, act_of}
use Rattle.sv_journal.specs.declared.journal.Kind.{Kind}
use Rattle.sv_journal.specs.declared.journal.Kind.TheVariants as kinds
use Rattle.sv_journal.specs.declared.journal.Origin.{Origin}
use Rattle.sv_journal.specs.declared.journal.Origin.TheVariants.{Call, Sync, Reply, Overflow}
use Rattle.sv_journal.specs.declared.journal.Origin.TheVariants.{Command}
use Rattle.sv_journal.specs.Items.{act_event}
use Rattle.sv_journal.specs.Legal.{is_control}

-- of a start, a stop or a command, of a call by its event, of a sync, of TRACE_START and
-- TRACE_STOP, of another reply
pub record Weights : Type 0 where
  pub control : ℕ
  pub call : Event → ℕ
  pub sync : ℕ
  pub edge : ℕ
  pub reply : ℕ

abbrev pub reply_weight : Weights → Kind → ℕ
reply_weight w kinds.TraceStart = w.edge
reply_weight w kinds.TraceStop = w.edge
reply_weight w other = w.reply

abbrev pub plain_weight : Weights → Load → Origin → ℕ
plain_weight w load (Call writer step) = w.call
    (option_map_or act_event (act_of load writer step) Nop)
plain_weight w load Sync = w.sync
plain_weight w load (Reply kind index) = reply_weight w kind
plain_weight w load (Overflow count) = 0
plain_weight w load (Command byte param) = w.control

abbrev pub weight : Weights → Load → Origin → ℕ
weight w load origin = if is_control load origin then w.control else plain_weight w load origin

abbrev pub weight_of : Weights → Load → List Origin → ℕ
weight_of w load os = sum_by (weight w load) os

-- an item, and an overflow before a packet
abbrev pub item_weights : Weights
item_weights = record { control = 1; call = λ event. 2; sync = 1; edge = 2; reply = 2 }

-- a packet with the longest delta, four bytes more than the shortest, and the 11 bytes of an
-- overflow
abbrev pub byte_weights : Weights
byte_weights = record {
  control = 0;
  call = λ event. length (spelling_of event 0) + 15;
  sync = 10;
  edge = 17;
  reply = 156;
}

-- the items and the bytes that these origins have at most
abbrev pub items_ahead : Load → List Origin → ℕ
items_ahead load os = weight_of item_weights load os

abbrev pub bytes_ahead : Load → List Origin → ℕ
bytes_ahead load os = weight_of byte_weights load os
