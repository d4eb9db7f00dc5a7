-- What a recorder works on, from one item to the next.
use Rattle.std.specs.Prelude.{◌≡◌, ℕ, ◌+◌, ◌^◌, ◌<◌, ◌≤◌, Bool, false, List, [], ◌∷◌, ◌++◌, length}
use Rattle.std.specs.Prelude.{filter, vec_capacity, if◌then◌else◌}
use Rattle.sv_ring.specs.declared.up_writer.UpWriter.{Ghosts}
use Rattle.sv_journal.specs.declared.journal.Origin.{Origin}
use Rattle.sv_journal.specs.declared.journal.Item.{Item}
use Rattle.sv_journal.specs.declared.journal.Outcome.{Outcome}
use Rattle.sv_journal.specs.Items.{latest_first, last_moment, is_after_refused_overflow}
use Rattle.sv_journal.specs.Stream.{stream_of}
use Rattle.sv_journal.specs.Legal.{is_head, origins_of}
use Rattle.sv_recorder.specs.declared.book.Book.{Book}
use Rattle.sv_recorder.specs.Answer.{Gains}
use Rattle.sv_recorder.specs.Formed.{packet_bytes}
use Rattle.sv_recorder.specs.Freed.{AreFreed}
use Rattle.sv_recorder.specs.Kept.{Keeps}
use Rattle.sv_recorder.specs.Writes.{IsPacketHere}

-- the book keeps a journal that owes these answers
abbrev pub HoldsOwing : {U : Type 0} {u : Ghosts U} → Book U u → List Origin → Type 0
HoldsOwing {U} {u} book owed = Keeps book.load.now book.journal.items owed (u.sent book.up)
    (u.freed book.up) book.on book.pending book.last

-- the same, where the recorder is on or off otherwise than the book says
abbrev pub HoldsAs : {U : Type 0} {u : Ghosts U} → Bool → Book U u → List Origin → Type 0
HoldsAs {U} {u} on book owed = Keeps book.load.now book.journal.items owed (u.sent book.up)
    (u.freed book.up) on book.pending book.last

-- the head of a group that an item is, if it is one
abbrev pub head_if : Origin → List Origin
head_if origin = if is_head origin then origin ∷ [] else []

-- the bytes sent are the journal's, the last moment is that of its last stored packet, and no
-- refused overflow waits for its packet
pub record IsInStep {U : Type 0} {u : Ghosts U} (book : Book U u) : Type 0 where
  pub stream : u.sent book.up ≡ stream_of book.load.now book.journal.items
  pub last : book.last ≡ last_moment (latest_first book.journal.items)
  pub ready : is_after_refused_overflow (latest_first book.journal.items) ≡ false

-- there is room for so many items and bytes more, and packets that are refused can be counted
pub record IsReady {U : Type 0} {u : Ghosts U} (items bytes : ℕ) (book : Book U u) : Type 0 where
  pub room : length book.journal.items + items ≤ vec_capacity book.journal
  pub within : length (u.sent book.up) + bytes ≤ u.limit book.up
  pub few : book.pending + items < 2 ^ 32

-- what a write leaves as it is: all but the items of the journal and the bytes of the ring
pub record Stays {U : Type 0} {u : Ghosts U} (old new : Book U u) : Type 0 where
  pub load : new.load.now ≡ old.load.now
  pub on : new.on ≡ old.on
  pub pending : new.pending ≡ old.pending
  pub last : new.last ≡ old.last
  pub moment : new.moment ≡ old.moment
  pub same : (u.ring new.up ≡ u.ring old.up) × (u.size new.up ≡ u.size old.up)
      × (u.limit new.up ≡ u.limit old.up)
  pub capacity : vec_capacity new.journal ≡ vec_capacity old.journal

-- what is pending after a write, and the moment of the last stored packet, which was `before` until
-- then
pub record Settles {U : Type 0} {u : Ghosts U} (stored : Bool) (before : ℕ)
    (old new : Book U u) : Type 0 where
  pub load : new.load.now ≡ old.load.now
  pub up : new.up ≡ old.up
  pub journal : new.journal ≡ old.journal
  pub on : new.on ≡ old.on
  pub moment : new.moment ≡ old.moment
  pub pending : new.pending ≡ (if stored then 0 else 1)
  pub last : new.last ≡ (if stored then old.moment else before)

-- the ticks of a step pass
pub record Advances {U : Type 0} {u : Ghosts U} (ticks : ℕ) (old new : Book U u) : Type 0 where
  pub load : new.load.now ≡ old.load.now
  pub up : new.up ≡ old.up
  pub journal : new.journal ≡ old.journal
  pub on : new.on ≡ old.on
  pub pending : new.pending ≡ old.pending
  pub last : new.last ≡ old.last
  pub moment : new.moment ≡ old.moment + ticks

-- from one state to a later one: these heads of groups, at most so many items and bytes more, and
-- the rest as before
pub record GoesWith {U : Type 0} {u : Ghosts U}
    (heads : List Origin) (items bytes : ℕ) (old new : Book U u) : Type 0 where
  pub load : new.load.now ≡ old.load.now
  pub moment : new.moment ≡ old.moment
  pub ring_same : u.ring new.up ≡ u.ring old.up
  pub size_same : u.size new.up ≡ u.size old.up
  pub limit_same : u.limit new.up ≡ u.limit old.up
  pub capacity : vec_capacity new.journal ≡ vec_capacity old.journal
  pub more : List Item
  pub added : new.journal.items ≡ old.journal.items ++ more
  pub headed : filter is_head (origins_of more) ≡ heads
  pub few : length more ≤ items
  pub short : length (u.sent new.up) ≤ length (u.sent old.up) + bytes
  pub pending : new.pending ≤ old.pending + items
  -- what is known to be freed, where the book was in step with its ring
  pub moved : IsInStep old →
      IsInStep new × AreFreed old.load.now (latest_first old.journal.items) more (u.way old.up)
      (u.freed old.up) (u.way new.up) (u.freed new.up)

-- a packet of this origin is recorded, and this is what became of it
pub record Records {U : Type 0} {u : Ghosts U}
    (origin : Origin) (outcome : Outcome) (old new : Book U u) : Type 0 where
  pub goes : GoesWith (head_if origin) 2 (packet_bytes old.load.now origin) old new
  pub on : new.on ≡ old.on
  pub item : Gains old.journal.items new.journal.items origin outcome

-- over a packet that may be recorded next; the recorder is then on or off as is said
abbrev pub KeepsPacket : {U : Type 0} {u : Ghosts U}
    → Bool → Origin → Book U u → Book U u → Type 0
KeepsPacket {U} {u} on origin old new =
    (owed rest : List Origin) → HoldsOwing old owed
    → IsPacketHere old.load.now old.journal.items owed origin old.moment rest
    → HoldsAs on new rest
