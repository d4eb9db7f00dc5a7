-- How far a journal's stream is: before its first sync, at it, or at the packets after it.
use Rattle.std.proofs.Common.{◌≡◌, ℕ, true, false, Some, List, [], ◌++◌, ◌⊎◌}
use Rattle.std.specs.Prelude.{replicate, slice_get}
use Rattle.sv_packet.specs.Packets.{ArePackets}
use Rattle.sv_load.specs.Load.{Load}
use Rattle.sv_journal.specs.declared.journal.Origin.{Origin}
use Rattle.sv_journal.specs.declared.journal.Origin.TheVariants.{Sync}
use Rattle.sv_journal.specs.declared.journal.Item.{Item}
use Rattle.sv_journal.specs.Items.{is_start, is_on, pending_at, last_moment, is_after_overflow}
use Rattle.sv_journal.specs.Items.{stream_before}
use Rattle.sv_journal.specs.Stream.{is_synced}
use Rattle.sv_sent.specs.Sent.{packets_before}
use Rattle.sv_sent.proofs.reads.Starting.{was_started}
use Rattle.sv_sent.proofs.places.Following.{previous}

-- the previous origin is a start
abbrev pub StartsLast : Load → List Item → Type 0
StartsLast load earlier = (p : Origin) × (previous earlier ≡ Some p) × (is_start load p ≡ true)

-- before the first sync nothing is stored or refused
pub record IsWaiting (load : Load) (earlier : List Item) : Type 0 where
  pub synced : is_synced earlier ≡ false
  pub bytes : stream_before load earlier ≡ []
  pub packets : packets_before load earlier ≡ []
  pub pending : pending_at earlier ≡ 0
  pub last : last_moment earlier ≡ 0
  pub starts : was_started load earlier ≡ true → StartsLast load earlier

-- the first sync is stored, and its first packet comes next
pub record IsReady (load : Load) (earlier : List Item) : Type 0 where
  pub synced : is_synced earlier ≡ true
  pub bytes : stream_before load earlier ≡ replicate 10 0
  pub packets : packets_before load earlier ≡ []
  pub pending : pending_at earlier ≡ 0
  pub last : last_moment earlier ≡ 0
  pub before : previous earlier ≡ Some Sync
  pub ends : is_after_overflow earlier ≡ false
  pub on : is_on load earlier ≡ true
  pub started : was_started load earlier ≡ true

-- after the first sync stand packets, the first of which is TRACE_START
pub record IsGoing (load : Load) (earlier : List Item) : Type 0 where
  pub synced : is_synced earlier ≡ true
  pub body : List ℕ
  pub bytes : stream_before load earlier ≡ replicate 10 0 ++ body
  pub packets : ArePackets (packets_before load earlier) body
  pub first : slice_get body 0 ≡ Some 10
  pub started : was_started load earlier ≡ true

abbrev pub HowFar : Load → List Item → Type 0
HowFar load earlier = IsWaiting load earlier ⊎ IsReady load earlier ⊎ IsGoing load earlier
