-- What a write to the ring leaves.
use Rattle.std.specs.Prelude.{◌≡◌, ℕ, ◌+◌, ◌≤◌, Bool, true, false, List, [], ◌∷◌, ◌++◌, length}
use Rattle.std.specs.Prelude.{sum_by, nat_lt, if◌then◌else◌}
use Rattle.sv_load.specs.Load.{Load}
use Rattle.sv_journal.specs.declared.journal.Item.{Item}
use Rattle.sv_journal.specs.declared.journal.Origin.{Origin}
use Rattle.sv_journal.specs.declared.journal.Outcome.{Outcome}
use Rattle.sv_journal.specs.declared.journal.Outcome.TheVariants as outcomes
use Rattle.sv_journal.specs.Items.{latest_first, item_of}
use Rattle.sv_journal.specs.Packets.{is_call_or_reply}
use Rattle.sv_journal.specs.Legal.{is_control, IsNextStep, step_ticks}
use Rattle.sv_journal.specs.Open.{IsDue}
use Rattle.sv_recorder.specs.Formed.{IsFormed}
use Rattle.sv_recorder.specs.Freed.{wrote_if}
use Rattle.sv_ring.specs.Ring.{Way, way_after, room_of, Moves}

-- what became of a block that is stored or not
abbrev pub outcome_if : Bool → Outcome
outcome_if true = outcomes.Stored
outcome_if false = outcomes.Refused

-- the journal has gained one item, and the ring its block where there was room
pub record WritesItem (size : ℕ) (items after : List Item) (sent sent_after : List ℕ)
    (freed freed_after : ℕ) (origin : Origin) (moment : ℕ) (block : List ℕ) (stored : Bool) : Type 0
  where
    pub item : after ≡ items ++ item_of origin moment freed_after (outcome_if stored) ∷ []
    pub decided : stored ≡ (if nat_lt (room_of size sent freed_after) (length block) then false else
        true)
    pub grown : sent_after ≡ sent ++ (if stored then block else [])
    pub rises : freed ≤ freed_after
    pub within : freed_after ≤ length sent

-- a write of a block moved the end of the ring by its way
abbrev pub MovesBy : {U : Type 0} → (U → ℕ) → (U → List ℕ) → (U → ℕ) → (U → Way) → U → U → List ℕ
    → Bool → Type 0
MovesBy size sent freed way old new block stored =
    (way new ≡ way_after (way old))
    × Moves (way old) (size old) (freed old) (freed new) (sent old) block
    (wrote_if stored (room_of (size old) (sent old) (freed new)))

-- a packet that may be recorded next
pub record IsPacketHere (load : Load) (items : List Item) (owed : List Origin) (origin : Origin)
    (moment : ℕ) (rest : List Origin) : Type 0 where
  pub telling : is_call_or_reply origin ≡ true
  pub control : is_control load origin ≡ false
  pub due : IsDue load owed origin rest
  pub step : IsNextStep load (latest_first items) origin
  pub ticks : moment ≡ step_ticks load origin + sum_by (λ i. step_ticks load i.origin)
      (latest_first items)

-- a call of an event, or a reply, whose packet can be formed
pub record HasPacket (load : Load) (origin : Origin) : Type 0 where
  pub telling : is_call_or_reply origin ≡ true
  pub control : is_control load origin ≡ false
  pub formed : IsFormed load origin
