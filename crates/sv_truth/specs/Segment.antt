-- Segments: what is recorded between two breaks.
use Rattle.std.specs.Prelude.{◌≡◌, ◌⊎◌, true, false, List, [], ◌∷◌, Some}
use Rattle.sv_packet.specs.declared.event.Event.{Event}
use Rattle.sv_packet.specs.Events.{is_break}
use Rattle.sv_load.specs.Load.{Load}
use Rattle.sv_journal.specs.declared.journal.Item.{Item}
use Rattle.sv_journal.specs.Items.{is_sync, is_stop_reply, is_stored, event_of}
use Rattle.sv_truth.specs.Truth.{call_event}

-- no stored item of these tells of a break
abbrev pub HoldsNoBreak : Load → List Item → Type 0
HoldsNoBreak load [] = Unit {0}
HoldsNoBreak load (i ∷ items) =
    (is_stored i.outcome ≡ true → is_break (event_of load i) ≡ false) × HoldsNoBreak load items

-- each call of an event step among these is stored
abbrev pub HoldsCalls : Load → List Item → Type 0
HoldsCalls load [] = Unit {0}
HoldsCalls load (i ∷ items) =
    ((event : Event) → call_event load i.origin ≡ Some event → is_stored i.outcome ≡ true) ×
    HoldsCalls load items

-- a stored packet that goes on with a segment, or the TRACE_STOP that ends one
pub record IsOfSegment (load : Load) (item : Item) : Type 0 where
  pub stored : is_stored item.outcome ≡ true
  pub packet : is_sync item.origin ≡ false
  pub goes_on : (is_break (event_of load item) ≡ false) ⊎ (is_stop_reply item.origin ≡ true)
