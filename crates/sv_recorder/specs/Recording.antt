-- What a recorder is: the history that it kept, the end of the ring that it writes to, and that of
-- the ring that the host's commands come by.
use Rattle.std.specs.Prelude.{◌≡◌, ℕ, ◌<◌, ◌≤◌, Bool, List, [], ◌++◌, length, count_by}
use Rattle.std.specs.Prelude.{slice_index_or, Option}
use Rattle.sv_ring.specs.Ring.{Way}
use Rattle.sv_load.specs.Load.{Load}
use Rattle.sv_load.specs.Need.{IsWithinLimits, need_items, need_bytes}
use Rattle.sv_journal.specs.declared.journal.Item.{Item}
use Rattle.sv_journal.specs.Items.{is_call_of, is_command}
use Rattle.sv_journal.specs.Clock.{clock_of}
use Rattle.sv_recorder.specs.Commands.{command_bytes_in, MayWait}
use Rattle.sv_recorder.specs.Kept.{Keeps}

pub record Recording : Type 0 where
  pub load : Load
  pub items : List Item
  pub ring : List (List ℕ)
  pub size : ℕ
  pub limit : ℕ
  pub sent : List ℕ
  pub freed : ℕ
  pub way : Way
  -- the name of the host's ring, the bytes that were taken from it, all that were sent where it
  -- tells that, and how often it had none
  pub down : List (List ℕ)
  pub answered : List ℕ
  pub asked : Option (List ℕ)
  pub empties : ℕ
  -- the first byte of a command whose parameter is not there yet, if one waits
  pub kept : List ℕ

-- the places are those of the writers in their scripts
abbrev pub ArePlaces : Load → List Item → List ℕ → Type 0
ArePlaces load items places = (writer : ℕ) → writer < length load.scripts
    → slice_index_or places writer 0 ≡ count_by (λ i. is_call_of writer i.origin) items

-- what a recorder keeps between two sections: the journal owes nothing, the values that spare a
-- look back are right, and there is room for all that the workload needs
pub record IsRecorder (load : Load) (items : List Item) (sent : List ℕ) (freed limit : ℕ)
    (on : Bool) (pending last moment : ℕ) (places : List ℕ) (capacity : ℕ) : Type 0 where
  pub limits : IsWithinLimits load
  pub held : Keeps load items [] sent freed on pending last
  pub clock : moment ≡ clock_of load items
  pub writers : length places ≡ 16
  pub places_are : ArePlaces load items places
  pub room : need_items load ≤ capacity
  pub bytes : need_bytes load ≤ limit

-- what a recorder keeps of the host's commands: their number, and the bytes that were taken, which
-- are those of the commands in the journal and the one that waits
pub record IsInbox (items : List Item) (answered kept : List ℕ) (count : ℕ) : Type 0 where
  pub count_is : count ≡ count_by (λ i. is_command i.origin) items
  pub answered_is : answered ≡ command_bytes_in items ++ kept
  pub waits : MayWait kept
