-- What a run leaves behind.
use Rattle.std.specs.Prelude.{◌≡◌, ℕ, ◌<◌, List, ◌++◌, Option, length, count_by, flat_map}
use Rattle.sv_ring.specs.Docks.{GainsStory}
use Rattle.sv_ring.specs.declared.story.Story.{Story}
use Rattle.sv_load.specs.Load.{Load, script_of}
use Rattle.sv_journal.specs.declared.journal.Item.{Item}
use Rattle.sv_journal.specs.Items.{is_call_of}
use Rattle.sv_journal.specs.Stream.{stream_of}
use Rattle.sv_recorder.specs.Commands.{command_bytes, command_bytes_in, MayWait}

-- each script stands in the journal to its last step
abbrev pub AreThrough : Load → List Item → Type 0
AreThrough load items = (writer : ℕ) → writer < length load.scripts
    → count_by (λ i. is_call_of writer i.origin) items ≡ length (script_of load writer)

-- the bytes of the journal's commands were taken, and at most one that waits for its parameter
pub record HasAnswered (items : List Item) (answered : List ℕ) : Type 0 where
  pub kept : List ℕ
  pub waits : MayWait kept
  pub is : answered ≡ command_bytes_in items ++ kept

-- where the dock tells its stories, they have gained that of this run: what was sent and what was
-- taken are the stream of the journal; all commands were sent, and those of the journal were taken
pub record HasStory (load : Load) (items : List Item) (before now : Option (List Story)) : Type 0
  where
    pub answered : List ℕ
    pub commands : HasAnswered items answered
    pub gains : GainsStory before now (record {
      size = load.ring;
      sent = stream_of load items;
      taken = stream_of load items;
      asked = flat_map command_bytes load.commands;
      answered = answered;
    })
