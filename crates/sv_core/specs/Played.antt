-- A recorder between two turns of a run: what its host sent, and the turns that were taken.
use Rattle.std.specs.Prelude.{◌≡◌, ℕ, ◌≤◌, List, [], ◌∷◌, ◌++◌, length, reverse, take, flat_map}
use Rattle.std.specs.Prelude.{count_by, slice_get, Some, if◌then◌else◌}
use Rattle.std.specs.Option.{option_map}
use Rattle.sv_ring.specs.Ring.{Still}
use Rattle.sv_load.specs.declared.load.Command.{Command}
use Rattle.sv_load.specs.Load.{Load}
use Rattle.sv_journal.specs.Legal.{IsLegal, commands_in}
use Rattle.sv_journal.specs.Stream.{stream_of}
use Rattle.sv_recorder.specs.Commands.{command_bytes, command_bytes_in}
use Rattle.sv_recorder.specs.Recording.{Recording}
use Rattle.sv_core.specs.BadTurns.{AreAskable}
use Rattle.sv_core.specs.Order.{Turn, Takes_step, is_send, is_possible, scheduled, sends_left}
use Rattle.sv_core.specs.Order.{count_up, round_of}
use Rattle.sv_core.specs.Simulated.{IsInOrder, taken_in}

-- the bytes of the workload's first commands, so many
abbrev pub sent_bytes : Load → ℕ → List ℕ
sent_bytes load sends = flat_map command_bytes (take sends load.commands)

-- the host has sent the workload's first commands, so many: those of the journal, and others that
-- wait in its ring
pub record HasSent (load : Load) (recorder : Recording) (sends : ℕ) : Type 0 where
  pub askable : AreAskable load
  pub few : sends ≤ length load.commands
  pub waiting : List Command
  pub sent : commands_in recorder.items ++ waiting ≡ take sends load.commands
  pub asked : recorder.asked ≡ Some (sent_bytes load sends)
  pub answered : recorder.answered ≡ command_bytes_in recorder.items
  pub kept : recorder.kept ≡ []

-- after so many commands the host has sent the next one, and nothing else has changed
pub record IsSending (load : Load) (old new : Recording) (sends : ℕ) : Type 0 where
  pub command : Command
  pub is : slice_get load.commands sends ≡ Some command
  pub now : new ≡ record old
      { asked = option_map (λ bytes. bytes ++ command_bytes command) old.asked }

-- a recorder whose journal is in the order of these turns, and whose host sent and took what they
-- say
pub record IsPlayed (load : Load) (turns : List Turn) (recorder : Recording) : Type 0 where
  pub same : recorder.load ≡ load
  pub sent : HasSent load recorder (count_by is_send turns)
  pub legal : IsLegal load recorder.items
  pub stream : recorder.sent ≡ stream_of load recorder.items
  pub still : recorder.way ≡ Still
  pub ordered : IsInOrder load turns recorder.items
  pub taken : recorder.freed ≡ taken_in load recorder.items (reverse turns)

-- the turns, and a step of the writer if its script is not through
abbrev pub with_step : Load → List Turn → ℕ → List Turn
with_step load turns writer =
    turns ++ (if is_possible load (reverse turns) (Takes_step writer) then Takes_step writer ∷ []
    else [])

-- the turns of the schedule, and a send for each command that it leaves
abbrev pub sent_first : Load → List Turn
sent_first load = scheduled load ++ sends_left load

-- those, and the turns of so many rounds
abbrev pub played_rounds : Load → ℕ → List Turn
played_rounds load rounds = sent_first load ++ flat_map (round_of load) (count_up rounds)
