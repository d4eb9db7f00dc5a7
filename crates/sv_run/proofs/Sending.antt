-- The bytes of the commands that a host sent.
use Rattle.std.proofs.Common.{◌≡◌, ℕ, ◌+◌, ◌<◌, ◌≤◌, ◌++◌, length, sym, ap, ◌∙◌, add-one}
use Rattle.std.specs.Prelude.{slice_get, Some}
use Rattle.sv_load.specs.declared.load.Command.{Command}
use Rattle.sv_load.specs.Load.{Load}
use Rattle.sv_recorder.specs.Commands.{command_bytes}
use Rattle.sv_core.specs.Played.{sent_bytes}
use Rattle.sv_core.proofs.Shared.{bytes_more, bytes_room}

-- one command more
pub first_more : (load : Load) (sends : ℕ) (c : Command) → slice_get load.commands sends ≡ Some c
    → sent_bytes load sends ++ command_bytes c ≡ sent_bytes load (sends + 1)
first_more load sends c is =
    sym (bytes_more load sends c is) ∙ ap (sent_bytes load) (sym (add-one sends))

-- there is room for one command more
pub room_for_more : (load : Load) (sends : ℕ) → sends < length load.commands
    → length load.commands ≤ 256 → length (sent_bytes load sends) ≤ 510
room_for_more load sends below few = bytes_room load sends below few
