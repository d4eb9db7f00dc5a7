use Rattle.std.proofs.Common.{take}
use Rattle.sv_core.specs.Used.{HasUsed}
use Rattle.sv_core.proofs.replays.used_from.Given as goal

abbrev pub invariant-loop-place : goal.invariant-loop-place
invariant-loop-place l =
    HasUsed (take l.place l.items) l.frees l.used.count l.used.freed l.used.after_lost
