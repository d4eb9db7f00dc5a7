use Rattle.std.proofs.Common.{take}
use Rattle.sv_core.proofs.own_turns.Gathered.{IsTurned}
use Rattle.sv_core.proofs.turns.turns_of.Given as goal

abbrev pub invariant-loop-item : goal.invariant-loop-item
invariant-loop-item l =
    IsTurned (take l.item-index l.item-items) l.steps.items l.frees.items l.freed l.after_lost
