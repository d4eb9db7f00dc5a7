use Rattle.std.proofs.Common.{◌≡◌, take}
use Rattle.sv_desc.specs.Modules.{offset_after}
use Rattle.sv_desc.proofs.modules.Modules.offset_before.Given as goal

abbrev pub invariant-loop-row : goal.invariant-loop-row
invariant-loop-row l = l.offset ≡ offset_after (take l.row-index (take l.fn.count l.fn.self))
