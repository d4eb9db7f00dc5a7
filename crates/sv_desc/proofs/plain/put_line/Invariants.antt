use Rattle.std.proofs.Common.{◌≡◌, take}
use Rattle.sv_desc.proofs.plain.put_line.Given as goal

abbrev pub invariant-loop-byte : goal.invariant-loop-byte
invariant-loop-byte l = l.out.items ≡ take l.byte-index l.byte-items
