use Rattle.sv_packet.proofs.told_of_parts.ReadNumbers.{read_are}
use Rattle.sv_packet.proofs.numbers_ref.NumbersRef.new.Goals as goal

pub invariant_of-result : goal.invariant_of-result
invariant_of-result c = read_are c.args.count c.args.bytes.now c.requires

pub returns : goal.returns
returns c = read_are c.args.count c.args.bytes.now c.requires
