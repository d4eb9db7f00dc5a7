use Rattle.sv_prim.proofs.Shared.{are_bytes}
use Rattle.sv_packet.proofs.reader.has.Goals as goal

pub returns-clause-are : goal.returns-clause-are
returns-clause-are c = are_bytes c.args.bytes.now c.type_inv.bytes
