use Rattle.sv_packet.proofs.told_of_parts.ReadNumbers.{ok_read}
use Rattle.sv_packet.proofs.numbers_ref.NumbersRef.to_numbers.Goals as goal

pub returns : goal.returns
returns c =
    ok_read c.numbers.result c.self.inside.count c.self.inside.bytes.now c.args.self.now
    c.self.view_is c.numbers.ensures
