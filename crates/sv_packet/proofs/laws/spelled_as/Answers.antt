use Rattle.sv_packet.proofs.one_spelling.Spelled.{packet_law}
use Rattle.sv_packet.proofs.laws.spelled_as.Goals as goal

pub returns : goal.returns
returns c = record { one = packet_law }
