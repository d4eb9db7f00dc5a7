use Rattle.sv_packet.proofs.one_spelling.Free.{packet_free}
use Rattle.sv_packet.proofs.one_spelling.Totality.{packet_total, reason_one}
use Rattle.sv_packet.proofs.laws.spelled_once.Goals as goal

pub returns-clause-free : goal.returns-clause-free
returns-clause-free c = packet_free

pub returns-clause-total : goal.returns-clause-total
returns-clause-total c = packet_total

pub returns-clause-one_reason : goal.returns-clause-one_reason
returns-clause-one_reason c = reason_one
