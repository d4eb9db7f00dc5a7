use Rattle.sv_packet.proofs.reader.Reader.text_if.Goals as goal

pub returns-then-there : goal.returns-then-there
returns-then-there c = rw c.if-there.true c.text.ensures
