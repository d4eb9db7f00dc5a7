use Rattle.sv_text.proofs.ReadBack.{lines_back}
use Rattle.sv_text.proofs.laws.lines_are_read_back.Goals as goal

pub returns : goal.returns
returns c = λ lines all. lines_back lines all
