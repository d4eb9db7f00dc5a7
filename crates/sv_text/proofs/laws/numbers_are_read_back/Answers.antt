use Rattle.sv_text.proofs.ReadBack.{number_back}
use Rattle.sv_text.proofs.laws.numbers_are_read_back.Goals as goal

pub returns : goal.returns
returns c = λ n small. number_back n small
