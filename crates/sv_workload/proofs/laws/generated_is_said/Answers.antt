use Rattle.sv_workload.proofs.generated_loads.Said.{text_says}
use Rattle.sv_workload.proofs.laws.generated_is_said.Goals as goal

pub returns : goal.returns
returns c = λ n few. text_says n few
