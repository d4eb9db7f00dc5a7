use Rattle.std.proofs.Common.{◌∙◌}
use Rattle.sv_workload.specs.Keywords.{step_keywords}
use Rattle.sv_workload.proofs.words_read.Keywords.{among_of_length}
use Rattle.sv_workload.proofs.keyword.step_keyword.Goals as goal

pub returns : goal.returns
returns c = c.keyword_of.ensures ∙ among_of_length step_keywords c.args.word.now
