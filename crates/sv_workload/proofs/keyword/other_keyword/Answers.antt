use Rattle.std.proofs.Common.{List, ap, ◌∙◌}
use Rattle.sv_workload.specs.declared.keyword.Keyword.{Keyword}
use Rattle.sv_workload.specs.Keywords.{other_keywords, keyword_among}
use Rattle.sv_workload.proofs.words_read.Keywords.{among_of_length}
use Rattle.sv_workload.proofs.keyword.other_keyword.Goals as goal

pub returns : goal.returns
returns c =
    c.keyword_among.ensures ∙ ap
    (λ (keywords : List Keyword). keyword_among keywords c.args.word.now)
    c.other_keywords.ensures ∙ among_of_length other_keywords c.args.word.now
