use Rattle.std.proofs.Common.{List, sym, ap, ◌∙◌}
use Rattle.sv_stream.specs.declared.seen.Seen.{Seen}
use Rattle.sv_stream.specs.Entries.{timed_entries}
use Rattle.sv_view.specs.Answer.{verdict}
use Rattle.sv_view.proofs.scan.Scan.told.Goals as goal

pub returns : goal.returns
returns g c = λ input given stands shown entries end reads.
    let ended = c.finish.result in
    c.told.ensures ∙ sym (shown.1 ended)
    ∙ ap (λ (seen : List Seen). verdict seen ended)
    (c.finish.ensures.all input given stands entries end reads)
    ∙ ap (verdict (timed_entries entries))
    (c.finish.ensures.end input given stands entries end reads)
