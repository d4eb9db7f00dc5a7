use Rattle.std.proofs.Common.{◌∙◌, sym}
use Rattle.sv_stream.specs.declared.end.End.TheVariants.{Damaged}
use Rattle.sv_stream.specs.declared.seen.Seen.TheVariants.{Damage}
use Rattle.sv_view.proofs.Lines.{line_grown}
use Rattle.sv_view.proofs.Verdicts.{verdict-mark}
use Rattle.sv_view.proofs.showing.ShowingGatherU8.mark.Goals as goal

pub returns-clause-taken : goal.returns-clause-taken
returns-clause-taken g c = λ earlier was.
    let mark = c.args.mark.now in (
      c.in_ok-mark.ensures.shown earlier was.0,
      λ end. verdict-mark earlier mark.time mark.place mark.reason end
          ∙ was.1 (Damaged mark.place mark.reason) ∙ sym c.told.ensures,
    )

pub returns-clause-items : goal.returns-clause-items
returns-clause-items g c = λ earlier was.
    let mark = c.args.mark.now in
    line_grown g.V.View.text earlier (Damage mark.time mark.place mark.reason)
    c.args.lines.now.items c.mark.new.lines.items (c.in_ok-mark.ensures.line earlier was.0)
