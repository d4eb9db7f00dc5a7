use Rattle.std.proofs.Common.{◌∙◌}
use Rattle.sv_packet.specs.EventRef.{seen_at}
use Rattle.sv_stream.specs.declared.seen.Seen.TheVariants.{Event}
use Rattle.sv_view.proofs.Lines.{line_more}
use Rattle.sv_view.proofs.Verdicts.{on_then, verdict-event}
use Rattle.sv_view.proofs.showing.ShowingGatherU8.event.Goals as goal

pub returns-clause-taken : goal.returns-clause-taken
returns-clause-taken g c = λ earlier was.
    let event = seen_at c.args.time c.args.event.now in
    on_then c.event.result (c.event.ensures.shown earlier was.0)
    (λ shown. (shown, λ end. verdict-event earlier event end ∙ was.1 end))

pub returns-clause-items : goal.returns-clause-items
returns-clause-items g c = λ earlier was.
    line_more g.V.View.text earlier (Event (seen_at c.args.time c.args.event.now)) c.event.result
    c.args.lines.now.items c.event.new.lines.items (c.event.ensures.line earlier was.0)
