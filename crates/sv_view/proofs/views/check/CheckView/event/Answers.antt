use Rattle.std.proofs.Common.{◌≡◌, ℕ, ◌+◌, ap, arith, sym, ◌∙◌, length}
use Rattle.std.specs.Prelude.{filter_map}
use Rattle.sv_packet.specs.EventRef.{seen_at}
use Rattle.sv_stream.specs.declared.seen.Seen.TheVariants.{Event}
use Rattle.sv_analyse.specs.Report.{event_in}
use Rattle.sv_view.specs.declared.views.check.Check.{Check}
use Rattle.sv_view.proofs.Verdicts.{events-more, few-events, marks-same, time-more}
use Rattle.sv_view.proofs.views.check.CheckView.event.Goals as goal

pub overflow_add-self : goal.overflow_add-self
overflow_add-self c =
    let packets : c.args.self.now.packets ≡ length (filter_map event_in c.requires.0) =
    ap (λ (k : Check). k.packets) c.requires.1 in
    omega (arith, packets, few-events c.requires.0, c.requires.2)

pub returns-clause-shown : goal.returns-clause-shown
returns-clause-shown c = λ earlier is.
    let event = seen_at c.args.time c.args._event.now in
    let packets = ap (λ (k : Check). k.packets + 1) is ∙ sym (events-more earlier event) in
    let marks = ap (λ (k : Check). k.marks) is ∙ sym (marks-same earlier event) in
    let time = sym (time-more earlier (Event event)) in
    λ i. record { packets = packets i; marks = marks i; time = time i }
