use Rattle.std.proofs.Common.{◌≡◌, ℕ, ◌+◌, ap, arith, sym, ◌∙◌, length}
use Rattle.std.specs.Prelude.{filter_map}
use Rattle.sv_stream.specs.declared.seen.Seen.TheVariants.{Damage}
use Rattle.sv_analyse.specs.Report.{place_in}
use Rattle.sv_view.specs.declared.views.check.Check.{Check}
use Rattle.sv_view.proofs.Verdicts.{events-same, few-marks, marks-more, time-more}
use Rattle.sv_view.proofs.views.check.CheckView.mark.Goals as goal

pub overflow_add-self : goal.overflow_add-self
overflow_add-self c =
    let marks : c.args.self.now.marks ≡ length (filter_map place_in c.requires.0) =
    ap (λ (k : Check). k.marks) c.requires.1 in
    omega (arith, marks, few-marks c.requires.0, c.requires.2)

pub returns-clause-shown : goal.returns-clause-shown
returns-clause-shown c = λ earlier is.
    let mark = c.args.mark.now in
    let packets =
    ap (λ (k : Check). k.packets) is ∙ sym (events-same earlier mark.time mark.place mark.reason) in
    let marks =
    ap (λ (k : Check). k.marks + 1) is ∙ sym (marks-more earlier mark.time mark.place mark.reason) in
    let time = sym (time-more earlier (Damage mark.time mark.place mark.reason)) in
    λ i. record { packets = packets i; marks = marks i; time = time i }
