use Rattle.std.proofs.Common.{◌-◌, ◌++◌, List, ℕ, ap, ◌∙◌, rules, take, drop}
use Rattle.std.proofs.lemmas.List.{append-nil}
use Rattle.sv_report.specs.Spans.{label_of}
use Rattle.sv_report.specs.Words.{spaced}
use Rattle.sv_report.proofs.Front.{whole_of}
use Rattle.sv_report.proofs.Grown.{appended}
use Rattle.sv_report.proofs.labels.put_label.Goals as goal

pub returns : goal.returns
returns c =
    let w = c.label_before-start in
    let label : List ℕ = spaced (label_of c.args.context) in
    appended c.extend_from_slice.result c.extend_from_slice.new.self.items c.args.out.now.items
    (take (96 - w.result) (drop w.result w.new.line)) _ c.extend_from_slice.ensures.items
    (ap (λ (xs : List ℕ). c.args.out.now.items ++ xs)
    (whole_of w.new.line label w.result (search rules) (w.ensures.written ∙ append-nil label)))
