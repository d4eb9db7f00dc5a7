use Rattle.std.proofs.Common.{ℕ, Bool, not, ◌&&◌, ap, ◌∙◌}
use Rattle.sv_workload.specs.Settings.{base_told, shift_told}
use Rattle.sv_workload.specs.Forms.{form_of}
use Rattle.sv_workload.specs.Checks.{is_aligned}
use Rattle.sv_workload.proofs.first_check.Numbered.{unaligned}
use Rattle.sv_workload.proofs.draft.Draft.is_unaligned.Goals as goal

pub returns : goal.returns
returns c = λ lines s.
    let settings = c.args.self.now.settings in
    let first = c.first_number.ensures in
    let identifier = c.has_identifier.ensures in
    c.loses_bits.ensures
    ∙ ap (λ (b : Bool). b && not
    (is_aligned c.first_number.result (base_told settings) (shift_told settings))) identifier
    ∙ ap (λ (id : ℕ). (form_of c.args.line.now.keyword).identifier && not
    (is_aligned id (base_told settings) (shift_told settings))) first
    ∙ unaligned c.args.line.now c.requires c.args.self.now lines s
