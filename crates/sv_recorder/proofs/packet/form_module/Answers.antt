use Rattle.std.proofs.Common.{ap, sym, ◌∙◌}
use Rattle.std.specs.Prelude.{slice_get}
use Rattle.sv_recorder.proofs.steps.Rows.{module_short}
use Rattle.sv_recorder.proofs.packet.form_module.Goals as goal

pub encode_flat-requires-clause-text : goal.encode_flat-requires-clause-text
encode_flat-requires-clause-text c =
    module_short c.args.load.now.modules c.args.index
    (record { events = c.in-Some.module.events; name = c.in-Some.module.name.now })
    c.requires.there c.requires.texts.modules
    (ap (λ rows. slice_get rows c.args.index) (sym c.modules.ensures) ∙ c.in-Some.ensures.told)
