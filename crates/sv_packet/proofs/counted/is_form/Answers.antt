use Rattle.sv_packet.proofs.told_of_parts.Known.{form_found}
use Rattle.sv_packet.proofs.counted.is_form.Goals as goal

pub returns : goal.returns
returns c =
    form_found c.args.id c.args.payload.now c.find_form.result c.is_some.result c.is_some.ensures
    c.find_form.ensures
