use Rattle.std.proofs.Common.{subst}
use Rattle.sv_packet.specs.Forms.{IsFormOf}
use Rattle.sv_prim.proofs.Shared.{are_bytes}
use Rattle.sv_packet.proofs.told_of_parts.Known.{opaque_event, print_event}
use Rattle.sv_packet.proofs.counted.counted_event.Goals as goal

pub returns-in-Some-Print : goal.returns-in-Some-Print
returns-in-Some-Print c =
    let form = subst (IsFormOf c.args.id c.args.payload.now)
    c.in-Some-Print.field-0-is c.in-Some-Print.ensures in
    print_event c.args.id c.args.payload.now c.in-Some-Print.text.now c.in-Some-Print.args.now
    c.in-Some-Print.options c.in-Some-Print.count c.new.result form.0 (form.1, form.2, form.3)
    c.new.ensures

pub returns-then-has_no_form : goal.returns-then-has_no_form
returns-then-has_no_form c =
    opaque_event c.args.id c.args.payload.now c.requires
    (are_bytes c.args.payload.now c.type_inv.payload)
    (c.has_no_form.ensures c.args.payload.now c.if-has_no_form.true)

pub returns-in-None : goal.returns-in-None
returns-in-None c =
    opaque_event c.args.id c.args.payload.now c.requires
    (are_bytes c.args.payload.now c.type_inv.payload) c.in-None.ensures
