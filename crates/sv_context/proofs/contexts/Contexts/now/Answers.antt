use Rattle.std.proofs.Common.{◌≡◌, sym, ap, ◌∙◌, arith}
use Rattle.std.proofs.lemmas.Grind.{common_steps}
use Rattle.std.specs.Prelude.{Some, unwrap_or, slice_get, length, filter_map, ◌-◌}
use Rattle.std.specs.List.{last_or}
use Rattle.sv_packet.specs.Lists.{last_of}
use Rattle.sv_context.specs.Role.{base_of}
use Rattle.sv_context.specs.Context.{segment_of, open_frames}
use Rattle.sv_context.specs.declared.context.Context.TheVariants.{Unknown}
use Rattle.sv_context.proofs.Standing.{last_is}
use Rattle.sv_context.proofs.Known.{never_gap}
use Rattle.sv_context.proofs.contexts.Contexts.now.Goals as goal

pub returns-in-Some-clause-now : goal.returns-in-Some-clause-now
returns-in-Some-clause-now c = λ events s.
    let frames_ : c.deref.result.now ≡ c.args.self.now.frames = cc in
    let found : slice_get c.deref.result.now (length c.deref.result.now - 1)
    ≡ Some c.in-Some.context.now = sym c.in-Some.ensures.value in
    let last : last_or (last_of (filter_map base_of (segment_of events))) (open_frames (segment_of
    events)) ≡ Some c.in-Some.context.now
    = ap (last_or (last_of (filter_map base_of (segment_of events)))) (sym (frames_ ∙ s.frames_are))
    ∙ last_is c.deref.result.now (last_of (filter_map base_of (segment_of events)))
    c.in-Some.context.now found in
    sym (ap (λ o. unwrap_or o Unknown) last)

pub returns-in-Some-clause-known : goal.returns-in-Some-clause-known
returns-in-Some-clause-known c = λ events s e.
    never_gap events (sym (returns-in-Some-clause-now c events s) ∙ e)

pub returns-in-None-clause-now : goal.returns-in-None-clause-now
returns-in-None-clause-now c = λ events s. grind (arith, common_steps)

pub returns-in-None-clause-known : goal.returns-in-None-clause-known
returns-in-None-clause-known c = λ events s e.
    never_gap events (sym (returns-in-None-clause-now c events s) ∙ e)
