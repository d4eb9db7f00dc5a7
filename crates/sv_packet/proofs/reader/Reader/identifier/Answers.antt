use Rattle.std.proofs.lemmas.Result.{err_from_is_err_and}
use Rattle.sv_packet.proofs.one_spelling.Shorts.{takes_identifier, refuses_23, stops_identifier}
use Rattle.sv_packet.proofs.reader.Reader.identifier.Goals as goal

pub returns-in_err-id : goal.returns-in_err-id
returns-in_err-id c =
    let p = err_from_is_err_and c.from_residual.result c.from_residual.ensures.1 in
    rw (p.1, p.2) (stops_identifier c.args.self.now c.in_err-id.field-0.0 c.in_err-id.ensures)

pub returns-then-id-eq23 : goal.returns-then-id-eq23
returns-then-id-eq23 c =
    refuses_23 c.args.self.now c.short.new.self c.in_ok-id.id c.if-id-eq23.true c.in_ok-id.ensures

pub returns : goal.returns
returns c =
    takes_identifier c.args.self.now c.short.new.self c.in_ok-id.id (λ e. c.if-id-eq23.false e)
    c.in_ok-id.ensures
