use Rattle.std.proofs.Common.{◌≡◌, [], arith}
use Rattle.std.proofs.lemmas.Result.{err_from_is_err_and}
use Rattle.sv_packet.proofs.how_long.Counts.{takes_none, takes_one, takes_two, takes_three, takes_more}
use Rattle.sv_packet.proofs.how_long.Counts.{stops_among}
use Rattle.sv_packet.proofs.reader.Reader.numbers.Goals as goal

pub returns-in_err-four : goal.returns-in_err-four
returns-in_err-four c =
    let p = err_from_is_err_and c.from_residual.result c.from_residual.ensures.1 in
    rw (p.1, p.2)
    (stops_among c.args.count 0 c.args.self.now c.args.self.now [] c.in_err-four.field-0.0
    (omega (arith, c.if-count-eq0.false)) (takes_none c.args.self.now) c.in_err-four.ensures)

pub returns-in_err-four-2 : goal.returns-in_err-four-2
returns-in_err-four-2 c =
    let p =
    err_from_is_err_and c.from_residual-in_err-four-2.result
    c.from_residual-in_err-four-2.ensures.1 in
    let before =
    takes_one c.args.self.now c.number.new.self c.in_ok-four.field-0 c.in_ok-four.ensures in
    rw (p.1, p.2)
    (stops_among c.args.count 1 c.args.self.now c.number.new.self _ c.in_err-four-2.field-0.0
    (omega (arith, c.if-count-eq0.false, c.if-count-eq1.false)) before c.in_err-four-2.ensures)

pub returns-then-count-eq2 : goal.returns-then-count-eq2
returns-then-count-eq2 c =
    let before =
    takes_two c.args.self.now c.number.new.self c.number-2.new.self c.in_ok-four.field-0
    c.in_ok-four-2.field-0 c.in_ok-four.ensures c.in_ok-four-2.ensures in
    rw c.if-count-eq2.true before

pub returns-in_err-four-3 : goal.returns-in_err-four-3
returns-in_err-four-3 c =
    let p =
    err_from_is_err_and c.from_residual-in_err-four-3.result
    c.from_residual-in_err-four-3.ensures.1 in
    let before =
    takes_two c.args.self.now c.number.new.self c.number-2.new.self c.in_ok-four.field-0
    c.in_ok-four-2.field-0 c.in_ok-four.ensures c.in_ok-four-2.ensures in
    rw (p.1, p.2)
    (stops_among c.args.count 2 c.args.self.now c.number-2.new.self _ c.in_err-four-3.field-0.0
    (omega (arith, c.if-count-eq0.false, c.if-count-eq1.false, c.if-count-eq2.false)) before
    c.in_err-four-3.ensures)

pub returns-then-count-eq3 : goal.returns-then-count-eq3
returns-then-count-eq3 c =
    let before =
    takes_three c.args.self.now c.number.new.self c.number-2.new.self c.number-3.new.self
    c.in_ok-four.field-0 c.in_ok-four-2.field-0 c.in_ok-four-3.field-0 c.in_ok-four.ensures
    c.in_ok-four-2.ensures c.in_ok-four-3.ensures in
    rw c.if-count-eq3.true before

pub returns-in_err-four-4 : goal.returns-in_err-four-4
returns-in_err-four-4 c =
    let p =
    err_from_is_err_and c.from_residual-in_err-four-4.result
    c.from_residual-in_err-four-4.ensures.1 in
    let before =
    takes_three c.args.self.now c.number.new.self c.number-2.new.self c.number-3.new.self
    c.in_ok-four.field-0 c.in_ok-four-2.field-0 c.in_ok-four-3.field-0 c.in_ok-four.ensures
    c.in_ok-four-2.ensures c.in_ok-four-3.ensures in
    rw (p.1, p.2)
    (stops_among c.args.count 3 c.args.self.now c.number-3.new.self _ c.in_err-four-4.field-0.0
    (omega
    (arith, c.if-count-eq0.false, c.if-count-eq1.false, c.if-count-eq2.false, c.if-count-eq3.false))
    before c.in_err-four-4.ensures)

pub returns : goal.returns
returns c =
    let before =
    takes_three c.args.self.now c.number.new.self c.number-2.new.self c.number-3.new.self
    c.in_ok-four.field-0 c.in_ok-four-2.field-0 c.in_ok-four-3.field-0 c.in_ok-four.ensures
    c.in_ok-four-2.ensures c.in_ok-four-3.ensures in
    let all =
    takes_more 3 c.args.self.now c.number-3.new.self c.number-4.new.self _
    c.in_ok-four-4.field-0 before c.in_ok-four-4.ensures in
    let four : c.args.count ≡ 4 = omega (
      arith,
      c.requires,
      c.if-count-eq0.false,
      c.if-count-eq1.false,
      c.if-count-eq2.false,
      c.if-count-eq3.false,
    ) in
    rw four all
