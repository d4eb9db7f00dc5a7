use Rattle.std.proofs.Common.{ℕ, sym, subst, arith, inl, inr}
use Rattle.std.proofs.lemmas.Result.{err_from_is_err_and}
use Rattle.sv_packet.specs.Parts.{IsOfSize}
use Rattle.sv_packet.specs.Made.{IsMade}
use Rattle.sv_packet.specs.Reader.{TakesPart, numbers_in}
use Rattle.sv_packet.proofs.told_of_parts.Bodies.{id_fits}
use Rattle.sv_packet.proofs.told_of_parts.Stopping.{stops_at_id, stops_at_numbers, stops_at_text, stops_at_delta}
use Rattle.sv_packet.proofs.told_of_parts.Stopping.{takes_bare, stops_at_length, stops_at_payload, stops_at_last}
use Rattle.sv_packet.proofs.told_of_parts.Stopping.{takes_counted}
use Rattle.sv_packet.proofs.decoding.read_parts.Goals as goal

pub returns-in_err-id : goal.returns-in_err-id
returns-in_err-id c =
    let p = err_from_is_err_and c.from_residual.result c.from_residual.ensures.1 in
    rw (p.1, p.2) (stops_at_id c.args.reader.now c.in_err-id.field-0.0 c.in_err-id.ensures)

pub returns-in_err-size : goal.returns-in_err-size
returns-in_err-size c =
    let p =
    err_from_is_err_and c.from_residual-in_err-size.result
    c.from_residual-in_err-size.ensures.1 in
    rw (p.1, p.2)
    (stops_at_length c.args.reader.now c.identifier.new.self c.in_ok-id.id c.in_ok-id.ensures
    c.if-id-ge24.true (id_fits c.in_ok-id.id _ c.in_ok-id.ensures.spelled.spelled.0)
    c.in_err-size.field-0.0 c.in_err-size.ensures)

pub returns-in_err-bytes : goal.returns-in_err-bytes
returns-in_err-bytes c =
    let p =
    err_from_is_err_and c.from_residual-in_err-bytes.result
    c.from_residual-in_err-bytes.ensures.1 in
    rw (p.1, p.2)
    (stops_at_payload c.args.reader.now c.identifier.new.self c.in_ok-id.id c.in_ok-id.ensures
    c.if-id-ge24.true (id_fits c.in_ok-id.id _ c.in_ok-id.ensures.spelled.spelled.0)
    c.length.new.self c.in_ok-size.size c.in_ok-size.ensures c.in_err-bytes.field-0.0
    (rw (← c.from.ensures) c.in_err-bytes.ensures))

pub returns-in_err-delta : goal.returns-in_err-delta
returns-in_err-delta c =
    let p =
    err_from_is_err_and c.from_residual-in_err-delta.result
    c.from_residual-in_err-delta.ensures.1 in
    let took =
    subst
    (λ (k : ℕ).
    TakesPart (IsOfSize k) c.length.new.self c.take.new.self c.in_ok-bytes.bytes.now) c.from.ensures
    c.in_ok-bytes.ensures in
    rw (p.1, p.2)
    (stops_at_last c.args.reader.now c.identifier.new.self c.in_ok-id.id c.in_ok-id.ensures
    c.if-id-ge24.true (id_fits c.in_ok-id.id _ c.in_ok-id.ensures.spelled.spelled.0)
    c.length.new.self c.in_ok-size.size c.in_ok-size.ensures c.take.new.self
    c.in_ok-bytes.bytes.now took c.in_err-delta.field-0.0 c.in_err-delta.ensures)

pub returns-in_err-four : goal.returns-in_err-four
returns-in_err-four c =
    let p =
    err_from_is_err_and c.from_residual-in_err-four.result
    c.from_residual-in_err-four.ensures.1 in
    rw (p.1, p.2)
    (stops_at_numbers c.args.reader.now c.identifier.new.self c.in_ok-id.id c.in_ok-id.ensures
    (omega (arith, c.if-id-ge24.false)) c.shape_of-count.result.0 c.shape_of-count.ensures.numbers
    c.in_err-four.field-0.0 c.in_err-four.ensures)

pub returns-in_err-bytes-2 : goal.returns-in_err-bytes-2
returns-in_err-bytes-2 c =
    let p =
    err_from_is_err_and c.from_residual-in_err-bytes-2.result
    c.from_residual-in_err-bytes-2.ensures.1 in
    rw (p.1, p.2)
    (stops_at_text c.args.reader.now c.identifier.new.self c.in_ok-id.id c.in_ok-id.ensures
    (omega (arith, c.if-id-ge24.false)) c.shape_of-count.result.0 c.shape_of-count.ensures.numbers
    c.numbers.new.self (numbers_in c.shape_of-count.result.0 c.in_ok-four.four)
    c.in_ok-four.ensures c.shape_of-count.result.1 c.shape_of-count.ensures.text
    c.in_err-bytes-2.field-0.0
    c.in_err-bytes-2.ensures)

pub returns-in_err-delta-2 : goal.returns-in_err-delta-2
returns-in_err-delta-2 c =
    let p =
    err_from_is_err_and c.from_residual-in_err-delta-2.result
    c.from_residual-in_err-delta-2.ensures.1 in
    rw (p.1, p.2)
    (stops_at_delta c.args.reader.now c.identifier.new.self c.in_ok-id.id c.in_ok-id.ensures
    (omega (arith, c.if-id-ge24.false)) c.shape_of-count.result.0 c.shape_of-count.ensures.numbers
    c.numbers.new.self (numbers_in c.shape_of-count.result.0 c.in_ok-four.four)
    c.in_ok-four.ensures c.shape_of-count.result.1 c.shape_of-count.ensures.text c.text_if.new.self
    c.in_ok-bytes-2.bytes.now c.in_ok-bytes-2.ensures c.in_err-delta-2.field-0.0
    c.in_err-delta-2.ensures)

pub returns-then-id-ge24 : goal.returns-then-id-ge24
returns-then-id-ge24 c =
    let took =
    subst
    (λ (k : ℕ).
    TakesPart (IsOfSize k) c.length.new.self c.take.new.self c.in_ok-bytes.bytes.now) c.from.ensures
    c.in_ok-bytes.ensures in
    record {
      known = c.in_ok-id.ensures.spelled.spelled.1;
      fits = id_fits c.in_ok-id.id _ c.in_ok-id.ensures.spelled.spelled.0;
      packet = λ event told. elim told [
        | inl bare ↦ absurd (omega (arith, bare.0, c.if-id-ge24.true))
        | inr counted ↦
            takes_counted c.args.reader.now c.identifier.new.self c.in_ok-id.id c.in_ok-id.ensures
            c.if-id-ge24.true (id_fits c.in_ok-id.id _ c.in_ok-id.ensures.spelled.spelled.0)
            c.length.new.self c.in_ok-size.size c.in_ok-size.ensures c.take.new.self
            c.in_ok-bytes.bytes.now took c.number.new.self c.in_ok-delta.delta
            c.in_ok-delta.ensures event counted.1
      ];
    }

pub returns : goal.returns
returns c = record {
  known = c.in_ok-id.ensures.spelled.spelled.1;
  fits = id_fits c.in_ok-id.id _ c.in_ok-id.ensures.spelled.spelled.0;
  packet = λ event told. elim told [
    | inr counted ↦ absurd (omega (arith, counted.0, c.if-id-ge24.false))
    | inl bare ↦
        takes_bare c.args.reader.now c.identifier.new.self c.in_ok-id.id c.in_ok-id.ensures
        (omega (arith, c.if-id-ge24.false)) c.shape_of-count.result.0
        c.shape_of-count.ensures.numbers c.numbers.new.self
        (numbers_in c.shape_of-count.result.0 c.in_ok-four.four) c.in_ok-four.ensures
        c.shape_of-count.result.1 c.shape_of-count.ensures.text c.text_if.new.self
        c.in_ok-bytes-2.bytes.now c.in_ok-bytes-2.ensures c.number-2.new.self
        c.in_ok-delta-2.delta c.in_ok-delta-2.ensures event
        (subst
        (λ (k : ℕ).
        IsMade c.in_ok-id.id (numbers_in k c.in_ok-four.four) c.in_ok-bytes-2.bytes.now event)
        (sym c.shape_of-count.ensures.numbers) bare.1)
  ];
}
