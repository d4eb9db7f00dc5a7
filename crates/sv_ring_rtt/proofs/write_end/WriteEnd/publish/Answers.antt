use Rattle.std.proofs.Common.{◌≡◌, ◌+◌, ◌%◌, sym, ap, ◌∙◌, arith}
use Rattle.sv_ring_rtt.specs.Rule.{laid, writing_of}
use Rattle.sv_ring_rtt.proofs.Storing.{show_asked}
use Rattle.sv_ring_rtt.proofs.write_end.WriteEnd.publish.Goals as goal

pub store-requires : goal.store-requires
store-requires c =
    let t = c.deref.result.now in
    let v = c.self.invariant in
    let w = writing_of c.self.inside.seat.me.0 in
    let same : c.self.inside.seat.table_id ≡ t.shared.table_id = v.same
    ∙ sym (ap (λ x. x.shared.table_id) c.deref.ensures) in
    let words : t.shared.table_id.words ≡ c.self.inside.size + 2 =
    ap (λ x. x.shared.table_id.words) c.deref.ensures ∙ v.ring.words in
    let at : c.self.inside.at ≡ laid w % w.size = rw (v.stored_is, v.size_is) (sym v.at_is) in (
      same,
      omega arith,
      show_asked t.shared.key t.shared.table_id.slots c.self.inside.seat.id c.self.inside.seat.me
          v.me_is c.self.inside.at at,
    )
