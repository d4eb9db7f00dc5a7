use Rattle.std.proofs.Common.{◌≡◌, ◌+◌, ◌%◌, length, sym, ap, ◌∙◌, arith}
use Rattle.sv_ring_rtt.specs.Rule.{reading_of}
use Rattle.sv_ring_rtt.proofs.Taking.{release_asked}
use Rattle.sv_ring_rtt.proofs.read_end.ReadEnd.release.Goals as goal

pub store-requires : goal.store-requires
store-requires c =
    let t = c.deref.result.now in
    let v = c.self.invariant in
    let r = reading_of c.self.inside.seat.me.0 in
    let same : c.self.inside.seat.table_id ≡ t.shared.table_id = v.same
    ∙ sym (ap (λ x. x.shared.table_id) c.deref.ensures) in
    let words : t.shared.table_id.words ≡ c.self.inside.size + 2 =
    ap (λ x. x.shared.table_id.words) c.deref.ensures ∙ v.ring.words in
    let at : c.self.inside.at ≡ length r.got % r.size =
    rw (v.taken_is, v.size_is) (sym v.at_is) in (
      same,
      omega arith,
      release_asked t.shared.key t.shared.table_id.slots c.self.inside.seat.id c.self.inside.seat.me
          v.me_is c.self.inside.at at,
    )
