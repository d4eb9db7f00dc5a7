use Rattle.std.proofs.Common.{◌≡◌, ◌+◌, sym, ap, ◌∙◌, arith}
use Rattle.sv_ring_rtt.proofs.Taking.{find_asked}
use Rattle.sv_ring_rtt.proofs.read_end.ReadEnd.find.Goals as goal

pub load-found-requires : goal.load-found-requires
load-found-requires c =
    let t = c.deref.result.now in
    let v = c.self.invariant in
    let same : c.self.inside.seat.table_id ≡ t.shared.table_id = v.same
    ∙ sym (ap (λ x. x.shared.table_id) c.deref.ensures) in
    let words : t.shared.table_id.words ≡ c.self.inside.size + 2 =
    ap (λ x. x.shared.table_id.words) c.deref.ensures ∙ v.ring.words in (
      same,
      omega arith,
      find_asked t.shared.key t.shared.table_id.slots c.self.inside.seat.id c.self.inside.seat.me
          v.me_is,
    )
