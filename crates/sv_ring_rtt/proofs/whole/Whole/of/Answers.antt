use Rattle.std.proofs.Common.{◌≡◌, ◌+◌, sym, ap, ◌∙◌, arith}
use Rattle.sv_ring_rtt.proofs.Joining.{joins_allowed, one_name}
use Rattle.sv_ring_rtt.proofs.whole.Whole.of.Goals as goal

pub join_seat-requires : goal.join_seat-requires
join_seat-requires c =
    let t = c.deref.result.now in
    let v = c.write.invariant in
    let u = c.read.invariant in
    let w = c.write.inside.seat in
    let r = c.read.inside.seat in
    let same : w.table_id ≡ t.shared.table_id = v.same
    ∙ sym (ap (λ x. x.shared.table_id) c.deref.ensures) in
    let words : t.shared.table_id.words ≡ c.write.inside.size + 2 =
    ap (λ x. x.shared.table_id.words) c.deref.ensures ∙ v.ring.words in
    let one : r.table_id ≡ w.table_id =
    one_name r.table_id w.table_id (ap (λ x. x.name) c.read.view_is
    ∙ (sym c.requires.ring ∙ sym (ap (λ x. x.name) c.write.view_is))) in (
      same,
      one ∙ same,
      ap (λ m. m.1) u.me_is,
      omega arith,
      joins_allowed t.shared.key w.id w.me.0 r.id r.me.0 (ap (λ m. m.0) v.me_is)
          (ap (λ m. m.0) u.me_is),
    )
