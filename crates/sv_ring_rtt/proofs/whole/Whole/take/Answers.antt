use Rattle.std.proofs.Common.{◌≡◌, ◌+◌, ◌%◌, ◌<◌, length, sym, ap, ◌∙◌, arith}
use Rattle.std.proofs.Math.Nat.{mod-lt}
use Rattle.sv_ring_rtt.specs.Rule.{writing_of, reading_of}
use Rattle.sv_ring_rtt.proofs.Taking.{both_take_asked}
use Rattle.sv_ring_rtt.proofs.whole.Whole.take.Goals as goal

pub load-found-requires : goal.load-found-requires
load-found-requires c =
    let t = c.deref.result.now in
    let v = c.self.invariant in
    let r = reading_of c.self.inside.seat.me.0 in
    let same : c.self.inside.seat.table_id ≡ t.shared.table_id = v.same
    ∙ sym (ap (λ x. x.shared.table_id) c.deref.ensures) in
    let words : t.shared.table_id.words ≡ c.self.inside.size + 2 =
    ap (λ x. x.shared.table_id.words) c.deref.ensures ∙ v.words in
    let at : c.self.inside.at ≡ length r.got % r.size = rw (v.taken_is, v.size_is) (sym v.at_is) in
    let inside : c.self.inside.at < c.self.inside.size = let m =
    mod-lt c.self.inside.taken v.some_size in let a = v.at_is in omega arith in
    let seen : r ≡ c.args.self.now.reading = ap (λ x. x.reading) c.self.view_is in
    let wrote : writing_of c.self.inside.seat.me.0 ≡ c.args.self.now.writing =
    ap (λ x. x.writing) c.self.view_is in
    let less : length r.got < length (writing_of c.self.inside.seat.me.0).sent =
    rw (seen, wrote) c.requires in
    let more : length r.got < r.seen_sent = let a = v.stored_is in let b = v.seen_is in
    omega arith in (
      same,
      omega arith,
      both_take_asked t.shared.key t.shared.table_id.slots c.self.inside.seat.id
          c.self.inside.seat.me v.me_is _ more (ap (λ k. 2 + k) at),
    )
