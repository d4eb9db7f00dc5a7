use Rattle.std.proofs.Common.{◌≡◌, ◌+◌, sym, ap, ◌∙◌, arith, rules}
use Rattle.sv_ring_rtt.proofs.Joining.{opens, splits_allowed, opened_both, all_zeros}
use Rattle.sv_ring_rtt.proofs.whole.ends.Goals as goal

pub of_words-requires : goal.of_words-requires
of_words-requires c =
    let h = c.in-Ok.ensures.items in
    opens (record { size = c.from.result; limit = c.args.limit }) c.as_slice.result.now
    (omega arith)
    (c.as_slice.ensures.value
    ∙ (h ∙ all_zeros _ _ _ _ c.new-words.ensures.items (search rules)
    (ap (λ k. k + 2) c.from.ensures)))

pub split_seat-other-requires : goal.split_seat-other-requires
split_seat-other-requires c =
    let t = c.deref.result.now in
    let s = c.in-Ok-of_words.seat in
    let e = c.in-Ok-of_words.ensures in
    let is : t ≡ c.in-Ok-of_words.table = c.deref.ensures ∙ c.in-Ok-new.ensures.ok in
    let words : t.shared.table_id.words ≡ c.args.size + 2 = ap (λ x. x.shared.table_id.words) is
    ∙ (e.0 ∙ (c.as_slice.ensures.len ∙ c.in-Ok.ensures.len)) in (
      e.2 ∙ sym (ap (λ x. x.shared.table_id) is),
      omega arith,
      splits_allowed t.shared.key s.id s.me.0 (opened_both _ s.me.0 (ap (λ m. m.0) e.4)),
    )
