use Rattle.std.proofs.Common.{◌≡◌, length, sym, ◌∙◌, arith, rules}
use Rattle.sv_core.proofs.taking.FreesCounted.{counted-other}
use Rattle.sv_core.proofs.replays.used_from.Goals.{then-used-frees-via-then-used-frees}
use Rattle.sv_core.proofs.replays.used_from.Goals.{
  then-used-frees-via-else-used-frees+then-saturating_sub-from,
}
use Rattle.sv_core.proofs.replays.used_from.Goals as goal

pub returns-then-used-frees : goal.returns-then-used-frees
returns-then-used-frees c =
    counted-other c.args.items.now c.args.frees.now c.loop-place.place _ c.loop-place.used.count
    c.loop-place.used.freed c.loop-place.used.after_lost
    (omega (arith, c.loop-place-test.true, c.loop-place.auto.place-end)) c.loop-place.invariant
    (λ earlier e. c.is_written.ensures earlier e ∙ c.if-is_written.true)
    (elim c.then-used-frees.branch [
      | then-used-frees-via-then-used-frees w ↦ λ few same.
          let e : c.loop-place.used.count ≡ length c.args.frees.now =
          search (rules, w.if-used-frees.true) in
          omega (arith, few, e)
      | then-used-frees-via-else-used-frees+then-saturating_sub-from w ↦ λ few same.
          w.if-saturating_sub-from.true (w.saturating_sub.ensures ∙ same ∙ sym w.from.ensures)
    ])
