use Rattle.std.proofs.Common.{List, [], ◌∷◌, ◌++◌, append-nil, arith, refl, sym, subst}
use Rattle.sv_packet.specs.EventRef.{seen, seen_at}
use Rattle.sv_stream.specs.declared.seen.Seen.{Seen}
use Rattle.sv_stream.specs.declared.seen.Seen.TheVariants.{Event, Damage}
use Rattle.sv_stream.specs.Decoding.{Decoding}
use Rattle.sv_feed.specs.Feed.{AreGiven}
use Rattle.sv_feed.proofs.Draining.{drained, given-more, given-none, on_err, room_for_next, stopped}
use Rattle.sv_feed.proofs.Draining.{taken-more, taken-none}
use Rattle.sv_feed.proofs.drain.drain_entries.Goals as goal

pub loop-front-init : goal.loop-front-init
loop-front-init g c = (
  [],
  given-none c.args.decoder.now,
  taken-none g.G.Gather.made g.G.Gather.taken c.args.gatherer.now c.args.items.now.items,
)

pub returns-in_default-settle-clause-drained : goal.returns-in_default-settle-clause-drained
returns-in_default-settle-clause-drained g c =
    let entries = c.loop-front.invariant.0 in
    let settle = c.in_default-settle.ensures in (
      entries,
      subst (λ (d : Decoding). AreGiven c.args.decoder.now d entries) (sym (settle.unchanged refl))
          c.loop-front.invariant.1,
      c.loop-front.invariant.2,
      drained c.args.decoder.now c.loop-front.decoder c.settle.new.self entries
          c.loop-front.invariant.1.stands settle.next (settle.settled refl),
    )

pub mark-requires : goal.mark-requires
mark-requires g c =
    let mark = c.in-Some-settle.mark in
    room_for_next g.G.Gather.made g.G.Gather.taken c.args.decoder.now c.loop-front.decoder
    c.args.gatherer.now c.loop-front.gatherer c.args.items.now.items c.loop-front.items.items
    c.loop-front.invariant.0 mark.time c.loop-front.invariant.1 c.loop-front.invariant.2
    c.requires.0 c.requires.1 c.requires.2 c.requires.3 c.requires.4
    c.in-Some-settle.ensures.order (omega (arith, c.in-Some-settle.ensures.fewer))

pub returns-in_err-mark-clause-stopped : goal.returns-in_err-mark-clause-stopped
returns-in_err-mark-clause-stopped g c =
    let entries = c.loop-front.invariant.0 in
    let mark = c.in-Some-settle.mark in
    let one : Seen = Damage mark.time mark.place mark.reason in
    let settle = c.in-Some-settle.ensures in
    on_err c.from_residual.result (
      entries ++ one ∷ [],
      given-more c.args.decoder.now c.loop-front.decoder c.settle.new.self entries one
          c.loop-front.invariant.1 settle.stands settle.fewer settle.pushed,
      stopped g.G.Gather.made g.G.Gather.taken g.G.Gather.failed c.args.gatherer.now
          c.loop-front.gatherer c.mark.new.self c.args.items.now.items c.loop-front.items.items
          c.mark.new.items.items entries (one ∷ []) (entries ++ one ∷ []) refl
          c.loop-front.invariant.2 c.in_err-mark.ensures.failed,
    )

pub loop-front-preserved-in_default : goal.loop-front-preserved-in_default
loop-front-preserved-in_default g c =
    let entries = c.loop-front.invariant.0 in
    let mark = c.in-Some-settle.mark in
    let one : Seen = Damage mark.time mark.place mark.reason in
    let settle = c.in-Some-settle.ensures in (
      entries ++ one ∷ [],
      given-more c.args.decoder.now c.loop-front.decoder c.settle.new.self entries one
          c.loop-front.invariant.1 settle.stands settle.fewer settle.pushed,
      taken-more g.G.Gather.made g.G.Gather.taken c.args.gatherer.now c.loop-front.gatherer
          c.mark.new.self c.args.items.now.items c.loop-front.items.items c.mark.new.items.items
          entries one c.loop-front.invariant.2 c.in_ok-mark.ensures.taken
          c.in_ok-mark.ensures.items,
    )

pub event-requires : goal.event-requires
event-requires g c =
    room_for_next g.G.Gather.made g.G.Gather.taken c.args.decoder.now c.loop-front.decoder
    c.args.gatherer.now c.loop-front.gatherer c.args.items.now.items c.loop-front.items.items
    c.loop-front.invariant.0 c.in-Some.front.time c.loop-front.invariant.1
    c.loop-front.invariant.2 c.requires.0 c.requires.1 c.requires.2 c.requires.3 c.requires.4
    c.in-Some.ensures.order c.in-Some.ensures.held

pub returns-in_err-event-clause-stopped : goal.returns-in_err-event-clause-stopped
returns-in_err-event-clause-stopped g c =
    let entries = c.loop-front.invariant.0 in
    on_err c.from_residual-in_err-event.result (
      entries,
      c.loop-front.invariant.1,
      stopped g.G.Gather.made g.G.Gather.taken g.G.Gather.failed c.args.gatherer.now
          c.loop-front.gatherer c.event.new.self c.args.items.now.items c.loop-front.items.items
          c.event.new.items.items entries [] entries (sym (append-nil entries))
          c.loop-front.invariant.2 c.in_err-event.ensures.failed,
    )

pub loop-front-preserved : goal.loop-front-preserved
loop-front-preserved g c =
    let entries = c.loop-front.invariant.0 in
    let front = c.in-Some.front in
    let one : Seen = Event (seen_at front.time front.event) in (
      entries ++ one ∷ [],
      given-more c.args.decoder.now c.loop-front.decoder c.pass.new.self entries one
          c.loop-front.invariant.1
          (c.pass.ensures.stands (seen front.event) c.in-Some.ensures.front)
          c.pass.ensures.fewer c.pass.ensures.pushed,
      taken-more g.G.Gather.made g.G.Gather.taken c.args.gatherer.now c.loop-front.gatherer
          c.event.new.self c.args.items.now.items c.loop-front.items.items
          c.event.new.items.items entries one c.loop-front.invariant.2
          c.in_ok-event.ensures.taken c.in_ok-event.ensures.items,
    )
