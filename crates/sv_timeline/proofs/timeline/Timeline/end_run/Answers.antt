use Rattle.std.proofs.Common.{◌≡◌, List, [], ◌∷◌, ◌++◌, ap, subst, ◌∙◌, arith}
use Rattle.std.specs.Prelude.{true}
use Rattle.sv_packet.specs.declared.event.TimedEvent.{TimedEvent}
use Rattle.sv_packet.specs.EventRef.{seen_at}
use Rattle.sv_timeline.specs.declared.span.Span.{Span}
use Rattle.sv_timeline.specs.Totals.{total_in}
use Rattle.sv_timeline.specs.State.{State, StandsFor, ended_by, ends_run}
use Rattle.sv_timeline.proofs.Stepping.{events_of, stands_ended, sound_ended}
use Rattle.sv_timeline.proofs.timeline.Timeline.end_run.Goals as goal

pub invariant_of-self-3 : goal.invariant_of-self-3
invariant_of-self-3 c =
    sound_ended c.self.inside.totals c.slot.new.self c.add.new.self c.self.inside.context
    c.self.inside.start c.self.inside.last c.self.invariant c.in_ok-slot.ensures.same
    (c.add.ensures c.self.inside.context (total_in c.self.inside.totals c.self.inside.context)
    c.in_ok-slot.ensures.at)

pub returns-clause-stands : goal.returns-clause-stands
returns-clause-stands c =
    let inside : State = record {
      contexts = c.self.inside.contexts;
      totals = c.self.inside.totals;
      last = c.self.inside.last;
      start = c.self.inside.start;
      context = c.self.inside.context;
      ahead = c.self.inside.ahead;
    } in
    let view : inside ≡ c.args.self.now = c.self.view_is in
    let ends : ends_run inside (seen_at c.args.time c.args.event.now) ≡ true =
    ap (λ (s : State). ends_run s (seen_at c.args.time c.args.event.now)) view
    ∙ c.requires.ends in
    let last : c.self.inside.last ≡ c.args.self.now.last = ap (λ (s : State). s.last) view in
    subst (λ (old : State). (events : List TimedEvent) (given : List Span)
    → StandsFor old events given → StandsFor c.go_on.new.self (events ++ (seen_at c.args.time
    c.args.event.now) ∷ []) (given ++ ended_by old (seen_at c.args.time c.args.event.now))) view
    (λ events given s. stands_ended inside c.apply.new.self c.slot.new.self c.add.new.self
    c.go_on.new.self events given (seen_at c.args.time c.args.event.now) s
    c.self.invariant.within (omega (arith, last, c.requires.order)) ends
    (c.in_ok-apply.ensures.stands (events_of events) s.contexts) c.in_ok-slot.ensures.same
    (c.add.ensures c.self.inside.context (total_in c.self.inside.totals c.self.inside.context)
    c.in_ok-slot.ensures.at)
    c.go_on.ensures.goes_on c.go_on.ensures.ahead)
