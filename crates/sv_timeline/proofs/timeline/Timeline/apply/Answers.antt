use Rattle.std.proofs.Common.{◌≡◌, List, [], ◌∷◌, ◌++◌, sym, ap, subst, ◌∙◌, arith}
use Rattle.std.specs.Prelude.{false}
use Rattle.sv_packet.specs.declared.event.TimedEvent.{TimedEvent}
use Rattle.sv_packet.specs.EventRef.{seen_at}
use Rattle.sv_timeline.specs.declared.span.Span.{Span}
use Rattle.sv_timeline.specs.State.{State, StandsFor, ended_by, ends_run}
use Rattle.sv_timeline.proofs.Stepping.{events_of, stands_plain}
use Rattle.sv_timeline.proofs.timeline.Timeline.apply.Goals as goal

pub returns-clause-stands : goal.returns-clause-stands
returns-clause-stands c =
    let inside : State = record {
      contexts = c.self.inside.contexts;
      totals = c.self.inside.totals;
      last = c.self.inside.last;
      start = c.self.inside.start;
      context = c.self.inside.context;
      ahead = c.self.inside.ahead;
    } in
    let view : inside ≡ c.args.self.now = c.self.view_is in
    let ends : ends_run inside (seen_at c.args.time c.args.event.now) ≡ false =
    ap (λ (s : State). ends_run s (seen_at c.args.time c.args.event.now)) view
    ∙ sym c.ends_run.ensures ∙ c.if-ends_run.false in
    let last : c.self.inside.last ≡ c.args.self.now.last = ap (λ (s : State). s.last) view in
    subst (λ (old : State). (events : List TimedEvent) (given : List Span)
    → StandsFor old events given → StandsFor c.go_on.new.self (events ++ (seen_at c.args.time
    c.args.event.now) ∷ []) (given ++ ended_by old (seen_at c.args.time c.args.event.now))) view
    (λ events given s. stands_plain inside c.apply.new.self c.go_on.new.self events given (seen_at
    c.args.time c.args.event.now) s c.self.invariant.within (omega (
      arith,
      last,
      c.requires.order,
    )) ends
    (c.in_ok-apply.ensures.stands (events_of events) s.contexts) c.go_on.ensures.goes_on
    c.go_on.ensures.ahead)
