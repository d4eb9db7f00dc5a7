use Rattle.std.proofs.Common.{◌≡◌, ◌+◌, List, length}
use Rattle.sv_packet.specs.declared.event.TimedEvent.{TimedEvent}
use Rattle.sv_timeline.specs.declared.span.Span.{Span}
use Rattle.sv_timeline.specs.State.{StandsFor}
use Rattle.sv_tests_report.proofs.timelines.follow.Given as goal

abbrev pub invariant-loop-time : goal.invariant-loop-time
invariant-loop-time l = record {
  stands : (events : List TimedEvent) × (given : List Span) × StandsFor l.timeline events given ×
      (length events + l.left ≡ 100);
  clock : l.timeline.last ≡ l.last;
}
