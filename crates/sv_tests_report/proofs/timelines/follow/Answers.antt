use Rattle.std.proofs.Common.{[], ◌∷◌, ◌++◌, length-append, refl, arith}
use Rattle.sv_packet.specs.EventRef.{seen_at}
use Rattle.sv_timeline.specs.State.{ended_by}
use Rattle.sv_tests_report.proofs.timelines.follow.Goals as goal

pub loop-time-init : goal.loop-time-init
loop-time-init c = record { stands = ([], [], c.requires.none, refl); clock = c.requires.start }

pub apply-requires-clause-few : goal.apply-requires-clause-few
apply-requires-clause-few c =
    let stood = c.loop-time.invariant.stands in (stood.0, stood.1, stood.2, omega (arith, stood.3))

pub loop-time-preserved : goal.loop-time-preserved
loop-time-preserved c =
    let stood = c.loop-time.invariant.stands in
    let event = seen_at c.loop-time-item.result.0 c.loop-time-item.result.1 in
    record {
      stands = (
        stood.0 ++ event ∷ [],
        stood.1 ++ ended_by c.loop-time.timeline event,
        c.in_ok-apply.ensures.stands stood.0 stood.1 stood.2,
        omega (
          arith,
          length-append stood.0 (event ∷ []),
          stood.3,
          c.if-left-eq0.false,
        ),
      );
      clock = c.in_ok-apply.ensures.last;
    }
