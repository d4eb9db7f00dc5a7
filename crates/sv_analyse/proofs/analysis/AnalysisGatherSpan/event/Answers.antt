use Rattle.std.proofs.Common.{arith, rules}
use Rattle.sv_packet.specs.EventRef.{seen_at}
use Rattle.sv_stream.specs.declared.seen.Seen.TheVariants.{Event as SeenEvent}
use Rattle.sv_timeline.specs.State.{ended_by}
use Rattle.sv_analyse.proofs.Draining.{all_counted, one_more}
use Rattle.sv_analyse.proofs.analysis.AnalysisGatherSpan.event.Goals as goal

pub returns-in_default-clause-items : goal.returns-in_default-clause-items
returns-in_default-clause-items c = λ earlier was.
    let event = seen_at c.args.time c.args.event.now in (
      ended_by c.args.self.now.timeline event,
      search rules,
      one_more c.args.self.now c.step.new.self (SeenEvent event) c.in_ok-run.ensures.stands
          earlier was,
    )

pub returns-clause-items : goal.returns-clause-items
returns-clause-items c = λ earlier was.
    let event = seen_at c.args.time c.args.event.now in (
      ended_by c.args.self.now.timeline event,
      search rules,
      one_more c.args.self.now c.step.new.self (SeenEvent event) c.in_ok-run.ensures.stands
          earlier was,
    )

pub step-requires-clause-few : goal.step-requires-clause-few
step-requires-clause-few c =
    omega (
      arith,
      all_counted c.args.self.now c.requires.0 c.requires.1.1 c.requires.1.2,
      c.requires.2,
    )
