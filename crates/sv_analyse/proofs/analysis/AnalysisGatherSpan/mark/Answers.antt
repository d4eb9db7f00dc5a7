use Rattle.std.proofs.Common.{◌++◌, arith, rules}
use Rattle.sv_stream.specs.declared.seen.Seen.TheVariants.{Damage}
use Rattle.sv_timeline.specs.State.{ended_by}
use Rattle.sv_analyse.specs.State.{stop_at}
use Rattle.sv_analyse.proofs.Draining.{all_counted, one_more}
use Rattle.sv_analyse.proofs.analysis.AnalysisGatherSpan.mark.Goals as goal

pub returns-in_default-clause-items : goal.returns-in_default-clause-items
returns-in_default-clause-items c = λ earlier was.
    let mark = c.args.mark.now in (
      ended_by c.args.self.now.timeline (stop_at mark.time),
      search rules,
      one_more c.args.self.now c.stop.new.self (Damage mark.time mark.place mark.reason)
          (λ seen given s. c.in_ok-run.ensures.stands seen given s mark.place mark.reason)
          earlier was,
    )

pub returns-clause-items : goal.returns-clause-items
returns-clause-items c = λ earlier was.
    let mark = c.args.mark.now in (
      ended_by c.args.self.now.timeline (stop_at mark.time),
      search rules,
      one_more c.args.self.now c.stop.new.self (Damage mark.time mark.place mark.reason)
          (λ seen given s. c.in_ok-run.ensures.stands seen given s mark.place mark.reason)
          earlier was,
    )

pub stop-requires-clause-few : goal.stop-requires-clause-few
stop-requires-clause-few c =
    omega (
      arith,
      all_counted c.args.self.now c.requires.0 c.requires.1.1 c.requires.1.2,
      c.requires.2,
    )

pub returns-in_default-clause-taken : goal.returns-in_default-clause-taken
returns-in_default-clause-taken c = λ earlier was.
    let mark = c.args.mark.now in (
      c.in_ok-run.ensures.live,
      was.1 ++ ended_by c.args.self.now.timeline (stop_at mark.time),
      c.in_ok-run.ensures.stands earlier was.1 was.2 mark.place mark.reason,
    )

pub returns-clause-taken : goal.returns-clause-taken
returns-clause-taken c = λ earlier was.
    let mark = c.args.mark.now in (
      c.in_ok-run.ensures.live,
      was.1 ++ ended_by c.args.self.now.timeline (stop_at mark.time),
      c.in_ok-run.ensures.stands earlier was.1 was.2 mark.place mark.reason,
    )
