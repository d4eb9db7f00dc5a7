use Rattle.std.proofs.Common.{ℕ, ◌+◌, List, [], ◌∷◌, ◌++◌, subst, refl}
use Rattle.std.specs.Prelude.{false}
use Rattle.sv_prim.specs.declared.got.Reason.{Reason}
use Rattle.sv_stream.specs.declared.seen.Seen.{Seen}
use Rattle.sv_stream.specs.declared.seen.Seen.TheVariants.{Damage}
use Rattle.sv_stream.specs.Entries.{events_of}
use Rattle.sv_timeline.specs.declared.span.Span.{Span}
use Rattle.sv_timeline.specs.State.{ended_by}
use Rattle.sv_analyse.specs.State.{AnalysisState, AnalysisStandsFor, stop_at}
use Rattle.sv_analyse.proofs.Seeing.{stands-mark}
use Rattle.sv_analyse.proofs.analysis.Analysis.stop.Goals as goal

pub returns-clause-stands : goal.returns-clause-stands
returns-clause-stands c =
    let old : AnalysisState = record {
      timeline = c.self.inside.timeline;
      latency = c.self.inside.latency;
      names = c.self.inside.names;
      packets = c.self.inside.packets;
      marks = c.self.inside.marks;
      failed = c.self.inside.failed;
    } in
    let new : AnalysisState = record {
      timeline = c.step.new.self;
      latency = c.apply.new.self;
      names = c.self.inside.names;
      packets = c.self.inside.packets;
      marks = c.self.inside.marks + 1;
      failed = false;
    } in
    subst (λ (old : AnalysisState). (seen : List Seen) (given : List Span) →
    AnalysisStandsFor old seen given → (place : ℕ) (reason : Reason) →
    AnalysisStandsFor new (seen ++ Damage c.args.time place reason ∷ [])
    (given ++ ended_by old.timeline (stop_at c.args.time))) c.self.view_is
    (λ seen given s place reason.
    stands-mark old new seen given
    (ended_by old.timeline (stop_at c.args.time)) c.args.time place reason s
    (c.in_ok-run.ensures.stands (events_of seen) given s.timeline)
    (c.in_ok-apply.ensures.stands (events_of seen) s.latency) refl refl refl)
