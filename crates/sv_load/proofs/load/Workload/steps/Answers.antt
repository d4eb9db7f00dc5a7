use Rattle.std.proofs.Common.{◌≤◌}
use Rattle.sv_load.specs.declared.load.Step.{Step}
use Rattle.sv_load.specs.Need.{IsStepAct}
use Rattle.sv_load.proofs.OfScript.{all_of_script}
use Rattle.sv_load.proofs.load.Workload.steps.Goals as goal

pub returns-clause-advances : goal.returns-clause-advances
returns-clause-advances c =
    all_of_script (λ (step : Step). step.advance ≤ 8589934592) c.args.self.now c.args.writer
    c.script.result.now c.script.ensures.limits.advances c.requires c.script.ensures.told

pub returns-clause-acts : goal.returns-clause-acts
returns-clause-acts c =
    all_of_script (λ (step : Step). IsStepAct step.act) c.args.self.now c.args.writer
    c.script.result.now c.script.ensures.limits.acts c.requires c.script.ensures.told
