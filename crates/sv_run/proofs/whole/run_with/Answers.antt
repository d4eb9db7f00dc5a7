use Rattle.std.proofs.Common.{ap, ◌∙◌}
use Rattle.std.specs.Prelude.{flat_map}
use Rattle.sv_load.specs.Load.{Load}
use Rattle.sv_recorder.specs.Commands.{command_bytes}
use Rattle.sv_run.proofs.Ends.{fed_whole, whole_run}
use Rattle.sv_run.proofs.whole.run_with.Goals as goal

pub returns-clause-whole : goal.returns-clause-whole
returns-clause-whole g c =
    let same = c.send_left.ensures.same.load
    ∙ (c.in_ok-recorder-2.ensures.host.load ∙ c.new-host.ensures.load) in
    whole_run c.args.load.now c.finish-done.result.journal.items _ _ c.finish-done.ensures.legal
    c.finish-done.ensures.through c.need-need.ensures.limits.asked c.finish-done.ensures.answered
    c.in_ok-rest.ensures.front
    (c.into_heard-heard.ensures.asked
    ∙ ap (λ (load : Load). flat_map command_bytes load.commands) same)

pub returns-clause-fed : goal.returns-clause-fed
returns-clause-fed g c =
    fed_whole c.analyse.new.analyser _ c.send_left.new.self.taken _ _ _
    (c.in_ok-rest.ensures.rest ∙ c.finish-done.ensures.sent)
    c.into_heard-heard.ensures.taken
    c.deref.ensures.value
    (c.in_ok-analyse.ensures c.send_left.new.self.taken c.into_heard-heard.ensures.fed)
