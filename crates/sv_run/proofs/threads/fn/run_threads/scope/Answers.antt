use denote.Param.Send.{sendable}
use Rattle.std.proofs.Common.{rules, ◌<◌, length, subst}
use Rattle.sv_load.specs.Load.{Load}
use Rattle.sv_run.proofs.threads.fn.run_threads.scope.Goals as goal

pub spawn-thread-requires-after_bounds : goal.spawn-thread-requires-after_bounds
spawn-thread-requires-after_bounds g c κs within =
    let below : c.loop-writer.writer < length c.captures.load.now.scripts = search rules in (
      (
        c.requires.0,
        subst (λ
            (load : Load). c.loop-writer.writer < length load.scripts) c.requires.0 below,
      ),
      search sendable,
    )
