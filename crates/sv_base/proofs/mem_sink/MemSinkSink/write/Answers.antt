use Rattle.std.proofs.Common.{rules}
use Rattle.sv_base.proofs.mem_sink.MemSinkSink.write.Goals as goal
use Rattle.sv_base.proofs.mem_sink.MemSinkSink.write.Goals.{then-count-eq0-via-then-count-eq0}
use Rattle.sv_base.proofs.mem_sink.MemSinkSink.write.Goals.{
  then-count-eq0-via-else-count-eq0+then-contains,
}

pub returns-then-count-eq0-clause-fails : goal.returns-then-count-eq0-clause-fails
returns-then-count-eq0-clause-fails c =
    elim c.then-count-eq0.branch [
      | then-count-eq0-via-then-count-eq0 w ↦ search rules
      | then-count-eq0-via-else-count-eq0+then-contains w ↦ search rules
    ]
