use denote.Param.Send.{sendable}
use Rattle.std.proofs.Common.{rules}
use Rattle.sv_run.proofs.threads.run_threads.Goals as goal

-- the workload is the one that is named, and each type goes to threads as it says
pub scoped-requires : goal.scoped-requires
scoped-requires g c =
    record { at = λ a. ((c.requires.load, search sendable, search sendable, search sendable), search rules) }
