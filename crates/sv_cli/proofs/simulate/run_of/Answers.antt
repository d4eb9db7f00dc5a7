use Rattle.std.proofs.Common.{ℕ, List, subst}
use Rattle.sv_stream.specs.Reads.{Reads}
use Rattle.sv_sent.specs.Start.{has_start}
use Rattle.sv_cli.proofs.Reported.{ends_so}
use Rattle.sv_cli.proofs.simulate.run_of.Goals as goal

pub returns-in-Ok-clause-ends : goal.returns-in-Ok-clause-ends
returns-in-Ok-clause-ends c = λ entries end reads.
    let load = c.args.load.now in
    let items = c.in-Ok.run'.journal.items in
    let there = subst (λ (bs : List ℕ). Reads bs entries end) c.in-Ok.ensures.bytes reads in
    let legal = c.in-Ok.ensures.simulated.legal in
    let limits = c.writers.ensures.limits in
    let laws = c.reads_as_sent.ensures in (
      laws.alone load items entries end legal limits there,
      ends_so (has_start load items) end
          (laws.never_damaged load items entries end legal limits there),
    )
