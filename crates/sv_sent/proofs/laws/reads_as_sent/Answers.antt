use Rattle.sv_journal.specs.Items.{latest_first}
use Rattle.sv_sent.proofs.reads.Streams.{ends_as, entries_as, read_as, silence, times_as}
use Rattle.sv_sent.proofs.times.Timed.{same_events}
use Rattle.sv_sent.proofs.laws.reads_as_sent.Goals as goal

pub returns-clause-clean : goal.returns-clause-clean
returns-clause-clean c = read_as

pub returns-clause-silent : goal.returns-clause-silent
returns-clause-silent c = silence

pub returns-clause-events : goal.returns-clause-events
returns-clause-events c = λ load items. same_events load (latest_first items)

pub returns-clause-times : goal.returns-clause-times
returns-clause-times c = times_as

pub returns-clause-alone : goal.returns-clause-alone
returns-clause-alone c = entries_as

pub returns-clause-never_damaged : goal.returns-clause-never_damaged
returns-clause-never_damaged c = ends_as
