use Rattle.sv_need.proofs.ItemCounts.{within_items}
use Rattle.sv_need.proofs.ByteCounts.{within_bytes}
use Rattle.sv_need.proofs.Limits.{few_items, short_stream}
use Rattle.sv_need.proofs.need.within_need.Goals as goal

pub returns-clause-items : goal.returns-clause-items
returns-clause-items c = within_items

pub returns-clause-bytes : goal.returns-clause-bytes
returns-clause-bytes c = within_bytes

pub returns-clause-few : goal.returns-clause-few
returns-clause-few c = few_items

pub returns-clause-short : goal.returns-clause-short
returns-clause-short c = short_stream
