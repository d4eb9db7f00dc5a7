use Rattle.sv_need.proofs.ItemCounts.{due_items}
use Rattle.sv_need.proofs.ByteCounts.{due_bytes}
use Rattle.sv_need.proofs.need.room_ahead.Goals as goal

pub returns-clause-items : goal.returns-clause-items
returns-clause-items c = due_items

pub returns-clause-bytes : goal.returns-clause-bytes
returns-clause-bytes c = due_bytes
