use Rattle.std.proofs.Common.{List, length}
use Rattle.sv_stream.specs.declared.seen.Seen.{Seen}
use Rattle.sv_feed.specs.Feed.{AreGiven, AreTaken}
use Rattle.sv_feed.proofs.drain.drain_entries.Given as goal

abbrev pub invariant-loop-front : goal.invariant-loop-front
invariant-loop-front g l =
    (entries : List Seen) × AreGiven l.fn.decoder l.decoder entries
    × AreTaken g.G.Gather.made g.G.Gather.taken l.fn.gatherer l.gatherer l.fn.items.items
    l.items.items entries

abbrev pub decreases-loop-front : goal.decreases-loop-front
decreases-loop-front g l = length l.decoder.held
