-- What a stream names, of whatever entries it is read as.
use Rattle.std.proofs.Common.{◌≡◌, List, sym, ap, subst, ◌∙◌}
use Rattle.sv_packet.specs.declared.event.Packet.{Packet}
use Rattle.sv_packet.specs.Time.{timed}
use Rattle.sv_stream.specs.declared.end.End.{End}
use Rattle.sv_stream.specs.Entries.{packets_of}
use Rattle.sv_stream.specs.Input.{Entry}
use Rattle.sv_stream.specs.Reads.{Reads}
use Rattle.sv_load.specs.Load.{Load}
use Rattle.sv_load.specs.Need.{IsWithinLimits}
use Rattle.sv_journal.specs.declared.journal.Item.{Item}
use Rattle.sv_journal.specs.Legal.{IsLegal}
use Rattle.sv_journal.specs.Stream.{stream_of, sent_events, IsCalm}
use Rattle.sv_sent.proofs.Shared.{packets_as, spellable, times_as}
use Rattle.sv_truth.specs.Truth.{AreContextsTrue, TellsClasses, TellsContexts, TellsStarts}
use Rattle.sv_truth.specs.Truth.{TellsTruly}
use Rattle.sv_truth.proofs.Contexts.{contexts_true}
use Rattle.sv_truth.proofs.Fronts.{class_told, stored_call}
use Rattle.sv_truth.proofs.Starts.{start_called}
use Rattle.sv_truth.proofs.Telling.{no_breaks}

-- the packets have the moments of the events that were sent
told_as : (load : Load) (items : List Item) (entries : List (Entry Packet)) (end : End) →
    IsLegal load items → IsWithinLimits load → IsCalm load items →
    Reads (stream_of load items) entries end →
    timed (packets_of entries) ≡ sent_events load items
told_as load items entries end legal l calm reads =
    ap timed (packets_as load items entries end legal l reads) ∙ times_as load items legal l calm

contexts : (load : Load) (items : List Item) → IsLegal load items → IsWithinLimits load →
    IsCalm load items → TellsContexts load items
contexts load items legal l calm entries end reads =
    subst (AreContextsTrue load items) (sym (told_as load items entries end legal l calm reads))
    (contexts_true load items legal (no_breaks load l))

-- a stored call is the event after those that were sent before it, and its class there is the one
-- by all calls
classes : (load : Load) (items : List Item) → IsLegal load items → IsWithinLimits load →
    IsCalm load items → TellsClasses load items
classes load items legal l calm entries end reads before event call =
    let (more, is) = stored_call load items before event legal l.ring_least
    (spellable load items legal l) call in (
      more,
      told_as load items entries end legal l calm reads ∙ is,
      λ class. class_told load items before event class legal (no_breaks load l) call,
    )

-- and no event starts a task but a stored call's
starts : (load : Load) (items : List Item) → IsLegal load items → IsWithinLimits load →
    IsCalm load items → TellsStarts load items
starts load items legal l calm entries end reads front more event task is =
    start_called load items front more event task
    (sym (told_as load items entries end legal l calm reads) ∙ is)

pub truly : (load : Load) (items : List Item) → IsLegal load items → IsWithinLimits load →
    TellsTruly load items
truly load items legal l = record {
  contexts = contexts load items legal l;
  classes = classes load items legal l;
  starts = starts load items legal l;
}
