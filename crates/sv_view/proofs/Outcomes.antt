-- What a scan came to, by the bytes that it took and by what it answers.
use Rattle.std.proofs.Common.{ℕ, List, Option, Result}
use Rattle.std.specs.Prelude.{◌⊎◌}
use Rattle.std.specs.Io.KnownBytes.{Consumes, IsAtEnd}
use Rattle.sv_prim.specs.Text.{AreBytes}
use Rattle.sv_base.specs.Streams.{AppendsPart}
use Rattle.sv_packet.specs.declared.event.Packet.{Packet}
use Rattle.sv_stream.specs.declared.end.End.{End}
use Rattle.sv_stream.specs.Entries.{timed_entries}
use Rattle.sv_stream.specs.Input.{Entry}
use Rattle.sv_stream.specs.Reads.{Reads}
use Rattle.sv_stream.proofs.Shared.{reading}
use Rattle.sv_view.specs.declared.cut.Cut.{Cut}
use Rattle.sv_view.specs.Answer.{IsIntake, IsAnswer, IsPart}
use Rattle.sv_view.specs.Scan.{IsScanEnd}
use Rattle.sv_view.specs.Text.{Text, lines_of, whole_text}

module _ {text : Text} {left0 left out0 out : Option (List ℕ)} where
  -- it took these bytes, with this front, and answers so
  pub comes_to : (result : Result End Cut) (taken front : List ℕ) → Consumes left0 left taken
      → IsIntake taken front
      → IsAnswer text taken front (IsAtEnd left) out0 out result
      → IsScanEnd text left0 left out0 out result
  comes_to result taken front read intake answer = record {
    taken = taken;
    read = read;
    shown = record { front = front; intake = intake; answer = answer };
  }

-- a part is written, whatever the bytes decode to
pub in_part : {text : Text} {all : Type 0} {old new : Option (List ℕ)} (taken : List ℕ)
    → AreBytes taken
    → ((entries : List (Entry Packet)) (end : End) → Reads taken entries end
    → AppendsPart old new (lines_of text (timed_entries entries))
    ⊎ (all × AppendsPart old new (whole_text text (timed_entries entries) end)))
    → IsPart text taken all old new
in_part taken bytes part =
    let r = reading taken bytes in
    record { entries = r.0; end = r.1; reads = r.2; part = part r.0 r.1 r.2 }
