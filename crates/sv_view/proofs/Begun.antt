-- Before the first piece nothing is read.
use Rattle.std.proofs.Common.{◌≡◌, ℕ, List, [], Option, Some, None, Err, refl, sym, ap, arith, inl}
use Rattle.std.specs.Io.KnownBytes.{Consumes}
use Rattle.sv_packet.specs.declared.event.Packet.{Packet}
use Rattle.sv_stream.specs.declared.end.End.{End}
use Rattle.sv_stream.specs.declared.end.End.TheVariants as ends
use Rattle.sv_stream.specs.declared.seen.Seen.{Seen}
use Rattle.sv_stream.specs.Decoding.{StandsFor, IsSettled}
use Rattle.sv_stream.specs.Entries.{timed_entries}
use Rattle.sv_stream.specs.Input.{Entry}
use Rattle.sv_stream.specs.Reads.{Reads}
use Rattle.sv_stream.proofs.Shared.{one_reading}
use Rattle.sv_view.specs.declared.scan.Scan.{Scan}
use Rattle.sv_view.specs.declared.cut.Cut.TheVariants as cuts
use Rattle.sv_view.specs.Answer.{IsIntake, IsShown}
use Rattle.sv_view.specs.Scan.{HasShown, IsBetween}
use Rattle.sv_view.specs.Text.{Text}
use Rattle.sv_view.proofs.Parts.{nothing}

no_reading : Reads [] [] ends.NoSync
no_reading = inl (refl, refl, refl)

-- the empty input has no entries
pub nothing_read : (entries : List (Entry Packet)) (end : End) → Reads [] entries end
    → [] ≡ timed_entries entries
nothing_read entries end reads =
    ap timed_entries (sym (one_reading [] entries [] end ends.NoSync reads no_reading).0)

pub nothing_taken : IsIntake [] []
nothing_taken =
    record {
      piece = [];
      taken_is = refl;
      pieces = 0;
      front_is = refl;
      one = omega arith;
      short =
          omega arith;
    }

pub consumes_none : (left : Option (List ℕ)) → Consumes left left []
consumes_none None = tt
consumes_none (Some bytes) = refl

pub between-none : {V : Type 0} (text : Text) (shown : V → List Seen → Type 0)
    (left out : Option (List ℕ)) (scan : Scan V)
    → StandsFor scan.decoder [] [] → IsSettled scan.decoder
    → HasShown shown scan.showing [] → scan.total ≡ 0 → scan.lines.items ≡ [] → IsBetween text shown left left
    out out scan
between-none text shown left out scan stands settled viewed total_is empty = record {
  scanned = record {
    input = [];
    front = [];
    intake = nothing_taken;
    given = [];
    stands = stands;
    settled = settled;
    all = nothing_read;
    bytes = tt;
    read = consumes_none left;
    written = nothing out;
    viewed = viewed;
    total_is = total_is;
    pushed_is = omega (arith, stands.all, total_is);
    within = omega (arith, total_is);
    empty = empty;
  };
  pieces = 0;
  whole = refl;
}

-- a source that could not begin the file has taken nothing of it
pub nothing_answered : (text : Text) (file : List ℕ) (out : Option (List ℕ))
    → IsShown text [] ([] ≡ file) out out (Err cuts.Unread)
nothing_answered text file out = record {
  front = [];
  intake = nothing_taken;
  answer = (
    omega arith,
    record
        { entries = []; end = ends.NoSync; reads = no_reading; written = nothing out },
  );
}
