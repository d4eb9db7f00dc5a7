-- How far a recording is scanned, and what came of it.
use Rattle.std.specs.Prelude.{◌≡◌, ℕ, ◌+◌, ◌*◌, ◌<◌, ◌≤◌, List, [], ◌++◌, length, take}
use Rattle.std.specs.Prelude.{Option, Result, Ok, Err}
use Rattle.std.specs.Io.KnownBytes.{Appends, Consumes, IsAtEnd}
use Rattle.sv_prim.specs.Text.{AreBytes}
use Rattle.sv_base.specs.Streams.{ConsumesFewer}
use Rattle.sv_packet.specs.declared.event.Packet.{Packet}
use Rattle.sv_stream.specs.declared.end.End.{End}
use Rattle.sv_stream.specs.declared.seen.Seen.{Seen}
use Rattle.sv_stream.specs.Decoding.{Decoding, StandsFor, IsSettled, pushed}
use Rattle.sv_stream.specs.Entries.{timed_entries}
use Rattle.sv_stream.specs.Input.{Entry}
use Rattle.sv_stream.specs.Reads.{Reads}
use Rattle.sv_feed.specs.Feed.{AreGiven, AreTaken, IsDrained}
use Rattle.sv_view.specs.declared.cut.Cut.{Cut}
use Rattle.sv_view.specs.declared.cut.Cut.TheVariants as cuts
use Rattle.sv_view.specs.declared.scan.Scan.{Scan}
use Rattle.sv_view.specs.declared.showing.Showing.{Showing}
use Rattle.sv_view.specs.Answer.{piece_size, most_bytes, or_end, verdict, IsIntake, IsShown}
use Rattle.sv_view.specs.Text.{Text, lines_of}

-- a view was shown these entries, and the first damage among them is kept
abbrev pub HasShown : {V : Type 0} → (V → List Seen → Type 0) → Showing V → List Seen → Type 0
HasShown shown showing seen =
    shown showing.view seen × ((end : End) → verdict seen end ≡ or_end showing.first end)

-- the next bytes of a file, and the decoder that took them
pub record IsFed (left_before left : Option (List ℕ)) (old new : Decoding) (total count : ℕ)
    (buf : List ℕ) : Type 0 where
  pub few : count ≤ length buf
  pub within : total + count ≤ most_bytes
  pub bytes : AreBytes (take count buf)
  pub read : Consumes left_before left (take count buf)
  pub stands : (input : List ℕ) (given : List Seen) → StandsFor old input given → StandsFor
      new (input ++ take count buf) given
  pub pushed_more : pushed new ≡ pushed old + count
  pub ended : count < length buf → IsAtEnd left

-- bytes of one piece, of at most this size, that were not taken
pub record IsLost (size : ℕ) (left_before left : Option (List ℕ)) : Type 0 where
  pub piece : List ℕ
  pub bytes : AreBytes piece
  pub read : Consumes left_before left piece
  pub one : length piece ≤ size

-- why no more was taken, after these many bytes
abbrev pub IsUnfed : ℕ → Option (List ℕ) → Option (List ℕ) → ℕ → Cut → Type 0
IsUnfed size left_before left total cuts.Unread = ConsumesFewer left_before left size
IsUnfed size left_before left total cuts.TooLong =
    (lost : IsLost size left_before left) × (most_bytes < total + length lost.piece)
IsUnfed size left_before left total cuts.NoMemory = IsLost size left_before left
IsUnfed size left_before left total cuts.Unwritten = ⊥

-- the next bytes of a file were taken, their entries were shown, and their lines were added
pub record IsTaken {V : Type 0} (text : Text) (shown : V → List Seen → Type 0)
    (left_before left : Option (List ℕ)) (old new : Scan V) (count : ℕ) (buf : List ℕ) : Type 0
  where
    pub mid : Decoding
    pub fed : IsFed left_before left old.decoder mid old.total count buf
    pub entries : List Seen
    pub given : AreGiven mid new.decoder entries
    pub showed : AreTaken (lines_of text) (HasShown shown) old.showing new.showing
        old.lines.items new.lines.items entries
    pub drained : IsDrained mid new.decoder entries
    pub total_is : new.total ≡ old.total + count

-- what is told of these bytes
abbrev pub IsToldOf : List ℕ → End → Type 0
IsToldOf input told =
    (entries : List (Entry Packet)) (end : End) → Reads input entries end →
    told ≡ verdict (timed_entries entries) end

-- the bytes of a file so far are read, their entries were shown, and what is written of them is
-- written
pub record IsScanned {V : Type 0} (text : Text) (shown : V → List Seen → Type 0)
    (left_before left out_before out : Option (List ℕ)) (scan : Scan V) : Type 0 where
  pub input : List ℕ
  pub front : List ℕ
  pub intake : IsIntake input front
  pub given : List Seen
  pub stands : StandsFor scan.decoder input given
  pub settled : IsSettled scan.decoder
  pub all : (entries : List (Entry Packet)) (end : End) → Reads input entries end →
      given ≡ timed_entries entries
  pub bytes : AreBytes input
  pub read : Consumes left_before left input
  pub written : Appends out_before out (lines_of text given)
  pub viewed : HasShown shown scan.showing given
  pub total_is : scan.total ≡ length input
  pub pushed_is : pushed scan.decoder ≡ scan.total
  pub within : scan.total ≤ most_bytes
  pub empty : scan.lines.items ≡ []

-- the same between two pieces: the input is whole pieces
pub record IsBetween {V : Type 0} (text : Text) (shown : V → List Seen → Type 0)
    (left_before left out_before out : Option (List ℕ)) (scan : Scan V) : Type 0 where
  pub scanned : IsScanned text shown left_before left out_before out scan
  pub pieces : ℕ
  pub whole : length scanned.input ≡ pieces * piece_size

-- what the scan of a file came to, whose bytes may be known
pub record IsScanEnd (text : Text) (left_before left out_before out : Option (List ℕ))
    (result : Result End Cut) : Type 0 where
  pub taken : List ℕ
  pub read : Consumes left_before left taken
  pub shown : IsShown text taken (IsAtEnd left) out_before out result
