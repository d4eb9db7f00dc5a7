-- What a view of a recording answers: its text of the bytes that were read, as far as that is
-- written. A recording is read in pieces, each of which is filled up but for the last one.
use Rattle.std.specs.Prelude.{◌≡◌, ℕ, ◌+◌, ◌*◌, ◌^◌, ◌<◌, ◌≤◌, ◌⊎◌, List, [], ◌∷◌, ◌++◌}
use Rattle.std.specs.Prelude.{length, Option, Some, None}
use Rattle.std.specs.Prelude.{Result, Ok, Err}
use Rattle.std.specs.Io.KnownBytes.{Appends}
use Rattle.sv_base.specs.Streams.{AppendsPart}
use Rattle.sv_packet.specs.declared.event.Packet.{Packet}
use Rattle.sv_stream.specs.declared.end.End.{End}
use Rattle.sv_stream.specs.declared.end.End.TheVariants.{Damaged}
use Rattle.sv_stream.specs.declared.seen.Seen.{Seen}
use Rattle.sv_stream.specs.declared.seen.Seen.TheVariants.{Event, Damage}
use Rattle.sv_stream.specs.Entries.{timed_entries}
use Rattle.sv_stream.specs.Input.{Entry}
use Rattle.sv_stream.specs.Reads.{Reads}
use Rattle.sv_view.specs.declared.cut.Cut.{Cut}
use Rattle.sv_view.specs.declared.cut.Cut.TheVariants.{Unread, TooLong, Unwritten, NoMemory}
use Rattle.sv_view.specs.Text.{Text, lines_of, whole_text}

-- how many bytes a piece has
abbrev pub piece_size : ℕ
piece_size = 4096

-- the most bytes of a recording, so that its times fit 64 bits
abbrev pub most_bytes : ℕ
most_bytes = 2 ^ 33

-- how a recording with these entries ends, as is told: its first damaged place, where it has one,
-- or else its end
abbrev pub verdict : List Seen → End → End
verdict [] end = end
verdict (Event event ∷ seen) end = verdict seen end
verdict (Damage time place reason ∷ seen) end = Damaged place reason

-- the damage that was found first, or else this end
abbrev pub or_end : Option End → End → End
or_end (Some damage) end = damage
or_end None end = end

-- the bytes that were taken: a front of whole pieces, and at most one piece more
pub record IsIntake (taken front : List ℕ) : Type 0 where
  pub piece : List ℕ
  pub taken_is : taken ≡ front ++ piece
  pub pieces : ℕ
  pub front_is : length front ≡ pieces * piece_size
  pub one : length piece ≤ piece_size
  pub short : length front ≤ most_bytes

-- all of the text is written of the bytes that were taken, which are all there are; what is told is
-- the first damage, or how they end
pub record IsAllShown (text : Text) (taken : List ℕ) (all : Type 0) (told : End)
    (old new : Option (List ℕ)) : Type 0 where
  pub entries : List (Entry Packet)
  pub end : End
  pub reads : Reads taken entries end
  pub through : all
  pub short : length taken ≤ most_bytes
  pub written : Appends old new (whole_text text (timed_entries entries) end)
  pub told_is : told ≡ verdict (timed_entries entries) end

-- exactly the lines of the front's entries are written
pub record IsCutOff (text : Text) (front : List ℕ) (old new : Option (List ℕ)) : Type 0 where
  pub entries : List (Entry Packet)
  pub end : End
  pub reads : Reads front entries end
  pub written : Appends old new (lines_of text (timed_entries entries))

-- a part of the lines of the bytes that were taken is written, or a part of their whole text where
-- they are all there are
pub record IsPart (text : Text) (taken : List ℕ) (all : Type 0)
    (old new : Option (List ℕ)) : Type 0 where
  pub entries : List (Entry Packet)
  pub end : End
  pub reads : Reads taken entries end
  pub part :
      AppendsPart old new (lines_of text (timed_entries entries))
      ⊎ (all × AppendsPart old new (whole_text text (timed_entries entries) end))

-- the answer over the bytes that were taken and their front: what is told of them, or why they were
-- cut
abbrev pub IsAnswer : Text → List ℕ → List ℕ → Type 0 → Option (List ℕ) → Option (List ℕ)
    → Result End Cut → Type 0
IsAnswer text taken front all old new (Ok told) = IsAllShown text taken all told old new
IsAnswer text taken front all old new (Err Unread) =
    (length taken < length front + piece_size) × IsCutOff text front old new
IsAnswer text taken front all old new (Err TooLong) =
    (length front ≡ most_bytes) × (most_bytes < length taken) × IsCutOff text front old new
IsAnswer text taken front all old new (Err Unwritten) = IsPart text taken all old new
IsAnswer text taken front all old new (Err NoMemory) = IsPart text taken all old new

-- the same, with the front that was read of them; `all` says that no bytes are left
pub record IsShown (text : Text) (taken : List ℕ) (all : Type 0) (old new : Option (List ℕ))
    (result : Result End Cut) : Type 0 where
  pub front : List ℕ
  pub intake : IsIntake taken front
  pub answer : IsAnswer text taken front all old new result
