-- The rule of a ring: what its words and the views of its ends have to do with each other, between
-- any two steps.
use Rattle.std.specs.Prelude.{◌≡◌, ◌≢◌, ℕ, ◌+◌, ◌%◌, ◌<◌, ◌≤◌, ◌⊎◌, List, [], ◌++◌, length, take}
use Rattle.std.specs.Prelude.{slice_index}
use mathlib.Core.Option.{some}
use lib.ListN.{get_elem?}
use Rattle.atomic_table.specs.Table.{State}
use Rattle.sv_ring_rtt.specs.declared.view.Sizes.{Sizes}
use Rattle.sv_ring_rtt.specs.declared.view.Writing.{Writing}
use Rattle.sv_ring_rtt.specs.declared.view.Reading.{Reading}
use Rattle.sv_ring_rtt.specs.declared.view.View.{View}
use Rattle.sv_ring_rtt.specs.declared.view.View.TheVariants.{Both, Writer, Reader, Spent}

-- how many bytes were stored, shown to the reader or not
abbrev pub laid : Writing → ℕ
laid w = length w.sent + length w.pend

-- the words of a ring, against what its writer and its reader know
pub record Flows (key : Sizes) (words : List ℕ) (w : Writing) (r : Reading) : Type 0 where
  pub count : length words ≡ key.size + 2
  pub some_size : 0 < key.size
  pub writer_size : w.size ≡ key.size
  pub writer_limit : w.limit ≡ key.limit
  pub reader_size : r.size ≡ key.size
  pub reader_limit : r.limit ≡ key.limit
  pub stored : slice_index words 0 ≡ length w.sent % w.size
  pub released : slice_index words 1 ≡ r.freed % w.size
  pub seen_freed : w.seen_freed ≤ r.freed
  pub freed : r.freed ≤ length r.got
  pub taken : length r.got ≤ r.seen_sent
  pub seen_sent : r.seen_sent ≤ length w.sent
  pub room : laid w < w.seen_freed + w.size
  pub within : laid w ≤ w.limit
  pub writer_stamp : w.stamp ≤ r.looks
  pub reader_stamp : r.stamp ≤ w.looks
  -- an end that looked since the other end's offset was stored knows that offset: no step but a
  -- true look can count as one
  pub fresh_freed : r.stamp < w.looks → w.seen_freed ≡ r.freed
  pub fresh_sent : w.stamp < r.looks → r.seen_sent ≡ length w.sent
  pub order : r.got ≡ take (length r.got) w.sent
  pub bytes : (p : ℕ) → p < laid w → slice_index (w.sent ++ w.pend) p < 256
  pub cells : (p : ℕ) → r.freed ≤ p → p < laid w
      → slice_index words (2 + p % w.size) ≡ slice_index (w.sent ++ w.pend) p

-- one seat is both ends, and all others are spent
pub record SitsOne (views : List View) (w : Writing) (r : Reading) : Type 0 where
  pub at : ℕ
  pub there : get_elem? views at ≡ some (Both w r)
  pub others : (k : ℕ) (v : View) → get_elem? views k ≡ some v → k ≢ at → v ≡ Spent

-- one seat is the writer and one the reader, and all others are spent
pub record SitsTwo (views : List View) (w : Writing) (r : Reading) : Type 0 where
  pub writer : ℕ
  pub reader : ℕ
  pub apart : writer ≢ reader
  pub writes : get_elem? views writer ≡ some (Writer w)
  pub reads : get_elem? views reader ≡ some (Reader r)
  pub others : (k : ℕ) (v : View) → get_elem? views k ≡ some v → k ≢ writer → k ≢ reader → v ≡ Spent

abbrev pub Sits : List View → Writing → Reading → Type 0
Sits views w r = SitsOne views w r ⊎ SitsTwo views w r

-- the rule
pub record Kept (key : Sizes) (s : State ℕ View) : Type 0 where
  pub w : Writing
  pub r : Reading
  pub flows : Flows key s.words w r
  pub sits : Sits s.views w r

-- what a writer and a reader know of a ring as it is made
abbrev pub first_writing : (size limit : ℕ) → Writing
first_writing size limit = record {
  size = size;
  limit = limit;
  sent = [];
  pend = [];
  seen_freed = 0;
  looks = 0;
  stamp = 0;
}

abbrev pub first_reading : (size limit : ℕ) → Reading
first_reading size limit = record {
  size = size;
  limit = limit;
  got = [];
  freed = 0;
  seen_sent = 0;
  looks = 0;
  stamp = 0;
}

abbrev pub opened : Sizes → View
opened key = Both (first_writing key.size key.limit) (first_reading key.size key.limit)

-- what a seat knows as a writer, and as a reader
abbrev pub writing_of : View → Writing
writing_of (Both w r) = w
writing_of (Writer w) = w
writing_of (Reader r) = first_writing 0 0
writing_of Spent = first_writing 0 0

abbrev pub reading_of : View → Reading
reading_of (Both w r) = r
reading_of (Writer w) = first_reading 0 0
reading_of (Reader r) = r
reading_of Spent = first_reading 0 0

-- what a reader knows where it is told how much is stored
abbrev pub all_seen : Writing → Reading → Reading
all_seen w r = record r { seen_sent = length w.sent }

-- the two ends, apart and in one again. Once they are one, all stored bytes are known
abbrev pub writer_part : View → View
writer_part v = Writer (writing_of v)

abbrev pub reader_part : View → View
reader_part v = Reader (reading_of v)

abbrev pub joined_view : View → View → View
joined_view v u = Both (writing_of v) (all_seen (writing_of v) (reading_of u))
