-- What each kind of step tells the end that makes it: the view before, the number found, and the
-- view after.
use Rattle.std.specs.Prelude.{◌≡◌, ℕ, ◌+◌, ◌%◌, ◌<◌, ◌≤◌, [], ◌∷◌, ◌++◌, length, take}
use Rattle.sv_ring_rtt.specs.declared.view.Writing.{Writing}
use Rattle.sv_ring_rtt.specs.declared.view.Reading.{Reading}
use Rattle.sv_ring_rtt.specs.declared.view.View.{View}
use Rattle.sv_ring_rtt.specs.declared.view.View.TheVariants.{Both, Writer, Reader, Spent}
use Rattle.sv_ring_rtt.specs.Rule.{writing_of, reading_of}

-- the number from `first` to `first + size - 1` that an offset of this value shows
pub record Shows (size first number offset : ℕ) : Type 0 where
  pub least : first ≤ number
  pub most : number < first + size
  pub shown : number % size ≡ offset

-- the writer loads the read offset
pub record Looks (w : Writing) (n : ℕ) (v : View) : Type 0 where
  pub freed : ℕ
  pub shows : Shows w.size w.seen_freed freed n
  pub bound : freed ≤ length w.sent
  pub after : v ≡ Writer (record w { seen_freed = freed; looks = w.looks + 1 })

abbrev pub Looked : View → ℕ → View → Type 0
Looked v n u = Looks (writing_of v) n u

-- the writer stores a byte in the next cell
abbrev pub Put : View → ℕ → View → Type 0
Put v n u = u ≡ Writer (record (writing_of v) { pend = (writing_of v).pend ++ n ∷ [] })

-- the writer stores the write offset, so that the reader sees all bytes
abbrev pub Published : View → View → Type 0
Published v u =
    u ≡ Writer (record (writing_of v) {
      sent = (writing_of v).sent ++ (writing_of v).pend;
      pend = [];
      stamp = (writing_of u).stamp;
    })

-- the reader loads the write offset
pub record Finds (r : Reading) (n : ℕ) (v : View) : Type 0 where
  pub sent : ℕ
  pub shows : Shows r.size r.freed sent n
  pub more : r.seen_sent ≤ sent
  pub bound : sent ≤ r.limit
  pub after : v ≡ Reader (record r { seen_sent = sent; looks = r.looks + 1 })

abbrev pub Found : View → ℕ → View → Type 0
Found v n u = Finds (reading_of v) n u

-- the next byte is loaded
abbrev pub Took : View → ℕ → View → Type 0
Took (Both w r) n u =
    (r.got ++ n ∷ [] ≡ take (length (r.got ++ n ∷ [])) w.sent)
    × (n < 256)
    × (u ≡ Both w (record r { got = r.got ++ n ∷ [] }))
Took (Writer w) n u = ⊥
Took (Reader r) n u = (n < 256) × (u ≡ Reader (record r { got = r.got ++ n ∷ [] }))
Took Spent n u = ⊥

-- the reader stores the read offset
abbrev pub Released : View → View → Type 0
Released v u =
    u ≡ Reader (record (reading_of v) {
      freed = length (reading_of v).got;
      stamp = (reading_of u).stamp;
    })

-- a load of the write offset where both ends are one: what was taken is the front of what was
-- stored
abbrev pub Checked : View → View → Type 0
Checked v u = (u ≡ v) × ((reading_of v).got ≡ take (length (reading_of v).got) (writing_of v).sent)
