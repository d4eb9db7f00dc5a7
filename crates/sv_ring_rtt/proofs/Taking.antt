-- The reader's three kinds of step keep the rule, from every state that meets it, and so do the
-- steps of a seat that is both ends.
use Rattle.std.proofs.Common.{◌≡◌, ℕ, ◌+◌, ◌%◌, ◌<◌, List, [], ◌∷◌, ◌++◌, length, get_or, take, set}
use Rattle.std.proofs.Common.{subst, sym, refl, ap, ◌∙◌, arith, length-append}
use Rattle.std.proofs.lemmas.List.{get_or_append_left, get_or-set_same, get_or-set_other}
use Rattle.std.proofs.lemmas.List.{length-set, take_more}
use Rattle.atomic_table.specs.Table.{Allows, keeps, Me}
use Rattle.sv_ring_rtt.specs.declared.view.Sizes.{Sizes}
use Rattle.sv_ring_rtt.specs.declared.view.Writing.{Writing}
use Rattle.sv_ring_rtt.specs.declared.view.Reading.{Reading}
use Rattle.sv_ring_rtt.specs.declared.view.View.{View}
use Rattle.sv_ring_rtt.specs.declared.view.View.TheVariants.{Both, Reader}
use Rattle.sv_ring_rtt.specs.Rule.{writing_of, reading_of, Flows, Kept}
use Rattle.sv_ring_rtt.specs.Steps.{Found, Took, Released, Checked}
use Rattle.sv_ring_rtt.proofs.Storing.{same_words}
use Rattle.sv_ring_rtt.proofs.Seats.{reader_sits, both_sits}

-- the reader loads the write offset
abbrev found : Reading → ℕ → Reading
found r f = record r { seen_sent = f; looks = r.looks + 1 }

module _ (key : Sizes) (words : List ℕ) (w : Writing) (r : Reading) (f : Flows key words w r) where
  one_size : w.size ≡ r.size
  one_size = f.writer_size ∙ sym f.reader_size

  find_flows : Flows key words w (found r (length w.sent))
  find_flows = record {
    count = f.count;
    some_size = f.some_size;
    writer_size = f.writer_size;
    writer_limit = f.writer_limit;
    reader_size = f.reader_size;
    reader_limit = f.reader_limit;
    stored = f.stored;
    released = f.released;
    seen_freed = f.seen_freed;
    freed = f.freed;
    taken = let a = f.taken in let b = f.seen_sent in omega arith;
    seen_sent = omega arith;
    room = f.room;
    within = f.within;
    writer_stamp = let a = f.writer_stamp in omega arith;
    reader_stamp = f.reader_stamp;
    fresh_freed = f.fresh_freed;
    fresh_sent = λ h. refl;
    order = f.order;
    bytes = f.bytes;
    cells = f.cells;
  }

pub finds_allowed : (key : Sizes) (slots id : ℕ) (r : Reading)
    → Allows (Kept key) slots id (Reader r, []) 0 (λ n. n) (λ n u. Found (Reader r) n u.0
    × (u.1 ≡ []))
finds_allowed key slots id r s k homes at small =
    let m = reader_sits s.views k.w k.r id r at k.sits in
    let f : Flows key s.words k.w r =
    subst (λ (x : Reading). Flows key s.words k.w x) m.same k.flows in
    let x : Reading = found r (length k.w.sent) in
    let e : k.w.size ≡ r.size = one_size key s.words k.w r f in (
      Reader x,
      keeps,
      tt,
      record {
        w = k.w;
        r = x;
        flows = subst (λ (ws : List ℕ). Flows key ws k.w x) (sym (same_words s.words 0))
            (find_flows key s.words k.w r f);
        sits = m.after x;
      },
      (
        record {
          sent = length k.w.sent;
          shows = record {
            least = let b = f.freed in let c = f.taken in let d = f.seen_sent in omega arith;
            most = let a = f.room in let b = f.seen_freed in omega arith;
            shown = ap (λ (z : ℕ). length k.w.sent % z) (sym e) ∙ sym f.stored;
          };
          more = f.seen_sent;
          bound = let a = f.within in let b = f.writer_limit in let c = f.reader_limit in
              omega arith;
          after = refl;
        },
        refl,
      ),
    )

-- the next byte is loaded
abbrev took : Reading → ℕ → Reading
took r n = record r { got = r.got ++ n ∷ [] }

module _ (key : Sizes) (words : List ℕ) (w : Writing) (r : Reading) (f : Flows key words w r)
    (more : length r.got < r.seen_sent) where
  next_there : get_or words (2 + length r.got % w.size) 0
      ≡ get_or (w.sent ++ w.pend) (length r.got) 0
  next_there = f.cells (length r.got) f.freed (let a = f.seen_sent in omega arith)

  next_is : get_or words (2 + length r.got % w.size) 0 ≡ get_or w.sent (length r.got) 0
  next_is = next_there
      ∙ get_or_append_left w.sent w.pend 0 (length r.got) (let a = f.seen_sent in omega arith)

  next_byte : get_or words (2 + length r.got % w.size) 0 < 256
  next_byte = let b = f.bytes (length r.got) (let a = f.seen_sent in omega arith) in
      let e = next_there in omega arith

  take_flows : (n : ℕ) → n ≡ get_or w.sent (length r.got) 0 → Flows key words w (took r n)
  take_flows n is = record {
    count = f.count;
    some_size = f.some_size;
    writer_size = f.writer_size;
    writer_limit = f.writer_limit;
    reader_size = f.reader_size;
    reader_limit = f.reader_limit;
    stored = f.stored;
    released = f.released;
    seen_freed = f.seen_freed;
    freed = let a = f.freed in omega (arith, length-append r.got (n ∷ []));
    taken = omega (arith, length-append r.got (n ∷ []));
    seen_sent = f.seen_sent;
    room = f.room;
    within = f.within;
    writer_stamp = f.writer_stamp;
    reader_stamp = f.reader_stamp;
    fresh_freed = f.fresh_freed;
    fresh_sent = f.fresh_sent;
    order = let long : length (r.got ++ n ∷ []) ≡ length r.got + 1 =
        omega (arith, length-append r.got (n ∷ [])) in
        ap (λ (xs : List ℕ). xs ++ n ∷ []) f.order
        ∙ (ap (λ (b : ℕ). take (length r.got) w.sent ++ b ∷ []) is
        ∙ (sym (take_more w.sent (length r.got) 0 (let a = f.seen_sent in omega arith))
        ∙ ap (λ (j : ℕ). take j w.sent) (sym long)));
    bytes = f.bytes;
    cells = f.cells;
  }

pub takes_allowed : (key : Sizes) (slots id i : ℕ) (r : Reading) → length r.got < r.seen_sent
    → i ≡ 2 + length r.got % r.size
    → Allows (Kept key) slots id (Reader r, []) i (λ n. n) (λ n u. Took (Reader r) n u.0
    × (u.1 ≡ []))
takes_allowed key slots id i r more is s k homes at small =
    let m = reader_sits s.views k.w k.r id r at k.sits in
    let f : Flows key s.words k.w r =
    subst (λ (x : Reading). Flows key s.words k.w x) m.same k.flows in
    let place : 2 + length r.got % k.w.size ≡ i =
    ap (λ (z : ℕ). 2 + length r.got % z) (one_size key s.words k.w r f) ∙ sym is in
    let n : ℕ = get_or s.words i 0 in
    let e : n ≡ get_or k.w.sent (length r.got) 0 = ap (λ (j : ℕ). get_or s.words j 0) (sym place)
    ∙ next_is key s.words k.w r f more in
    let b : n < 256 =
    subst (λ (j : ℕ). get_or s.words j 0 < 256) place (next_byte key s.words k.w r f more) in (
      Reader (took r n),
      keeps,
      tt,
      record {
        w = k.w;
        r = took r n;
        flows = subst (λ (ws : List ℕ). Flows key ws k.w (took r n)) (sym (same_words s.words i))
            (take_flows key s.words k.w r f more n e);
        sits = m.after (took r n);
      },
      ((b, refl), refl),
    )

-- the same of a seat that is both ends
pub both_takes_allowed : (key : Sizes) (slots id i : ℕ) (w : Writing) (r : Reading)
    → length r.got < r.seen_sent → i ≡ 2 + length r.got % r.size
    → Allows (Kept key) slots id (Both w r, []) i (λ n. n) (λ n u. Took (Both w r) n u.0
    × (u.1 ≡ []))
both_takes_allowed key slots id i w r more is s k homes at small =
    let m = both_sits s.views k.w k.r id w r at k.sits in
    let f : Flows key s.words w r =
    subst (λ (x : Writing). Flows key s.words x r) m.same_writing
    (subst (λ (x : Reading). Flows key s.words k.w x) m.same_reading k.flows) in
    let place : 2 + length r.got % w.size ≡ i =
    ap (λ (z : ℕ). 2 + length r.got % z) (one_size key s.words w r f) ∙ sym is in
    let n : ℕ = get_or s.words i 0 in
    let e : n ≡ get_or w.sent (length r.got) 0 = ap (λ (j : ℕ). get_or s.words j 0) (sym place)
    ∙ next_is key s.words w r f more in
    let b : n < 256 =
    subst (λ (j : ℕ). get_or s.words j 0 < 256) place (next_byte key s.words w r f more) in (
      Both w (took r n),
      keeps,
      tt,
      record {
        w = w;
        r = took r n;
        flows = subst (λ (ws : List ℕ). Flows key ws w (took r n)) (sym (same_words s.words i))
            (take_flows key s.words w r f more n e);
        sits = m.after w (took r n);
      },
      (((take_flows key s.words w r f more n e).order, b, refl), refl),
    )

-- the reader stores the read offset
abbrev released : Reading → ℕ → Reading
released r stamp = record r { freed = length r.got; stamp = stamp }

module _ (key : Sizes) (words : List ℕ) (w : Writing) (r : Reading) (f : Flows key words w r)
    (n : ℕ) (is : n ≡ length r.got % r.size) where
  release_flows : Flows key (set words 1 n) w (released r w.looks)
  release_flows = record {
    count = length-set words 1 n ∙ f.count;
    some_size = f.some_size;
    writer_size = f.writer_size;
    writer_limit = f.writer_limit;
    reader_size = f.reader_size;
    reader_limit = f.reader_limit;
    stored = get_or-set_other words 1 0 n 0 (λ h. absurd (omega arith)) ∙ f.stored;
    released = get_or-set_same words 1 n 0 (let c = f.count in let d = f.some_size in omega arith)
        ∙ (is ∙ ap (λ (z : ℕ). length r.got % z) (sym (f.writer_size ∙ sym f.reader_size)));
    seen_freed = let a = f.seen_freed in let b = f.freed in omega arith;
    freed = omega arith;
    taken = f.taken;
    seen_sent = f.seen_sent;
    room = f.room;
    within = f.within;
    writer_stamp = f.writer_stamp;
    reader_stamp = omega arith;
    fresh_freed = λ h. absurd (omega arith);
    fresh_sent = f.fresh_sent;
    order = f.order;
    bytes = f.bytes;
    cells = λ p least less. get_or-set_other words 1 (2 + p % w.size) n 0
        (λ h. absurd (omega arith)) ∙ f.cells p (let b = f.freed in omega arith) less;
  }

pub release_allowed : (key : Sizes) (slots id : ℕ) (r : Reading) (n : ℕ) → n ≡ length r.got % r.size
    → Allows (Kept key) slots id (Reader r, []) 1 (λ _. n) (λ _ u. Released (Reader r) u.0
    × (u.1 ≡ []))
release_allowed key slots id r n is s k homes at small =
    let m = reader_sits s.views k.w k.r id r at k.sits in
    let f : Flows key s.words k.w r =
    subst (λ (x : Reading). Flows key s.words k.w x) m.same k.flows in (
      Reader (released r k.w.looks),
      keeps,
      tt,
      record {
        w = k.w;
        r = released r k.w.looks;
        flows = release_flows key s.words k.w r f n is;
        sits = m.after (released r k.w.looks);
      },
      (refl, refl),
    )

-- a load of the write offset where both ends are one
pub check_allowed : (key : Sizes) (slots id : ℕ) (w : Writing) (r : Reading)
    → Allows (Kept key) slots id (Both w r, []) 0 (λ n. n) (λ n u. Checked (Both w r) u.0
    × (u.1 ≡ []))
check_allowed key slots id w r s k homes at small =
    let m = both_sits s.views k.w k.r id w r at k.sits in
    let f : Flows key s.words w r =
    subst (λ (x : Writing). Flows key s.words x r) m.same_writing
    (subst (λ (x : Reading). Flows key s.words k.w x) m.same_reading k.flows) in (
      Both w r,
      keeps,
      tt,
      record {
        w = w;
        r = r;
        flows = subst (λ (ws : List ℕ). Flows key ws w r) (sym (same_words s.words 0)) f;
        sits = m.after w r;
      },
      ((refl, f.order), refl),
    )

-- the same for a seat that is known to be a reader's
module _ (key : Sizes) (slots id : ℕ) (me : Me ℕ View)
    (is_reader : me ≡ (Reader (reading_of me.0), [])) where
  pub find_asked : Allows (Kept key) slots id me 0 (λ n. n) (λ n u. Found me.0 n u.0 × (u.1 ≡ me.1))
  find_asked = subst
      (λ (m : Me ℕ View). Allows (Kept key) slots id m 0 (λ n. n) (λ n u. Found m.0 n u.0
      × (u.1 ≡ m.1))) (sym is_reader) (finds_allowed key slots id (reading_of me.0))

  pub take_asked : (i : ℕ) → length (reading_of me.0).got < (reading_of me.0).seen_sent
      → i ≡ 2 + length (reading_of me.0).got % (reading_of me.0).size
      → Allows (Kept key) slots id me i (λ n. n) (λ n u. Took me.0 n u.0 × (u.1 ≡ me.1))
  take_asked i more at =
      subst (λ (m : Me ℕ View). Allows (Kept key) slots id m i (λ n. n) (λ n u. Took m.0 n u.0
      × (u.1 ≡ m.1))) (sym is_reader) (takes_allowed key slots id i (reading_of me.0) more at)

  pub release_asked : (n : ℕ) → n ≡ length (reading_of me.0).got % (reading_of me.0).size
      → Allows (Kept key) slots id me 1 (λ _. n) (λ _ u. Released me.0 u.0 × (u.1 ≡ me.1))
  release_asked n at =
      subst (λ (m : Me ℕ View). Allows (Kept key) slots id m 1 (λ _. n) (λ _ u. Released m.0 u.0
      × (u.1 ≡ m.1))) (sym is_reader) (release_allowed key slots id (reading_of me.0) n at)

-- the same for a seat that is known to be both
module _ (key : Sizes) (slots id : ℕ) (me : Me ℕ View)
    (is_both : me ≡ (Both (writing_of me.0) (reading_of me.0), [])) where
  pub both_take_asked : (i : ℕ) → length (reading_of me.0).got < (reading_of me.0).seen_sent
      → i ≡ 2 + length (reading_of me.0).got % (reading_of me.0).size
      → Allows (Kept key) slots id me i (λ n. n) (λ n u. Took me.0 n u.0 × (u.1 ≡ me.1))
  both_take_asked i more at =
      subst (λ (m : Me ℕ View). Allows (Kept key) slots id m i (λ n. n) (λ n u. Took m.0 n u.0
      × (u.1 ≡ m.1))) (sym is_both)
      (both_takes_allowed key slots id i (writing_of me.0) (reading_of me.0) more at)

  pub check_asked : Allows (Kept key) slots id me 0 (λ n. n) (λ n u. Checked me.0 u.0
      × (u.1 ≡ me.1))
  check_asked = subst
      (λ (m : Me ℕ View). Allows (Kept key) slots id m 0 (λ n. n) (λ n u. Checked m.0 u.0
      × (u.1 ≡ m.1))) (sym is_both) (check_allowed key slots id (writing_of me.0) (reading_of me.0))
