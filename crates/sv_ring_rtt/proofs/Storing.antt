-- The writer's three kinds of step keep the rule, from every state that meets it.
use Rattle.std.proofs.Common.{◌≡◌, ◌≢◌, ℕ, ◌+◌, ◌%◌, ◌<◌, ◌≤◌, List, [], ◌∷◌, ◌++◌, length, get_or}
use Rattle.std.proofs.Common.{set, subst, sym, refl, ap, ◌∙◌, arith, append_assoc, length-append}
use mathlib.Core.Logic.{dite}
use native.Mathlib.Decide.{ℕ_discrete}
use Rattle.std.proofs.Math.Nat.{mod-lt}
use Rattle.std.proofs.Math.Seq.{get_or-append_seam}
use Rattle.std.proofs.lemmas.List.{get_or_append_left, get_or-set_same, get_or-set_other}
use Rattle.std.proofs.lemmas.List.{length-set, take-append-le, set-get_or, append-nil}
use Rattle.atomic_table.specs.Table.{Allows, keeps, Me}
use Rattle.sv_ring_rtt.specs.declared.view.Sizes.{Sizes}
use Rattle.sv_ring_rtt.specs.declared.view.Writing.{Writing}
use Rattle.sv_ring_rtt.specs.declared.view.Reading.{Reading}
use Rattle.sv_ring_rtt.specs.declared.view.View.{View}
use Rattle.sv_ring_rtt.specs.declared.view.View.TheVariants.{Writer}
use Rattle.sv_ring_rtt.specs.Rule.{writing_of, laid, Flows, Kept}
use Rattle.sv_ring_rtt.specs.Steps.{Looked, Put, Published}
use Rattle.sv_ring_rtt.proofs.Turns.{same_turn}
use Rattle.sv_ring_rtt.proofs.Seats.{writer_sits}

-- a word that is stored again as it was
pub same_words : (words : List ℕ) (i : ℕ) → set words i (get_or words i 0) ≡ words
same_words words i = set-get_or words i 0

-- the writer loads the read offset
abbrev looked : Writing → ℕ → Writing
looked w f = record w { seen_freed = f; looks = w.looks + 1 }

look_flows : (key : Sizes) (words : List ℕ) (w : Writing) (r : Reading) → Flows key words w r
    → Flows key words (looked w r.freed) r
look_flows key words w r f = record {
  count = f.count;
  some_size = f.some_size;
  writer_size = f.writer_size;
  writer_limit = f.writer_limit;
  reader_size = f.reader_size;
  reader_limit = f.reader_limit;
  stored = f.stored;
  released = f.released;
  seen_freed = omega arith;
  freed = f.freed;
  taken = f.taken;
  seen_sent = f.seen_sent;
  room = let a = f.room in let b = f.seen_freed in omega arith;
  within = f.within;
  writer_stamp = f.writer_stamp;
  reader_stamp = let a = f.reader_stamp in omega arith;
  fresh_freed = λ h. refl;
  fresh_sent = f.fresh_sent;
  order = f.order;
  bytes = f.bytes;
  cells = f.cells;
}

pub looks_allowed : (key : Sizes) (slots id : ℕ) (w : Writing)
    → Allows (Kept key) slots id (Writer w, []) 1 (λ n. n) (λ n u. Looked (Writer w) n u.0
    × (u.1 ≡ []))
looks_allowed key slots id w s k homes at small =
    let m = writer_sits s.views k.w k.r id w at k.sits in
    let f : Flows key s.words w k.r =
    subst (λ (x : Writing). Flows key s.words x k.r) m.same k.flows in (
      Writer (looked w k.r.freed),
      keeps,
      tt,
      record {
        w = looked w k.r.freed;
        r = k.r;
        flows = subst (λ (ws : List ℕ). Flows key ws (looked w k.r.freed) k.r)
            (sym (same_words s.words 1)) (look_flows key s.words w k.r f);
        sits = m.after (looked w k.r.freed);
      },
      (
        record {
          freed = k.r.freed;
          shows = record {
            least = f.seen_freed;
            most = let a = f.room in let b = f.freed in
                let c = f.taken in let d = f.seen_sent in omega arith;
            shown = sym f.released;
          };
          bound = let b = f.freed in let c = f.taken in let d = f.seen_sent in omega arith;
          after = refl;
        },
        refl,
      ),
    )

-- the writer stores a byte in the next cell
abbrev stored : Writing → ℕ → Writing
stored w b = record w { pend = w.pend ++ b ∷ [] }

module _ (key : Sizes) (words : List ℕ) (w : Writing) (r : Reading) (f : Flows key words w r)
    (b : ℕ) (byte : b < 256) (space : laid w + 1 < w.seen_freed + w.size)
    (within : laid w < w.limit) where
  word : ℕ
  word = 2 + laid w % w.size

  long : laid (stored w b) ≡ laid w + 1
  long = omega (arith, length-append w.pend (b ∷ []))

  whole : w.sent ++ (w.pend ++ b ∷ []) ≡ (w.sent ++ w.pend) ++ b ∷ []
  whole = sym (append_assoc w.sent w.pend (b ∷ []))

  old_byte : (p : ℕ) → p < laid w
      → get_or (w.sent ++ (w.pend ++ b ∷ [])) p 0 ≡ get_or (w.sent ++ w.pend) p 0
  old_byte p less = ap (λ (l : List ℕ). get_or l p 0) whole
      ∙ get_or_append_left (w.sent ++ w.pend) (b ∷ []) 0 p
      (omega (arith, length-append w.sent w.pend))

  new_byte : (p : ℕ) → p ≡ laid w → get_or (w.sent ++ (w.pend ++ b ∷ [])) p 0 ≡ b
  new_byte p e = ap (λ (l : List ℕ). get_or l p 0) whole
      ∙ (ap (λ (k : ℕ). get_or ((w.sent ++ w.pend) ++ b ∷ []) k 0) (e
      ∙ sym (length-append w.sent w.pend)) ∙ get_or-append_seam (w.sent ++ w.pend) b [] 0)

  some_cells : 0 < w.size
  some_cells = let a = f.some_size in let e = f.writer_size in omega arith

  inside : 2 + laid w % w.size < length words
  inside = let a = f.count in let e = f.writer_size in omega (arith, mod-lt (laid w) some_cells)

  store_bytes : (p : ℕ) → p < laid (stored w b) → get_or (w.sent ++ (w.pend ++ b ∷ [])) p 0 < 256
  store_bytes p less =
      dite (ℕ_discrete p (laid w)) (λ e. let h = new_byte p e in omega arith) (λ n. let l = long in
      let lt : p < laid w = omega arith in let h = old_byte p lt in let o = f.bytes p lt in
      omega arith)

  store_cells : (p : ℕ) → r.freed ≤ p → p < laid (stored w b)
      → get_or (set words (2 + laid w % w.size) b) (2 + p % w.size) 0
      ≡ get_or (w.sent ++ (w.pend ++ b ∷ [])) p 0
  store_cells p least less = dite (ℕ_discrete p (laid w))
      (λ e. ap (λ (k : ℕ). get_or (set words (2 + laid w % w.size) b) (2 + k % w.size) 0) e
      ∙ (get_or-set_same words (2 + laid w % w.size) b 0 inside ∙ sym (new_byte p e)))
      (λ n.
      let l = long in
      let lt : p < laid w = omega arith in
      let g = f.seen_freed in
      let other : (2 + p % w.size) ≢ (2 + laid w % w.size) =
      λ h. n (same_turn p (laid w) w.size (omega arith) (omega arith) (omega arith)) in
      get_or-set_other words (2 + laid w % w.size) (2 + p % w.size) b 0 other
      ∙ (f.cells p least lt ∙ sym (old_byte p lt)))

  store_flows : Flows key (set words (2 + laid w % w.size) b) (stored w b) r
  store_flows = record {
    count = length-set words (2 + laid w % w.size) b ∙ f.count;
    some_size = f.some_size;
    writer_size = f.writer_size;
    writer_limit = f.writer_limit;
    reader_size = f.reader_size;
    reader_limit = f.reader_limit;
    stored = get_or-set_other words (2 + laid w % w.size) 0 b 0 (λ h. absurd (omega arith))
        ∙ f.stored;
    released = get_or-set_other words (2 + laid w % w.size) 1 b 0 (λ h. absurd (omega arith))
        ∙ f.released;
    seen_freed = f.seen_freed;
    freed = f.freed;
    taken = f.taken;
    seen_sent = f.seen_sent;
    room = let l = long in omega arith;
    within = let l = long in omega arith;
    writer_stamp = f.writer_stamp;
    reader_stamp = f.reader_stamp;
    fresh_freed = f.fresh_freed;
    fresh_sent = f.fresh_sent;
    order = f.order;
    bytes = store_bytes;
    cells = store_cells;
  }

pub store_allowed : (key : Sizes) (slots id i : ℕ) (w : Writing) (b : ℕ) → b < 256
    → laid w + 1 < w.seen_freed + w.size → laid w < w.limit → i ≡ 2 + laid w % w.size
    → Allows (Kept key) slots id (Writer w, []) i (λ n. b) (λ n u. Put (Writer w) b u.0
    × (u.1 ≡ []))
store_allowed key slots id i w b byte space within is s k homes at small =
    let m = writer_sits s.views k.w k.r id w at k.sits in
    let f : Flows key s.words w k.r =
    subst (λ (x : Writing). Flows key s.words x k.r) m.same k.flows in (
      Writer (stored w b),
      keeps,
      tt,
      record {
        w = stored w b;
        r = k.r;
        flows = subst (λ (j : ℕ). Flows key (set s.words j b) (stored w b) k.r) (sym is)
            (store_flows key s.words w k.r f b byte space within);
        sits = m.after (stored w b);
      },
      (refl, refl),
    )

-- the writer stores the write offset, so that the reader sees all bytes
abbrev shown : Writing → ℕ → Writing
shown w stamp = record w { sent = w.sent ++ w.pend; pend = []; stamp = stamp }

module _ (key : Sizes) (words : List ℕ) (w : Writing) (r : Reading) (f : Flows key words w r)
    (n : ℕ) (is : n ≡ laid w % w.size) where
  show_long : length (w.sent ++ w.pend) ≡ laid w
  show_long = length-append w.sent w.pend

  show_laid : laid (shown w r.looks) ≡ laid w
  show_laid = omega (arith, length-append w.sent w.pend)

  show_whole : (w.sent ++ w.pend) ++ [] ≡ w.sent ++ w.pend
  show_whole = append-nil (w.sent ++ w.pend)

  show_flows : Flows key (set words 0 n) (shown w r.looks) r
  show_flows = record {
    count = length-set words 0 n ∙ f.count;
    some_size = f.some_size;
    writer_size = f.writer_size;
    writer_limit = f.writer_limit;
    reader_size = f.reader_size;
    reader_limit = f.reader_limit;
    stored = get_or-set_same words 0 n 0 (let c = f.count in omega arith)
        ∙ (is ∙ ap (λ (k : ℕ). k % w.size) (sym show_long));
    released = get_or-set_other words 0 1 n 0 (λ h. absurd (omega arith)) ∙ f.released;
    seen_freed = f.seen_freed;
    freed = f.freed;
    taken = f.taken;
    seen_sent = let a = f.seen_sent in let l = show_long in omega arith;
    room = let a = f.room in let l = show_laid in omega arith;
    within = let a = f.within in let l = show_laid in omega arith;
    writer_stamp = omega arith;
    reader_stamp = f.reader_stamp;
    fresh_freed = f.fresh_freed;
    fresh_sent = λ h. absurd (omega arith);
    order = f.order
        ∙ sym (take-append-le (length r.got) w.sent w.pend (let a = f.taken in
        let b = f.seen_sent in omega arith));
    bytes = λ p less. let l = show_laid in
        subst (λ (ys : List ℕ). get_or ys p 0 < 256) (sym show_whole) (f.bytes p (omega arith));
    cells = λ p least less. let l = show_laid in
        get_or-set_other words 0 (2 + p % w.size) n 0 (λ h. absurd (omega arith))
        ∙ (f.cells p least (omega arith)
        ∙ ap (λ (ys : List ℕ). get_or ys p 0) (sym show_whole));
  }

pub show_allowed : (key : Sizes) (slots id : ℕ) (w : Writing) (n : ℕ) → n ≡ laid w % w.size
    → Allows (Kept key) slots id (Writer w, []) 0 (λ _. n) (λ _ u. Published (Writer w) u.0
    × (u.1 ≡ []))
show_allowed key slots id w n is s k homes at small =
    let m = writer_sits s.views k.w k.r id w at k.sits in
    let f : Flows key s.words w k.r =
    subst (λ (x : Writing). Flows key s.words x k.r) m.same k.flows in (
      Writer (shown w k.r.looks),
      keeps,
      tt,
      record {
        w = shown w k.r.looks;
        r = k.r;
        flows = show_flows key s.words w k.r f n is;
        sits = m.after (shown w k.r.looks);
      },
      (refl, refl),
    )

-- the same for a seat that is known to be a writer's
module _ (key : Sizes) (slots id : ℕ) (me : Me ℕ View)
    (is_writer : me ≡ (Writer (writing_of me.0), [])) where
  pub look_asked : Allows (Kept key) slots id me 1 (λ n. n) (λ n u. Looked me.0 n u.0
      × (u.1 ≡ me.1))
  look_asked = subst
      (λ (m : Me ℕ View). Allows (Kept key) slots id m 1 (λ n. n) (λ n u. Looked m.0 n u.0
      × (u.1 ≡ m.1))) (sym is_writer) (looks_allowed key slots id (writing_of me.0))

  pub store_asked : (i b : ℕ) → b < 256
      → laid (writing_of me.0) + 1 < (writing_of me.0).seen_freed + (writing_of me.0).size
      → laid (writing_of me.0) < (writing_of me.0).limit
      → i ≡ 2 + laid (writing_of me.0) % (writing_of me.0).size
      → Allows (Kept key) slots id me i (λ _. b) (λ _ u. Put me.0 b u.0 × (u.1 ≡ me.1))
  store_asked i b byte space within at =
      subst (λ (m : Me ℕ View). Allows (Kept key) slots id m i (λ _. b) (λ _ u. Put m.0 b u.0
      × (u.1 ≡ m.1))) (sym is_writer)
      (store_allowed key slots id i (writing_of me.0) b byte space within at)

  pub show_asked : (n : ℕ) → n ≡ laid (writing_of me.0) % (writing_of me.0).size
      → Allows (Kept key) slots id me 0 (λ _. n) (λ _ u. Published me.0 u.0 × (u.1 ≡ me.1))
  show_asked n at =
      subst (λ (m : Me ℕ View). Allows (Kept key) slots id m 0 (λ _. n) (λ _ u. Published m.0 u.0
      × (u.1 ≡ m.1))) (sym is_writer) (show_allowed key slots id (writing_of me.0) n at)
