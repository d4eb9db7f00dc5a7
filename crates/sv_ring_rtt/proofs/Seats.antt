-- Which seat of a table knows what.
use Rattle.std.proofs.Common.{◌≡◌, ◌≢◌, ℕ, zero, suc, ◌<◌, ◌⊎◌, List, [], ◌∷◌, ◌++◌, length, set}
use Rattle.std.proofs.Common.{sym, refl, ap, ◌∙◌, inl, inr, ⊎_elim, arith}
use mathlib.Core.Option.{some, some-injective, some-ne-none}
use mathlib.Core.Logic.{dite}
use native.Mathlib.Decide.{ℕ_discrete}
use lib.ListN.{get_elem?}
use Rattle.atomic_table.proofs.Lists.{at_set, set_else, at_longer, at_last}
use Rattle.sv_ring_rtt.specs.declared.view.Writing.{Writing}
use Rattle.sv_ring_rtt.specs.declared.view.Reading.{Reading}
use Rattle.sv_ring_rtt.specs.declared.view.View.{View}
use Rattle.sv_ring_rtt.specs.declared.view.View.TheVariants.{Both, Writer, Reader, Spent}
use Rattle.sv_ring_rtt.specs.Rule.{Sits, SitsOne, SitsTwo}

module _ {A : Type 0} where
  pub set_there : (l : List A) (i : ℕ) (a b : A) → get_elem? l i ≡ some b
      → get_elem? (set l i a) i ≡ some a
  set_there [] i a b e = absurd (some-ne-none b (sym e))
  set_there (x ∷ xs) zero a b e = refl
  set_there (x ∷ xs) (suc i) a b e = set_there xs i a b e

  pub there_below : (l : List A) (i : ℕ) (b : A) → get_elem? l i ≡ some b → i < length l
  there_below [] i b e = absurd (some-ne-none b (sym e))
  there_below (x ∷ xs) zero b e = omega arith
  there_below (x ∷ xs) (suc i) b e = let h = there_below xs i b e in omega arith

  pub at_end : (l : List A) (a b : A) (j : ℕ) → get_elem? (l ++ a ∷ []) j ≡ some b
      → (get_elem? l j ≡ some b) ⊎ (j ≡ length l)
  at_end [] a b zero e = inr refl
  at_end [] a b (suc j) e = absurd (some-ne-none b (sym e))
  at_end (x ∷ xs) a b zero e = inl e
  at_end (x ∷ xs) a b (suc j) e = ⊎_elim (λ t. inl t) (λ t. inr (ap suc t)) (at_end xs a b j e)

  pub two_there : (l : List A) (i j : ℕ) (a b : A) → get_elem? l i ≡ some a → get_elem? l j ≡ some b
      → i ≡ j → a ≡ b
  two_there l i j a b p q e = some-injective a b (sym p ∙ ap (λ (k : ℕ). get_elem? l k) e ∙ q)

writer_one : (views : List View) (w : Writing) (r : Reading) (id : ℕ) (x : Writing)
    → get_elem? views id ≡ some (Writer x) → SitsOne views w r → ⊥
writer_one views w r id x at o =
    dite (ℕ_discrete id o.at)
    (λ e. let h = two_there views id o.at (Writer x) (Both w r) at o.there e in absurd (cc))
    (λ n. let h = o.others id (Writer x) at n in absurd (cc))

reader_one : (views : List View) (w : Writing) (r : Reading) (id : ℕ) (x : Reading)
    → get_elem? views id ≡ some (Reader x) → SitsOne views w r → ⊥
reader_one views w r id x at o =
    dite (ℕ_discrete id o.at)
    (λ e. let h = two_there views id o.at (Reader x) (Both w r) at o.there e in absurd (cc))
    (λ n. let h = o.others id (Reader x) at n in absurd (cc))

both_one : (views : List View) (w : Writing) (r : Reading) (id : ℕ) (x : Writing) (y : Reading)
    → get_elem? views id ≡ some (Both x y) → (o : SitsOne views w r) → id ≡ o.at
both_one views w r id x y at o =
    dite (ℕ_discrete id o.at) (λ e. e) (λ n. let h = o.others id (Both x y) at n in absurd (cc))

writer_two : (views : List View) (w : Writing) (r : Reading) (id : ℕ) (x : Writing)
    → get_elem? views id ≡ some (Writer x) → (t : SitsTwo views w r) → id ≡ t.writer
writer_two views w r id x at t = dite (ℕ_discrete id t.writer) (λ e. e) (λ n.
    dite (ℕ_discrete id t.reader)
    (λ e. let h = two_there views id t.reader (Writer x) (Reader r) at t.reads e in absurd (cc))
    (λ m. let h = t.others id (Writer x) at n m in absurd (cc)))

reader_two : (views : List View) (w : Writing) (r : Reading) (id : ℕ) (x : Reading)
    → get_elem? views id ≡ some (Reader x) → (t : SitsTwo views w r) → id ≡ t.reader
reader_two views w r id x at t = dite (ℕ_discrete id t.reader) (λ e. e) (λ n.
    dite (ℕ_discrete id t.writer)
    (λ e. let h = two_there views id t.writer (Reader x) (Writer w) at t.writes e in
    absurd (cc)) (λ m. let h = t.others id (Reader x) at m n in absurd (cc)))

both_two : (views : List View) (w : Writing) (r : Reading) (id : ℕ) (x : Writing) (y : Reading)
    → get_elem? views id ≡ some (Both x y) → SitsTwo views w r → ⊥
both_two views w r id x y at t =
    dite (ℕ_discrete id t.reader)
    (λ e. let h = two_there views id t.reader (Both x y) (Reader r) at t.reads e in absurd (cc))
    (λ n.
    dite (ℕ_discrete id t.writer)
    (λ e. let h = two_there views id t.writer (Both x y) (Writer w) at t.writes e in
    absurd (cc)) (λ m. let h = t.others id (Both x y) at m n in absurd (cc)))

-- the writer's own seat, and what its step leaves
pub record Moves (views : List View) (id : ℕ) (w x : Writing) (r : Reading) : Type 0 where
  pub same : w ≡ x
  pub after : (w' : Writing) → Sits (set views id (Writer w')) w' r

writer_moves : (views : List View) (w : Writing) (r : Reading) (id : ℕ) (x : Writing)
    → get_elem? views id ≡ some (Writer x) → (t : SitsTwo views w r) → id ≡ t.writer
    → Moves views id w x r
writer_moves views w r id x at t e = record {
  same = let h = two_there views t.writer id (Writer w) (Writer x) t.writes at (sym e) in cc;
  after = λ w'. inr (record {
    writer = id;
    reader = t.reader;
    apart = λ h. t.apart (sym e ∙ h);
    writes = set_there views id (Writer w') (Writer x) at;
    reads = set_else views id t.reader (Writer w') (λ h. t.apart (sym e ∙ sym h)) ∙ t.reads;
    others = λ k v is n m. ⊎_elim (λ p. absurd (n p.0))
        (λ p. t.others k v p.1 (λ h. n (h ∙ sym e)) m) (at_set views id k (Writer w') v is);
  });
}

pub writer_sits : (views : List View) (w : Writing) (r : Reading) (id : ℕ) (x : Writing)
    → get_elem? views id ≡ some (Writer x) → Sits views w r → Moves views id w x r
writer_sits views w r id x at (inl o) = absurd (writer_one views w r id x at o)
writer_sits views w r id x at (inr t) =
    writer_moves views w r id x at t (writer_two views w r id x at t)

-- the same of the reader's
pub record Turns (views : List View) (id : ℕ) (w : Writing) (r x : Reading) : Type 0 where
  pub same : r ≡ x
  pub after : (r' : Reading) → Sits (set views id (Reader r')) w r'

reader_turns : (views : List View) (w : Writing) (r : Reading) (id : ℕ) (x : Reading)
    → get_elem? views id ≡ some (Reader x) → (t : SitsTwo views w r) → id ≡ t.reader
    → Turns views id w r x
reader_turns views w r id x at t e = record {
  same = let h = two_there views t.reader id (Reader r) (Reader x) t.reads at (sym e) in cc;
  after = λ r'. inr (record {
    writer = t.writer;
    reader = id;
    apart = λ h. t.apart (h ∙ e);
    writes = set_else views id t.writer (Reader r') (λ h. t.apart (h ∙ e)) ∙ t.writes;
    reads = set_there views id (Reader r') (Reader x) at;
    others = λ k v is n m. ⊎_elim (λ p. absurd (m p.0))
        (λ p. t.others k v p.1 n (λ h. m (h ∙ sym e))) (at_set views id k (Reader r') v is);
  });
}

pub reader_sits : (views : List View) (w : Writing) (r : Reading) (id : ℕ) (x : Reading)
    → get_elem? views id ≡ some (Reader x) → Sits views w r → Turns views id w r x
reader_sits views w r id x at (inl o) = absurd (reader_one views w r id x at o)
reader_sits views w r id x at (inr t) =
    reader_turns views w r id x at t (reader_two views w r id x at t)

-- the same of a seat that is both
pub record Stands (views : List View) (id : ℕ) (w x : Writing) (r y : Reading) : Type 0 where
  pub same_writing : w ≡ x
  pub same_reading : r ≡ y
  pub after : (w' : Writing) (r' : Reading) → Sits (set views id (Both w' r')) w' r'
  pub splits : Sits (set views id (Writer w) ++ Reader r ∷ []) w r

both_splits : (views : List View) (w : Writing) (r : Reading) (id : ℕ) (o : SitsOne views w r)
    → id ≡ o.at → Sits (set views id (Writer w) ++ Reader r ∷ []) w r
both_splits views w r id o e =
    let at : get_elem? views id ≡ some (Both w r) = ap (λ (k : ℕ). get_elem? views k) e ∙ o.there in
    let l : List View = set views id (Writer w) in
    let mine : get_elem? l id ≡ some (Writer w) = set_there views id (Writer w) (Both w r) at in
    inr (record {
      writer = id;
      reader = length l;
      apart = λ h. let b = there_below l id (Writer w) mine in absurd (omega arith);
      writes = at_longer l (Reader r ∷ []) id (Writer w) mine;
      reads = at_last l (Reader r) (length l) refl;
      others = λ k v is n m. ⊎_elim
          (λ p. ⊎_elim (λ q. absurd (n q.0)) (λ q. o.others k v q.1 (λ h. n (h ∙ sym e)))
          (at_set views id k (Writer w) v p))
          (λ p. absurd (m p))
          (at_end l (Reader r) v k is);
    })

both_stands : (views : List View) (w : Writing) (r : Reading) (id : ℕ) (x : Writing) (y : Reading)
    → get_elem? views id ≡ some (Both x y) → (o : SitsOne views w r) → id ≡ o.at
    → Stands views id w x r y
both_stands views w r id x y at o e =
    let h = two_there views o.at id (Both w r) (Both x y) o.there at (sym e) in record {
      same_writing = cc;
      same_reading = cc;
      after = λ w' r'. inl (record {
        at = id;
        there = set_there views id (Both w' r') (Both x y) at;
        others = λ k v is n. ⊎_elim (λ p. absurd (n p.0))
            (λ p. o.others k v p.1 (λ h. n (h ∙ sym e))) (at_set views id k (Both w' r') v is);
      });
      splits = both_splits views w r id o e;
    }

pub both_sits : (views : List View) (w : Writing) (r : Reading) (id : ℕ) (x : Writing) (y : Reading)
    → get_elem? views id ≡ some (Both x y) → Sits views w r → Stands views id w x r y
both_sits views w r id x y at (inl o) =
    both_stands views w r id x y at o (both_one views w r id x y at o)
both_sits views w r id x y at (inr t) = absurd (both_two views w r id x y at t)

-- the two seats become one, and the reader's is spent
pub record Meets (views : List View) (id other : ℕ) (w x : Writing) (r y : Reading) : Type 0 where
  pub same_writing : w ≡ x
  pub same_reading : r ≡ y
  pub after : (w' : Writing) (r' : Reading)
      → Sits (set (set views id (Both w' r')) other Spent) w' r'

meets : (views : List View) (w : Writing) (r : Reading) (id other : ℕ) (x : Writing) (y : Reading)
    → get_elem? views id ≡ some (Writer x) → get_elem? views other ≡ some (Reader y) → (other ≢ id)
    → (t : SitsTwo views w r) → id ≡ t.writer → other ≡ t.reader → Meets views id other w x r y
meets views w r id other x y at there apart t e f = record {
  same_writing = let h = two_there views t.writer id (Writer w) (Writer x) t.writes at (sym e) in
      cc;
  same_reading = let h =
      two_there views t.reader other (Reader r) (Reader y) t.reads there (sym f) in cc;
  after = λ w' r'.
      let l : List View = set views id (Both w' r') in
      inl (record {
        at = id;
        there = set_else l other id Spent (λ h. apart (sym h))
            ∙ set_there views id (Both w' r') (Writer x) at;
        others = λ k v is n. ⊎_elim (λ p. sym p.1)
            (λ p. ⊎_elim (λ q. absurd (n q.0))
            (λ q. t.others k v q.1 (λ h. n (h ∙ sym e)) (λ h. p.0 (h ∙ sym f)))
            (at_set views id k (Both w' r') v p.1))
            (at_set l other k Spent v is);
      });
}

pub both_meet : (views : List View) (w : Writing) (r : Reading) (id other : ℕ) (x : Writing)
    (y : Reading) → get_elem? views id ≡ some (Writer x) → get_elem? views other ≡ some (Reader y)
    → (other ≢ id)
    → Sits views w r → Meets views id other w x r y
both_meet views w r id other x y at there apart (inl o) = absurd (writer_one views w r id x at o)
both_meet views w r id other x y at there apart (inr t) =
    meets views w r id other x y at there apart t (writer_two views w r id x at t)
    (reader_two views w r other y there t)
