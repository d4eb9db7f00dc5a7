-- How a book goes on, and what its clock shows.
use Rattle.std.proofs.Common.{◌≡◌, ℕ, ◌+◌, ◌≤◌, Bool, false, not, ◌&&◌, cond, List, [], ◌∷◌, ◌++◌}
use Rattle.std.proofs.Common.{length, refl, sym, ap, ◌∙◌, subst, arith, append_assoc, vec_capacity}
use Rattle.std.specs.Prelude.{filter, map, sum_by, count_by}
use Rattle.std.proofs.lemmas.List.{length-append, append-nil, map-append}
use Rattle.std.proofs.lemmas.List.Elements.{filter-append}
use Rattle.std.proofs.lemmas.List.Sums.{sum_by-cons}
use Rattle.sv_ring.specs.declared.up_writer.UpWriter.{Ghosts}
use Rattle.sv_load.specs.Load.{Load}
use Rattle.sv_recorder.specs.declared.book.Book.{Book}
use Rattle.sv_recorder.specs.Freed.{AreFreed}
use Rattle.sv_recorder.specs.Book.{GoesWith, Stays, head_if}
use Rattle.sv_recorder.proofs.moving.Freed.{freed-append, unwritten-stream, unwritten-freed}
use Rattle.sv_journal.specs.declared.journal.Origin.{Origin}
use Rattle.sv_journal.specs.declared.journal.Origin.TheVariants.{Call, Sync, Reply, Overflow}
use Rattle.sv_journal.specs.declared.journal.Origin.TheVariants.{Command}
use Rattle.sv_journal.specs.declared.journal.Outcome.{Outcome}
use Rattle.sv_journal.specs.declared.journal.Item.{Item}
use Rattle.sv_journal.specs.Items.{latest_first, last_moment, is_call_of, is_overflow, is_stored}
use Rattle.sv_journal.specs.Items.{is_refused, is_sync, is_written, is_after_refused_overflow}
use Rattle.sv_journal.specs.Items.{item_of}
use Rattle.sv_journal.specs.Legal.{is_head, origins_of, step_ticks}
use Rattle.sv_journal.specs.Stream.{stream_of}
use Rattle.sv_journal.specs.Clock.{clock_of}
use Rattle.sv_journal.proofs.Shared.{latest_first-push, last_moment-other}

-- the heads among some origins
abbrev heads_in : List Origin → List Origin
heads_in os = filter is_head (filter (λ o. not (is_overflow o)) os)

-- only heads have ticks
head_ticks : (load : Load) (o : Origin) (os : List Origin)
    → sum_by (step_ticks load) (heads_in (o ∷ os)) ≡ step_ticks load o + sum_by (step_ticks load)
    (heads_in os)
head_ticks load (Call writer step) os = sum_by-cons (step_ticks load) (Call writer step)
    (heads_in os)
head_ticks load Sync os = omega arith
head_ticks load (Reply kind index) os = omega arith
head_ticks load (Overflow count) os = omega arith
head_ticks load (Command byte param) os = sum_by-cons (step_ticks load) (Command byte param)
    (heads_in os)

pub ticks_heads : (load : Load) (items : List Item)
    → sum_by (λ i. step_ticks load i.origin) items ≡ sum_by (step_ticks load)
    (filter is_head (origins_of items))
ticks_heads load [] = refl
ticks_heads load (i ∷ items) =
    sum_by-cons (λ (j : Item). step_ticks load j.origin) i items
    ∙ ap (λ (n : ℕ). step_ticks load i.origin + n) (ticks_heads load items)
    ∙ sym (head_ticks load i.origin (map (λ (j : Item). j.origin) items))

-- only heads are calls
head_calls : (writer : ℕ) (o : Origin) (os : List Origin)
    → count_by (is_call_of writer) (heads_in (o ∷ os)) ≡ cond (is_call_of writer o) 1 0 + count_by
    (is_call_of writer) (heads_in os)
head_calls writer (Call other step) os = sum_by-cons
    (λ (p : Origin). cond (is_call_of writer p) 1 0) (Call other step) (heads_in os)
head_calls writer Sync os = omega arith
head_calls writer (Reply kind index) os = omega arith
head_calls writer (Overflow count) os = omega arith
head_calls writer (Command byte param) os = sum_by-cons
    (λ (p : Origin). cond (is_call_of writer p) 1 0) (Command byte param) (heads_in os)

pub calls_heads : (writer : ℕ) (items : List Item)
    → count_by (λ i. is_call_of writer i.origin) items ≡ count_by (is_call_of writer)
    (filter is_head (origins_of items))
calls_heads writer [] = refl
calls_heads writer (i ∷ items) =
    sum_by-cons (λ (j : Item). cond (is_call_of writer j.origin) 1 0) i items
    ∙ ap (λ (n : ℕ). cond (is_call_of writer i.origin) 1 0 + n) (calls_heads writer items)
    ∙ sym (head_calls writer i.origin (map (λ (j : Item). j.origin) items))

-- the order of a sum is nothing to it
pub sum_latest : (f : Item → ℕ) (items more : List Item)
    → sum_by f (latest_first (items ++ more)) ≡ sum_by f (latest_first items) + sum_by f more
sum_latest f items [] = ap (λ (k : List Item). sum_by f (latest_first k)) (append-nil items)
    ∙ (let e : sum_by f (latest_first items) ≡ sum_by f (latest_first items) + 0 = omega arith in e)
sum_latest f items (i ∷ more) =
    let regrouped : items ++ i ∷ more ≡ (items ++ i ∷ []) ++ more =
    sym (append_assoc items (i ∷ []) more) in
    let first : sum_by f (latest_first (items ++ i ∷ [])) ≡ f i + sum_by f (latest_first items) =
    ap (sum_by f) (latest_first-push items i) ∙ sum_by-cons f i (latest_first items) in
    let others = sum_latest f (items ++ i ∷ []) more in
    let here = sum_by-cons f i more in
    ap (λ (k : List Item). sum_by f (latest_first k)) regrouped ∙ omega (arith, first, others, here)

module _ {U : Type 0} {u : Ghosts U} where
  pub goes-then : (old mid new : Book U u) (h k : List Origin) (m n a b : ℕ)
      → GoesWith h m a old mid
      → GoesWith k n b mid new
      → GoesWith (h ++ k) (m + n) (a + b) old new
  goes-then old mid new h k m n a b p q = record {
    load = q.load ∙ p.load;
    moment = q.moment ∙ p.moment;
    ring_same = q.ring_same ∙ p.ring_same;
    size_same = q.size_same ∙ p.size_same;
    limit_same = q.limit_same ∙ p.limit_same;
    capacity = q.capacity ∙ p.capacity;
    more = p.more ++ q.more;
    added = q.added ∙ ap (λ (is : List Item). is ++ q.more) p.added
        ∙ append_assoc old.journal.items p.more q.more;
    headed = heads_append p.more q.more ∙ ap (λ (os : List Origin). os ++ filter is_head
        (origins_of q.more)) p.headed ∙ ap (λ (os : List Origin). h ++ os) q.headed;
    few = omega (arith, p.few, q.few, length-append p.more q.more);
    short = omega (arith, p.short, q.short);
    pending = omega (arith, p.pending, q.pending);
    moved = λ s. let one = p.moved s in let two = q.moved one.0 in
        let behind : AreFreed old.load.now (latest_first (old.journal.items ++ p.more)) q.more
        (u.way mid.up) (u.freed mid.up) (u.way new.up) (u.freed new.up) =
        subst (λ (is : List Item). AreFreed old.load.now (latest_first is) q.more (u.way mid.up)
        (u.freed mid.up) (u.way new.up) (u.freed new.up)) p.added
        (subst (λ (l : Load). AreFreed l (latest_first mid.journal.items) q.more (u.way mid.up)
        (u.freed mid.up) (u.way new.up) (u.freed new.up)) p.load two.1) in (
          two.0,
          freed-append old.load.now old.journal.items p.more q.more (u.way old.up)
              (u.way mid.up) (u.way new.up) (u.freed old.up) (u.freed mid.up) (u.freed new.up) one.1
              behind,
        );
  } where
    heads_append : (xs ys : List Item) → filter is_head (origins_of (xs ++ ys)) ≡ filter is_head
        (origins_of xs) ++ filter is_head (origins_of ys)
    heads_append xs ys =
        ap (λ (os : List Origin). heads_in os) (map-append (λ (i : Item). i.origin) xs ys)
        ∙ ap (filter is_head) (filter-append (λ (o : Origin). not (is_overflow o))
        (map (λ (i : Item). i.origin) xs) (map (λ (i : Item). i.origin) ys))
        ∙ filter-append is_head (origins_of xs) (origins_of ys)

  -- a later state that is told otherwise
  pub goes-to : (old mid new : Book U u) (h : List Origin) (m a : ℕ) → GoesWith h m a old mid
      → new.load.now ≡ mid.load.now → new.moment ≡ mid.moment → new.up ≡ mid.up
      → new.journal ≡ mid.journal → new.last ≡ mid.last
      → new.pending ≤ old.pending + m → GoesWith h m a old new
  goes-to old mid new h m a p load moment up items last pending = record {
    load = load ∙ p.load;
    moment = moment ∙ p.moment;
    ring_same = ap u.ring up ∙ p.ring_same;
    size_same = ap u.size up ∙ p.size_same;
    limit_same = ap u.limit up ∙ p.limit_same;
    capacity = ap vec_capacity items ∙ p.capacity;
    more = p.more;
    added = ap (λ v. v.items) items ∙ p.added;
    headed = p.headed;
    few = p.few;
    short = omega (arith, p.short, ap (λ (e : U). length (u.sent e)) up);
    pending = pending;
    moved = λ s. let one = p.moved s in (
      record {
        stream = ap u.sent up ∙ one.0.stream ∙ sym
            (ap (λ (l : Load). stream_of l new.journal.items) load
            ∙ ap (λ v. stream_of mid.load.now v.items) items);
        last = last ∙ one.0.last ∙ sym (ap (λ v. last_moment (latest_first v.items)) items);
        ready = ap (λ v. is_after_refused_overflow (latest_first v.items)) items ∙ one.0.ready;
      },
      subst (λ (e : U). AreFreed old.load.now (latest_first old.journal.items) p.more (u.way old.up)
          (u.freed old.up) (u.way e) (u.freed e)) (sym up) one.1,
    );
  }

  -- the clock goes on with the heads
  pub clock-goes : (old new : Book U u) (h : List Origin) (m a : ℕ) → GoesWith h m a old new
      → clock_of new.load.now new.journal.items ≡ clock_of old.load.now old.journal.items + sum_by
      (step_ticks old.load.now) h
  clock-goes old new h m a p =
      ap (λ (load : Load). clock_of load new.journal.items) p.load
      ∙ ap (clock_of old.load.now) p.added
      ∙ sum_latest (λ (i : Item). step_ticks old.load.now i.origin) old.journal.items p.more
      ∙ ap (λ (n : ℕ). clock_of old.load.now old.journal.items + n) (ticks_heads old.load.now p.more
      ∙ ap (sum_by (step_ticks old.load.now)) p.headed)

  -- a note of an item that takes nothing from the ring
  pub goes-note : (old new : Book U u) (origin : Origin) (outcome : Outcome) → Stays old new
      → new.up ≡ old.up → vec_capacity new.journal ≡ vec_capacity old.journal
      → new.journal.items ≡ old.journal.items ++ item_of origin old.moment (u.freed old.up) outcome
      ∷ [] → filter is_head (origins_of (item_of origin old.moment (u.freed old.up) outcome ∷ []))
      ≡ head_if origin
      → is_stored outcome ≡ false → is_overflow origin ≡ false
      → is_written (latest_first old.journal.items)
      (item_of origin old.moment (u.freed old.up) outcome) ≡ false
      → GoesWith (head_if origin) 1 0 old new
  goes-note old new origin outcome changed up capacity item headed not_stored not_overflow
      not_written =
      let i : Item = item_of origin old.moment (u.freed old.up) outcome in
      let latest : latest_first new.journal.items ≡ i
      ∷ latest_first old.journal.items = ap latest_first item
      ∙ latest_first-push old.journal.items i in
      record {
        load = changed.load;
        moment = changed.moment;
        ring_same = ap u.ring up;
        size_same = ap u.size up;
        limit_same = ap u.limit up;
        capacity = capacity;
        more = item_of origin old.moment (u.freed old.up) outcome ∷ [];
        added = item;
        headed = headed;
        few = omega arith;
        short = omega (arith, ap (λ (e : U). length (u.sent e)) up);
        pending = omega (arith, changed.pending);
        moved = λ s. (
          record {
            stream = ap u.sent up ∙ unwritten-stream old.load.now old.journal.items (u.sent old.up)
                i s.stream not_stored
                ∙ sym (ap (λ (l : Load). stream_of l new.journal.items) changed.load
                ∙ ap (stream_of old.load.now) item);
            last = changed.last ∙ s.last ∙ sym (ap last_moment latest
                ∙ last_moment-other (latest_first old.journal.items) i
                (ap (λ (b : Bool). b && not (is_sync origin)) not_stored));
            ready = ap is_after_refused_overflow latest
                ∙ ap (λ (b : Bool). b && is_refused outcome) not_overflow;
          },
          subst (λ (e : U). AreFreed old.load.now (latest_first old.journal.items) (i ∷ [])
              (u.way old.up) (u.freed old.up) (u.way e) (u.freed e)) (sym up)
              (unwritten-freed old.load.now (latest_first old.journal.items) i (u.way old.up)
              (u.freed old.up) not_written refl),
        );
      }

  -- at most so much is at most more
  pub goes-less : (old new : Book U u) (h : List Origin) (m n a b : ℕ) → GoesWith h m a old new
      → m ≤ n
      → a ≤ b → GoesWith h n b old new
  goes-less old new h m n a b p few short = record {
    load = p.load;
    moment = p.moment;
    ring_same = p.ring_same;
    size_same = p.size_same;
    limit_same = p.limit_same;
    capacity = p.capacity;
    more = p.more;
    added = p.added;
    headed = p.headed;
    few = omega (arith, p.few, few);
    short = omega (arith, p.short, short);
    pending = omega (arith, p.pending, few);
    moved = p.moved;
  }
