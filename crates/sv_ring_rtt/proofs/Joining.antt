-- The ends of a ring come into being as one, are parted, and are one again.
use Rattle.std.proofs.Math.Nat.{zero-mod}
use Rattle.std.proofs.lemmas.List.{get_or-replicate, length-replicate}
use Rattle.std.proofs.Common.{◌++◌, ◌-◌, take, ◌≡◌, ◌≢◌, ℕ, zero, suc, ◌+◌, ◌<◌, List, [], ◌∷◌}
use Rattle.std.proofs.Common.{length, get_or, replicate, subst, sym, refl, ap, ◌∙◌, inl, arith}
use Rattle.atomic_table.specs.Table.{Splits, Joins, opening}
use Rattle.atomic_table.specs.Seated.{TableId}
use Rattle.sv_ring_rtt.specs.Ends.{name_of}
use Rattle.std.proofs.Math.Seq.{take-nil}
use mathlib.Core.Option.{some, some-ne-none}
use Rattle.sv_ring_rtt.specs.declared.view.Sizes.{Sizes}
use Rattle.sv_ring_rtt.specs.declared.view.Writing.{Writing}
use Rattle.sv_ring_rtt.specs.declared.view.Reading.{Reading}
use Rattle.sv_ring_rtt.specs.declared.view.View.{View}
use Rattle.sv_ring_rtt.specs.declared.view.View.TheVariants.{Both, Writer, Reader, Spent}
use Rattle.sv_ring_rtt.specs.Rule.{writing_of, reading_of, Flows, Kept, opened, writer_part}
use Rattle.sv_ring_rtt.specs.Rule.{reader_part, joined_view}
use lib.ListN.{get_elem?}
use Rattle.atomic_table.proofs.Lists.{set_else}
use Rattle.sv_ring_rtt.proofs.Seats.{both_sits, both_meet}

-- the two ends in one become two
pub splits_allowed : (key : Sizes) (id : ℕ) (v : View) → v ≡ Both (writing_of v) (reading_of v)
    → Splits (Kept key) id v (writer_part v) (reader_part v)
splits_allowed key id v is s k at =
    let m = both_sits s.views k.w k.r id (writing_of v) (reading_of v) (at ∙ ap some is) k.sits in
    let l = m.splits in record {
      w = k.w;
      r = k.r;
      flows = k.flows;
      sits = rw (sym m.same_writing, sym m.same_reading) l;
    }

-- two ends become one
join_flows : (key : Sizes) (words : List ℕ) (w : Writing) (r : Reading) → Flows key words w r
    → Flows key words w (record r { seen_sent = length w.sent })
join_flows key words w r f = record {
  count = f.count;
  some_size = f.some_size;
  writer_size = f.writer_size;
  writer_limit = f.writer_limit;
  reader_size = f.reader_size;
  reader_limit = f.reader_limit;
  stored = f.stored;
  released = f.released;
  seen_freed = f.seen_freed;
  freed = f.freed;
  taken = let a = f.taken in let b = f.seen_sent in omega arith;
  seen_sent = omega arith;
  room = f.room;
  within = f.within;
  writer_stamp = f.writer_stamp;
  reader_stamp = f.reader_stamp;
  fresh_freed = f.fresh_freed;
  fresh_sent = λ h. refl;
  order = f.order;
  bytes = f.bytes;
  cells = f.cells;
}

pub joins_allowed : (key : Sizes) (id : ℕ) (v : View) (other : ℕ) (u : View)
    → v ≡ Writer (writing_of v) → u ≡ Reader (reading_of u)
    → Joins (Kept key) id v other u (joined_view v u) Spent
joins_allowed key id v other u writes reads s k at apart there =
    let w : Writing = writing_of v in
    let r : Reading = reading_of u in
    let x : Reading = record r { seen_sent = length w.sent } in
    let m = both_meet s.views k.w k.r id other w r (at ∙ ap some writes)
    (sym (set_else s.views id other (joined_view v u) apart)
    ∙ (there ∙ ap some reads)) apart k.sits in record {
      w = w;
      r = x;
      flows = join_flows key s.words w r
          (subst (λ (y : Writing). Flows key s.words y r) m.same_writing
          (subst (λ (y : Reading). Flows key s.words k.w y) m.same_reading k.flows));
      sits = m.after w x;
    }

-- a ring as it is made
pub opens : (key : Sizes) (words : List ℕ) → 0 < key.size → words ≡ replicate (key.size + 2) 0
    → Kept key (opening words [] (opened key))
opens key words some_size zeros = record {
  w = writing_of (opened key);
  r = reading_of (opened key);
  flows = record {
    count = ap length zeros ∙ length-replicate (key.size + 2) 0;
    some_size = some_size;
    writer_size = refl;
    writer_limit = refl;
    reader_size = refl;
    reader_limit = refl;
    stored = ap (λ (ws : List ℕ). get_or ws 0 0) zeros
        ∙ (all_zero (key.size + 2) 0 (omega arith) ∙ sym (zero-mod key.size));
    released = ap (λ (ws : List ℕ). get_or ws 1 0) zeros
        ∙ (all_zero (key.size + 2) 1 (omega arith) ∙ sym (zero-mod key.size));
    seen_freed = omega arith;
    freed = omega arith;
    taken = omega arith;
    seen_sent = omega arith;
    room = omega arith;
    within = omega arith;
    writer_stamp = omega arith;
    reader_stamp = omega arith;
    fresh_freed = λ h. refl;
    fresh_sent = λ h. refl;
    order = refl;
    bytes = λ p less. absurd (omega arith);
    cells = λ p least less. absurd (omega arith);
  };
  sits = inl (record {
    at = 0;
    there = refl;
    others = λ n v is other. absurd (others n v is other);
  });
}
  where
    all_zero : (n k : ℕ) → k < n → get_or {A = ℕ} (replicate n 0) k 0 ≡ 0
    all_zero n k h = get_or-replicate n k 0 0 h

    others : (n : ℕ) (v : View) → get_elem? (opened key ∷ []) n ≡ some v → n ≢ 0 → ⊥
    others zero v is other = other refl
    others (suc n) v is other = some-ne-none v (sym is)

pub opened_both : (key : Sizes) (v : View) → v ≡ opened key → v ≡ Both (writing_of v) (reading_of v)
opened_both key v e = subst (λ (u : View). u ≡ Both (writing_of u) (reading_of u)) (sym e) refl

-- a name tells one table
pub one_name : (y z : TableId) → name_of y ≡ name_of z → y ≡ z
one_name y z e =
    let a : y.words ≡ z.words = cc in
    let b : y.slots ≡ z.slots = cc in
    let c : y.views_name ≡ z.views_name = cc in
    let d : y.atom ≡ z.atom = cc in
    let f : y.block ≡ z.block = cc in
    let g : y.offset ≡ z.offset = cc in
    let h : y.slot_names ≡ z.slot_names = cc in
    λ i. record {
      words = a i;
      slots = b i;
      views_name = c i;
      atom = d i;
      block = f i;
      offset = g i;
      slot_names = h i;
    }

-- the words that a ring is made of
pub all_zeros : (n m k : ℕ) (old : List ℕ) → old ≡ [] → k ≡ 0 → m ≡ n
    → take n old ++ replicate (n - k) 0 ≡ replicate m 0
all_zeros n m k old e z is =
    let rest : n - k ≡ m = omega arith in
    ap (λ (l : List ℕ). take n l ++ replicate (n - k) 0) e
    ∙ (ap (λ (l : List ℕ). l ++ replicate (n - k) 0) (take-nil n)
    ∙ ap (λ (j : ℕ). replicate j 0) rest)
