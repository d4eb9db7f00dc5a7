-- What is known to be freed, from one item to the next.
use Rattle.std.proofs.Common.{◌≡◌, ℕ, Bool, true, false, not, cond, List, [], ◌∷◌, ◌++◌, refl, sym}
use Rattle.std.proofs.Common.{ap, ◌∙◌, subst, append_assoc, append-nil}
use Rattle.std.specs.Prelude.{All, IsTrue, if◌then◌else◌}
use Rattle.std.proofs.lemmas.List.Elements.{All-nil, All-cons}
use Rattle.sv_ring.specs.Ring.{Way, Still, way_after, room_of, Moves}
use Rattle.sv_load.specs.Load.{Load}
use Rattle.sv_journal.specs.declared.journal.Origin.{Origin}
use Rattle.sv_journal.specs.declared.journal.Origin.TheVariants.{Call, Sync, Reply, Overflow}
use Rattle.sv_journal.specs.declared.journal.Origin.TheVariants.{Command}
use Rattle.sv_journal.specs.declared.journal.Outcome.TheVariants.{Refused, Ignored}
use Rattle.sv_journal.specs.declared.journal.Item.{Item}
use Rattle.sv_journal.specs.Items.{latest_first, is_stored, is_written, is_after_refused_overflow}
use Rattle.sv_journal.specs.Items.{block_of, stream_before, room_at, item_of}
use Rattle.sv_journal.specs.Stream.{stream_of}
use Rattle.sv_journal.specs.Packets.{is_call_or_reply}
use Rattle.sv_journal.proofs.Shared.{latest_first-push, stream_of-push}
use Rattle.sv_recorder.specs.Freed.{wrote_if, way_left, AreFreed}
use Rattle.sv_recorder.specs.Writes.{outcome_if}

-- over some items, and then over those after them
pub freed-append : (load : Load) (items xs ys : List Item) (way mid last : Way)
    (freed between now : ℕ)
    → AreFreed load (latest_first items) xs way freed mid between
    → AreFreed load (latest_first (items ++ xs)) ys mid between last now
    → AreFreed load (latest_first items) (xs ++ ys) way freed last now
freed-append load items [] ys way mid last freed between now p q =
    rw (sym p.0, sym p.1) (subst (λ (is : List Item). AreFreed load (latest_first is) ys mid between
    last now) (append-nil items) q)
freed-append load items (i ∷ xs) ys way mid last freed between now p q =
    let rest : AreFreed load (latest_first (items ++ i ∷ [])) xs
    (way_left (latest_first items) i way) i.freed mid between =
    subst (λ (es : List Item). AreFreed load es xs (way_left (latest_first items) i way) i.freed mid
    between) (sym (latest_first-push items i)) p.1 in
    let behind : AreFreed load (latest_first ((items ++ i ∷ []) ++ xs)) ys mid between last now =
    subst (λ (is : List Item). AreFreed load (latest_first is) ys mid between last now)
    (sym (append_assoc items (i ∷ []) xs)) q in
    let both = freed-append load (items ++ i ∷ []) xs ys (way_left (latest_first items) i way) mid
    last i.freed between now rest behind in (
      p.0,
      subst (λ (es : List Item). AreFreed load es (xs ++ ys)
          (way_left (latest_first items) i way) i.freed last now) (latest_first-push items i) both,
    )

-- where writes free nothing, nothing is freed
pub still-freed : (load : Load) (earlier more : List Item) (way last : Way) (freed now : ℕ)
    → way ≡ Still → AreFreed load earlier more way freed last now
    → (last ≡ Still) × (now ≡ freed) × All (λ i. i.freed ≡ freed) more
still-freed load earlier [] way last freed now still p =
    (p.0 ∙ still, p.1, All-nil (λ (i : Item). i.freed ≡ freed))
still-freed load earlier (i ∷ more) way last freed now still p =
    let here : i.freed ≡ freed = by (is_written earlier i) (λ w. moves w still p.0.0) p.0.1 in
    let rest = still-freed load (i ∷ earlier) more (way_left earlier i way) last i.freed now
    (stays (is_written earlier i) still) p.1 in (
      rest.0,
      rest.1 ∙ here,
      All-cons (λ (j : Item). j.freed ≡ freed) i more here
          (subst (λ (f : ℕ). All (λ j. j.freed ≡ f) more) here rest.2),
    )
  where
    moves : IsTrue (is_written earlier i) → way ≡ Still
        → (IsTrue (is_written earlier i) → Moves way load.ring freed i.freed
        (stream_before load earlier) (block_of load earlier i)
        (wrote_if (is_stored i.outcome) (room_at load earlier i)))
        → i.freed ≡ freed
    moves w same m = subst (λ (k : Way). Moves k load.ring freed i.freed
        (stream_before load earlier) (block_of load earlier i)
        (wrote_if (is_stored i.outcome) (room_at load earlier i))) same (m w)

    by : (b : Bool) → (IsTrue b → i.freed ≡ freed) → (b ≡ false → i.freed ≡ freed) → i.freed ≡ freed
    by true f g = f refl
    by false f g = g refl

    stays : (b : Bool) → way ≡ Still → cond b (way_after way) way ≡ Still
    stays true same = ap way_after same
    stays false same = same

-- ONE ITEM MORE

-- the item and what is stored after it, of an item that is written
pub record Written (load : Load) (items : List Item) (sent block : List ℕ) (i : Item)
    (stored : Bool) : Type 0 where
  pub stream : sent ≡ stream_of load items
  pub written : is_written (latest_first items) i ≡ true
  pub block_is : block ≡ block_of load (latest_first items) i
  pub outcome : i.outcome ≡ outcome_if stored

is_stored-if : (stored : Bool) → is_stored (outcome_if stored) ≡ stored
is_stored-if true = refl
is_stored-if false = refl

pub written-stream : (load : Load) (items : List Item) (sent now block : List ℕ) (i : Item)
    (stored : Bool) → Written load items sent block i stored
    → now ≡ sent ++ (if stored then block else [])
    → now ≡ stream_of load (items ++ i ∷ [])
written-stream load items sent now block i stored w grown =
    grown ∙ ap (λ (s : List ℕ). s ++ (if stored then block else [])) w.stream
    ∙ ap (λ (b : List ℕ). stream_of load items ++ (if stored then b else [])) w.block_is
    ∙ ap (λ (b : Bool). stream_of load items ++ (if b then block_of load (latest_first items) i else
    [])) (sym (ap is_stored w.outcome ∙ is_stored-if stored))
    ∙ sym (stream_of-push load items i)

pub written-freed : (load : Load) (items : List Item) (sent block : List ℕ) (i : Item)
    (stored : Bool) (way last : Way) (freed : ℕ) → Written load items sent block i stored
    → last ≡ way_after way → Moves way load.ring freed i.freed sent block
    (wrote_if stored (room_of load.ring sent i.freed))
    → AreFreed load (latest_first items) (i ∷ []) way freed last i.freed
written-freed load items sent block i stored way last freed w is moves = (
  (λ _. moved, λ not. absurd (cc (not, w.written))),
  (
    is
        ∙ sym (ap (λ (b : Bool). cond b (way_after way) way) w.written),
    refl,
  ),
)
  where
    moved : Moves way load.ring freed i.freed (stream_before load (latest_first items))
        (block_of load (latest_first items) i) (wrote_if (is_stored i.outcome)
        (room_at load (latest_first items) i))
    moved =
        subst (λ (b : Bool). Moves way load.ring freed i.freed
        (stream_before load (latest_first items)) (block_of load (latest_first items) i)
        (wrote_if b (room_at load (latest_first items) i)))
        (sym (ap is_stored w.outcome ∙ is_stored-if stored))
        (subst (λ (b : List ℕ). Moves way load.ring freed i.freed
        (stream_before load (latest_first items)) b
        (wrote_if stored (room_at load (latest_first items) i))) w.block_is
        (subst (λ (s : List ℕ). Moves way load.ring freed i.freed s block
        (wrote_if stored (room_of load.ring s i.freed))) w.stream moves))

-- an item that is not written
pub unwritten-stream : (load : Load) (items : List Item) (sent : List ℕ) (i : Item)
    → sent ≡ stream_of load items → is_stored i.outcome ≡ false
    → sent ≡ stream_of load (items ++ i ∷ [])
unwritten-stream load items sent i is not =
    is ∙ sym (append-nil (stream_of load items))
    ∙ ap (λ (b : Bool). stream_of load items ++
    (if b then block_of load (latest_first items) i else [])) (sym not)
    ∙ sym (stream_of-push load items i)

pub unwritten-freed : (load : Load) (earlier : List Item) (i : Item) (way : Way) (freed : ℕ)
    → is_written earlier i ≡ false → i.freed ≡ freed
    → AreFreed load earlier (i ∷ []) way freed way freed
unwritten-freed load earlier i way freed not same = (
  (λ w. absurd (cc (w, not)), λ _. same),
  (
    sym
        (ap (λ (b : Bool). cond b (way_after way) way) not),
    sym same,
  ),
)

-- WHICH ITEMS ARE WRITTEN

pub packet_written : (earlier : List Item) (origin : Origin) (moment freed : ℕ) (stored : Bool)
    → is_call_or_reply origin ≡ true → is_after_refused_overflow earlier ≡ false
    → is_written earlier (item_of origin moment freed (outcome_if stored)) ≡ true
packet_written earlier (Call writer step) moment freed true telling ready = ap not ready
packet_written earlier (Call writer step) moment freed false telling ready = ap not ready
packet_written earlier Sync moment freed stored telling ready = refl
packet_written earlier (Reply kind index) moment freed true telling ready = ap not ready
packet_written earlier (Reply kind index) moment freed false telling ready = ap not ready
packet_written earlier (Overflow count) moment freed stored telling ready = refl
packet_written earlier (Command byte param) moment freed stored telling ready = absurd cc

pub ignored_unwritten : (earlier : List Item) (origin : Origin) (moment freed : ℕ)
    → is_call_or_reply origin ≡ true
    → is_written earlier (item_of origin moment freed Ignored) ≡ false
ignored_unwritten earlier (Call writer step) moment freed telling = refl
ignored_unwritten earlier Sync moment freed telling = absurd cc
ignored_unwritten earlier (Reply kind index) moment freed telling = refl
ignored_unwritten earlier (Overflow count) moment freed telling = absurd cc
ignored_unwritten earlier (Command byte param) moment freed telling = absurd cc

pub refused_unwritten : (earlier : List Item) (origin : Origin) (moment freed : ℕ)
    → is_call_or_reply origin ≡ true → is_after_refused_overflow earlier ≡ true
    → is_written earlier (item_of origin moment freed Refused) ≡ false
refused_unwritten earlier (Call writer step) moment freed telling behind = ap not behind
refused_unwritten earlier Sync moment freed telling behind = absurd cc
refused_unwritten earlier (Reply kind index) moment freed telling behind = ap not behind
refused_unwritten earlier (Overflow count) moment freed telling behind = absurd cc
refused_unwritten earlier (Command byte param) moment freed telling behind = absurd cc
