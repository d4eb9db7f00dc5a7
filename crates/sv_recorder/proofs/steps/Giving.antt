-- The answers of a step, one after another.
use Rattle.std.proofs.Common.{◌≡◌, ℕ, zero, suc, ◌+◌, ◌<◌, ◌≤◌, Bool, true, false, not, ◌&&◌, List}
use Rattle.std.proofs.Common.{[], ◌∷◌, ◌++◌, length, get_or, drop, map, refl, sym, ap, ◌∙◌, subst}
use Rattle.std.proofs.Common.{arith, append_assoc, append-nil, add-one}
use Rattle.std.specs.Prelude.{flat_map}
use Rattle.std.specs.List.{enumerate_from}
use Rattle.std.proofs.Math.Seq.{drop-cons}
use Rattle.std.proofs.lemmas.List.{length-append}
use Rattle.std.proofs.lemmas.List.Concat.{flat_map-cons}
use Rattle.std.proofs.lemmas.List.Sums.{sum_by-cons, sum_by-append}
use Rattle.sv_ring.specs.declared.up_writer.UpWriter.{Ghosts}
use Rattle.sv_desc.specs.Modules.{ModuleRow}
use Rattle.sv_load.specs.declared.load.Task.{Task}
use Rattle.sv_load.specs.Load.{Load}
use Rattle.sv_journal.specs.declared.journal.Kind.{Kind}
use Rattle.sv_journal.specs.declared.journal.Kind.TheVariants as kinds
use Rattle.sv_journal.specs.declared.journal.Origin.{Origin}
use Rattle.sv_journal.specs.declared.journal.Origin.TheVariants.{Reply}
use Rattle.sv_journal.specs.Items.{is_stop_reply}
use Rattle.sv_journal.specs.Legal.{is_control}
use Rattle.sv_journal.specs.Packets.{is_call_or_reply}
use Rattle.sv_journal.specs.Clock.{clock_of}
use Rattle.sv_need.specs.Weights.{weight, item_weights, byte_weights, items_ahead, bytes_ahead}
use Rattle.sv_need.proofs.Shared.{packet_items}
use Rattle.sv_recorder.specs.declared.book.Book.{Book}
use Rattle.sv_recorder.specs.Book.{HoldsOwing, HoldsAs, GoesWith, IsReady}
use Rattle.sv_recorder.specs.Formed.{packet_bytes}
use Rattle.sv_recorder.specs.Replies.{IsReadyFor, GoesFor, Gives, IsGiving}
use Rattle.sv_recorder.specs.Writes.{IsPacketHere}
use Rattle.sv_recorder.proofs.moving.Entries.{packet_weight}
use Rattle.sv_recorder.proofs.moving.Goes.{goes-then, clock-goes}
use Rattle.sv_recorder.proofs.keeping.Groups.{reply_here}

-- two rows of origins have what each of them has
items-append : (load : Load) (xs ys : List Origin)
    → items_ahead load (xs ++ ys) ≡ items_ahead load xs + items_ahead load ys
items-append load xs ys = sum_by-append (weight item_weights load) xs ys

bytes-append : (load : Load) (xs ys : List Origin)
    → bytes_ahead load (xs ++ ys) ≡ bytes_ahead load xs + bytes_ahead load ys
bytes-append load xs ys = sum_by-append (weight byte_weights load) xs ys

items_one : (load : Load) (o : Origin) → is_call_or_reply o ≡ true → is_control load o ≡ false
    → items_ahead load (o ∷ []) ≡ 2
items_one load o telling control = omega (
  arith,
  sum_by-cons (weight item_weights load) o [],
  packet_items load o telling control,
)

bytes_one : (load : Load) (o : Origin) → is_call_or_reply o ≡ true
    → bytes_ahead load (o ∷ []) ≡ packet_bytes load o
bytes_one load o telling = omega (
  arith,
  sum_by-cons (weight byte_weights load) o [],
  packet_weight load o telling,
)

-- THE LINES, TASKS AND MODULES THAT ARE LEFT

drop-next : {X : Type 0} (xs : List X) (k : ℕ) (d : X) → k < length xs
    → drop k xs ≡ get_or xs k d ∷ drop (k + 1) xs
drop-next xs k d within = rw add-one (drop-cons xs k d within)

-- the replies for the elements from this place on
abbrev pub replies_left : {X : Type 0} → Kind → List X → ℕ → List Origin
replies_left kind xs k = map (λ e. Reply kind e.0) (enumerate_from k (drop k xs))

pub replies-next : {X : Type 0} (kind : Kind) (xs : List X) (k : ℕ) (d : X) → k < length xs
    → replies_left kind xs k ≡ Reply kind k ∷ replies_left kind xs (k + 1)
replies-next {X} kind xs k d within = ap (λ (ys : List X).
    map (λ e. Reply kind e.0) (enumerate_from k ys)) (drop-next xs k d within)

no_module : ModuleRow
no_module = record { events = 0; name = [] }

pub lines-next : (load : Load) (k : ℕ) → k < length load.lines
    → replies_left kinds.Line load.lines k ≡ Reply kinds.Line k
    ∷ replies_left kinds.Line load.lines (k + 1)
lines-next load k within = replies-next kinds.Line load.lines k [] within

pub modules-next : (load : Load) (k : ℕ) → k < length load.modules
    → replies_left kinds.Module load.modules k ≡ Reply kinds.Module k
    ∷ replies_left kinds.Module load.modules (k + 1)
modules-next load k within = replies-next kinds.Module load.modules k no_module within

abbrev pub tasks_left : Load → ℕ → List Origin
tasks_left load k = flat_map (λ e. Reply kinds.Task e.0 ∷ Reply kinds.Stack e.0 ∷ [])
    (enumerate_from k (drop k load.tasks))

no_task : Task
no_task = record
    { id = 0; priority = 0; stack_base = 0; stack_size = 0; extra = 0; name = [] }

pub tasks-next : (load : Load) (k : ℕ) → k < length load.tasks
    → tasks_left load k ≡ (Reply kinds.Task k ∷ []) ++ ((Reply kinds.Stack k ∷ [])
    ++ tasks_left load
    (k + 1))
tasks-next load k within = ap (λ (xs : List Task). flat_map
    (λ e. Reply kinds.Task e.0 ∷ Reply kinds.Stack e.0 ∷ []) (enumerate_from k xs))
    (drop-next load.tasks k no_task within)
    ∙ flat_map-cons (λ (e : ℕ × Task). Reply kinds.Task e.0 ∷ Reply kinds.Stack e.0 ∷ [])
    (k, get_or load.tasks k no_task) (enumerate_from (k + 1) (drop (k + 1) load.tasks))

-- none are left at the end
drop-all : {X : Type 0} (xs : List X) (k : ℕ) → length xs ≤ k → drop k xs ≡ []
drop-all [] zero h = refl
drop-all [] (suc k) h = refl
drop-all (x ∷ xs) zero h = absurd (omega (arith, h))
drop-all (x ∷ xs) (suc k) h = drop-all xs k (omega (arith, h))

pub replies-none : {X : Type 0} (kind : Kind) (xs : List X) (k : ℕ) → length xs ≤ k
    → replies_left kind xs k ≡ []
replies-none {X} kind xs k h = ap (λ (ys : List X).
    map (λ e. Reply kind e.0) (enumerate_from k ys)) (drop-all xs k h)

pub tasks-none : (load : Load) (k : ℕ) → length load.tasks ≤ k → tasks_left load k ≡ []
tasks-none load k h = ap (λ (xs : List Task). flat_map
    (λ e. Reply kinds.Task e.0 ∷ Reply kinds.Stack e.0 ∷ []) (enumerate_from k xs))
    (drop-all load.tasks k h)

module _ {U : Type 0} {u : Ghosts U} where
  -- room for one packet
  pub ready_one : (book : Book U u) (o : Origin) → is_call_or_reply o ≡ true
      → is_control book.load.now o ≡ false → IsReadyFor (o ∷ []) book
      → IsReady 2 (packet_bytes book.load.now o) book
  ready_one book o telling control r =
      let items = items_one book.load.now o telling control in
      let bytes = bytes_one book.load.now o telling in
      record {
        room = omega (arith, r.room, items);
        within = omega (arith, r.within, bytes);
        few = omega (arith, r.few, items);
      }

  pub goes_one : (old new : Book U u) (heads : List Origin) (o : Origin)
      → is_call_or_reply o ≡ true → is_control old.load.now o ≡ false
      → GoesWith heads 2 (packet_bytes old.load.now o) old new → GoesFor heads (o ∷ []) old new
  goes_one old new heads o telling control goes =
      subst (λ n. GoesWith heads n (bytes_ahead old.load.now (o ∷ [])) old new)
      (sym (items_one old.load.now o telling control))
      (subst (λ n. GoesWith heads 2 n old new) (sym (bytes_one old.load.now o telling)) goes)

  -- of two rows of origins there is room for the first, and for the other behind it
  pub ready-first : (book : Book U u) (xs ys : List Origin) → IsReadyFor (xs ++ ys) book
      → IsReadyFor xs book
  ready-first book xs ys r = record {
    room = omega (arith, r.room, items-append book.load.now xs ys);
    within = omega (arith, r.within, bytes-append book.load.now xs ys);
    few = omega (arith, r.few, items-append book.load.now xs ys);
  }

  pub ready-goes : (old mid : Book U u) (heads : List Origin) (m n a b : ℕ)
      → IsReady (m + n) (a + b) old → GoesWith heads m a old mid → IsReady n b mid
  ready-goes old mid heads m n a b r goes = record {
    room = omega (
      arith,
      r.room,
      goes.few,
      ap length goes.added,
      length-append old.journal.items goes.more,
      goes.capacity,
    );
    within = omega (arith, r.within, goes.short, goes.limit_same);
    few = omega (arith, r.few, goes.pending);
  }

  pub ready-then : (old mid : Book U u) (xs ys : List Origin) → IsReadyFor (xs ++ ys) old
      → Gives xs old mid → IsReadyFor ys mid
  ready-then old mid xs ys r gives =
      let load = old.load.now in
      let both : IsReady (items_ahead load xs + items_ahead load ys)
      (bytes_ahead load xs + bytes_ahead load ys) old = record {
        room = omega (arith, r.room, items-append load xs ys);
        within = omega (arith, r.within, bytes-append load xs ys);
        few = omega (arith, r.few, items-append load xs ys);
      } in
      let behind = ready-goes old mid [] (items_ahead load xs) (items_ahead load ys)
      (bytes_ahead load xs) (bytes_ahead load ys) both gives.goes in
      subst (λ l. IsReady (items_ahead l ys) (bytes_ahead l ys) mid) (sym gives.goes.load) behind

  pub goes-none : (book : Book U u) → GoesWith [] 0 0 book book
  goes-none book = record {
    load = refl;
    moment = refl;
    ring_same = refl;
    size_same = refl;
    limit_same = refl;
    capacity = refl;
    more = [];
    added = sym (append-nil book.journal.items);
    headed = refl;
    few = omega arith;
    short = omega arith;
    pending = omega arith;
    moved = λ s. (s, (refl, refl));
  }

  pub gives-none : (book : Book U u) → Gives [] book book
  gives-none book = record { kept = λ rest k clock. k; goes = goes-none book; on = refl }

  -- the clock goes on
  clock-gives : (old mid : Book U u) (os : List Origin) → Gives os old mid
      → old.moment ≡ clock_of old.load.now old.journal.items
      → mid.moment ≡ clock_of mid.load.now mid.journal.items
  clock-gives old mid os gives clock =
      let same = clock-goes old mid [] (items_ahead old.load.now os) (bytes_ahead old.load.now os)
      gives.goes in
      omega (arith, gives.goes.moment, clock, same)

  -- first these answers, and then those
  pub gives-then : (old mid new : Book U u) (xs ys : List Origin) → Gives xs old mid
      → Gives ys mid new → Gives (xs ++ ys) old new
  gives-then old mid new xs ys p q =
      let load = old.load.now in
      let items : items_ahead load (xs ++ ys) ≡ items_ahead load xs + items_ahead mid.load.now ys =
      items-append load xs ys
      ∙ ap (λ l. items_ahead load xs + items_ahead l ys) (sym p.goes.load) in
      let bytes : bytes_ahead load (xs ++ ys) ≡ bytes_ahead load xs + bytes_ahead mid.load.now ys =
      bytes-append load xs ys
      ∙ ap (λ l. bytes_ahead load xs + bytes_ahead l ys) (sym p.goes.load) in
      let both = goes-then old mid new [] [] (items_ahead load xs) (items_ahead mid.load.now ys)
      (bytes_ahead load xs) (bytes_ahead mid.load.now ys) p.goes q.goes in
      record {
        kept = λ rest k clock. q.kept rest
            (p.kept (ys ++ rest) (subst (HoldsOwing old) (append_assoc xs ys rest) k) clock)
            (clock-gives old mid xs p clock);
        goes = subst (λ n. GoesWith [] n (bytes_ahead load (xs ++ ys)) old new) (sym items)
            (subst (λ n. GoesWith [] (items_ahead load xs + items_ahead mid.load.now ys) n old new)
            (sym bytes) both);
        on = q.on ∙ p.on;
      }

  -- a reply that does not switch the recorder off
  pub gives-reply : (old new : Book U u) (kind : Kind) (index : ℕ)
      → is_stop_reply (Reply kind index) ≡ false
      → ((owed rest : List Origin) → HoldsOwing old owed
      → IsPacketHere old.load.now old.journal.items owed (Reply kind index) old.moment rest
      → HoldsAs (old.on && not (is_stop_reply (Reply kind index))) new rest)
      → GoesWith [] 2 (packet_bytes old.load.now (Reply kind index)) old new → new.on ≡ old.on
      → Gives (Reply kind index ∷ []) old new
  gives-reply old new kind index stays kept goes same = record {
    kept = λ rest k clock.
        let told = kept (Reply kind index ∷ rest) rest k
        (reply_here old.load.now old.journal.items kind index old.moment rest clock) in
        let still : (old.on && not (is_stop_reply (Reply kind index))) ≡ new.on =
        ap (λ b. old.on && not b) stays ∙ always old.on ∙ sym same in
        subst (λ b. HoldsAs b new rest) still told;
    goes = goes_one old new [] (Reply kind index) refl refl goes;
    on = same;
  }
    where
      always : (b : Bool) → (b && true) ≡ b
      always true = refl
      always false = refl

  -- ROW BY ROW

  pub giving-all : (book : Book U u) (all : List Origin) → IsGiving all all book book
  giving-all book all = record { given = []; split = refl; gives = gives-none book }

  pub giving-ready : (old mid : Book U u) (all rest : List Origin) → IsReadyFor all old
      → IsGiving all rest old mid → IsReadyFor rest mid
  giving-ready old mid all rest r g = ready-then old mid g.given rest
      (subst (λ os. IsReadyFor os old) g.split r) g.gives

  pub giving-step : (old mid new : Book U u) (all os rest : List Origin)
      → IsGiving all (os ++ rest) old mid → Gives os mid new → IsGiving all rest old new
  giving-step old mid new all os rest g gives = record {
    given = g.given ++ os;
    split = g.split ∙ sym (append_assoc g.given os rest);
    gives = gives-then old mid new g.given os g.gives gives;
  }

  pub giving-done : (old new : Book U u) (all : List Origin) → IsGiving all [] old new
      → Gives all old new
  giving-done old new all g = subst (λ os. Gives os old new)
      (sym (g.split ∙ append-nil g.given)) g.gives
