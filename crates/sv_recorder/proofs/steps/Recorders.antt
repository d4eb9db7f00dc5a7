-- What a recorder keeps from one section to the next.
use mathlib.Core.Logic.{dite}
use native.Mathlib.Decide.{ℕ_discrete}
use Rattle.std.proofs.Common.{◌≡◌, ◌≢◌, ℕ, zero, suc, ◌+◌, ◌^◌, ◌<◌, ◌≤◌, Bool, true, false, cond}
use Rattle.std.proofs.Common.{List, [], ◌∷◌, ◌++◌, length, get_or, refl, sym, ap, ◌∙◌, subst, arith}
use Rattle.std.proofs.Common.{vec_capacity, inr}
use Rattle.std.specs.Prelude.{sum_by, count_by, take_while, slice_get, slice_set, slice_index_or}
use Rattle.std.specs.Prelude.{Option, Some, ◌==◌}
use Rattle.std.specs.List.{prefix_len}
use Rattle.std.proofs.lemmas.Bool.{eq-eqb, ne_eqb}
use Rattle.std.proofs.lemmas.List.{length-reverse, length-take, length-set}
use Rattle.std.proofs.lemmas.List.{get_or-set_same, get_or-set_other}
use Rattle.std.proofs.lemmas.List.Sums.{sum_by-append, count_by-le-length}
use Rattle.sv_ring.specs.declared.up_writer.UpWriter.{Ghosts}
use Rattle.sv_load.specs.declared.load.Step.{Step}
use Rattle.sv_load.specs.Load.{Load, script_of, step_of}
use Rattle.sv_load.specs.declared.load.Command.{Command}
use Rattle.sv_journal.specs.declared.journal.Origin.TheVariants.{Call}
use Rattle.sv_journal.specs.declared.journal.Item.{Item}
use Rattle.sv_journal.specs.Items.{latest_first, is_after_refused_overflow, is_call_of, last_moment}
use Rattle.sv_journal.specs.Items.{pending_at}
use Rattle.sv_journal.specs.Legal.{IsNextStep, step_ticks, answers_of, group_of}
use Rattle.sv_journal.specs.Open.{IsDue}
use Rattle.sv_journal.specs.Stream.{stream_of}
use Rattle.sv_journal.specs.Clock.{clock_of}
use Rattle.sv_journal.specs.Section.{IsSection, command_head}
use Rattle.sv_journal.proofs.Shared.{after_refused-fresh}
use Rattle.sv_need.specs.Next.{MayCome}
use Rattle.sv_need.specs.Weights.{items_ahead, bytes_ahead}
use Rattle.sv_need.proofs.Shared.{due_items, due_bytes, few_needed, ticks_next}
use Rattle.sv_recorder.specs.declared.book.Book.{Book}
use Rattle.sv_recorder.specs.Freed.{AreFreed}
use Rattle.sv_recorder.specs.Kept.{Keeps}
use Rattle.sv_recorder.specs.Book.{Advances, HoldsOwing, GoesWith, IsReady}
use Rattle.sv_recorder.specs.Heads.{KeepsHead}
use Rattle.sv_recorder.specs.Replies.{IsReadyFor, GoesFor}
use Rattle.sv_recorder.specs.Recording.{IsRecorder}
use Rattle.sv_recorder.proofs.moving.Goes.{sum_latest, calls_heads, clock-goes, goes-then}
use Rattle.sv_recorder.proofs.steps.Books.{ticks_at}

pub count_latest : (p : Item → Bool) (items : List Item)
    → count_by p (latest_first items) ≡ count_by p items
count_latest p items = sum_latest (λ (i : Item). cond (p i) 1 0) [] items
    ∙ (let e : 0 + count_by p items ≡ count_by p items = omega arith in e)

take_while_short : (p : Item → Bool) (items : List Item)
    → length (take_while p items) ≤ length items
take_while_short p items = omega (arith, length-take (prefix_len p items) items)

-- no more packets are pending than there are items
pub pending_few : (items : List Item) → pending_at (latest_first items) ≤ length items
pending_few items = omega (
  arith,
  count_by-le-length {X = Item},
  take_while_short,
  length-reverse
      items,
)

-- a step that stands in a script
pub place_within : (steps : List Step) (place : ℕ) (step : Step) → slice_get steps place ≡ Some step
    → place < length steps
place_within [] place step is = absurd cc
place_within (s ∷ steps) zero step is = omega arith
place_within (s ∷ steps) (suc place) step is = omega (arith, place_within steps place step is)

-- the writer has one call more, and the others have as many as before
one_call : (writer place other : ℕ)
    → count_by (is_call_of other) (Call writer place ∷ []) ≡ cond (writer == other) 1 0
one_call writer place other = by (writer == other)
  where
    by : (b : Bool) → sum_by (λ (x : ℕ). x) (cond b 1 0 ∷ []) ≡ cond b 1 0
    by true = refl
    by false = refl

module _ {U : Type 0} {u : Ghosts U} where
  abbrev pub Keeping : Book U u → List ℕ → Type 0
  Keeping book places = IsRecorder book.load.now book.journal.items (u.sent book.up)
      (u.freed book.up) (u.limit book.up) book.on book.pending book.last book.moment places
      (vec_capacity book.journal)

  -- the place of a writer that there is
  pub record IsAt (book : Book U u) (places : List ℕ) (writer place : ℕ)
      (step : Step) : Type 0 where
    pub kept : Keeping book places
    pub there : writer < length book.load.now.scripts
    pub place_is : place ≡ slice_index_or places writer 0
    pub step_is : step_of book.load.now writer place ≡ Some step

  pub place_count : (book : Book U u) (places : List ℕ) (writer place : ℕ) (step : Step)
      → IsAt book places writer place step
      → place ≡ count_by (λ i. is_call_of writer i.origin) book.journal.items
  place_count book places writer place step a = a.place_is ∙ a.kept.places_are writer a.there

  pub next_step : (book : Book U u) (places : List ℕ) (writer place : ℕ) (step : Step)
      → IsAt book places writer place step
      → IsNextStep book.load.now (latest_first book.journal.items) (Call writer place)
  next_step book places writer place step a = (
    place_count book places writer place step a
        ∙ sym (count_latest (λ i. is_call_of writer i.origin) book.journal.items),
    place_within (script_of book.load.now writer) place step a.step_is,
  )

  -- the moment of a step is far from the end of its numbers
  pub moment_fits : (book : Book U u) (places : List ℕ) (writer place : ℕ) (step : Step)
      → IsAt book places writer place step → book.moment + step.advance ≤ 2 ^ 53
  moment_fits book places writer place step a = omega (
    arith,
    a.kept.clock,
    ticks_at book.load.now writer place step a.step_is,
    ticks_next book.load.now book.journal.items [] (Call writer place) a.kept.held.opened
        (next_step book places writer place step a) a.kept.limits,
  )

  -- there is room for the step and all that it answers
  pub ready_at : (old mid : Book U u) (places : List ℕ) (writer place : ℕ) (step : Step)
      → IsAt old places writer place step → Advances step.advance old mid
      → IsReadyFor (group_of mid.load.now (Call writer place)) mid
  ready_at old mid places writer place step at a =
      let load = old.load.now in
      let r = at.kept in
      let call = Call writer place in
      let may : MayCome load old.journal.items call = record {
        step = next_step old places writer place step at;
        command = λ (e : false ≡ true). absurd cc;
      } in
      let due : IsDue load [] call (answers_of load call) = inr (refl, refl, refl) in
      let items = due_items load old.journal.items [] (answers_of load call) call r.held.opened
      due may in
      let bytes = due_bytes load old.journal.items [] (answers_of load call) call r.held.opened
      due may old.texts in
      let ready : IsReady (items_ahead load (group_of load call))
      (bytes_ahead load (group_of load call)) mid = record {
        room = omega (
          arith,
          r.room,
          items,
          ap (λ v. length v.items) a.journal,
          ap vec_capacity a.journal,
        );
        within = omega (
          arith,
          r.bytes,
          bytes,
          ap length r.held.sent_is,
          ap (λ (e : U). length (u.sent e)) a.up,
          ap u.limit a.up,
        );
        few = omega (
          arith,
          r.held.pending_is,
          pending_few old.journal.items,
          items,
          few_needed load r.limits,
          a.pending,
        );
      } in
      subst (λ l. IsReady (items_ahead l (group_of l call)) (bytes_ahead l (group_of l call)) mid)
      (sym a.load) ready

  -- the ticks of the next step have passed
  next_moment : (old mid : Book U u) (places : List ℕ) (writer place : ℕ) (step : Step)
      → IsAt old places writer place step → Advances step.advance old mid
      → mid.moment ≡ step_ticks mid.load.now (Call writer place) + clock_of mid.load.now
      mid.journal.items
  next_moment old mid places writer place step at a =
      let load = old.load.now in
      let tick = ticks_at load writer place step at.step_is in
      let e : old.moment + step.advance ≡ step_ticks load (Call writer place) + clock_of load
      old.journal.items = omega (arith, at.kept.clock, tick) in
      rw (a.load, a.journal) (a.moment ∙ e)

  -- the calls of a writer after a step
  calls_more : (old mid new : Book U u) (writer place other m n : ℕ)
      → mid.journal ≡ old.journal → GoesWith (Call writer place ∷ []) m n mid new
      → count_by (λ i. is_call_of other i.origin) new.journal.items ≡ count_by
      (λ i. is_call_of other i.origin) old.journal.items + cond (writer == other) 1 0
  calls_more old mid new writer place other m n same goes =
      let before = count_by (λ (i : Item). is_call_of other i.origin) old.journal.items in
      ap (count_by (λ (i : Item). is_call_of other i.origin)) (goes.added
      ∙ ap (λ v. v.items ++ goes.more) same)
      ∙ sum_by-append (λ (i : Item). cond (is_call_of other i.origin) 1 0) old.journal.items
      goes.more
      ∙ ap (λ (k : ℕ). before + k) (calls_heads other goes.more
      ∙ ap (count_by (is_call_of other)) goes.headed ∙ one_call writer place other)

  -- a step was taken
  pub taken : (old mid new : Book U u) (places : List ℕ) (writer place : ℕ) (step : Step)
      → IsAt old places writer place step → Advances step.advance old mid
      → KeepsHead (Call writer place) mid new
      → GoesFor (Call writer place ∷ []) (group_of mid.load.now (Call writer place)) mid new
      → Keeping new (slice_set places writer (place + 1))
  taken old mid new places writer place step at a kept goes =
      let load = old.load.now in
      let r = at.kept in
      let call = Call writer place in
      let load_is : new.load.now ≡ load = goes.load ∙ a.load in
      let moment : new.moment ≡ old.moment + step.advance = goes.moment ∙ a.moment in
      let clock = rw (a.load, a.journal) at (clock-goes mid new (call ∷ [])
      (items_ahead mid.load.now (group_of mid.load.now call))
      (bytes_ahead mid.load.now (group_of mid.load.now call)) goes) in
      let tick = ticks_at load writer place step at.step_is in
      let held : HoldsOwing mid [] = rw (a.load, a.journal, a.up, a.on, a.pending, a.last) r.held in
      let next : IsNextStep mid.load.now (latest_first mid.journal.items) call =
      rw (a.load, a.journal) (next_step old places writer place step at) in
      let most : length load.scripts ≤ 16 = r.limits.writers in
      let whole : IsRecorder load new.journal.items (u.sent new.up) (u.freed new.up)
      (u.limit new.up) new.on new.pending new.last new.moment (slice_set places writer (place + 1))
      (vec_capacity new.journal) = record {
        limits = r.limits;
        held = subst (λ (l : Load). Keeps l new.journal.items [] (u.sent new.up) (u.freed new.up)
            new.on new.pending new.last) load_is (kept (record {
              held = held;
              here = record {
                may = record { step = next; command = λ (e : false ≡ true). absurd cc };
                place = tt;
              };
              clock = next_moment old mid places writer place step at a;
            }));
        clock = moment ∙ clock_is old.moment step.advance (step_ticks load call)
            (clock_of load old.journal.items) r.clock tick ∙ sym clock
            ∙ ap (λ (l : Load). clock_of l new.journal.items) load_is;
        writers = length-set places writer (place + 1) ∙ r.writers;
        places_are = λ other within.
            let more = calls_more old mid new writer place other
            (items_ahead mid.load.now (group_of mid.load.now call))
            (bytes_ahead mid.load.now (group_of mid.load.now call)) a.journal goes in
            dite (ℕ_discrete other writer)
            (λ same. subst (λ (w : ℕ). get_or (slice_set places writer (place + 1)) w 0 ≡ count_by
            (λ i. is_call_of w i.origin) new.journal.items) (sym same)
            (get_or-set_same places writer (place + 1) 0 (omega (arith, r.writers, most, at.there))
            ∙ here old new writer place (place_count old places writer place step at)
            (calls_more old mid new writer place writer
            (items_ahead mid.load.now (group_of mid.load.now call))
            (bytes_ahead mid.load.now (group_of mid.load.now call)) a.journal goes)))
            (λ apart. get_or-set_other places writer other (place + 1) 0 apart
            ∙ r.places_are other within ∙ there old new writer other
            (λ e. apart (sym e)) more);
        room = omega (arith, r.room, goes.capacity, ap vec_capacity a.journal);
        bytes = omega (arith, r.bytes, goes.limit_same, ap u.limit a.up);
      } in
      subst (λ (l : Load). IsRecorder l new.journal.items (u.sent new.up) (u.freed new.up)
      (u.limit new.up) new.on new.pending new.last new.moment
      (slice_set places writer (place + 1)) (vec_capacity new.journal)) (sym load_is) whole
    where
      clock_is : (m a t k : ℕ) → m ≡ k → t ≡ a → m + a ≡ k + (0 + t)
      clock_is m a t k p q = omega (arith, p, q)

      here : (old new : Book U u) (writer place : ℕ)
          → place ≡ count_by (λ i. is_call_of writer i.origin) old.journal.items
          → count_by (λ i. is_call_of writer i.origin) new.journal.items ≡ count_by
          (λ i. is_call_of writer i.origin) old.journal.items + cond (writer == writer) 1 0
          → place + 1 ≡ count_by (λ i. is_call_of writer i.origin) new.journal.items
      here old new writer place is more =
          omega (arith, is, more, ap {B = ℕ} (λ b. cond b 1 0) (eq-eqb writer writer refl))

      there : (old new : Book U u) (writer other : ℕ) → writer ≢ other
          → count_by (λ i. is_call_of other i.origin) new.journal.items ≡ count_by
          (λ i. is_call_of other i.origin) old.journal.items + cond (writer == other) 1 0
          → count_by (λ i. is_call_of other i.origin) old.journal.items ≡ count_by
          (λ i. is_call_of other i.origin) new.journal.items
      there old new writer other apart more =
          omega (arith, more, ap {B = ℕ} (λ b. cond b 1 0) (ne_eqb writer other apart))

  -- what was added after the ticks of a step
  pub section_goes : (old mid new : Book U u) (places : List ℕ) (writer place : ℕ) (step : Step)
      (found : Option Command) (m a : ℕ)
      → IsAt old places writer place step → Advances step.advance old mid
      → GoesWith (Call writer place ∷ command_head found) m a mid new
      → (s : IsSection old.journal.items new.journal.items writer found)
      × AreFreed old.load.now (latest_first old.journal.items) s.more (u.way old.up)
      (u.freed old.up) (u.way new.up) (u.freed new.up)
  section_goes old mid new places writer place step found m a at ad goes =
      let r = at.kept in
      let stream : u.sent mid.up ≡ stream_of mid.load.now mid.journal.items =
      rw (ad.load, ad.journal, ad.up) r.held.sent_is in
      let last : mid.last ≡ last_moment (latest_first mid.journal.items) =
      rw (ad.last, ad.journal) r.held.last_is in
      let ready : is_after_refused_overflow (latest_first mid.journal.items) ≡ false =
      rw ad.journal (after_refused-fresh (latest_first old.journal.items) r.held.opened.ends) in
      let moved = (goes.moved (record { stream = stream; last = last; ready = ready })).1 in (
        record {
          more = goes.more;
          longer = goes.added ∙ ap (λ v. v.items ++ goes.more) ad.journal;
          heads = goes.headed ∙ ap (λ (k : ℕ). Call writer k ∷ command_head found)
              (place_count old places writer place step at);
        },
        rw (ad.load, ad.journal, ad.up) at moved,
      )

  -- the group of the step, and that of a command that was found
  pub section_of : (old mid taken_book new : Book U u) (places : List ℕ) (writer place : ℕ)
      (step : Step) (found : Option Command) (m a n b : ℕ)
      → IsAt old places writer place step → Advances step.advance old mid
      → GoesWith (Call writer place ∷ []) m a mid taken_book
      → GoesWith (command_head found) n b taken_book new
      → (s : IsSection old.journal.items new.journal.items writer found)
      × AreFreed old.load.now (latest_first old.journal.items) s.more (u.way old.up)
      (u.freed old.up) (u.way new.up) (u.freed new.up)
  section_of old mid taken_book new places writer place step found m a n b at ad first second =
      section_goes old mid new places writer place step found (m + n) (a + b) at ad
      (goes-then mid taken_book new (Call writer place ∷ []) (command_head found) m n a b first
      second)
