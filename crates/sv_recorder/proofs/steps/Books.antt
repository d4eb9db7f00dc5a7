-- The books of the groups of a step.
use Rattle.std.proofs.Common.{◌≡◌, ℕ, ◌+◌, Bool, true, false, not, ◌&&◌, ◌||◌, List, []}
use Rattle.std.proofs.Common.{◌∷◌, ◌++◌, refl, sym, ap, ◌∙◌, subst, arith, replicate}
use Rattle.std.proofs.Common.{vec_capacity, inr, append-nil}
use Rattle.std.specs.Prelude.{Option, Some}
use Rattle.std.specs.Option.{option_map, option_map_or}
use Rattle.sv_ring.specs.declared.up_writer.UpWriter.{Ghosts}
use Rattle.sv_load.specs.declared.load.Act.{Act}
use Rattle.sv_load.specs.declared.load.Act.TheVariants as acts
use Rattle.sv_load.specs.declared.load.Step.{Step}
use Rattle.sv_load.specs.Load.{Load, act_of, step_of}
use Rattle.sv_load.specs.declared.load.Command.{Command}
use Rattle.sv_packet.specs.declared.event.Event.{Event}
use Rattle.sv_recorder.specs.declared.book.Book.{Book}
use Rattle.sv_recorder.specs.Kept.{Keeps}
use Rattle.sv_recorder.specs.Heads.{IsHeadDue, KeepsHead, Obeys, Owes}
use Rattle.sv_recorder.specs.Replies.{Gives, GoesFor, IsReadyFor}
use Rattle.sv_recorder.specs.Writes.{WritesItem, MovesBy, outcome_if, IsPacketHere}
use Rattle.sv_recorder.specs.Book.{HoldsOwing, HoldsAs, IsReady, Stays, GoesWith}
use Rattle.sv_recorder.proofs.moving.Entries.{headed_one, stored_length}
use Rattle.sv_recorder.proofs.moving.Moves.{write-moved}
use Rattle.sv_recorder.proofs.moving.Goes.{clock-goes, goes-less, goes-note, goes-then, goes-to}
use Rattle.sv_recorder.proofs.steps.Giving.{ready-goes}
use Rattle.sv_recorder.proofs.keeping.Groups.{handled, synced, reply_here, control_ahead}
use Rattle.sv_recorder.proofs.keeping.Groups.{control_head, event_owes, handled_unwritten}
use Rattle.sv_recorder.proofs.keeping.Groups.{head_alone, head_no_overflow}
use Rattle.sv_journal.specs.declared.journal.Kind.TheVariants as kinds
use Rattle.sv_journal.specs.declared.journal.Origin.{Origin}
use Rattle.sv_journal.specs.declared.journal.Origin.TheVariants.{Call, Sync, Reply}
use Rattle.sv_journal.specs.declared.journal.Outcome.TheVariants.{Handled}
use Rattle.sv_journal.specs.declared.journal.Item.{Item}
use Rattle.sv_journal.specs.Items.{latest_first, last_moment, is_stored, is_stop_reply}
use Rattle.sv_journal.specs.Items.{is_after_refused_overflow, is_start, item_of}
use Rattle.sv_journal.specs.Legal.{answers_of, group_of, step_ticks, is_control}
use Rattle.sv_journal.specs.Clock.{clock_of}
use Rattle.sv_journal.specs.declared.journal.Origin.TheVariants as origins
use Rattle.sv_journal.proofs.Shared.{latest_first-push, last_moment-other}
use Rattle.sv_need.specs.Weights.{items_ahead, bytes_ahead}

module _ {U : Type 0} {u : Ghosts U} where
  pub sync-goes : (old new : Book U u) (stored : Bool)
      → Stays old new → u.size old.up ≡ old.load.now.ring
      → (u.ring new.up ≡ u.ring old.up) × (u.size new.up ≡ u.size old.up)
      × (u.limit new.up ≡ u.limit old.up) → vec_capacity new.journal ≡ vec_capacity old.journal
      → WritesItem (u.size old.up) old.journal.items new.journal.items (u.sent old.up)
      (u.sent new.up)
      (u.freed old.up) (u.freed new.up) Sync old.moment (replicate 10 0) stored
      → MovesBy u.size u.sent u.freed u.way old.up new.up (replicate 10 0) stored
      → GoesWith [] 1 10 old new
  sync-goes old new stored written fits same capacity w moves =
      let i : Item = item_of Sync old.moment (u.freed new.up) (outcome_if stored) in
      let latest : latest_first new.journal.items ≡ i
      ∷ latest_first old.journal.items = ap latest_first w.item
      ∙ latest_first-push old.journal.items i in
      record {
        load = written.load;
        moment = written.moment;
        ring_same = same.0;
        size_same = same.1;
        limit_same = same.2;
        capacity = capacity;
        more = i ∷ [];
        added = w.item;
        headed = refl;
        few = omega arith;
        short = stored_length (u.sent old.up) (u.sent new.up) (replicate 10 0) stored w.grown;
        pending = omega (arith, written.pending);
        moved = λ s. let m = write-moved old new Sync (replicate 10 0) stored written fits w moves
            s.stream refl refl in (
              record {
                stream = m.0;
                last = written.last ∙ s.last ∙ sym (ap last_moment latest
                    ∙ last_moment-other (latest_first old.journal.items) i
                    (never (is_stored (outcome_if stored))));
                ready = ap is_after_refused_overflow latest;
              },
              m.1,
            );
      }
    where
      never : (b : Bool) → (b && false) ≡ false
      never true = refl
      never false = refl

  pub sync-holds : (old new : Book U u) (stored : Bool)
      → Stays old new → u.size old.up ≡ old.load.now.ring → old.on ≡ true
      → WritesItem (u.size old.up) old.journal.items new.journal.items (u.sent old.up)
      (u.sent new.up)
      (u.freed old.up) (u.freed new.up) Sync old.moment (replicate 10 0) stored
      → (rest : List Origin) → HoldsOwing old (Sync ∷ rest)
      → old.moment ≡ clock_of old.load.now old.journal.items → HoldsOwing new rest
  sync-holds old new stored written fits on writes rest k clock =
      let w : WritesItem old.load.now.ring old.journal.items new.journal.items (u.sent old.up)
      (u.sent new.up) (u.freed old.up) (u.freed new.up) Sync old.moment (replicate 10 0)
      stored =
      subst (λ (n : ℕ). WritesItem n old.journal.items new.journal.items (u.sent old.up)
      (u.sent new.up)
      (u.freed old.up) (u.freed new.up) Sync old.moment (replicate 10 0) stored) fits writes in
      let k2 : Keeps old.load.now old.journal.items (Sync ∷ rest) (u.sent old.up) (u.freed old.up)
      true old.pending old.last =
      subst (λ (b : Bool). Keeps old.load.now old.journal.items (Sync ∷ rest) (u.sent old.up)
      (u.freed old.up) b old.pending old.last) on k in
      let kept = synced old.load.now old.journal.items new.journal.items rest (u.sent old.up)
      (u.sent new.up) (u.freed old.up) (u.freed new.up) old.pending old.last old.moment stored
      k2 clock w in
      let load = written.load in
      let new_on : new.on ≡ true = written.on ∙ on in
      let pending : new.pending ≡ old.pending = written.pending in
      let last : new.last ≡ old.last = written.last in
      rw (load, new_on, pending, last) kept

  -- a start, a stop or a command is noted
  pub noted-holds : (old noted : Book U u) (head : Origin) (on : Bool)
      → Stays old noted → noted.up ≡ old.up
      → noted.journal.items ≡ old.journal.items ++ item_of head old.moment (u.freed old.up) Handled
      ∷ []
      → is_control old.load.now head ≡ true → on ≡ (is_start old.load.now head || old.on)
      → IsHeadDue head old → HoldsAs on noted (answers_of old.load.now head)
  noted-holds old noted head on stays up item control on_is due =
      let load = old.load.now in
      let kept = handled load old.journal.items (u.sent old.up) (u.freed old.up) old.on
      old.pending old.last head old.moment due.held control due.here due.clock in
      let there : Keeps load noted.journal.items (answers_of load head) (u.sent old.up)
      (u.freed old.up) on old.pending old.last =
      rw on_is (subst (λ (is : List Item). Keeps load is (answers_of load head) (u.sent old.up)
      (u.freed old.up) (is_start load head || old.on) old.pending old.last) (sym item) kept) in
      let at : noted.load.now ≡ load = stays.load in
      let pending : noted.pending ≡ old.pending = stays.pending in
      let last : noted.last ≡ old.last = stays.last in
      rw (at, up, pending, last) there

  -- and takes nothing from the ring
  pub noted-goes : (old noted new : Book U u) (head : Origin) → Stays old noted
      → noted.up ≡ old.up
      → noted.journal.items ≡ old.journal.items ++ item_of head old.moment (u.freed old.up) Handled
      ∷ []
      → is_control old.load.now head ≡ true
      → new.load.now ≡ noted.load.now → new.moment ≡ noted.moment → new.up ≡ noted.up
      → new.journal ≡ noted.journal → new.last ≡ noted.last → new.pending ≡ noted.pending
      → GoesWith (head ∷ []) 1 0 old new
  noted-goes old noted new head stays up item control load moment up_now journal last pending =
      let is = control_head old.load.now head control in
      let one = goes-note old noted head Handled stays up stays.capacity item
      (headed_one head old.moment (u.freed old.up) Handled) refl (head_no_overflow head is)
      (handled_unwritten (latest_first old.journal.items) head old.moment (u.freed old.up) is) in
      goes-to old noted new (head ∷ []) 1 0
      (subst (λ (os : List Origin). GoesWith os 1 0 old noted) (head_alone head is) one) load moment
      up_now journal last (omega (arith, pending, stays.pending))

  -- the clock goes on by the head
  pub clock-owes : (old mid : Book U u) (head : Origin) → Owes head old mid → IsHeadDue head old
      → mid.moment ≡ clock_of mid.load.now mid.journal.items
  clock-owes old mid head owes due = owes.goes.moment ∙ due.clock
      ∙ sym (clock-goes old mid (head ∷ []) 1 0 owes.goes
      ∙ one_head (clock_of old.load.now old.journal.items) (step_ticks old.load.now head))
    where
      one_head : (n m : ℕ) → n + (0 + m) ≡ m + n
      one_head n m = omega arith

  -- the answers that are owed after a head are given
  pub owes-gives : (old mid new : Book U u) (head : Origin) (os : List Origin) → Owes head old mid
      → Gives os mid new → answers_of old.load.now head ≡ os → KeepsHead head old new
  owes-gives old mid new head os owes gives are = λ due.
      let held = subst (HoldsOwing mid) (are ∙ sym (append-nil os)) (owes.kept due) in
      gives.kept [] held (clock-owes old mid head owes due)

  -- there is room for them
  pub owes-ready : (old mid : Book U u) (head : Origin) (os : List Origin)
      → is_control old.load.now head ≡ true → answers_of old.load.now head ≡ os
      → IsReadyFor (group_of old.load.now head) old → Owes head old mid → IsReadyFor os mid
  owes-ready old mid head os control are ready owes =
      let load = old.load.now in
      let most = control_ahead load head os control are in
      let both : IsReady (1 + items_ahead load os) (0 + bytes_ahead load os) old = record {
        room = omega (arith, ready.room, most.0);
        within = omega (arith, ready.within, most.1);
        few = omega (arith, ready.few, most.0);
      } in
      subst (λ l. IsReady (items_ahead l os) (bytes_ahead l os) mid) (sym owes.goes.load)
      (ready-goes old mid (head ∷ []) 1 (items_ahead load os) 0 (bytes_ahead load os) both
      owes.goes)

  pub one_ready : (old : Book U u) (head : Origin) → is_control old.load.now head ≡ true
      → IsReadyFor (group_of old.load.now head) old → IsReady 1 0 old
  one_ready old head control ready =
      let most = control_ahead old.load.now head (answers_of old.load.now head) control refl in
      record {
        room = omega (arith, ready.room, most.0);
        within = omega (arith, ready.within, most.1);
        few = omega (arith, ready.few, most.0);
      }

  -- the whole group is added
  pub owes-goes : (old mid new : Book U u) (head : Origin) (os : List Origin)
      → is_control old.load.now head ≡ true → answers_of old.load.now head ≡ os
      → Owes head old mid → GoesFor [] os mid new
      → GoesFor (head ∷ []) (group_of old.load.now head) old new
  owes-goes old mid new head os control are owes goes =
      let load = old.load.now in
      let most = control_ahead load head os control are in
      let after : GoesWith [] (items_ahead load os) (bytes_ahead load os) mid new =
      subst (λ l. GoesWith [] (items_ahead l os) (bytes_ahead l os) mid new) owes.goes.load goes in
      let both = goes-then old mid new (head ∷ []) [] 1 (items_ahead load os) 0
      (bytes_ahead load os) owes.goes after in
      goes-less old new (head ∷ []) (1 + items_ahead load os)
      (items_ahead load (group_of load head)) (0 + bytes_ahead load os)
      (bytes_ahead load (group_of load head)) both (omega (arith, most.0)) (omega (arith, most.1))

  -- a stop
  pub stop-holds : (old mid packed : Book U u) (head : Origin) → Owes head old mid
      → answers_of old.load.now head ≡ Reply kinds.TraceStop 0 ∷ []
      → ((owed rest : List Origin) → HoldsOwing mid owed
      → IsPacketHere mid.load.now mid.journal.items owed (Reply kinds.TraceStop 0)
      mid.moment rest → HoldsAs (mid.on && not (is_stop_reply (Reply kinds.TraceStop 0)))
      packed rest)
      → IsHeadDue head old → HoldsAs false packed []
  stop-holds old mid packed head owes are packet_kept due =
      let held : HoldsOwing mid (Reply kinds.TraceStop 0 ∷ []) = subst (HoldsOwing mid) are
      (owes.kept due) in
      let told = packet_kept (Reply kinds.TraceStop 0 ∷ []) [] held
      (reply_here mid.load.now mid.journal.items kinds.TraceStop 0 mid.moment []
      (clock-owes old mid head owes due)) in
      subst (λ (b : Bool). HoldsAs b packed []) (none mid.on) told
    where
      none : (b : Bool) → (b && false) ≡ false
      none true = refl
      none false = refl

  -- a command that was found
  pub obeys : (old new : Book U u) (command : Command) (found : Option Command)
      → found ≡ Some command
      → KeepsHead (origins.Command command.byte command.param) old new
      → GoesFor (origins.Command command.byte command.param ∷ [])
      (group_of old.load.now (origins.Command command.byte command.param)) old new
      → Obeys found old new
  obeys old new command found is kept goes = subst (λ (f : Option Command). Obeys f old new)
      (sym is)
      (record {
        items = items_ahead old.load.now (group_of old.load.now head);
        bytes = bytes_ahead old.load.now (group_of old.load.now head);
        goes = goes;
        kept = λ held clock here. kept (record {
          held = held;
          here = here;
          clock = let e : old.moment ≡ 0 + clock_of old.load.now
              old.journal.items = omega (arith, clock) in e;
        });
      })
    where
      head : Origin
      head = origins.Command command.byte command.param

  -- a step that records an event
  pub event-holds : (old new : Book U u) (writer step : ℕ) (event : Event)
      → act_of old.load.now writer step ≡ Some (acts.Event event)
      → ((owed rest : List Origin) → HoldsOwing old owed
      → IsPacketHere old.load.now old.journal.items owed (Call writer step) old.moment rest
      → HoldsAs (old.on && not (is_stop_reply (Call writer step))) new rest)
      → new.on ≡ old.on
      → KeepsHead (Call writer step) old new
  event-holds old new writer step event act packet_kept on = λ due.
      let owes = event_owes old.load.now writer step (acts.Event event) act refl refl in
      let told = packet_kept [] [] due.held (record {
        telling = refl;
        control = owes.1;
        due = inr (refl, refl, sym owes.0);
        step = due.here.may.step;
        ticks = due.clock;
      }) in
      subst (λ (b : Bool). HoldsAs b new []) (always old.on ∙ sym on) told
    where
      always : (b : Bool) → (b && true) ≡ b
      always true = refl
      always false = refl

-- a step's ticks stand in its call
pub ticks_at : (load : Load) (writer place : ℕ) (step : Step)
    → step_of load writer place ≡ Some step → step_ticks load (Call writer place) ≡ step.advance
ticks_at load writer place step is = ap (λ s. option_map_or (λ (t : Step). t.advance) s 0) is

pub act_at : (load : Load) (writer place : ℕ) (step : Step) (act : Act)
    → step_of load writer place ≡ Some step → step.act ≡ act → act_of load writer place ≡ Some act
act_at load writer place step act is same = ap (option_map (λ (t : Step). t.act)) is ∙ ap Some same
