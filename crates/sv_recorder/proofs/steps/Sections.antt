-- A section whole: the group of a step, and what the host asked after it.
use Rattle.std.proofs.Common.{◌≡◌, ℕ, ◌+◌, List, [], ◌∷◌, ◌++◌, length, sym, ap}
use Rattle.std.proofs.Common.{◌∙◌, subst, arith, append-nil, append_assoc, inl, inr}
use Rattle.std.specs.Prelude.{Option, Some, None, IfSome, count_by}
use Rattle.sv_ring.specs.declared.up_writer.UpWriter.{Ghosts}
use Rattle.sv_ring.specs.declared.down_reader.DownReader as down_reader
use Rattle.sv_ring.specs.Down.{given, IsFront}
use Rattle.sv_load.specs.declared.load.Command.{Command}
use Rattle.sv_load.specs.declared.load.Step.{Step}
use Rattle.sv_load.specs.Load.{Load}
use Rattle.sv_journal.specs.declared.journal.Item.{Item}
use Rattle.sv_journal.specs.declared.journal.Origin.{Origin}
use Rattle.sv_journal.specs.declared.journal.Origin.TheVariants as origins
use Rattle.sv_journal.specs.declared.journal.Outcome.{Outcome}
use Rattle.sv_journal.specs.Items.{latest_first, is_command}
use Rattle.sv_journal.specs.Legal.{group_of}
use Rattle.sv_journal.specs.Section.{IsSection, command_head}
use Rattle.sv_recorder.specs.declared.answer.Answer.{Answer}
use Rattle.sv_recorder.specs.declared.book.Book.{Book}
use Rattle.sv_recorder.specs.declared.inbox.Inbox.{Inbox}
use Rattle.sv_recorder.specs.Answer.{Gains, IsAnswered}
use Rattle.sv_recorder.specs.Asked.{HasAsked}
use Rattle.sv_recorder.specs.Book.{Advances, GoesWith}
use Rattle.sv_recorder.specs.Commands.{Asks, found_bytes, HasParam, MayWait}
use Rattle.sv_recorder.specs.Freed.{AreFreed}
use Rattle.sv_recorder.specs.Heads.{IsHeadHere, Obeys}
use Rattle.sv_recorder.specs.Recording.{IsInbox, Recording}
use Rattle.sv_recorder.specs.Replies.{GoesFor, IsReadyFor}
use Rattle.sv_recorder.proofs.steps.Commands.{command_here, command_ready, kept_inbox}
use Rattle.sv_recorder.proofs.moving.Goes.{goes-then}
use Rattle.sv_recorder.proofs.steps.Recorders.{IsAt, Keeping, section_of}
use Rattle.sv_recorder.proofs.steps.Views.{IsShown}
use Rattle.sv_need.specs.Weights.{items_ahead, bytes_ahead}

-- an answer stays what it was while more is added
pub gains_later : (old mid new more : List Item) (origin : Origin) (outcome : Outcome)
    → Gains old mid origin outcome → new ≡ mid ++ more → Gains old new origin outcome
gains_later old mid new more origin outcome g grown = record {
  before = g.before;
  item = g.item;
  later = g.later ++ more;
  gained = grown ∙ ap (λ (is : List Item). is ++ more) g.gained
      ∙ append_assoc old (g.before ++ g.item ∷ g.later) more
      ∙ ap (λ (is : List Item). old ++ is) (append_assoc g.before (g.item ∷ g.later) more);
  origin_is = g.origin_is;
  outcome_is = g.outcome_is;
}

abbrev SectionOf : Recording → Recording → ℕ → Type 0
SectionOf view now writer = (found : Option Command)
    × (s : IsSection view.items now.items writer found)
    × AreFreed view.load (latest_first view.items) s.more view.way view.freed now.way now.freed
    × HasAsked view now found

module _ {D : Type 0} (d : down_reader.Ghosts D) where
  abbrev pub Asking : ℕ → Inbox D → Inbox D → Option Command → Type 0
  Asking most inbox now found = Asks d.ring d.answered d.empties d.asked most inbox now found

  -- the names of the ring and what was sent by it stay
  pub asks_same : (inbox now : Inbox D) (most : ℕ) (found : Option Command)
      → Asking most inbox now found
      → (d.ring now.down ≡ d.ring inbox.down) × (d.asked now.down ≡ d.asked inbox.down)
  asks_same inbox now most found (inl none) = (
    ap (λ (i : Inbox D). d.ring i.down) none.2,
    ap (λ (i : Inbox D). d.asked i.down) none.2,
  )
  asks_same inbox now most found (inr some) = (some.1.ring_same, some.1.asked_same)

  -- where the ring tells what was sent, the first of that are taken
  pub asks_front : (inbox now : Inbox D) (most : ℕ) (found : Option Command)
      → Asking most inbox now found → IfSome (d.asked inbox.down) (IsFront (d.answered inbox.down))
      → IfSome (d.asked now.down) (IsFront (d.answered now.down))
  asks_front inbox now most found (inl none) front =
      subst (λ (i : Inbox D). IfSome (d.asked i.down) (IsFront (d.answered i.down)))
      (sym none.2) front
  asks_front inbox now most found (inr some) front = some.1.front front

module _ {U : Type 0} {u : Ghosts U} {D : Type 0} (d : down_reader.Ghosts D) where
  -- what contracts see of a book and an inbox
  abbrev pub Shown : Book U u → Inbox D → Recording
  Shown book inbox = record {
    load = book.load.now;
    items = book.journal.items;
    ring = u.ring book.up;
    size = u.size book.up;
    limit = u.limit book.up;
    sent = u.sent book.up;
    freed = u.freed book.up;
    way = u.way book.up;
    down = d.ring inbox.down;
    answered = d.answered inbox.down;
    asked = d.asked inbox.down;
    empties = d.empties inbox.down;
    kept = given inbox.kept;
  }

  pub is_shown : (book : Book U u) (inbox : Inbox D) (view : Recording) → Shown book inbox ≡ view
      → IsShown book view
  is_shown book inbox view is = (
    ap (λ (v : Recording). v.load) is,
    ap (λ (v : Recording). v.items) is,
  )

  -- what a section asked of the host
  pub asked_of : (old new : Book U u) (inbox now : Inbox D) (most : ℕ) (found : Option Command)
      → Asking d most inbox now found → most ≡ length old.load.now.commands
      → inbox.count ≡ count_by (λ i. is_command i.origin) old.journal.items
      → HasAsked (Shown old inbox) (Shown new now) found
  asked_of old new inbox now most found (inl none) is count =
      let same = none.2 in
      let no_command : found ≡ None = none.1 in
      record {
        taken = [];
        answered = ap (λ (i : Inbox D). d.answered i.down) same
            ∙ sym (append-nil (d.answered inbox.down));
        bytes = append-nil (given inbox.kept) ∙ sym
            (ap (λ (f : Option Command). found_bytes f ++ given now.kept) no_command
            ∙ ap (λ (i : Inbox D). given i.kept) same);
        param = subst (λ (f : Option Command). IfSome f HasParam) (sym no_command) tt;
        alone = subst (λ (f : Option Command). IfSome f (λ command. given now.kept ≡ []))
            (sym no_command) tt;
        through = λ h. (
          no_command,
          record {
            answered = ap (λ (i : Inbox D). d.answered i.down) same;
            empties = ap (λ (i : Inbox D). d.empties i.down) same;
            kept = ap (λ (i : Inbox D). given i.kept) same;
          },
        );
        none = λ few e. absurd (omega (arith, few, none.0, is, count));
      }
  asked_of old new inbox now most found (inr some) is count =
      let t = some.1 in
      record {
        taken = t.taken;
        answered = t.gained;
        bytes = t.bytes;
        param = t.param;
        alone = t.alone;
        through = λ h. absurd (omega (arith, h, some.0, is, count));
        none = λ few e. record { empties = (t.none e).0; all = (t.none e).1 };
      }

  -- a command that was found may come
  pub found_here : (old mid new : Book U u) (inbox now : Inbox D) (writer place m a most : ℕ)
      (found : Option Command)
      → Asking d most inbox now found → most ≡ length old.load.now.commands
      → inbox.count ≡ count_by (λ i. is_command i.origin) old.journal.items
      → mid.journal ≡ old.journal → mid.load.now ≡ old.load.now
      → GoesWith (origins.Call writer place ∷ []) m a mid new
      → IfSome found (λ command. IsHeadHere new.load.now new.journal.items
      (origins.Command command.byte command.param))
  found_here old mid new inbox now writer place m a most None asks is count journal load goes = tt
  found_here old mid new inbox now writer place m a most (Some command) (inl none) is count journal
      load goes = absurd (there none.1)
    where
      there : {c : Command} → Some c ≡ None → ⊥
      there e = cc
  found_here old mid new inbox now writer place m a most (Some command) (inr some) is count journal
      load goes = command_here old mid new writer place m a inbox.count command journal load goes
      count (omega (arith, some.0, is)) some.1.param

  -- what is kept of the host's commands
  pub inbox_kept : (old mid taken_book new : Book U u) (inbox now : Inbox D)
      (writer place m a : ℕ) (found : Option Command)
      → IsInbox old.journal.items (d.answered inbox.down) (given inbox.kept) inbox.count
      → mid.journal ≡ old.journal
      → GoesWith (origins.Call writer place ∷ []) m a mid taken_book → Obeys found taken_book new
      → HasAsked (Shown old inbox) (Shown new now) found
      → now.count ≡ inbox.count + length (command_head found) → MayWait (given now.kept)
      → IsInbox new.journal.items (d.answered now.down) (given now.kept) now.count
  inbox_kept old mid taken_book new inbox now writer place m a found k journal first o asked
      counted waits =
      let goes = goes-then mid taken_book new (origins.Call writer place ∷ []) (command_head found)
      m o.items a o.bytes first o.goes in
      subst (λ (is : List Item). IsInbox is (d.answered now.down) (given now.kept) now.count)
      (sym (goes.added ∙ ap (λ v. v.items ++ goes.more) journal))
      (kept_inbox old.journal.items goes.more writer place found (d.answered inbox.down)
      (given inbox.kept) (d.answered now.down) (given now.kept) asked.taken inbox.count now.count k
      goes.headed asked.answered asked.bytes counted waits)

  pub section_shown : (old mid taken_book new : Book U u) (inbox now : Inbox D) (places : List ℕ)
      (writer place most : ℕ) (step : Step) (found : Option Command) (view : Recording)
      → Shown old inbox ≡ view → IsAt old places writer place step → Advances step.advance old mid
      → GoesFor (origins.Call writer place ∷ [])
      (group_of mid.load.now (origins.Call writer place)) mid taken_book
      → Obeys found taken_book new → Asking d most inbox now found
      → most ≡ length old.load.now.commands
      → inbox.count ≡ count_by (λ i. is_command i.origin) old.journal.items
      → SectionOf view (Shown new now) writer
  section_shown old mid taken_book new inbox now places writer place most step found view is at ad
      goes o asks most_is count =
      let call = origins.Call writer place in
      let s = section_of old mid taken_book new places writer place step found
      (items_ahead mid.load.now (group_of mid.load.now call))
      (bytes_ahead mid.load.now (group_of mid.load.now call)) o.items o.bytes at ad goes o.goes in
      subst (λ (v : Recording). SectionOf v (Shown new now) writer) is
      (found, s.0, s.1, asked_of old new inbox now most found asks most_is count)

module _ {U : Type 0} {u : Ghosts U} where
  -- there is room for a command that was found
  pub found_ready : (book : Book U u) (places : List ℕ) (found : Option Command)
      → Keeping book places
      → IfSome found (λ command. IsHeadHere book.load.now book.journal.items
      (origins.Command command.byte command.param))
      → IfSome found (λ command. IsReadyFor
      (group_of book.load.now (origins.Command command.byte command.param)) book)
  found_ready book places None r here = tt
  found_ready book places (Some command) r here = command_ready book places command r here

  -- the answer is what became of the step's call
  pub answer_stays : (load : Load) (items : List Item) (mid new : Book U u)
      (found : Option Command) (origin : Origin) (answer : Answer)
      → IsAnswered load items mid.journal.items origin answer → Obeys found mid new
      → IsAnswered load items new.journal.items origin answer
  answer_stays load items mid new found origin answer (inl ran) o = inl ran
  answer_stays load items mid new found origin answer (inr told) o = inr (
    told.0,
    told.1,
    gains_later items mid.journal.items new.journal.items o.goes.more origin told.1 told.2
        o.goes.added,
    told.3,
  )
