-- A command after the group of a step.
use Rattle.std.proofs.Common.{◌≡◌, ℕ, ◌+◌, ◌<◌, Bool, true, false, not, cond, List, [], ◌∷◌}
use Rattle.std.proofs.Common.{◌++◌, length, get_or, drop, refl, sym, ap, ◌∙◌, subst, arith}
use Rattle.std.proofs.Common.{append_assoc, append-nil, vec_capacity, inr}
use Rattle.std.specs.Prelude.{Option, Some, None, filter, flat_map, count_by, sum_by}
use Rattle.std.specs.Prelude.{map, IfSome}
use Rattle.std.proofs.lemmas.List.Concat.{flat_map-append, flat_map-cons}
use Rattle.std.proofs.lemmas.List.Sums.{sum_by-cons, sum_by-append}
use Rattle.sv_ring.specs.declared.up_writer.UpWriter.{Ghosts}
use Rattle.sv_load.specs.declared.load.Command.{Command}
use Rattle.sv_load.specs.Load.{Load}
use Rattle.sv_journal.specs.declared.journal.Origin.{Origin}
use Rattle.sv_journal.specs.declared.journal.Origin.TheVariants as origins
use Rattle.sv_journal.specs.declared.journal.Item.{Item}
use Rattle.sv_journal.specs.Clock.{clock_of}
use Rattle.sv_journal.specs.Items.{latest_first, is_call, is_call_of, is_command, is_overflow}
use Rattle.sv_journal.specs.Legal.{is_after_call_group, is_head, origins_of, group_of, step_ticks}
use Rattle.sv_journal.specs.Legal.{answers_of, command_in, commands_in}
use Rattle.sv_journal.specs.Open.{IsDue}
use Rattle.sv_journal.specs.Section.{command_head}
use Rattle.sv_journal.proofs.Shared.{latest_first-push}
use Rattle.sv_need.proofs.Shared.{due_items, due_bytes, few_needed}
use Rattle.sv_recorder.specs.declared.book.Book.{Book}
use Rattle.sv_recorder.specs.Book.{GoesWith}
use Rattle.sv_recorder.specs.Commands.{command_bytes_in, command_bytes, found_bytes, HasParam}
use Rattle.sv_recorder.specs.Commands.{MayWait}
use Rattle.sv_recorder.specs.Heads.{IsHeadHere, Obeys}
use Rattle.sv_recorder.specs.Kept.{Keeps}
use Rattle.sv_recorder.specs.Recording.{IsInbox, IsRecorder}
use Rattle.sv_recorder.specs.Replies.{IsReadyFor}
use Rattle.sv_recorder.proofs.moving.Goes.{calls_heads, clock-goes}
use Rattle.sv_recorder.proofs.steps.Recorders.{Keeping, pending_few}

-- the heads among some origins
abbrev heads_in : List Origin → List Origin
heads_in os = filter is_head (filter (λ o. not (is_overflow o)) os)

heads-skip : (o : Origin) (os : List Origin) → is_head o ≡ false → heads_in (o ∷ os) ≡ heads_in os
heads-skip (origins.Call writer step) os other = absurd cc
heads-skip origins.Sync os other = refl
heads-skip (origins.Reply kind index) os other = refl
heads-skip (origins.Overflow count) os other = refl
heads-skip (origins.Command byte param) os other = absurd cc

heads-take : (o : Origin) (os : List Origin) → is_head o ≡ true
    → heads_in (o ∷ os) ≡ o ∷ heads_in os
heads-take (origins.Call writer step) os head = refl
heads-take origins.Sync os head = absurd cc
heads-take (origins.Reply kind index) os head = absurd cc
heads-take (origins.Overflow count) os head = absurd cc
heads-take (origins.Command byte param) os head = refl

-- the latest group is that of the latest head
group-skip : (i : Item) (earlier : List Item) → is_head i.origin ≡ false
    → is_after_call_group (i ∷ earlier) ≡ is_after_call_group earlier
group-skip i earlier other = rw other refl

group-take : (i : Item) (earlier : List Item) → is_head i.origin ≡ true
    → is_after_call_group (i ∷ earlier) ≡ is_call i.origin
group-take i earlier head = rw head refl

-- an item more at the front of what is added
regrouped : (items : List Item) (i : Item) (more : List Item)
    → items ++ i ∷ more ≡ (items ++ i ∷ []) ++ more
regrouped items i more = sym (append_assoc items (i ∷ []) more)

-- where no head is added the latest group stays
group-none : (items more : List Item) → filter is_head (origins_of more) ≡ []
    → is_after_call_group (latest_first (items ++ more)) ≡ is_after_call_group (latest_first items)
group-none items [] none = ap (λ is. is_after_call_group (latest_first is)) (append-nil items)
group-none items (i ∷ more) none = by (is_head i.origin) refl
    (λ rest. group-none (items ++ i ∷ []) more rest)
  where
    by : (b : Bool) → is_head i.origin ≡ b
        → (filter is_head (origins_of more) ≡ []
        → is_after_call_group (latest_first ((items ++ i ∷ []) ++ more))
        ≡ is_after_call_group (latest_first (items ++ i ∷ [])))
        → is_after_call_group (latest_first (items ++ i ∷ more))
        ≡ is_after_call_group (latest_first items)
    by true head next = absurd (filled (sym (heads-take i.origin (map (λ
        (j : Item). j.origin) more) head)
        ∙ none))
      where
        filled : {o : Origin} {os : List Origin} → o ∷ os ≡ [] → ⊥
        filled e = cc
    by false other next =
        ap (λ is. is_after_call_group (latest_first is)) (regrouped items i more)
        ∙ next (sym (heads-skip i.origin (map (λ (j : Item). j.origin) more) other) ∙ none)
        ∙ ap is_after_call_group (latest_first-push items i)
        ∙ group-skip i (latest_first items) other

-- where the heads that are added are a call, the latest group is that call's
pub group-call : (items more : List Item) (writer place : ℕ)
    → filter is_head (origins_of more) ≡ origins.Call writer place ∷ []
    → is_after_call_group (latest_first (items ++ more)) ≡ true
group-call items [] writer place one = absurd (filled one)
  where
    filled : {o : Origin} {os : List Origin} → [] ≡ o ∷ os → ⊥
    filled e = cc
group-call items (i ∷ more) writer place one = by (is_head i.origin) refl
    (λ rest. group-call (items ++ i ∷ []) more writer place rest)
  where
    by : (b : Bool) → is_head i.origin ≡ b
        → (filter is_head (origins_of more) ≡ origins.Call writer place ∷ []
        → is_after_call_group (latest_first ((items ++ i ∷ []) ++ more)) ≡ true)
        → is_after_call_group (latest_first (items ++ i ∷ more)) ≡ true
    by true head next =
        let split : i.origin ∷ heads_in (map (λ (j : Item). j.origin) more)
        ≡ origins.Call writer place ∷ [] =
        sym (heads-take i.origin (map (λ (j : Item). j.origin) more) head) ∙ one in
        ap (λ is. is_after_call_group (latest_first is)) (regrouped items i more)
        ∙ group-none (items ++ i ∷ []) more (ap (drop 1) split)
        ∙ ap is_after_call_group (latest_first-push items i)
        ∙ group-take i (latest_first items) head
        ∙ ap is_call (ap (λ os. get_or os 0 origins.Sync) split)
    by false other next =
        ap (λ is. is_after_call_group (latest_first is)) (regrouped items i more)
        ∙ next (sym (heads-skip i.origin (map (λ (j : Item). j.origin) more) other) ∙ one)

-- only heads are commands
head_commands : (o : Origin) (os : List Origin)
    → count_by is_command (heads_in (o ∷ os)) ≡ cond (is_command o) 1 0 + count_by
    is_command (heads_in os)
head_commands (origins.Call writer step) os = sum_by-cons
    (λ (p : Origin). cond (is_command p) 1 0) (origins.Call writer step) (heads_in os)
head_commands origins.Sync os = omega arith
head_commands (origins.Reply kind index) os = omega arith
head_commands (origins.Overflow count) os = omega arith
head_commands (origins.Command byte param) os = sum_by-cons
    (λ (p : Origin). cond (is_command p) 1 0) (origins.Command byte param) (heads_in os)

commands_heads : (items : List Item)
    → count_by (λ i. is_command i.origin) items ≡ count_by is_command
    (filter is_head (origins_of items))
commands_heads [] = refl
commands_heads (i ∷ items) =
    sum_by-cons (λ (j : Item). cond (is_command j.origin) 1 0) i items
    ∙ ap (λ (n : ℕ). cond (is_command i.origin) 1 0 + n) (commands_heads items)
    ∙ sym (head_commands i.origin (map (λ (j : Item). j.origin) items))

-- how many commands there are after these heads more
pub commands_more : (items more : List Item) (heads : List Origin)
    → filter is_head (origins_of more) ≡ heads
    → count_by (λ i. is_command i.origin) (items ++ more)
    ≡ count_by (λ i. is_command i.origin) items
    + count_by is_command heads
commands_more items more heads are =
    sum_by-append (λ (i : Item). cond (is_command i.origin) 1 0) items more
    ∙ ap (λ (n : ℕ). count_by (λ (i : Item). is_command i.origin) items + n)
    (commands_heads more ∙ ap (count_by is_command) are)

-- the commands among some items are those among their heads
head_found : (o : Origin) (os : List Origin)
    → flat_map command_in (heads_in (o ∷ os)) ≡ command_in o ++ flat_map command_in (heads_in os)
head_found (origins.Call writer step) os = flat_map-cons command_in (origins.Call writer step)
    (heads_in os)
head_found origins.Sync os = refl
head_found (origins.Reply kind index) os = refl
head_found (origins.Overflow count) os = refl
head_found (origins.Command byte param) os = flat_map-cons command_in (origins.Command byte param)
    (heads_in os)

found_heads : (items : List Item)
    → commands_in items ≡ flat_map command_in (filter is_head (origins_of items))
found_heads [] = refl
found_heads (i ∷ items) =
    flat_map-cons (λ (j : Item). command_in j.origin) i items
    ∙ ap (λ (cs : List Command). command_in i.origin ++ cs) (found_heads items)
    ∙ sym (head_found i.origin (map (λ (j : Item). j.origin) items))

-- the bytes of the commands after a step's call and a command that was found
pub bytes_more : (items more : List Item) (writer place : ℕ) (found : Option Command)
    → filter is_head (origins_of more) ≡ origins.Call writer place ∷ command_head found
    → command_bytes_in (items ++ more) ≡ command_bytes_in items ++ found_bytes found
bytes_more items more writer place found are =
    ap (flat_map command_bytes) (flat_map-append (λ (i : Item). command_in i.origin) items more)
    ∙ flat_map-append command_bytes (commands_in items) (commands_in more)
    ∙ ap (λ (bs : List ℕ). command_bytes_in items ++ bs) (ap (flat_map command_bytes)
    (found_heads more ∙ ap (flat_map command_in) are) ∙ by found)
  where
    by : (f : Option Command)
        → flat_map command_bytes (flat_map command_in (origins.Call writer place ∷ command_head f))
        ≡ found_bytes f
    by None = refl
    by (Some command) = append-nil (command_bytes command)

-- one command at most was found
pub found_count : (writer place : ℕ) (found : Option Command)
    → count_by is_command (origins.Call writer place ∷ command_head found)
    ≡ length (command_head found)
found_count writer place None = refl
found_count writer place (Some command) = refl

-- what is kept of the host's commands, after a section
pub kept_inbox : (items more : List Item) (writer place : ℕ) (found : Option Command)
    (answered kept answered_now kept_now taken : List ℕ) (count count_now : ℕ)
    → IsInbox items answered kept count
    → filter is_head (origins_of more) ≡ origins.Call writer place ∷ command_head found
    → answered_now ≡ answered ++ taken → kept ++ taken ≡ found_bytes found ++ kept_now
    → count_now ≡ count + length (command_head found) → MayWait kept_now
    → IsInbox (items ++ more) answered_now kept_now count_now
kept_inbox items more writer place found answered kept answered_now kept_now taken count count_now k
    are gained bytes counted waits = record {
      count_is = omega (
        arith,
        counted,
        k.count_is,
        commands_more items more (origins.Call writer place ∷ command_head found) are,
        found_count writer place found,
      );
      answered_is = gained ∙ ap (λ (bs : List ℕ). bs ++ taken) k.answered_is
          ∙ append_assoc (command_bytes_in items) kept taken
          ∙ ap (λ (bs : List ℕ). command_bytes_in items ++ bs) bytes
          ∙ sym (append_assoc (command_bytes_in items) (found_bytes found) kept_now)
          ∙ ap (λ (bs : List ℕ). bs ++ kept_now)
          (sym (bytes_more items more writer place found are));
      waits = waits;
    }

module _ {U : Type 0} {u : Ghosts U} where
  -- a command that may come after a step
  pub command_here : (old mid new : Book U u) (writer place m a count : ℕ) (command : Command)
      → mid.journal ≡ old.journal → mid.load.now ≡ old.load.now
      → GoesWith (origins.Call writer place ∷ []) m a mid new
      → count ≡ count_by (λ i. is_command i.origin) old.journal.items
      → count < length old.load.now.commands → HasParam command
      → IsHeadHere new.load.now new.journal.items
      (origins.Command command.byte command.param)
  command_here old mid new writer place m a count command journal load goes count_is few param =
      let as_many : count_by (λ i. is_command i.origin) new.journal.items ≡ count_by
      (λ i. is_command i.origin) old.journal.items + 0 =
      ap (count_by (λ (i : Item). is_command i.origin)) (goes.added
      ∙ ap (λ v. v.items ++ goes.more) journal)
      ∙ commands_more old.journal.items goes.more (origins.Call writer place ∷ []) goes.headed in
      let most : length new.load.now.commands ≡ length old.load.now.commands =
      ap (λ (l : Load). length l.commands) (goes.load ∙ load) in
      record {
        may = record { step = tt; command = λ e. omega (arith, as_many, most, count_is, few) };
        place = (
          ap (λ is. is_after_call_group (latest_first is)) goes.added
              ∙ group-call mid.journal.items goes.more writer place goes.headed,
          param,
        );
      }

  -- there is room for it and all that it answers
  pub command_ready : (book : Book U u) (places : List ℕ) (command : Command)
      → Keeping book places
      → IsHeadHere book.load.now book.journal.items
      (origins.Command command.byte command.param)
      → IsReadyFor (group_of book.load.now (origins.Command command.byte command.param)) book
  command_ready book places command r here =
      let load = book.load.now in
      let head = origins.Command command.byte command.param in
      let due : IsDue load [] head (answers_of load head) = inr (refl, refl, refl) in
      let items = due_items load book.journal.items [] (answers_of load head) head r.held.opened
      due here.may in
      let bytes = due_bytes load book.journal.items [] (answers_of load head) head r.held.opened
      due here.may book.texts in
      record {
        room = omega (arith, r.room, items);
        within = omega (arith, r.bytes, bytes, ap length r.held.sent_is);
        few = omega (
          arith,
          r.held.pending_is,
          pending_few book.journal.items,
          items,
          few_needed load r.limits,
        );
      }

  -- the recorder after it
  pub obeyed : (old new : Book U u) (places : List ℕ) (found : Option Command)
      → Keeping old places
      → IfSome found (λ command. IsHeadHere old.load.now old.journal.items
      (origins.Command command.byte command.param))
      → Obeys found old new → Keeping new places
  obeyed old new places found r here o =
      let goes = o.goes in
      let same : new.load.now ≡ old.load.now = goes.load in
      let clock = clock-goes old new (command_head found) o.items o.bytes goes in
      let clocked : new.moment ≡ clock_of old.load.now new.journal.items = omega (
        arith,
        goes.moment,
        r.clock,
        ap (λ (l : Load). clock_of l new.journal.items) same,
        clock,
        no_ticks old.load.now found,
      ) in
      let whole : IsRecorder old.load.now new.journal.items (u.sent new.up) (u.freed new.up)
      (u.limit new.up) new.on new.pending new.last new.moment places (vec_capacity new.journal) =
      record {
        limits = r.limits;
        held = subst (λ (l : Load). Keeps l new.journal.items [] (u.sent new.up) (u.freed new.up)
            new.on new.pending new.last) same (o.kept r.held r.clock here);
        clock = clocked;
        writers = r.writers;
        places_are = λ other within. r.places_are other within ∙ sym (calls_same other);
        room = omega (arith, r.room, goes.capacity);
        bytes = omega (arith, r.bytes, goes.limit_same);
      } in
      subst (λ (l : Load). IsRecorder l new.journal.items (u.sent new.up) (u.freed new.up)
      (u.limit new.up) new.on new.pending new.last new.moment places (vec_capacity new.journal))
      (sym same) whole
    where
      no_ticks : (load : Load) (f : Option Command)
          → sum_by (step_ticks load) (command_head f) ≡ 0
      no_ticks load None = refl
      no_ticks load (Some command) = refl

      no_calls : (writer : ℕ) (f : Option Command)
          → count_by (is_call_of writer) (command_head f) ≡ 0
      no_calls writer None = refl
      no_calls writer (Some command) = refl

      calls_same : (other : ℕ)
          → count_by (λ i. is_call_of other i.origin) new.journal.items ≡ count_by
          (λ i. is_call_of other i.origin) old.journal.items
      calls_same other =
          let before = count_by (λ (i : Item). is_call_of other i.origin) old.journal.items in
          let all : count_by (λ i. is_call_of other i.origin) new.journal.items ≡ before + count_by
          (λ i. is_call_of other i.origin) o.goes.more =
          ap (count_by (λ (i : Item). is_call_of other i.origin)) o.goes.added
          ∙ sum_by-append (λ (i : Item). cond (is_call_of other i.origin) 1 0) old.journal.items
          o.goes.more in
          omega (
            arith,
            all,
            calls_heads other o.goes.more ∙ ap (count_by (is_call_of other)) o.goes.headed
                ∙ no_calls other found,
          )
