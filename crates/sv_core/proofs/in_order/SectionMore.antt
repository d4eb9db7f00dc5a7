-- A turn more of a journal in order: a section, or a read of the host.
use Rattle.std.proofs.Common.{◌≡◌, ℕ, ◌+◌, ◌-◌, ◌<◌, ◌≤◌, true, false, cond, List, [], ◌∷◌, ◌++◌}
use Rattle.std.proofs.Common.{reverse, filter, All, refl, sym, ap, ◌∙◌, subst, arith, append_assoc}
use Rattle.std.proofs.Common.{append-nil}
use Rattle.std.specs.Prelude.{count_by, nat_lt, Option}
use Rattle.std.proofs.lemmas.List.{reverse-append}
use Rattle.std.proofs.lemmas.List.Elements.{All-nil, All-cons, All-head, All-tail}
use Rattle.std.proofs.lemmas.Bool.{true≢false}
use Rattle.sv_load.specs.declared.load.Command.{Command as Asked}
use Rattle.sv_load.specs.Load.{Load}
use Rattle.sv_journal.specs.declared.journal.Origin.{Origin}
use Rattle.sv_journal.specs.declared.journal.Origin.TheVariants.{Call, Sync, Reply, Overflow}
use Rattle.sv_journal.specs.declared.journal.Origin.TheVariants.{Command}
use Rattle.sv_journal.specs.declared.journal.Item.{Item}
use Rattle.sv_journal.specs.Items.{latest_first, is_call, is_command, is_overflow, stored_before}
use Rattle.sv_journal.specs.Legal.{IsLegal, EachItem, AreFirstCommands, is_head, origins_of}
use Rattle.sv_journal.specs.Section.{command_head}
use Rattle.sv_journal.specs.Frees.{overflow_freed}
use Rattle.sv_journal.proofs.Shared.{each-push, latest_first-push, unmoved, after-push}
use Rattle.sv_core.specs.Order.{Turn, Takes_step, Reads, Reads_all, Sends, is_step, is_send}
use Rattle.sv_core.specs.Turns.{step_turns}
use Rattle.sv_core.specs.Simulated.{IsInOrder, IsTakenItem, IsTaken, before_number, before_section}
use Rattle.sv_core.specs.Simulated.{before_step, stored_by, taken_in, ordered_turns}
use Rattle.sv_core.proofs.parts.Counts.{count-cons, count-not, before_number-all}
use Rattle.sv_core.proofs.parts.Counts.{before_number-more, before_number-le, calls_in, calls-cons}
use Rattle.sv_core.proofs.parts.Sections.{before_number-append}
use Rattle.sv_core.proofs.parts.TurnCounts.{count-reverse, count-append}
use Rattle.sv_core.proofs.once.OneJournal.{same_taken, taken_is}
use Rattle.sv_core.proofs.in_order.SectionParts.{HasParts, parts_of, turn_of, calls_in-front}
use Rattle.sv_core.proofs.in_order.SectionParts.{before_next, IsLater, before_this}
use Rattle.sv_core.proofs.in_order.SectionParts.{before_section-same, stored_by-same}
use Rattle.sv_core.proofs.taking.Commands.{is_found}
use Rattle.sv_core.proofs.in_order.StepCounts.{calls-steps, called_at}

-- WHAT THE HOST TOOK

-- by the freed of an item that is no overflow
taken_by : (load : Load) (turns : List Turn) (items earlier : List Item) (item : Item) (o : Origin)
    → (is_overflow o ≡ false
    → item.freed ≡ taken_in load items (before_step turns (calls_in (item ∷ earlier) - 1)))
    → IsTaken load turns items earlier item o
taken_by load turns items earlier item (Call writer step) h = h refl
taken_by load turns items earlier item Sync h = h refl
taken_by load turns items earlier item (Reply kind index) h = h refl
taken_by load turns items earlier item (Overflow count) h = tt
taken_by load turns items earlier item (Command byte param) h = h refl

-- a turn more, the latest first
pub turn_more : (turns : List Turn) (t : Turn) → reverse (turns ++ t ∷ []) ≡ t ∷ reverse turns
turn_more turns t = reverse-append turns (t ∷ [])

-- the turns before a step that was taken
before_taken : (turns : List Turn) (t : Turn) (number : ℕ)
    → number < count_by is_step (reverse turns)
    → before_step (turns ++ t ∷ []) number ≡ before_step turns number
before_taken turns t number below =
    ap (before_number is_step number) (turn_more turns t)
    ∙ before_number-append is_step number (t ∷ []) (reverse turns) below

-- the turns before a step that is taken now
before_now : (turns : List Turn) (writer : ℕ)
    → before_step (turns ++ Takes_step writer ∷ []) (count_by is_step (reverse turns))
    ≡ reverse turns
before_now turns writer =
    let n : ℕ = count_by is_step (reverse turns) in
    let below : n < count_by is_step (Takes_step writer ∷ reverse turns) =
    omega (arith, count-cons is_step (Takes_step writer) (reverse turns)) in
    ap (before_number is_step n) (turn_more turns (Takes_step writer))
    ∙ (before_number-more is_step n (Takes_step writer) (reverse turns) below
    ∙ before_number-all is_step n (reverse turns) (omega arith))

-- the items of one journal are those of a longer one, where the host took the same before each step
each_same : (load : Load) (turns more_turns : List Turn) (items after later xs : List Item)
    → IsLegal load items → AreFirstCommands load items
    → ((number : ℕ) → number < calls_in (latest_first items)
    → taken_in load after (before_step more_turns number)
    ≡ taken_in load items (before_step turns number))
    → latest_first items ≡ later ++ xs → EachItem (IsTakenItem load turns items) xs
    → EachItem (IsTakenItem load more_turns after) xs
each_same load turns more_turns items after later [] legal commands same e each = tt
each_same load turns more_turns items after later (i ∷ earlier) legal commands same e each = (
  each_same load turns more_turns items after (later ++ i ∷ []) earlier legal commands same
      (e ∙ sym (append_assoc later (i ∷ []) earlier)) each.0,
  record {
    taken = taken_by load more_turns after earlier i i.origin here;
    overflow_freed = each.1.overflow_freed;
  },
)
  where
    here : is_overflow i.origin ≡ false
        → i.freed ≡ taken_in load after (before_step more_turns (calls_in (i ∷ earlier) - 1))
    here other =
        let some : 0 < calls_in (i ∷ earlier) =
        called_at load items later earlier i legal commands e other in
        let all : calls_in (latest_first items) ≡ calls_in later + calls_in (i ∷ earlier) =
        ap calls_in e ∙ count-append (λ (j : Item). is_call j.origin) later (i ∷ earlier) in
        taken_is load turns items earlier i i.origin other each.1.taken
        ∙ sym (same (calls_in (i ∷ earlier) - 1) (omega (arith, some, all)))

-- A READ MORE

-- a turn that is no step keeps the order
pub idle_more : (load : Load) (turns : List Turn) (items : List Item) (t : Turn)
    → AreFirstCommands load items → IsLegal load items → is_step t ≡ false
    → ordered_turns load items (t ∷ reverse turns) ≡ ordered_turns load items (reverse turns)
    → IsInOrder load turns items → IsInOrder load (turns ++ t ∷ []) items
idle_more load turns items t commands legal idle same order = record {
  steps = order.steps ∙ (sym same ∙ sym (ap (ordered_turns load items) (turn_more turns t)));
  freed =
      each_same load turns (turns ++ t ∷ []) items items [] (latest_first items) legal
      commands
      (λ number below.
      ap (taken_in load items)
      (before_taken turns t number
      (subst (λ n. number < n) (calls-steps load turns items order) below))) refl order.freed;
}

-- all that is stored is what the sections so far stored
pub stored_now : (load : Load) (turns : List Turn) (items : List Item) → IsLegal load items
    → IsInOrder load turns items
    → stored_by load items (count_by is_step (reverse turns)) ≡ stored_before load
    (latest_first items)
stored_now load turns items legal order =
    ap (stored_by load items) (sym (calls-steps load turns items order))
    ∙ ap (stored_before load) (before_next load items legal)

-- A SECTION MORE

-- what holds of two lists holds of each
all_parts : {X : Type 0} (P : X → Type 0) (xs ys : List X) → All P (xs ++ ys)
    → All P xs × All P ys
all_parts P [] ys all = (All-nil P, all)
all_parts P (x ∷ xs) ys all =
    let rest = all_parts P xs ys (All-tail P x (xs ++ ys) all) in
    (All-cons P x xs (All-head P x (xs ++ ys) all) rest.0, rest.1)

-- overflows, a call and what follows it
module _ (P : List Item → Item → Type 0) (freed number : ℕ)
    (new : (earlier : List Item) (i : Item) → i.freed ≡ freed
    → (is_overflow i.origin ≡ false → calls_in (i ∷ earlier) ≡ number)
    → overflow_freed earlier freed ≡ freed → P earlier i) where
  -- what follows the call of a section, one after another
  later_more : (items rest : List Item) → EachItem P (latest_first items)
      → calls_in (latest_first items) ≡ number → overflow_freed (latest_first items) freed ≡ freed
      → All (λ i. i.freed ≡ freed) rest → All IsLater rest
      → EachItem P (latest_first (items ++ rest))
  later_more items [] each calls behind all later =
      subst (λ is. EachItem P (latest_first is)) (sym (append-nil items)) each
  later_more items (i ∷ rest) each calls behind all later =
      let here : i.freed ≡ freed = All-head (λ (j : Item). j.freed ≡ freed) i rest all in
      let same : calls_in (i ∷ latest_first items) ≡ number =
      count-not (λ (j : Item). is_call j.origin) i (latest_first items)
      (All-head IsLater i rest later) ∙ calls in
      subst (λ is. EachItem P (latest_first is)) (append_assoc items (i ∷ []) rest)
      (later_more (items ++ i ∷ []) rest
      (each-push P items i each (new (latest_first items) i here (λ e. same) behind))
      (ap calls_in (latest_first-push items i) ∙ same) (after-push items i freed here)
      (All-tail (λ (j : Item). j.freed ≡ freed) i rest all) (All-tail IsLater i rest later))

  -- the overflow that may stand before its call
  front_more : (items front : List Item) → EachItem P (latest_first items)
      → overflow_freed (latest_first items) freed ≡ freed → All (λ i. i.freed ≡ freed) front
      → All (λ i. is_overflow i.origin ≡ true) front
      → EachItem P (latest_first (items ++ front))
      × (overflow_freed (latest_first (items ++ front)) freed ≡ freed)
  front_more items [] each behind all over = (
    subst (λ is. EachItem P (latest_first is)) (sym (append-nil items)) each,
    ap (λ is. overflow_freed (latest_first is) freed) (append-nil items) ∙ behind,
  )
  front_more items (i ∷ front) each behind all over =
      let here : i.freed ≡ freed = All-head (λ (j : Item). j.freed ≡ freed) i front all in
      let is : is_overflow i.origin ≡ true =
      All-head (λ (j : Item). is_overflow j.origin ≡ true) i front over in
      let pushed : EachItem P (latest_first (items ++ i ∷ [])) =
      each-push P items i each
      (new (latest_first items) i here (λ e. absurd (true≢false (sym is ∙ e))) behind) in
      subst
      (λ is. EachItem P (latest_first is)
      × (overflow_freed (latest_first is) freed ≡ freed)) (append_assoc items (i ∷ []) front)
      (front_more (items ++ i ∷ []) front pushed (after-push items i freed here)
      (All-tail (λ (j : Item). j.freed ≡ freed) i front all)
      (All-tail (λ (j : Item). is_overflow j.origin ≡ true) i front over))

  -- all of it
  section_more : (items more : List Item) (p : HasParts items more)
      → EachItem P (latest_first items) → overflow_freed (latest_first items) freed ≡ freed
      → 1 + calls_in (latest_first items) ≡ number → All (λ i. i.freed ≡ freed) more
      → EachItem P (latest_first (items ++ more))
  section_more items more p each behind calls all =
      let parts : All (λ (i : Item). i.freed ≡ freed) (p.front ++ (p.call ∷ p.rest)) =
      subst (All (λ (i : Item). i.freed ≡ freed)) p.parts all in
      let both = all_parts (λ (i : Item). i.freed ≡ freed) p.front (p.call ∷ p.rest) parts in
      let first = both.0 in
      let second = both.1 in
      let front : List Item = items ++ p.front in
      let done = front_more items p.front each behind first p.overflows in
      let here : p.call.freed ≡ freed =
      All-head (λ (j : Item). j.freed ≡ freed) p.call p.rest second in
      let count : calls_in (p.call ∷ latest_first front) ≡ number =
      calls-cons p.call (latest_first front)
      ∙ (ap (λ b. cond b 1 0 + calls_in (latest_first front)) p.called
      ∙ (ap (λ n. 1 + n) (calls_in-front items more p) ∙ calls)) in
      subst (λ is. EachItem P (latest_first (items ++ is))) (sym p.parts)
      (subst (λ is. EachItem P (latest_first is))
      (append_assoc front (p.call ∷ []) p.rest ∙ append_assoc items p.front (p.call ∷ p.rest))
      (later_more (front ++ p.call ∷ []) p.rest
      (each-push P front p.call done.0
      (new (latest_first front) p.call here (λ e. count) done.1))
      (ap calls_in (latest_first-push front p.call) ∙ count) (after-push front p.call freed here)
      (All-tail (λ (j : Item). j.freed ≡ freed) p.call p.rest second) p.later))

-- the host took the same before a step that was taken
pub taken-same : (load : Load) (items more : List Item) (before : List Turn)
    → HasParts items more → IsLegal load items
    → count_by is_step before ≤ calls_in (latest_first items)
    → taken_in load (items ++ more) before ≡ taken_in load items before
taken-same load items more before p old few =
    same_taken load (items ++ more) items before
    (λ number h. stored_by-same load items more number old p (omega (arith, h, few)))

-- the turns of the sections so far do not change by a section more
turns-same : (load : Load) (items more : List Item) (turns : List Turn) → IsLegal load items
    → HasParts items more → count_by is_step turns ≤ calls_in (latest_first items)
    → ordered_turns load (items ++ more) turns ≡ ordered_turns load items turns
turns-same load items more [] old p few = refl
turns-same load items more (Takes_step writer ∷ earlier) old p few =
    let before : count_by is_step earlier ≤ calls_in (latest_first items) =
    omega (arith, few, count-cons is_step (Takes_step writer) earlier) in
    ap
    (λ ts. ts ++ record {
      writer = writer;
      command = nat_lt (count_by (λ i. is_command i.origin)
          (before_section (items ++ more) (count_by is_step earlier)))
          (count_by is_send earlier);
    } ∷ []) (turns-same load items more earlier old p before)
    ∙ ap
    (λ is. ordered_turns load items earlier ++ record {
      writer = writer;
      command = nat_lt (count_by (λ (i : Item). is_command i.origin) is)
          (count_by is_send earlier);
    } ∷ []) (before_section-same load items more (count_by is_step earlier) old p before)
turns-same load items more (Reads most ∷ earlier) old p few =
    turns-same load items more earlier old p
    (omega (arith, few, count-cons is_step (Reads most) earlier))
turns-same load items more (Reads_all ∷ earlier) old p few =
    turns-same load items more earlier old p
    (omega (arith, few, count-cons is_step Reads_all earlier))
turns-same load items more (Sends ∷ earlier) old p few =
    turns-same load items more earlier old p
    (omega (arith, few, count-cons is_step Sends earlier))

-- a section of a writer, whose items have the freed that the host took before, and which found a
-- command exactly where one was sent and not handled
pub order_more : (load : Load) (turns : List Turn) (items more : List Item) (writer step : ℕ)
    (found : Option Asked)
    → AreFirstCommands load items → IsLegal load items
    → IsLegal load (items ++ more) → IsInOrder load turns items
    → filter is_head (origins_of more) ≡ Call writer step ∷ command_head found
    → is_found found ≡ nat_lt (count_by (λ i. is_command i.origin) items) (count_by is_send turns)
    → All (λ i. i.freed ≡ taken_in load items (reverse turns)) more
    → IsInOrder load (turns ++ Takes_step writer ∷ []) (items ++ more)
    × (taken_in load (items ++ more) (reverse (turns ++ Takes_step writer ∷ []))
    ≡ taken_in load items (reverse turns))
order_more load turns items more writer step found commands old new order heads flag all = (
  record { steps = steps; freed = freed },
  ap (taken_in load (items ++ more)) (turn_more turns (Takes_step writer)) ∙ same,
) where
  next : List Turn
  next = turns ++ Takes_step writer ∷ []

  p : HasParts items more
  p = parts_of load items writer step found old more new heads

  calls : calls_in (latest_first items) ≡ count_by is_step (reverse turns)
  calls = calls-steps load turns items order

  same : taken_in load (items ++ more) (reverse turns) ≡ taken_in load items (reverse turns)
  same = taken-same load items more (reverse turns) p old (omega (arith, calls))

  told : nat_lt (count_by (λ i. is_command i.origin) items) (count_by is_send turns)
      ≡ nat_lt
      (count_by (λ i. is_command i.origin)
      (before_section (items ++ more) (count_by is_step (reverse turns))))
      (count_by is_send (reverse turns))
  told =
      ap (λ n. nat_lt (count_by (λ (i : Item). is_command i.origin) items) n)
      (sym (count-reverse is_send turns))
      ∙ ap (λ n. nat_lt n (count_by is_send (reverse turns)))
      (sym (count-reverse (λ (i : Item). is_command i.origin) items)
      ∙ ap (count_by (λ (i : Item). is_command i.origin))
      (sym
      (ap (before_section (items ++ more)) (sym calls)
      ∙ before_this load items more old p)))

  steps : step_turns (items ++ more) ≡ ordered_turns load (items ++ more) (reverse next)
  steps =
      turn_of load items writer step found old more new heads
      ∙ (ap (λ ts. ts ++ record { writer = writer; command = is_found found } ∷ [])
      (order.steps
      ∙ sym (turns-same load items more (reverse turns) old p (omega (arith, calls))))
      ∙ (ap
      (λ c. ordered_turns load (items ++ more) (reverse turns)
      ++ record { writer = writer; command = c } ∷ []) (flag ∙ told)
      ∙ ap (ordered_turns load (items ++ more)) (sym (turn_more turns (Takes_step writer)))))

  P : List Item → Item → Type 0
  P = IsTakenItem load next (items ++ more)

  before : EachItem P (latest_first items)
  before =
      each_same load turns next items (items ++ more) [] (latest_first items) old
      commands
      (λ number below.
      let below_steps : number < count_by is_step (reverse turns) =
      subst (λ n. number < n) calls below in
      ap (taken_in load (items ++ more)) (before_taken turns (Takes_step writer) number below_steps)
      ∙ taken-same load items more (before_step turns number) p old
      (omega (arith, below, before_number-le is_step number (reverse turns)))) refl order.freed

  now : (earlier : List Item) (i : Item) → i.freed ≡ taken_in load items (reverse turns)
      → (is_overflow i.origin ≡ false
      → calls_in (i ∷ earlier) ≡ 1 + calls_in (latest_first items))
      → overflow_freed earlier (taken_in load items (reverse turns))
      ≡ taken_in load items (reverse turns) → P earlier i
  now earlier i here count behind = record {
    taken =
        taken_by load next (items ++ more) earlier i i.origin
        (λ other.
        let number : calls_in (i ∷ earlier) - 1 ≡ count_by is_step (reverse turns) =
        omega (arith, count other, calls) in
        here
        ∙ (sym same
        ∙ ap (taken_in load (items ++ more))
        (sym (ap (before_step next) number ∙ before_now turns writer))));
    overflow_freed = subst (λ n. overflow_freed earlier n ≡ n) (sym here) behind;
  }

  freed : EachItem P (latest_first (items ++ more))
  freed =
      section_more P (taken_in load items (reverse turns)) (1 + calls_in (latest_first items)) now
      items more p before
      (unmoved (latest_first items) (taken_in load items (reverse turns)) old.ends) refl all
