-- Of one workload and one order there is one journal.
use Rattle.std.proofs.Common.{◌≡◌, ℕ, ◌+◌, ◌-◌, ◌<◌, ◌≤◌, min, Bool, true, false, not, ◌&&◌, cond}
use Rattle.std.proofs.Common.{List, [], ◌∷◌, ◌++◌, length, reverse, flat_map, refl, sym, ap, ◌∙◌}
use Rattle.std.proofs.Common.{subst, arith, rules, append_assoc, zero-add}
use Rattle.std.specs.Prelude.{count_by, sum_by, nat_lt}
use Rattle.std.proofs.lemmas.List.{reverse-reverse}
use Rattle.std.proofs.lemmas.List.Sums.{sum_by-cons}
use Rattle.sv_load.specs.Load.{Load}
use Rattle.sv_journal.specs.declared.journal.Origin.{Origin}
use Rattle.sv_journal.specs.declared.journal.Origin.TheVariants.{Call, Sync, Reply, Overflow}
use Rattle.sv_journal.specs.declared.journal.Origin.TheVariants.{Command}
use Rattle.sv_journal.specs.declared.journal.Outcome.TheVariants.{Stored, Refused, Ignored, Handled}
use Rattle.sv_journal.specs.declared.journal.Item.{Item}
use Rattle.sv_journal.specs.Items.{latest_first, is_call, is_overflow, is_packet, holds_packet}
use Rattle.sv_journal.specs.Items.{is_on, pending_at, is_after_overflow, is_after_refused_overflow}
use Rattle.sv_journal.specs.Items.{before_overflow, stored_before, room_at, block_of, item_of}
use Rattle.sv_journal.specs.Legal.{IsLegal, IsNextItem, IsMoment, IsCount, EachItem}
use Rattle.sv_journal.specs.Legal.{AreFirstCommands, group_of, origins_of, step_ticks, is_control}
use Rattle.sv_journal.specs.Legal.{outcome_at}
use Rattle.sv_journal.proofs.Shared.{no_packet, alone, origins_of-cons}
use Rattle.sv_core.specs.Order.{Turn, Takes_step, Reads, Reads_all, Sends, is_step, order_of}
use Rattle.sv_core.specs.Turns.{step_turns}
use Rattle.sv_core.specs.Simulated.{IsSimulated, IsInOrder, IsTakenItem, IsTaken, before_number}
use Rattle.sv_core.specs.Simulated.{before_section, before_step, stored_by, taken_in}
use Rattle.sv_core.proofs.parts.Sections.{before_number-append}
use Rattle.sv_core.proofs.parts.Heads.{heads_by}
use Rattle.sv_core.proofs.once.TurnsOfOrder.{same_turns}
use Rattle.sv_core.proofs.parts.OriginsOfTurns.{IsLastCall, last_call-tail, last_call-some}
use Rattle.sv_core.proofs.parts.OriginsOfTurns.{first_call, origins_by, origins_of-reverse}
use Rattle.sv_core.proofs.parts.OriginsOfTurns.{not_call, calls-origins, origins-before_overflow}
use Rattle.sv_core.proofs.parts.Counts.{count-cons, count-not, before_number-all}
use Rattle.sv_core.proofs.parts.Counts.{before_number-more, before_number-le, calls_in, calls-cons}

-- THE FRONT OF A JOURNAL

-- the front of a journal, the latest first, up to an item that is no overflow
record IsFront (load : Load) (turns : List Turn) (items later front : List Item) : Type 0 where
  whole : latest_first items ≡ later ++ front
  next : EachItem (IsNextItem load) front
  taken : EachItem (IsTakenItem load turns items) front
  ends : is_after_overflow front ≡ false

-- no overflow stands directly before an overflow
no_overflow : (load : Load) (earlier : List Item) (o : Item) → is_overflow o.origin ≡ true
    → IsNextItem load earlier o → is_after_overflow earlier ≡ false
no_overflow load earlier o overflow next =
    next.overflow ∙ ap (λ b. (b && is_on load (before_overflow earlier)) && nat_lt 0
    (pending_at (before_overflow earlier))) (no_packet o.origin o.outcome overflow)

-- the front before an item and the overflow that may stand before it
front_before : (load : Load) (turns : List Turn) (items later earlier : List Item) (i : Item)
    → IsFront load turns items later (i ∷ earlier)
    → (more : List Item) × IsFront load turns items more (before_overflow earlier)
front_before load turns items later [] i f = (
  later ++ i ∷ [],
  record {
    whole = f.whole ∙ sym (append_assoc later (i ∷ []) []);
    next = tt;
    taken = tt;
    ends = refl;
  },
)
front_before load turns items later (o ∷ earlier) i f = at (is_overflow o.origin) refl where
  at : (b : Bool) → is_overflow o.origin ≡ b → (more : List Item) × IsFront load turns items more
      (cond b earlier (o ∷ earlier))
  at true e = (
    later ++ (i ∷ o ∷ []),
    record {
      whole = f.whole ∙ sym (append_assoc later (i ∷ o ∷ []) earlier);
      next = f.next.0.0;
      taken =
          f.taken.0.0;
      ends = no_overflow load earlier o e f.next.0.1;
    },
  )
  at false e = (
    later ++ i ∷ [],
    record {
      whole = f.whole ∙ sym (append_assoc later (i ∷ []) (o ∷ earlier));
      next = f.next.0;
      taken =
          f.taken.0;
      ends = e;
    },
  )

-- a front without an origin is empty
front_none : (front : List Item) → is_after_overflow front ≡ false → origins_of front ≡ []
    → front ≡ []
front_none [] ends none = refl
front_none (i ∷ earlier) ends none =
    let some : i.origin ∷ origins_of earlier ≡ [] = sym (origins_of-cons i earlier ends) ∙ none in
    cc

-- WHAT THE HOST TOOK

-- an overflow directly before is no call
pub calls-before_overflow : (earlier : List Item)
    → calls_in (before_overflow earlier) ≡ calls_in earlier
calls-before_overflow [] = refl
calls-before_overflow (o ∷ earlier) = at (is_overflow o.origin) refl where
  at : (b : Bool) → is_overflow o.origin ≡ b → calls_in (cond b earlier (o ∷ earlier)) ≡ calls_in
      (o ∷ earlier)
  at true e = sym (count-not (λ (j : Item). is_call j.origin) o earlier (not_call o.origin e))
  at false e = refl

-- what stands before the call of this number
abbrev before_call : ℕ → List Item → List Item
before_call number items = before_number (λ i. is_call i.origin) number items

-- what stands before a section does not ask for the overflow directly before
section_before : (number : ℕ) (earlier : List Item)
    → is_after_overflow (before_overflow earlier) ≡ false
    → before_overflow (before_call number earlier) ≡ before_overflow
    (before_call number (before_overflow earlier))
section_before number [] ends = refl
section_before number (o ∷ earlier) ends = at (is_overflow o.origin) refl ends where
  here : is_overflow o.origin ≡ true → is_after_overflow earlier ≡ false → (c : Bool) → nat_lt
      number (calls_in (o ∷ earlier)) ≡ c
      → before_overflow (cond c (before_call number earlier) (o ∷ earlier)) ≡ before_overflow
      (before_call number earlier)
  here e alone_before true below = refl
  here e alone_before false below =
      let same : calls_in (o ∷ earlier) ≡ calls_in earlier = count-not
      (λ (j : Item). is_call j.origin) o earlier (not_call o.origin e) in
      let few : calls_in earlier ≤ number = subst (λ n. n ≤ number) same (search (rules, below)) in
      ap (λ b. cond b earlier (o ∷ earlier)) e ∙
      (sym (alone earlier alone_before) ∙ sym
      (ap before_overflow (before_number-all (λ (j : Item). is_call j.origin) number earlier
      few)))

  at : (b : Bool) → is_overflow o.origin ≡ b → is_after_overflow (cond b earlier (o ∷ earlier)) ≡
      false → before_overflow (before_call number (o ∷ earlier)) ≡ before_overflow
      (before_call number (cond b earlier (o ∷ earlier)))
  at true e h = here e h (nat_lt number (calls_in (o ∷ earlier))) refl
  at false e h = refl

-- what stands before a section, by a front in which the section begins
section_of : (items later earlier : List Item) (i : Item) (number : ℕ)
    → latest_first items ≡ later ++ (i ∷ earlier)
    → is_after_overflow (before_overflow earlier) ≡ false → number < calls_in (i ∷ earlier)
    → before_section items number ≡ before_overflow (before_call number (before_overflow earlier))
section_of items later earlier i number whole ends below =
    ap (λ is. before_overflow (before_call number is)) whole
    ∙ (ap before_overflow (before_number-append (λ (j : Item). is_call j.origin) number later
    (i ∷ earlier) below ∙ before_number-more (λ (j : Item). is_call j.origin) number i earlier
    below)
    ∙ section_before number earlier ends)

-- two journals of which the host took the same sections
pub same_taken : (load : Load) (a b : List Item) (turns : List Turn)
    → ((number : ℕ) → number ≤ count_by is_step turns → stored_by load a number ≡ stored_by load b
    number)
    → taken_in load a turns ≡ taken_in load b turns
same_taken load a b [] same = refl
same_taken load a b (Takes_step writer ∷ earlier) same =
    same_taken load a b earlier
    (λ number h. same number (more (count-cons is_step (Takes_step writer) earlier) h)) where
      more : {number all few : ℕ} → all ≡ 1 + few → number ≤ few → number ≤ all
      more e h = omega arith
same_taken load a b (Reads most ∷ earlier) same =
    let here : (number : ℕ) → number ≤ count_by is_step earlier → stored_by load a number ≡
    stored_by load b number = λ number h. same number
    (more (count-cons is_step (Reads most) earlier) h) in
    ap (λ n. min (n + most) (stored_by load a (count_by is_step earlier)))
    (same_taken load a b earlier here)
    ∙ ap (λ n. min (taken_in load b earlier + most) n)
    (here (count_by is_step earlier) (omega arith)) where
      more : {number all few : ℕ} → all ≡ 0 + few → number ≤ few → number ≤ all
      more e h = omega arith
same_taken load a b (Reads_all ∷ earlier) same =
    same (count_by is_step earlier) (omega (arith, count-cons is_step Reads_all earlier))
same_taken load a b (Sends ∷ earlier) same =
    same_taken load a b earlier
    (λ number h. same number (more (count-cons is_step Sends earlier) h)) where
      more : {number all few : ℕ} → all ≡ 0 + few → number ≤ few → number ≤ all
      more e h = omega arith

-- AN ITEM MORE

-- the freed of an item that is no overflow
pub taken_is : (load : Load) (turns : List Turn) (items earlier : List Item) (i : Item) (o : Origin)
    → is_overflow o ≡ false → IsTaken load turns items earlier i o
    → i.freed ≡ taken_in load items (before_step turns (calls_in (i ∷ earlier) - 1))
taken_is load turns items earlier i (Call writer step) other h = h
taken_is load turns items earlier i Sync other h = h
taken_is load turns items earlier i (Reply kind index) other h = h
taken_is load turns items earlier i (Overflow count) other h = cc
taken_is load turns items earlier i (Command byte param) other h = h

-- the ticks of the calls among these
abbrev ticks_in : Load → List Item → ℕ
ticks_in load items = sum_by (λ i. step_ticks load i.origin) items

-- the moment of an item that is no overflow
moment_is : (load : Load) (earlier : List Item) (i : Item) (o : Origin) → is_overflow o ≡ false
    → IsMoment load earlier i o → i.moment ≡ ticks_in load (i ∷ earlier)
moment_is load earlier i (Call writer step) other h = h
moment_is load earlier i Sync other h = h
moment_is load earlier i (Reply kind index) other h = h
moment_is load earlier i (Overflow count) other h = cc
moment_is load earlier i (Command byte param) other h = h

-- one item more
ticks-cons : (load : Load) (i : Item) (earlier : List Item)
    → ticks_in load (i ∷ earlier) ≡ step_ticks load i.origin + ticks_in load earlier
ticks-cons load i earlier = sum_by-cons (λ (j : Item). step_ticks load j.origin) i earlier

-- an overflow has no ticks of its own
no_ticks : (load : Load) (o : Origin) → is_overflow o ≡ true → step_ticks load o ≡ 0
no_ticks load (Call writer step) h = cc
no_ticks load Sync h = refl
no_ticks load (Reply kind index) h = refl
no_ticks load (Overflow count) h = refl
no_ticks load (Command byte param) h = refl

-- an overflow directly before takes no ticks
ticks-before_overflow : (load : Load) (earlier : List Item)
    → ticks_in load (before_overflow earlier) ≡ ticks_in load earlier
ticks-before_overflow load [] = refl
ticks-before_overflow load (o ∷ earlier) = at (is_overflow o.origin) refl where
  at : (b : Bool) → is_overflow o.origin ≡ b → ticks_in load (cond b earlier (o ∷ earlier)) ≡
      ticks_in load (o ∷ earlier)
  at true e = sym (ticks-cons load o earlier ∙
      (ap (λ n. n + ticks_in load earlier) (no_ticks load o.origin e) ∙ zero-add
      (ticks_in load earlier)))
  at false e = refl

-- what an origin is a packet for: a call that is no start and no stop, and a reply
abbrev forms_packet : Load → Origin → Bool
forms_packet load (Call writer step) = not (is_control load (Call writer step))
forms_packet load (Reply kind index) = true
forms_packet load other = false

-- an item is a packet by its origin
packet_is : (load : Load) (earlier : List Item) (i : Item) → i.outcome ≡ outcome_at load earlier i
    → is_packet i ≡ forms_packet load i.origin
packet_is load earlier i outcome = ap (holds_packet i.origin) outcome ∙ at i.origin where
  becomes : (writer step : ℕ) (control on behind below : Bool)
      → holds_packet (Call writer step)
      (cond control Handled
      (cond (not on) Ignored (cond behind Refused (cond below Refused Stored)))) ≡ not control
  becomes writer step true on behind below = refl
  becomes writer step false true true below = refl
  becomes writer step false true false true = refl
  becomes writer step false true false false = refl
  becomes writer step false false behind below = refl

  at : (o : Origin)
      → holds_packet o (cond (is_control load o) Handled
      (cond (not (is_on load earlier)) Ignored
      (cond (is_after_refused_overflow earlier) Refused
      (cond (nat_lt (room_at load earlier i) (length (block_of load earlier i))) Refused
      Stored))))
      ≡ forms_packet load o
  at (Call writer step) = becomes writer step (is_control load (Call writer step))
      (is_on load earlier) (is_after_refused_overflow earlier)
      (nat_lt (room_at load earlier i) (length (block_of load earlier i)))
  at Sync = refl
  at (Reply kind index) = refl
  at (Overflow count) = refl
  at (Command byte param) = refl

-- an item by its fields
same_item : (i j : Item) → i.origin ≡ j.origin → i.moment ≡ j.moment → i.freed ≡ j.freed
    → i.outcome ≡ j.outcome → i ≡ j
same_item i j origin moment freed outcome =
    ap (λ o. item_of o i.moment i.freed i.outcome) origin
    ∙ (ap (λ m. item_of j.origin m i.freed i.outcome) moment
    ∙ (ap (λ n. item_of j.origin j.moment n i.outcome) freed
    ∙ ap (λ r. item_of j.origin j.moment j.freed r) outcome))

-- what becomes of an item is told by the rest of it
same_becomes : (load : Load) (earlier : List Item) (i j : Item) → i.origin ≡ j.origin
    → i.moment ≡ j.moment → i.freed ≡ j.freed
    → outcome_at load earlier i ≡ outcome_at load earlier j
same_becomes load earlier i j origin moment freed =
    ap (λ o. outcome_at load earlier (item_of o i.moment i.freed Handled)) origin
    ∙ (ap (λ m. outcome_at load earlier (item_of j.origin m i.freed Handled)) moment
    ∙ ap (λ n. outcome_at load earlier (item_of j.origin j.moment n Handled)) freed)

-- two items that follow the same items, of one origin, moment and freed
same_next : (load : Load) (earlier : List Item) (i j : Item) → IsNextItem load earlier i
    → IsNextItem load earlier j → i.origin ≡ j.origin → i.moment ≡ j.moment → i.freed ≡ j.freed
    → i ≡ j
same_next load earlier i j next_i next_j origin moment freed =
    same_item i j origin moment freed
    (next_i.outcome ∙ (same_becomes load earlier i j origin moment freed ∙ sym next_j.outcome))

-- an overflow counts what is pending, so there is only one
overflow_is : (earlier : List Item) (o : Origin) → is_overflow o ≡ true → IsCount earlier o
    → o ≡ Overflow (pending_at earlier)
overflow_is earlier (Call writer step) h count = cc
overflow_is earlier Sync h count = cc
overflow_is earlier (Reply kind index) h count = cc
overflow_is earlier (Overflow count) h counted = ap (λ n. Overflow n) counted
overflow_is earlier (Command byte param) h count = cc

-- the overflows before two items of one moment and freed, after the same items
same_overflow : (load : Load) (turns : List Turn) (a b earlier : List Item) (i j o p : Item)
    → is_overflow o.origin ≡ true → is_overflow p.origin ≡ true
    → IsNextItem load earlier o → IsNextItem load earlier p → IsNextItem load (o ∷ earlier) i →
    IsNextItem load (p ∷ earlier) j
    → IsTakenItem load turns a (o ∷ earlier) i → IsTakenItem load turns b (p ∷ earlier) j
    → i.moment ≡ j.moment → i.freed ≡ j.freed → o ≡ p
same_overflow load turns a b earlier i j o p e f next_o next_p next_i next_j taken_i taken_j moment
    freed =
    same_next load earlier o p next_o next_p
    (overflow_is earlier o.origin e next_o.count ∙ sym
    (overflow_is earlier p.origin f next_p.count))
    (sym (ap (λ b. cond b o.moment i.moment) e) ∙
    (next_i.overflow_moment ∙
    (moment ∙ sym (sym (ap (λ b. cond b p.moment j.moment) f) ∙ next_j.overflow_moment))))
    (sym (ap (λ b. cond b o.freed i.freed) e) ∙
    (taken_i.overflow_freed ∙
    (freed ∙ sym (sym (ap (λ b. cond b p.freed j.freed) f) ∙ taken_j.overflow_freed))))

-- what stands before two items of one moment and freed, where each has an overflow before it or
-- neither
same_earlier : (load : Load) (turns : List Turn) (a b xs ys : List Item) (i j : Item)
    → before_overflow xs ≡ before_overflow ys → is_after_overflow xs ≡ is_after_overflow ys
    → EachItem (IsNextItem load) (i ∷ xs) → EachItem (IsNextItem load) (j ∷ ys) → IsTakenItem load
    turns a xs i → IsTakenItem load turns b ys j → i.moment ≡ j.moment → i.freed ≡ j.freed → xs
    ≡ ys
same_earlier load turns a b [] [] i j before after next_i next_j taken_i taken_j moment freed = refl
same_earlier load turns a b [] (p ∷ ys) i j before after next_i next_j taken_i taken_j moment
    freed =
    before ∙ alone (p ∷ ys) (sym after)
same_earlier load turns a b (o ∷ xs) [] i j before after next_i next_j taken_i taken_j moment
    freed =
    sym (alone (o ∷ xs) after) ∙ before
same_earlier load turns a b (o ∷ xs) (p ∷ ys) i j before after next_i next_j taken_i taken_j moment
    freed =
    at (is_overflow o.origin) refl where
      at : (c : Bool) → is_overflow o.origin ≡ c → o ∷ xs ≡ p ∷ ys
      at true e =
          let f : is_overflow p.origin ≡ true = sym after ∙ e in
          let rest : xs ≡ ys = sym (ap (λ c. cond c xs (o ∷ xs)) e) ∙
          (before ∙ ap (λ c. cond c ys (p ∷ ys)) f) in
          let back : ys ≡ xs = sym rest in
          let same : o ≡ p = same_overflow load turns a b xs i j o p e f next_i.0.1
          (subst (λ zs. IsNextItem load zs p) back next_j.0.1) next_i.1
          (subst (λ zs. IsNextItem load (p ∷ zs) j) back next_j.1) taken_i
          (subst (λ zs. IsTakenItem load turns b (p ∷ zs) j) back taken_j) moment freed in
          ap (λ q. q ∷ xs) same ∙ ap (λ zs. p ∷ zs) rest
      at false e = sym (alone (o ∷ xs) e) ∙ (before ∙ alone (p ∷ ys) (sym after ∙ e))

-- two fronts whose latest items have one origin, after the same items
same_latest : (load : Load) (turns : List Turn) (a b later_a later_b xs ys : List Item) (i j : Item)
    → IsFront load turns a later_a (i ∷ xs) → IsFront load turns b later_b (j ∷ ys)
    → is_after_overflow (before_overflow xs) ≡ false → before_overflow xs ≡ before_overflow ys →
    i.origin ≡ j.origin → 0 < calls_in (i ∷ xs) → i ∷ xs ≡ j ∷ ys
same_latest load turns a b later_a later_b xs ys i j front_a front_b alone_before before origin
    some =
    let next_i : IsNextItem load xs i = front_a.next.1 in
    let next_j : IsNextItem load ys j = front_b.next.1 in
    let taken_i : IsTakenItem load turns a xs i = front_a.taken.1 in
    let taken_j : IsTakenItem load turns b ys j = front_b.taken.1 in
    let fewer : calls_in xs ≡ calls_in ys = sym (calls-before_overflow xs) ∙
    (ap calls_in before ∙ calls-before_overflow ys) in
    let calls : calls_in (i ∷ xs) ≡ calls_in (j ∷ ys) =
    calls-cons i xs ∙ (ap (λ o. cond (is_call o) 1 0 + calls_in xs) origin ∙
    (ap (λ n. cond (is_call j.origin) 1 0 + n) fewer ∙ sym (calls-cons j ys))) in
    let ticks : ticks_in load xs ≡ ticks_in load ys = sym (ticks-before_overflow load xs) ∙
    (ap (ticks_in load) before ∙ ticks-before_overflow load ys) in
    let moment : i.moment ≡ j.moment =
    moment_is load xs i i.origin front_a.ends next_i.moment
    ∙ (ticks-cons load i xs ∙ (ap (λ o. step_ticks load o + ticks_in load xs) origin ∙
    (ap (λ n. step_ticks load j.origin + n) ticks ∙ sym (ticks-cons load j ys))))
    ∙ sym (moment_is load ys j j.origin front_b.ends next_j.moment) in
    let number : ℕ = calls_in (i ∷ xs) - 1 in
    let bounded : count_by is_step (before_step turns number) ≤ number = before_number-le is_step
    number (reverse turns) in
    let stored : (n : ℕ) → n ≤ count_by is_step (before_step turns number) → stored_by load a n ≡
    stored_by load b n = λ n h.
    let below : n < calls_in (i ∷ xs) = within n (count_by is_step (before_step turns number))
    (calls_in (i ∷ xs)) h bounded some in
    ap (stored_before load)
    (section_of a later_a xs i n front_a.whole alone_before below
    ∙ (ap (λ is. before_overflow (before_call n is)) before
    ∙ sym (section_of b later_b ys j n front_b.whole
    (subst (λ is. is_after_overflow is ≡ false) before alone_before)
    (subst (λ m. n < m) calls below)))) in
    let freed : i.freed ≡ j.freed =
    taken_is load turns a xs i i.origin front_a.ends taken_i.taken
    ∙ (same_taken load a b (before_step turns number) stored
    ∙ (ap (λ n. taken_in load b (before_step turns (n - 1))) calls ∙ sym
    (taken_is load turns b ys j j.origin front_b.ends taken_j.taken))) in
    let packet : is_packet i ≡ is_packet j = packet_is load xs i next_i.outcome ∙
    (ap (forms_packet load) origin ∙ sym (packet_is load ys j next_j.outcome)) in
    let after : is_after_overflow xs ≡ is_after_overflow ys =
    next_i.overflow
    ∙ (ap (λ c. (c && is_on load (before_overflow xs)) && nat_lt 0
    (pending_at (before_overflow xs))) packet
    ∙ (ap (λ is. (is_packet j && is_on load is) && nat_lt 0 (pending_at is)) before ∙ sym
    next_j.overflow)) in
    let rest : xs ≡ ys = same_earlier load turns a b xs ys i j before after front_a.next
    front_b.next taken_i taken_j moment freed in
    let same : i ≡ j = same_next load xs i j next_i
    (subst (λ is. IsNextItem load is j) (sym rest) next_j) origin moment freed in
    ap (λ k. k ∷ xs) same ∙ ap (λ is. j ∷ is) rest where
      within : (n few calls : ℕ) → n ≤ few → few ≤ calls - 1 → 0 < calls → n < calls
      within n few calls h g f = omega arith

-- two fronts of the same origins are the same
same_fronts : (load : Load) (turns : List Turn) (a b : List Item) (os : List Origin)
    (later_a later_b xs ys : List Item)
    → IsLastCall os
    → IsFront load turns a later_a xs → IsFront load turns b later_b ys → origins_of xs ≡ os →
    origins_of ys ≡ os → xs ≡ ys
same_fronts load turns a b [] later_a later_b xs ys last front_a front_b of_a of_b =
    front_none xs front_a.ends of_a ∙ sym (front_none ys front_b.ends of_b)
same_fronts load turns a b (o ∷ os) later_a later_b [] ys last front_a front_b of_a of_b = cc
same_fronts load turns a b (o ∷ os) later_a later_b (i ∷ xs) [] last front_a front_b of_a of_b = cc
same_fronts load turns a b (o ∷ os) later_a later_b (i ∷ xs) (j ∷ ys) last front_a front_b of_a
    of_b =
    let shape_a : i.origin ∷ origins_of xs ≡ o ∷ os = sym (origins_of-cons i xs front_a.ends) ∙ of_a
    in
    let shape_b : j.origin ∷ origins_of ys ≡ o ∷ os = sym (origins_of-cons j ys front_b.ends) ∙ of_b
    in
    let here_a : i.origin ≡ o = cc in
    let here_b : j.origin ≡ o = cc in
    let rest_a : origins_of xs ≡ os = cc in
    let rest_b : origins_of ys ≡ os = cc in
    let before_a = front_before load turns a later_a xs i front_a in
    let before_b = front_before load turns b later_b ys j front_b in
    let before : before_overflow xs ≡ before_overflow ys =
    same_fronts load turns a b os before_a.0 before_b.0 (before_overflow xs) (before_overflow ys)
    (last_call-tail o os last) before_a.1 before_b.1 (origins-before_overflow xs ∙ rest_a)
    (origins-before_overflow ys ∙ rest_b) in
    let some : 0 < calls_in (i ∷ xs) = subst (λ n. 0 < n)
    (sym (calls-origins (i ∷ xs) ∙ ap (count_by is_call) of_a)) (last_call-some o os last) in
    same_latest load turns a b later_a later_b xs ys i j front_a front_b before_a.1.ends before
    (here_a ∙ sym here_b) some

-- ONE JOURNAL

-- two legal journals in one order, of the workload's first commands, are the same
pub one_in_order : (load : Load) (turns : List Turn) (a b : List Item) → IsLegal load a
    → IsLegal load b → AreFirstCommands load a → AreFirstCommands load b → IsInOrder load turns a
    → IsInOrder load turns b → a ≡ b
one_in_order load turns a b legal_a legal_b commands_a commands_b order_a order_b =
    let steps : step_turns a ≡ step_turns b = same_turns load a b turns legal_a.each legal_b.each
    order_a.steps order_b.steps in
    let all : List Origin = flat_map (group_of load) (heads_by [] (step_turns b) load.commands) in
    let of_a : origins_of a ≡ all = origins_by load a legal_a.each commands_a legal_a.groups ∙ ap
    (λ ts. flat_map (group_of load) (heads_by [] ts load.commands)) steps in
    let of_b : origins_of b ≡ all = origins_by load b legal_b.each commands_b legal_b.groups in
    let front_a : IsFront load turns a [] (latest_first a) = record
    { whole = refl; next = legal_a.each; taken = order_a.freed; ends = legal_a.ends } in
    let front_b : IsFront load turns b [] (latest_first b) = record
    { whole = refl; next = legal_b.each; taken = order_b.freed; ends = legal_b.ends } in
    let same : latest_first a ≡ latest_first b =
    same_fronts load turns a b (reverse all) [] [] (latest_first a) (latest_first b)
    (first_call load (step_turns b) load.commands) front_a front_b
    (origins_of-reverse a ∙ ap reverse of_a) (origins_of-reverse b ∙ ap reverse of_b) in
    sym (reverse-reverse a) ∙ (ap reverse same ∙ reverse-reverse b)

-- a workload has one simulated journal
pub one_simulated : (load : Load) (a b : List Item) → IsSimulated load a → IsSimulated load b
    → a ≡ b
one_simulated load a b of_a of_b =
    one_in_order load (order_of load) a b of_a.legal of_b.legal of_a.whole.commands
    of_b.whole.commands of_a.ordered of_b.ordered
