-- A legal journal stays legal, with the same turns and bytes, when its idle freed are settled.
use Rattle.std.proofs.Common.{◌≡◌, ℕ, ◌+◌, ◌-◌, ◌≤◌, Bool, true, false, not, ◌&&◌, ◌||◌, cond, Some}
use Rattle.std.proofs.Common.{List, [], ◌∷◌, ◌++◌, length, map, filter, refl, sym, ap, ◌∙◌, subst}
use Rattle.std.proofs.Common.{arith}
use Rattle.std.specs.Prelude.{◌%◌, replicate, nat_lt, ◌==◌, take, reverse, flat_map, count_by}
use Rattle.std.specs.Prelude.{sum_by, find, take_while}
use Rattle.std.specs.Option.{option_map_or}
use Rattle.std.proofs.lemmas.List.{reverse-append, reverse-reverse}
use Rattle.std.proofs.lemmas.List.Sums.{sum_by-cons, take_while-cons}
use Rattle.sv_packet.specs.Spelling.{spelling_of}
use Rattle.sv_load.specs.Load.{Load, period}
use Rattle.sv_journal.specs.declared.journal.Origin.{Origin}
use Rattle.sv_journal.specs.declared.journal.Origin.TheVariants.{Call, Sync, Reply, Overflow}
use Rattle.sv_journal.specs.declared.journal.Origin.TheVariants.{Command}
use Rattle.sv_journal.specs.declared.journal.Outcome.{Outcome}
use Rattle.sv_journal.specs.declared.journal.Outcome.TheVariants.{Stored, Refused, Ignored, Handled}
use Rattle.sv_journal.specs.declared.journal.Item.{Item}
use Rattle.sv_journal.specs.Items.{latest_first, is_call, is_call_of, is_command, is_sync}
use Rattle.sv_journal.specs.Items.{is_overflow, is_start, is_stop_reply, is_stored, is_refused}
use Rattle.sv_journal.specs.Items.{is_packet, is_on, is_written, last_moment, pending_at}
use Rattle.sv_journal.specs.Items.{is_after_overflow, is_after_refused_overflow, before_overflow}
use Rattle.sv_journal.specs.Items.{event_of, block_of, stream_before, stored_before}
use Rattle.sv_journal.specs.Legal.{IsLegal, IsNextItem, IsCommandInPlace, IsNextStep, IsMoment}
use Rattle.sv_journal.specs.Legal.{IsCount, EachItem, AreFirstCommands, is_head, is_control}
use Rattle.sv_journal.specs.Legal.{is_after_call_group, outcome_at, write_outcome, owes_overflow}
use Rattle.sv_journal.specs.Legal.{overflow_moment, freed_before, commands_in, command_in}
use Rattle.sv_journal.specs.Legal.{step_ticks, group_of}
use Rattle.sv_journal.specs.Stream.{stream_of}
use Rattle.sv_journal.specs.Frees.{written_freed, frees_before}
use Rattle.sv_journal.proofs.Shared.{forms_packet, written_is, freed_rises}
use Rattle.sv_core.specs.Turns.{StepTurn, IsReplayed, HasLatestFreed, IsSameButIdle, without_idle}
use Rattle.sv_core.specs.Turns.{turns_of, turn_at, has_command, step_turns}
use Rattle.sv_core.specs.Replayed.{replay_before, replay_of}
use Rattle.sv_core.proofs.parts.Heads.{has_command-cons}
use Rattle.sv_core.proofs.once.OneReplay.{replayed_once}

-- an item with another freed
abbrev freed_as : ℕ → Item → Item
freed_as n i = record i { freed = n }

-- the item as it is settled behind these
abbrev rested : List Item → Item → Item
rested earlier i = record i { freed = cond (is_written earlier i) i.freed (written_freed earlier) }

-- WHAT DOES NOT READ FREED

found : {X : Type 0} (p : Item → Bool) (g : Item → X) (d : X) →
    ((n : ℕ) (i : Item) → p (freed_as n i) ≡ p i) → ((n : ℕ) (i : Item) → g (freed_as n i) ≡ g i)
    → (items : List Item) →
    option_map_or g (find p (replay_before items)) d ≡ option_map_or g (find p items) d
found p g d same_p same_g [] = refl
found p g d same_p same_g (i ∷ earlier) =
    let n : ℕ = cond (is_written earlier i) i.freed (written_freed earlier) in
    ap (λ b. option_map_or g (cond b (Some (freed_as n i)) (find p (replay_before earlier))) d)
    (same_p n i) ∙ at n (p i) (found p g d same_p same_g earlier) where
      at : (n : ℕ) (b : Bool) →
          option_map_or g (find p (replay_before earlier)) d ≡ option_map_or g (find p earlier) d
          → option_map_or g (cond b (Some (freed_as n i)) (find p (replay_before earlier))) d
          ≡ option_map_or g (cond b (Some i) (find p earlier)) d
      at n true before = same_g n i
      at n false before = before

summed : (f : Item → ℕ) → ((n : ℕ) (i : Item) → f (freed_as n i) ≡ f i) → (items : List Item) →
    sum_by f (replay_before items) ≡ sum_by f items
summed f same [] = refl
summed f same (i ∷ earlier) =
    let n : ℕ = cond (is_written earlier i) i.freed (written_freed earlier) in
    sum_by-cons f (freed_as n i) (replay_before earlier)
    ∙ (ap (λ m. m + sum_by f (replay_before earlier)) (same n i)
    ∙ (ap (λ m. f i + m) (summed f same earlier) ∙ sym (sum_by-cons f i earlier)))

-- the same of those from the latest on that pass
summed_while : (p : Item → Bool) (f : Item → ℕ) → ((n : ℕ) (i : Item) → p (freed_as n i) ≡ p i) →
    ((n : ℕ) (i : Item) → f (freed_as n i) ≡ f i)
    → (items : List Item)
    → sum_by f (take_while p (replay_before items)) ≡ sum_by f (take_while p items)
summed_while p f same_p same_f [] = refl
summed_while p f same_p same_f (i ∷ earlier) =
    let n : ℕ = cond (is_written earlier i) i.freed (written_freed earlier) in
    ap (sum_by f)
    (take_while-cons p (freed_as n i) (replay_before earlier)
    ∙ ap (λ b. cond b (freed_as n i ∷ take_while p (replay_before earlier)) []) (same_p n i))
    ∙ (at n (p i) (summed_while p f same_p same_f earlier)
    ∙ ap (sum_by f) (sym (take_while-cons p i earlier))) where
      at : (n : ℕ) (b : Bool) →
          sum_by f (take_while p (replay_before earlier)) ≡ sum_by f (take_while p earlier) →
          sum_by f (cond b (freed_as n i ∷ take_while p (replay_before earlier)) [])
          ≡ sum_by f (cond b (i ∷ take_while p earlier) [])
      at n true before =
          sum_by-cons f (freed_as n i) (take_while p (replay_before earlier))
          ∙ (ap (λ m. m + sum_by f (take_while p (replay_before earlier))) (same_f n i)
          ∙ (ap (λ m. f i + m) before ∙ sym (sum_by-cons f i (take_while p earlier))))
      at n false before = refl

-- LOOKING BACK

same_on : (load : Load) (items : List Item) → is_on load (replay_before items) ≡ is_on load items
same_on load items =
    found (λ i. is_start load i.origin || is_stop_reply i.origin) (λ i. is_start load i.origin)
    false (λ n i. refl) (λ n i. refl) items

same_last : (items : List Item) → last_moment (replay_before items) ≡ last_moment items
same_last items =
    found (λ i. is_stored i.outcome && not (is_sync i.origin)) (λ i. i.moment) 0 (λ n i. refl)
    (λ n i. refl) items

same_group : (items : List Item)
    → is_after_call_group (replay_before items) ≡ is_after_call_group items
same_group items =
    found (λ i. is_head i.origin) (λ i. is_call i.origin) false (λ n i. refl) (λ n i. refl) items

same_pending : (items : List Item) → pending_at (replay_before items) ≡ pending_at items
same_pending items =
    summed_while (λ i. not (is_overflow i.origin && is_stored i.outcome))
    (λ i. cond (is_packet i && is_refused i.outcome) 1 0) (λ n i. refl) (λ n i. refl) items

same_calls : (writer : ℕ) (items : List Item) →
    count_by (λ i. is_call_of writer i.origin) (replay_before items)
    ≡ count_by (λ i. is_call_of writer i.origin) items
same_calls writer items = summed (λ i. cond (is_call_of writer i.origin) 1 0) (λ n i. refl) items

same_ticks : (load : Load) (items : List Item) →
    sum_by (λ i. step_ticks load i.origin) (replay_before items)
    ≡ sum_by (λ i. step_ticks load i.origin) items
same_ticks load items = summed (λ i. step_ticks load i.origin) (λ n i. refl) items

same_after : (items : List Item) → is_after_overflow (replay_before items) ≡ is_after_overflow items
same_after [] = refl
same_after (i ∷ earlier) = refl

same_refused : (items : List Item) →
    is_after_refused_overflow (replay_before items) ≡ is_after_refused_overflow items
same_refused [] = refl
same_refused (i ∷ earlier) = refl

same_before : (items : List Item)
    → before_overflow (replay_before items) ≡ replay_before (before_overflow items)
same_before [] = refl
same_before (i ∷ earlier) = at (is_overflow i.origin) where
  at : (b : Bool) →
      cond b (replay_before earlier) (rested earlier i ∷ replay_before earlier)
      ≡ replay_before (cond b earlier (i ∷ earlier))
  at true = refl
  at false = refl

same_overflow_moment : (items : List Item) (moment : ℕ) →
    overflow_moment (replay_before items) moment ≡ overflow_moment items moment
same_overflow_moment [] moment = refl
same_overflow_moment (i ∷ earlier) moment = refl

-- what is written stays so
same_written : (earlier : List Item) (i : Item) →
    is_written (replay_before earlier) (rested earlier i) ≡ is_written earlier i
same_written earlier i =
    ap
    (λ b. is_sync i.origin || is_overflow i.origin ||
    (is_packet i && (is_stored i.outcome || is_refused i.outcome) && not b)) (same_refused earlier)

-- and is the same
pub same_block : (load : Load) (earlier : List Item) (i : Item) →
    block_of load (replay_before earlier) (rested earlier i) ≡ block_of load earlier i
same_block load earlier i =
    ap
    (λ last.
    cond (is_sync i.origin) (replicate 10 0)
    (spelling_of (event_of load i) ((i.moment - last) % period load))) (same_last earlier)

-- what is stored, too
pub same_stream : (load : Load) (items : List Item) →
    stream_before load (replay_before items) ≡ stream_before load items
same_stream load [] = refl
same_stream load (i ∷ earlier) =
    ap (λ s. s ++ cond (is_stored i.outcome) (block_of load (replay_before earlier)
    (rested earlier i)) [])
    (same_stream load earlier)
    ∙ ap (λ s. stream_before load earlier ++ cond (is_stored i.outcome) s [])
    (same_block load earlier i)

same_stored : (load : Load) (items : List Item) →
    stored_before load (replay_before items) ≡ stored_before load items
same_stored load items = ap length (same_stream load items)

-- what is freed by what is written
pub same_freed_of : (items : List Item) → written_freed (replay_before items) ≡ written_freed items
same_freed_of [] = refl
same_freed_of (i ∷ earlier) =
    ap
    (λ b.
    cond b (cond (is_written earlier i) i.freed (written_freed earlier))
    (written_freed (replay_before earlier))) (same_written earlier i)
    ∙ at (is_written earlier i) (same_freed_of earlier) where
      at : (b : Bool) → written_freed (replay_before earlier) ≡ written_freed earlier →
          cond b (cond b i.freed (written_freed earlier)) (written_freed (replay_before earlier))
          ≡ cond b i.freed (written_freed earlier)
      at true before = refl
      at false before = before

pub same_frees : (items : List Item) → frees_before (replay_before items) ≡ frees_before items
same_frees [] = refl
same_frees (i ∷ earlier) =
    ap
    (λ ns. ns
    ++ cond (is_written (replay_before earlier) (rested earlier i))
    ((cond (is_written earlier i) i.freed (written_freed earlier)
    - written_freed (replay_before earlier)) ∷ []) []) (same_frees earlier)
    ∙ (ap
    (λ b. frees_before earlier
    ++ cond b
    ((cond (is_written earlier i) i.freed (written_freed earlier)
    - written_freed (replay_before earlier)) ∷ []) []) (same_written earlier i)
    ∙ (ap
    (λ n. frees_before earlier
    ++ cond (is_written earlier i)
    ((cond (is_written earlier i) i.freed (written_freed earlier) - n) ∷ []) [])
    (same_freed_of earlier) ∙ at (is_written earlier i))) where
      at : (b : Bool) →
          frees_before earlier
          ++ cond b ((cond b i.freed (written_freed earlier) - written_freed earlier) ∷ []) []
          ≡ frees_before earlier ++ cond b ((i.freed - written_freed earlier) ∷ []) []
      at true = refl
      at false = refl

-- the freed of a settled journal's latest item
latest_freed : (items : List Item) → freed_before (replay_before items) ≡ written_freed items
latest_freed [] = refl
latest_freed (i ∷ earlier) = refl

-- the same but for idle freed
pub same_but_idle : (items : List Item) → without_idle (replay_before items) ≡ without_idle items
same_but_idle [] = refl
same_but_idle (i ∷ earlier) =
    ap
    (λ is. is
    ++ cond (is_written (replay_before earlier) (rested earlier i)) (rested earlier i)
    (freed_as 0 i) ∷ [])
    (same_but_idle earlier)
    ∙ (ap (λ b. without_idle earlier ++ cond b (rested earlier i) (freed_as 0 i) ∷ [])
    (same_written earlier i) ∙ at (is_written earlier i)) where
      at : (b : Bool) →
          without_idle earlier
          ++ cond b (freed_as (cond b i.freed (written_freed earlier)) i) (freed_as 0 i) ∷ []
          ≡ without_idle earlier ++ cond b i (freed_as 0 i) ∷ []
      at true = refl
      at false = refl

-- settled items are settled
pub each_settled : (items : List Item) → EachItem HasLatestFreed (replay_before items)
each_settled [] = tt
each_settled (i ∷ earlier) = (
  each_settled earlier,
  λ idle. at (is_written earlier i) (sym (ap not (same_written earlier i)) ∙ idle)
      ∙ sym (same_freed_of earlier),
) where
  at : (b : Bool) → not b ≡ true → cond b i.freed (written_freed earlier) ≡ written_freed earlier
  at true h = cc
  at false h = refl

-- AN ITEM MORE

-- an item that is not written has no outcome of a write
not_tried : (load : Load) (o : Origin) (on behind : Bool) (a b : Outcome) →
    (is_sync o || is_overflow o || (forms_packet load o && on && not behind)) ≡ false
    → cond (is_control load o) Handled (cond (not on) Ignored (cond behind Refused a))
    ≡ cond (is_control load o) Handled (cond (not on) Ignored (cond behind Refused b))
not_tried load (Call writer step) on behind a b h =
    at (is_control load (Call writer step)) on behind h where
      at : (control on behind : Bool) → (not control && on && not behind) ≡ false →
          cond control Handled (cond (not on) Ignored (cond behind Refused a))
          ≡ cond control Handled (cond (not on) Ignored (cond behind Refused b))
      at true on behind h = refl
      at false true true h = refl
      at false true false h = cc
      at false false behind h = refl
not_tried load Sync on behind a b h = cc
not_tried load (Reply kind index) true true a b h = refl
not_tried load (Reply kind index) true false a b h = cc
not_tried load (Reply kind index) false behind a b h = refl
not_tried load (Overflow count) on behind a b h = cc
not_tried load (Command byte param) on behind a b h = at (byte == 1) (byte == 2) where
  at : (c d : Bool) →
      cond (c || d || true) Handled (cond (not on) Ignored (cond behind Refused a))
      ≡ cond (c || d || true) Handled (cond (not on) Ignored (cond behind Refused b))
  at true d = refl
  at false true = refl
  at false false = refl

-- what becomes of a settled item
same_outcome : (load : Load) (earlier : List Item) (i : Item) →
    i.outcome ≡ outcome_at load earlier i →
    i.outcome ≡ outcome_at load (replay_before earlier) (rested earlier i)
same_outcome load earlier i outcome =
    outcome
    ∙ (at (is_written earlier i) refl
    ∙ (sym
    (ap
    (λ b.
    cond (is_control load i.origin) Handled
    (cond (not b) Ignored (cond (is_after_refused_overflow earlier) Refused tried)))
    (same_on load earlier))
    ∙ sym
    (ap
    (λ b.
    cond (is_control load i.origin) Handled
    (cond (not (is_on load (replay_before earlier))) Ignored (cond b Refused tried)))
    (same_refused earlier)))) where
      tried : Outcome
      tried = write_outcome load (replay_before earlier) (rested earlier i)

      written : is_written earlier i ≡ true →
          write_outcome load earlier i
          ≡ write_outcome load (replay_before earlier) (rested earlier i)
      written e =
          ap
          (λ n.
          cond (nat_lt ((load.ring - 1) - (n - i.freed)) (length (block_of load earlier i))) Refused
          Stored) (sym (same_stored load earlier))
          ∙ (ap
          (λ n.
          cond
          (nat_lt ((load.ring - 1) - (stored_before load (replay_before earlier) - n))
          (length (block_of load earlier i))) Refused Stored)
          (sym (ap (λ b. cond b i.freed (written_freed earlier)) e))
          ∙ ap
          (λ s.
          cond
          (nat_lt
          ((load.ring - 1)
          - (stored_before load (replay_before earlier)
          - cond (is_written earlier i) i.freed (written_freed earlier))) (length s)) Refused
          Stored) (sym (same_block load earlier i)))

      at : (b : Bool) → is_written earlier i ≡ b
          → outcome_at load earlier i
          ≡ cond (is_control load i.origin) Handled
          (cond (not (is_on load earlier)) Ignored
          (cond (is_after_refused_overflow earlier) Refused
          (write_outcome load (replay_before earlier) (rested earlier i))))
      at true e =
          ap
          (λ r.
          cond (is_control load i.origin) Handled
          (cond (not (is_on load earlier)) Ignored
          (cond (is_after_refused_overflow earlier) Refused r))) (written e)
      at false e =
          not_tried load i.origin (is_on load earlier) (is_after_refused_overflow earlier)
          (write_outcome load earlier i)
          (write_outcome load (replay_before earlier) (rested earlier i))
          (sym (written_is load earlier i outcome) ∙ e)

-- by the origin
settled_command : (earlier : List Item) (o : Origin) → IsCommandInPlace earlier o →
    IsCommandInPlace (replay_before earlier) o
settled_command earlier (Call writer step) h = h
settled_command earlier Sync h = h
settled_command earlier (Reply kind index) h = h
settled_command earlier (Overflow count) h = h
settled_command earlier (Command byte param) h = (same_group earlier ∙ h.0, h.1)

settled_step : (load : Load) (earlier : List Item) (o : Origin) → IsNextStep load earlier o →
    IsNextStep load (replay_before earlier) o
settled_step load earlier (Call writer step) h = (h.0 ∙ sym (same_calls writer earlier), h.1)
settled_step load earlier Sync h = h
settled_step load earlier (Reply kind index) h = h
settled_step load earlier (Overflow count) h = h
settled_step load earlier (Command byte param) h = h

settled_moment : (load : Load) (earlier : List Item) (i : Item) (o : Origin) →
    IsMoment load earlier i o → IsMoment load (replay_before earlier) (rested earlier i) o
settled_moment load earlier i (Call writer step) h = h ∙ sym (same_ticks load (i ∷ earlier))
settled_moment load earlier i Sync h = h ∙ sym (same_ticks load (i ∷ earlier))
settled_moment load earlier i (Reply kind index) h = h ∙ sym (same_ticks load (i ∷ earlier))
settled_moment load earlier i (Overflow count) h = h
settled_moment load earlier i (Command byte param) h = h ∙ sym (same_ticks load (i ∷ earlier))

settled_count : (earlier : List Item) (o : Origin) → IsCount earlier o
    → IsCount (replay_before earlier) o
settled_count earlier (Call writer step) h = h
settled_count earlier Sync h = h
settled_count earlier (Reply kind index) h = h
settled_count earlier (Overflow count) h = h ∙ sym (same_pending earlier)
settled_count earlier (Command byte param) h = h

-- a settled item may follow the settled ones
settled_next : (load : Load) (earlier : List Item) (i : Item) →
    EachItem (IsNextItem load) (i ∷ earlier)
    → IsNextItem load (replay_before earlier) (rested earlier i)
settled_next load earlier i each = record {
  command = settled_command earlier i.origin next.command;
  step = settled_step load earlier i.origin next.step;
  moment = settled_moment load earlier i i.origin next.moment;
  overflow_moment = same_overflow_moment earlier i.moment ∙ next.overflow_moment;
  freed_rises =
      subst (λ n. n ≤ cond (is_written earlier i) i.freed (written_freed earlier))
      (sym (latest_freed earlier)) (least (is_written earlier i));
  freed_stored =
      subst (λ n. cond (is_written earlier i) i.freed (written_freed earlier) ≤ n)
      (sym (same_stored load earlier)) (most (is_written earlier i));
  outcome = same_outcome load earlier i next.outcome;
  count = settled_count earlier i.origin next.count;
  overflow = same_after earlier ∙ (next.overflow ∙ owed);
} where
  next : IsNextItem load earlier i
  next = each.1

  rises : written_freed earlier ≤ i.freed
  rises = freed_rises load earlier i each

  least : (b : Bool) → written_freed earlier ≤ cond b i.freed (written_freed earlier)
  least true = rises
  least false = omega arith

  stored : i.freed ≤ stored_before load earlier
  stored = next.freed_stored

  most : (b : Bool) → cond b i.freed (written_freed earlier) ≤ stored_before load earlier
  most true = stored
  most false = omega (arith, rises, stored)

  owed : owes_overflow load (before_overflow earlier) i
      ≡ owes_overflow load (before_overflow (replay_before earlier)) (rested earlier i)
  owed =
      ap (λ b. (is_packet i && b) && nat_lt 0 (pending_at (before_overflow earlier)))
      (sym (same_on load (before_overflow earlier)))
      ∙ (ap (λ n. (is_packet i && is_on load (replay_before
      (before_overflow earlier))) && nat_lt 0 n)
      (sym (same_pending (before_overflow earlier)))
      ∙ ap (λ is. (is_packet i && is_on load is) && nat_lt 0 (pending_at is))
      (sym (same_before earlier)))

settled_each : (load : Load) (items : List Item) → EachItem (IsNextItem load) items →
    EachItem (IsNextItem load) (replay_before items)
settled_each load [] each = tt
settled_each load (i ∷ earlier) each =
    (settled_each load earlier each.0, settled_next load earlier i each)

-- WHAT THE ORIGINS TELL

abbrev pub origins : List Item → List Origin
origins items = map (λ i. i.origin) items

settled_origins : (items : List Item) → origins (replay_before items) ≡ origins items
settled_origins [] = refl
settled_origins (i ∷ earlier) = ap (λ os. i.origin ∷ os) (settled_origins earlier)

pub origins-append : (xs ys : List Item) → origins (xs ++ ys) ≡ origins xs ++ origins ys
origins-append [] ys = refl
origins-append (i ∷ xs) ys = ap (λ os. i.origin ∷ os) (origins-append xs ys)

origins-reverse : (items : List Item) → origins (reverse items) ≡ reverse (origins items)
origins-reverse [] = refl
origins-reverse (i ∷ items) =
    ap origins (reverse-append (i ∷ []) items)
    ∙ (origins-append (reverse items) (i ∷ [])
    ∙ (ap (λ os. os ++ i.origin ∷ []) (origins-reverse items)
    ∙ sym (reverse-append (i.origin ∷ []) (origins items))))

-- a journal keeps its origins
pub same_origins : (items : List Item) → origins (replay_of items) ≡ origins items
same_origins items =
    origins-reverse (replay_before (reverse items))
    ∙ (ap reverse (settled_origins (reverse items))
    ∙ (ap reverse (origins-reverse items) ∙ reverse-reverse (origins items)))

-- two journals of the same origins
pub told_commands : (items : List Item) → commands_in items ≡ flat_map command_in (origins items)
told_commands [] = refl
told_commands (i ∷ items) = ap (λ cs. command_in i.origin ++ cs) (told_commands items)

told_number : (items : List Item) →
    count_by (λ i. is_command i.origin) items ≡ count_by is_command (origins items)
told_number [] = refl
told_number (i ∷ items) =
    sum_by-cons (λ (j : Item). cond (is_command j.origin) 1 0) i items
    ∙ (ap (λ n. cond (is_command i.origin) 1 0 + n) (told_number items)
    ∙ sym (sum_by-cons (λ o. cond (is_command o) 1 0) i.origin (origins items)))

-- the turns by the origins
abbrev pub told_command : List Origin → Bool
told_command [] = false
told_command (o ∷ os) = cond (is_call o) false (is_command o || told_command os)

abbrev pub told_turn : Origin → List Origin → List StepTurn
told_turn (Call writer step) os = record { writer = writer; command = told_command os } ∷ []
told_turn other os = []

abbrev pub told_turns : List Origin → List StepTurn
told_turns [] = []
told_turns (o ∷ os) = told_turn o os ++ told_turns os

pub command_told : (items : List Item) → has_command items ≡ told_command (origins items)
command_told [] = refl
command_told (i ∷ items) =
    has_command-cons i items
    ∙ ap (λ b. cond (is_call i.origin) false (is_command i.origin || b)) (command_told items)

pub turns_told : (items : List Item) → step_turns items ≡ told_turns (origins items)
turns_told [] = refl
turns_told (i ∷ items) =
    ap (λ ts. turn_at i.origin items ++ ts) (turns_told items)
    ∙ ap (λ ts. ts ++ told_turns (origins items)) (at i.origin) where
      at : (o : Origin) → turn_at o items ≡ told_turn o (origins items)
      at (Call writer step) =
          ap (λ b. record { writer = writer; command = b } ∷ []) (command_told items)
      at Sync = refl
      at (Reply kind index) = refl
      at (Overflow count) = refl
      at (Command byte param) = refl

-- THE SETTLED JOURNAL

-- the latest first
back : (items : List Item) → latest_first (replay_of items) ≡ replay_before (latest_first items)
back items = reverse-reverse (replay_before (reverse items))

pub settled_legal : (load : Load) (items : List Item) → IsLegal load items →
    IsLegal load (replay_of items)
settled_legal load items legal = record {
  groups =
      ap (filter (λ o. not (is_overflow o))) (same_origins items)
      ∙ (legal.groups
      ∙ ap (λ os. flat_map (group_of load) (filter is_head (filter (λ o. not (is_overflow o)) os)))
      (sym (same_origins items)));
  commands =
      subst (λ n. n ≤ length load.commands)
      (sym
      (told_number (replay_of items)
      ∙ (ap (count_by is_command) (same_origins items) ∙ sym (told_number items)))) legal.commands;
  ends = ap is_after_overflow (back items) ∙ (same_after (reverse items) ∙ legal.ends);
  each =
      subst (EachItem (IsNextItem load)) (sym (back items))
      (settled_each load (reverse items) legal.each);
}

pub settled_turns : (items : List Item) → turns_of (replay_of items) ≡ turns_of items
settled_turns items =
    ap (λ ts. record { steps = ts; frees = frees_before (latest_first (replay_of items)) })
    (turns_told (replay_of items) ∙ (ap told_turns (same_origins items) ∙ sym (turns_told items)))
    ∙ ap (λ ns. record { steps = step_turns items; frees = ns })
    (ap frees_before (back items) ∙ same_frees (reverse items))

pub settled_commands : (items : List Item) → commands_in (replay_of items) ≡ commands_in items
settled_commands items =
    told_commands (replay_of items)
    ∙ (ap (flat_map command_in) (same_origins items) ∙ sym (told_commands items))

-- the turns of a legal journal are replayed to its settled one
pub replayed : (load : Load) (items : List Item) → IsLegal load items →
    AreFirstCommands load items → IsReplayed load (turns_of items) (replay_of items)
replayed load items legal commands = record {
  legal = settled_legal load items legal;
  turned = settled_turns items;
  commands =
      settled_commands items
      ∙ (commands ∙ ap (λ cs. take (length cs) load.commands) (sym (settled_commands items)));
  settled = subst (EachItem HasLatestFreed) (sym (back items)) (each_settled (reverse items));
}

pub settled_same : (items : List Item) → IsSameButIdle items (replay_of items)
settled_same items = sym (ap without_idle (back items) ∙ same_but_idle (reverse items))

pub settled_stream : (load : Load) (items : List Item) →
    stream_of load items ≡ stream_of load (replay_of items)
settled_stream load items =
    sym (ap (stream_before load) (back items) ∙ same_stream load (reverse items))

-- so whatever they are replayed to is the same journal but for idle freed, with the same bytes
pub replay_same : (load : Load) (items others : List Item) → IsLegal load items →
    AreFirstCommands load items → IsReplayed load (turns_of items) others
    → IsSameButIdle items others × (stream_of load items ≡ stream_of load others)
replay_same load items others legal commands of =
    let same : replay_of items ≡ others =
    replayed_once load (turns_of items) (replay_of items) others
    (replayed load items legal commands) of in (
      settled_same items ∙ ap (λ is. without_idle (latest_first is)) same,
      settled_stream load items ∙ ap (stream_of load) same,
    )
