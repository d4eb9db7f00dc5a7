-- What one item more changes.
use Rattle.std.proofs.Common.{◌≡◌, ◌+◌, ◌≤◌, Bool, true, false, not, ◌&&◌, ◌||◌, cond, Some, List}
use Rattle.std.proofs.Common.{[], ◌∷◌, ◌++◌, length, refl, sym, ap, ◌∙◌, inl, inr, subst, arith}
use Rattle.std.proofs.Common.{append_assoc, append-nil, filter, map}
use Rattle.std.specs.Prelude.{take_while, count_by, flat_map, find, if◌then◌else◌}
use Rattle.std.proofs.lemmas.List.{reverse-append, map-append}
use Rattle.std.proofs.lemmas.List.Concat.{flat_map-append}
use Rattle.std.proofs.lemmas.List.Elements.{filter-append}
use Rattle.std.proofs.lemmas.List.Sums.{sum_by-cons, take_while-cons}
use Rattle.std.specs.Option.{option_map_or}
use Rattle.std.proofs.Common.{length-append}
use Rattle.sv_load.specs.Load.{Load}
use Rattle.sv_journal.specs.declared.journal.Origin.{Origin}
use Rattle.sv_journal.specs.declared.journal.Outcome.TheVariants.{Refused, Ignored, Handled}
use Rattle.sv_journal.specs.declared.journal.Item.{Item}
use Rattle.sv_journal.specs.Items.{latest_first, is_command, is_overflow, is_start, is_stored}
use Rattle.sv_journal.specs.Items.{is_refused, is_packet, is_sync, is_stop_reply, is_on}
use Rattle.sv_journal.specs.Items.{pending_at, last_moment, is_after_overflow}
use Rattle.sv_journal.specs.Items.{is_after_refused_overflow, block_of, stored_before}
use Rattle.sv_journal.specs.Items.{stream_before}
use Rattle.sv_journal.specs.Legal.{IsLegal, IsNextItem, EachItem, group_of, is_head, answers_of}
use Rattle.sv_journal.specs.Legal.{origins_of, outcome_at, write_outcome, is_control}
use Rattle.sv_journal.specs.Stream.{stream_of}
use Rattle.sv_journal.specs.Open.{AreGroupsWith, IsOpen, IsDue}

-- the new item is the latest
pub latest_first-push : (items : List Item) (i : Item) → latest_first (items ++ i ∷ []) ≡ i
    ∷ latest_first items
latest_first-push items i = reverse-append items (i ∷ [])

-- the stream gains the block of a stored item
pub stream_of-push : (load : Load) (items : List Item) (i : Item)
    → stream_of load (items ++ i ∷ []) ≡ stream_of load items ++
    (if is_stored i.outcome then block_of load (latest_first items) i else [])
stream_of-push load items i = ap (stream_before load) (latest_first-push items i)

-- what holds of each item holds with the new one
pub each-push : (P : List Item → Item → Type 0) (items : List Item) (i : Item)
    → EachItem P (latest_first items) → P (latest_first items) i
    → EachItem P (latest_first (items ++ i ∷ []))
each-push P items i each here = subst (EachItem P) (sym (latest_first-push items i)) (each, here)

-- the origins of two lists of items
origins_of-append : (items more : List Item) → origins_of (items ++ more) ≡ origins_of items ++
    origins_of more
origins_of-append items more = ap (filter (λ o. not (is_overflow o)))
    (map-append (λ (i : Item). i.origin) items more)
    ∙ filter-append (λ o. not (is_overflow o)) (map (λ (i : Item). i.origin) items)
    (map (λ (i : Item). i.origin) more)

-- the origins with one more
pub origins_of-push : (items : List Item) (i : Item) → is_overflow i.origin ≡ false
    → origins_of (items ++ i ∷ []) ≡ origins_of items ++ i.origin ∷ []
origins_of-push items i other = origins_of-append items (i ∷ [])
    ∙ ap (λ b. origins_of items ++ cond (not b) (i.origin ∷ []) []) other

pub origins_of-overflow : (items : List Item) (i : Item) → is_overflow i.origin ≡ true
    → origins_of (items ++ i ∷ []) ≡ origins_of items
origins_of-overflow items i overflow = origins_of-append items (i ∷ [])
    ∙ (ap (λ b. origins_of items ++ cond (not b) (i.origin ∷ []) []) overflow
    ∙ append-nil (origins_of items))

-- the groups of two rows of origins
groups-append : (load : Load) (os more : List Origin)
    → flat_map (group_of load) (filter is_head (os ++ more)) ≡ flat_map (group_of load)
    (filter is_head os) ++ flat_map (group_of load) (filter is_head more)
groups-append load os more = ap (flat_map (group_of load)) (filter-append is_head os more)
    ∙ flat_map-append (group_of load) (filter is_head os) (filter is_head more)

-- a head begins a group, and its answers are owed
pub groups-head : (load : Load) (os : List Origin) (h : Origin) → is_head h ≡ true
    → AreGroupsWith load os [] → AreGroupsWith load (os ++ h ∷ []) (answers_of load h)
groups-head load os h head groups =
    let known : flat_map (group_of load) (filter is_head (os ++ h ∷ [])) ≡ flat_map (group_of load)
    (filter is_head os) ++ flat_map (group_of load) (filter is_head (h ∷ [])) =
    groups-append load os (h ∷ []) in
    let one : flat_map (group_of load) (filter is_head (h ∷ [])) ≡ group_of load h =
    ap (λ b. flat_map (group_of load) (cond b (h ∷ []) [])) head
    ∙ append-nil (group_of load h) in
    let before : os ≡ flat_map (group_of load) (filter is_head os) = sym (append-nil os) ∙ groups in
    let split : (os ++ h ∷ []) ++ answers_of load h ≡ os ++ group_of load h =
    append_assoc os (h ∷ []) (answers_of load h) in
    split ∙ sym (known ∙ (ap (λ xs. xs ++ flat_map (group_of load) (filter is_head (h ∷ [])))
    (sym before) ∙ ap (λ xs. os ++ xs) one))

-- an answer that was owed is given
pub groups-answer : (load : Load) (os owed : List Origin) (o : Origin) → is_head o ≡ false
    → AreGroupsWith load os (o ∷ owed) → AreGroupsWith load (os ++ o ∷ []) owed
groups-answer load os owed o answer groups =
    let known : flat_map (group_of load) (filter is_head (os ++ o ∷ [])) ≡ flat_map (group_of load)
    (filter is_head os) ++ flat_map (group_of load) (filter is_head (o ∷ [])) =
    groups-append load os (o ∷ []) in
    let none : flat_map (group_of load) (filter is_head (o ∷ [])) ≡ [] =
    ap (λ b. flat_map (group_of load) (cond b (o ∷ []) [])) answer in
    let split : (os ++ o ∷ []) ++ owed ≡ os ++ (o ∷ owed) = append_assoc os (o ∷ []) owed in
    split ∙ (groups ∙ sym (known ∙ (ap (λ xs. flat_map (group_of load) (filter is_head os) ++ xs)
    none ∙ append-nil (flat_map (group_of load) (filter is_head os)))))

abbrev is_lost : Item → Bool
is_lost i = is_packet i && is_refused i.outcome

abbrev is_told : Item → Bool
is_told i = is_overflow i.origin && is_stored i.outcome

-- what is pending after an item
pending_at-cons : (earlier : List Item) (i : Item)
    → pending_at (i ∷ earlier) ≡ cond (is_told i) 0 (cond (is_lost i) 1 0 + pending_at earlier)
pending_at-cons earlier i = elim (is_told i) as (λ b. is_told i ≡ b
    → pending_at (i ∷ earlier) ≡ cond b 0 (cond (is_lost i) 1 0 + pending_at earlier)) [
      | true ↦ λ told. ap (count_by is_lost) (take_while-cons (λ j. not (is_told j)) i earlier
          ∙ ap (λ b. cond (not b) (i ∷ take_while (λ j. not (is_told j)) earlier) []) told)
      | false ↦ λ kept. ap (count_by is_lost) (take_while-cons (λ j. not (is_told j)) i earlier
          ∙ ap (λ b. cond (not b) (i ∷ take_while (λ j. not (is_told j)) earlier) []) kept)
          ∙ sum_by-cons (λ j. cond (is_lost j) 1 0) i (take_while (λ j. not (is_told j)) earlier)
    ] refl

-- a refused packet is pending
pub pending_at-refused : (earlier : List Item) (i : Item) → is_overflow i.origin ≡ false
    → is_packet i ≡ true → is_refused i.outcome ≡ true
    → pending_at (i ∷ earlier) ≡ 1 + pending_at earlier
pending_at-refused earlier i other packet refused =
    let told : is_told i ≡ false = ap (λ b. b && is_stored i.outcome) other in
    let lost : is_lost i ≡ true = ap (λ b. b && is_refused i.outcome) packet ∙ refused in
    pending_at-cons earlier i ∙ (ap (λ b. cond b 0 (cond (is_lost i) 1 0 + pending_at earlier)) told
    ∙ ap (λ b. cond b 1 0 + pending_at earlier) lost)

-- nothing is pending after a stored overflow
pub pending_at-stored_overflow : (earlier : List Item) (i : Item) → is_overflow i.origin ≡ true
    → is_stored i.outcome ≡ true → pending_at (i ∷ earlier) ≡ 0
pending_at-stored_overflow earlier i overflow stored =
    let told : is_told i ≡ true = ap (λ b. b && is_stored i.outcome) overflow ∙ stored in
    pending_at-cons earlier i ∙ ap (λ b. cond b 0 (cond (is_lost i) 1 0 + pending_at earlier)) told

-- any other item leaves what is pending
pub pending_at-other : (earlier : List Item) (i : Item)
    → (is_overflow i.origin && is_stored i.outcome) ≡ false
    → (is_packet i && is_refused i.outcome) ≡ false → pending_at (i ∷ earlier) ≡ pending_at earlier
pending_at-other earlier i other kept =
    let none : cond (is_lost i) 1 0 + pending_at earlier ≡ pending_at earlier =
    ap (λ b. cond b 1 0 + pending_at earlier) kept ∙ omega arith in
    pending_at-cons earlier i ∙ (ap (λ b. cond b 0 (cond (is_lost i) 1 0 + pending_at earlier))
    other ∙ none)

-- what may come next keeps the groups
pub groups-due : (load : Load) (os owed rest : List Origin) (o : Origin) → IsDue load owed o rest
    → AreGroupsWith load os owed → AreGroupsWith load (os ++ o ∷ []) rest
groups-due load os owed rest o (inl answer) groups =
    groups-answer load os rest o answer.0 (subst (AreGroupsWith load os) answer.1 groups)
groups-due load os owed rest o (inr head) groups =
    subst (AreGroupsWith load (os ++ o ∷ [])) (sym head.2)
    (groups-head load os o head.0 (subst (AreGroupsWith load os) head.1 groups))

-- a journal that owes nothing is legal
pub IsLegal-open : (load : Load) (items : List Item) → IsOpen load items [] → IsLegal load items
IsLegal-open load items o = record {
  groups = sym (append-nil (origins_of items))
      ∙ o.groups;
  commands = o.commands;
  ends = o.ends;
  each = o.each;
}

-- a legal journal owes nothing
pub IsOpen-legal : (load : Load) (items : List Item) → IsLegal load items → IsOpen load items []
IsOpen-legal load items l = record {
  groups = append-nil (origins_of items)
      ∙ l.groups;
  commands = l.commands;
  ends = l.ends;
  each = l.each;
}

-- the latest item is this one
ends-push : (items : List Item) (i : Item) → is_overflow i.origin ≡ false
    → is_after_overflow (latest_first (items ++ i ∷ [])) ≡ false
ends-push items i other = ap is_after_overflow (latest_first-push items i) ∙ other

-- an item that is no overflow goes on with an open journal
pub IsOpen-push : (load : Load) (items : List Item) (owed rest : List Origin) (i : Item)
    → IsOpen load items owed → IsDue load owed i.origin rest → is_overflow i.origin ≡ false
    → count_by (λ j. is_command j.origin) (items ++ i ∷ []) ≤ length load.commands
    → IsNextItem load (latest_first items) i
    → IsOpen load (items ++ i ∷ []) rest
IsOpen-push load items owed rest i o due other few next = record {
  groups = subst (λ os. AreGroupsWith load os rest) (sym (origins_of-push items i other))
      (groups-due load (origins_of items) owed rest i.origin due o.groups);
  commands = few;
  ends = ends-push items i other;
  each = each-push (IsNextItem load) items i o.each next;
}

-- an overflow and the packet after it go on with an open journal
pub IsOpen-overflow : (load : Load) (items : List Item) (owed rest : List Origin) (o i : Item)
    → IsOpen load items owed → IsDue load owed i.origin rest → is_overflow o.origin ≡ true
    → is_overflow i.origin ≡ false
    → count_by (λ j. is_command j.origin) ((items ++ o ∷ []) ++ i ∷ []) ≤ length load.commands
    → IsNextItem load (latest_first items) o → IsNextItem load (o ∷ latest_first items) i
    → IsOpen load ((items ++ o ∷ []) ++ i ∷ []) rest
IsOpen-overflow load items owed rest o i open_before due overflow other few next behind = record {
  groups = subst (λ os. AreGroupsWith load os rest)
      (sym (origins_of-push (items ++ o ∷ []) i other
      ∙ ap (λ os. os ++ i.origin ∷ []) (origins_of-overflow items o overflow)))
      (groups-due load (origins_of items) owed rest i.origin due open_before.groups);
  commands = few;
  ends = ends-push (items ++ o ∷ []) i other;
  each = each-push (IsNextItem load) (items ++ o ∷ []) i
      (each-push (IsNextItem load) items o open_before.each next)
      (subst (λ es. IsNextItem load es i) (sym (latest_first-push items o)) behind);
}

-- LOOKING BACK PAST ONE ITEM MORE

pub is_on-start : (load : Load) (earlier : List Item) (i : Item) → is_start load i.origin ≡ true
    → is_on load (i ∷ earlier) ≡ true
is_on-start load earlier i start = ap (λ b. option_map_or (λ (j : Item). is_start load j.origin)
    (cond (b || is_stop_reply i.origin) (Some i)
    (find (λ (j : Item). is_start load j.origin || is_stop_reply j.origin) earlier)) false) start
    ∙ start

pub is_on-stop : (load : Load) (earlier : List Item) (i : Item) → is_start load i.origin ≡ false
    → is_stop_reply i.origin ≡ true → is_on load (i ∷ earlier) ≡ false
is_on-stop load earlier i start stop = rw (start, stop) start

pub is_on-other : (load : Load) (earlier : List Item) (i : Item) → is_start load i.origin ≡ false
    → is_stop_reply i.origin ≡ false → is_on load (i ∷ earlier) ≡ is_on load earlier
is_on-other load earlier i start stop = rw (start, stop) refl

pub last_moment-stored : (earlier : List Item) (i : Item) → is_stored i.outcome ≡ true
    → is_sync i.origin ≡ false → last_moment (i ∷ earlier) ≡ i.moment
last_moment-stored earlier i stored sync = rw (stored, sync) refl

pub last_moment-other : (earlier : List Item) (i : Item)
    → (is_stored i.outcome && not (is_sync i.origin)) ≡ false
    → last_moment (i ∷ earlier) ≡ last_moment earlier
last_moment-other earlier i other = rw other refl

pub stored_before-le : (load : Load) (earlier : List Item) (i : Item)
    → stored_before load earlier ≤ stored_before load (i ∷ earlier)
stored_before-le load earlier i = rw length-append (omega arith)

-- WHAT BECOMES OF AN ITEM

pub outcome_at-control : (load : Load) (earlier : List Item) (i : Item)
    → is_control load i.origin ≡ true → outcome_at load earlier i ≡ Handled
outcome_at-control load earlier i control = rw control refl

pub outcome_at-off : (load : Load) (earlier : List Item) (i : Item)
    → is_control load i.origin ≡ false → is_on load earlier ≡ false
    → outcome_at load earlier i ≡ Ignored
outcome_at-off load earlier i control off = rw (control, off) refl

pub outcome_at-after : (load : Load) (earlier : List Item) (i : Item)
    → is_control load i.origin ≡ false → is_on load earlier ≡ true
    → is_after_refused_overflow earlier ≡ true → outcome_at load earlier i ≡ Refused
outcome_at-after load earlier i control on behind = rw (control, on, behind) refl

pub outcome_at-write : (load : Load) (earlier : List Item) (i : Item)
    → is_control load i.origin ≡ false → is_on load earlier ≡ true
    → is_after_refused_overflow earlier ≡ false → outcome_at load earlier i ≡ write_outcome load
    earlier i
outcome_at-write load earlier i control on behind = rw (control, on, behind) refl

-- a TRACE_STOP switches the recorder off, and no other item but a start changes that
pub is_on-told : (load : Load) (earlier : List Item) (i : Item) → is_start load i.origin ≡ false
    → is_on load earlier ≡ true → is_on load (i ∷ earlier) ≡ not (is_stop_reply i.origin)
is_on-told load earlier i start on = elim (is_stop_reply i.origin) as
    (λ b. is_stop_reply i.origin ≡ b → is_on load (i ∷ earlier) ≡ not b) [
      | true ↦ λ stop. is_on-stop load earlier i start stop
      | false ↦ λ other. is_on-other load earlier i start other ∙ on
    ] refl

-- a recorder that is off stays so, but for a start
pub is_on-off : (load : Load) (earlier : List Item) (i : Item) → is_start load i.origin ≡ false
    → is_on load earlier ≡ false → is_on load (i ∷ earlier) ≡ false
is_on-off load earlier i start off = elim (is_stop_reply i.origin) as
    (λ b. is_stop_reply i.origin ≡ b → is_on load (i ∷ earlier) ≡ false) [
      | true ↦ λ stop. is_on-stop load earlier i start stop
      | false ↦ λ other. is_on-other load earlier i start other ∙ off
    ] refl
