-- What a recorder keeps is kept by each kind of item.
use Rattle.std.proofs.Common.{◌≡◌, ℕ, ◌+◌, ◌<◌, ◌≤◌, Bool, true, false, not, ◌&&◌, ◌||◌, cond, List}
use Rattle.std.proofs.Common.{[], ◌∷◌, ◌++◌, length, length-append, refl, sym, ap, ◌∙◌, subst}
use Rattle.std.proofs.Common.{arith, rules, append-nil}
use Rattle.std.specs.Prelude.{count_by, nat_lt, if◌then◌else◌}
use Rattle.sv_load.specs.Load.{Load}
use Rattle.sv_journal.specs.declared.journal.Origin.{Origin}
use Rattle.sv_journal.specs.declared.journal.Origin.TheVariants.{Sync}
use Rattle.sv_journal.specs.declared.journal.Outcome.{Outcome}
use Rattle.sv_journal.specs.declared.journal.Outcome.TheVariants.{Stored, Refused, Ignored, Handled}
use Rattle.sv_journal.specs.declared.journal.Item.{Item}
use Rattle.sv_journal.specs.Items.{latest_first, is_command, is_overflow, is_stored, is_refused}
use Rattle.sv_journal.specs.Items.{is_packet, holds_packet, is_sync, is_start, is_stop_reply, is_on}
use Rattle.sv_journal.specs.Items.{pending_at, last_moment, block_of, stored_before}
use Rattle.sv_journal.specs.Legal.{IsNextItem, owes_overflow, write_outcome, freed_before}
use Rattle.sv_journal.specs.Stream.{stream_of}
use Rattle.sv_journal.specs.Open.{IsOpen, IsDue}
use Rattle.sv_journal.proofs.Shared.{latest_first-push, stream_of-push, IsOpen-push}
use Rattle.sv_journal.proofs.Shared.{IsOpen-overflow, pending_at-refused, pending_at-other}
use Rattle.sv_journal.proofs.Shared.{last_moment-stored, last_moment-other, is_on-start}
use Rattle.sv_journal.proofs.Shared.{is_on-other, is_on-told, is_on-off, Stands, next-plain}
use Rattle.sv_journal.proofs.Shared.{next-overflow, next-after, overflow_item}
use Rattle.sv_recorder.specs.Kept.{Keeps}

-- the bytes that an item adds to the stream
abbrev pub added : Load → List Item → Item → List ℕ
added load earlier i = if is_stored i.outcome then block_of load earlier i else []

-- one item more, and what is kept then
pub keeps-push : (load : Load) (items : List Item) (owed rest : List Origin) (sent : List ℕ)
    (freed : ℕ) (on : Bool) (pending last : ℕ) (i : Item) (now : List ℕ) (freed_now : ℕ)
    → Keeps load items owed sent freed on pending last
    → IsOpen load (items ++ i ∷ []) rest
    → now ≡ sent ++ added load (latest_first items) i → i.freed ≤ freed_now → freed_now ≤ length now
    → Keeps load (items ++ i ∷ []) rest now freed_now (is_on load (i ∷ latest_first items))
    (pending_at (i ∷ latest_first items)) (last_moment (i ∷ latest_first items))
keeps-push load items owed rest sent freed on pending last i now freed_now k opened grown low high =
    record {
      opened = opened;
      sent_is = grown ∙ (ap (λ bs. bs ++ added load (latest_first items) i) k.sent_is
          ∙ sym (stream_of-push load items i));
      on_is = ap (is_on load) (sym (latest_first-push items i));
      pending_is = ap pending_at (sym (latest_first-push items i));
      last_is = ap last_moment (sym (latest_first-push items i));
      freed_rises = subst (λ es. freed_before es ≤ freed_now) (sym (latest_first-push items i)) low;
      freed_stored = high;
    }

-- what is known of the place of an item that is no overflow
pub record Comes (load : Load) (items : List Item) (owed : List Origin) (i : Item)
    (rest : List Origin) : Type 0 where
  pub due : IsDue load owed i.origin rest
  pub few : count_by (λ j. is_command j.origin) (items ++ i ∷ []) ≤ length load.commands
  pub stands : Stands load (latest_first items) i

-- a plain item: handled, ignored, a sync, or a packet while nothing is pending
pub keeps-plain : (load : Load) (items : List Item) (owed rest : List Origin) (sent : List ℕ)
    (freed : ℕ) (on : Bool) (pending last : ℕ) (i : Item) (now : List ℕ) (freed_now : ℕ)
    → Keeps load items owed sent freed on pending last
    → Comes load items owed i rest
    → owes_overflow load (latest_first items) i ≡ false
    → now ≡ sent ++ added load (latest_first items) i → i.freed ≤ freed_now → freed_now ≤ length now
    → Keeps load (items ++ i ∷ []) rest now freed_now (is_on load (i ∷ latest_first items))
    (pending_at (i ∷ latest_first items)) (last_moment (i ∷ latest_first items))
keeps-plain load items owed rest sent freed on pending last i now freed_now k comes owes grown low
    high =
    let next : IsNextItem load (latest_first items) i =
    next-plain load (latest_first items) i comes.stands k.opened.ends owes in
    keeps-push load items owed rest sent freed on pending last i now freed_now k
    (IsOpen-push load items owed rest i k.opened comes.due comes.stands.other comes.few next)
    grown low high

-- equal values are kept alike
pub moved : (load : Load) (items : List Item) (owed : List Origin) (sent : List ℕ) (freed : ℕ)
    (on on' : Bool) (pending pending' last last' : ℕ)
    → on ≡ on' → pending ≡ pending' → last ≡ last'
    → Keeps load items owed sent freed on pending last
    → Keeps load items owed sent freed on' pending' last'
moved load items owed sent freed on on' pending pending' last last' o p l k = record {
  opened = k.opened;
  sent_is = k.sent_is;
  on_is = sym o ∙ k.on_is;
  pending_is = sym p ∙ k.pending_is;
  last_is = sym l ∙ k.last_is;
  freed_rises = k.freed_rises;
  freed_stored = k.freed_stored;
}

and-false : (a : Bool) → (a && false) ≡ false
and-false true = refl
and-false false = refl

pub no_overflow : (i : Item) → is_overflow i.origin ≡ false
    → (is_overflow i.origin && is_stored i.outcome) ≡ false
no_overflow i other = ap (λ b. b && is_stored i.outcome) other

pub not_refused : (i : Item) → is_refused i.outcome ≡ false
    → (is_packet i && is_refused i.outcome) ≡ false
not_refused i kept = ap (λ b. is_packet i && b) kept ∙ and-false (is_packet i)

-- nothing is owed where nothing is pending
none_owed : (load : Load) (earlier : List Item) (i : Item) → 0 ≡ pending_at earlier
    → owes_overflow load earlier i ≡ false
none_owed load earlier i none = ap (λ n. is_packet i && is_on load earlier && nat_lt 0 n) (sym none)
    ∙ and-false (is_packet i && is_on load earlier)

le_trans : {a b c : ℕ} → a ≤ b → b ≤ c → a ≤ c
le_trans p q = omega arith

positive : (n : ℕ) → 0 < n → nat_lt 0 n ≡ true
positive n h = search (rules, h)

-- an overflow is owed by a packet while something is pending
owed_here : (load : Load) (earlier : List Item) (i : Item) {pending : ℕ} → is_packet i ≡ true
    → is_on load earlier ≡ true → pending ≡ pending_at earlier → 0 < pending
    → owes_overflow load earlier i ≡ true
owed_here load earlier i {pending} packet on counted above =
    rw (packet, on, ← counted) (positive pending above)

-- while the recorder is off a packet is ignored, and nothing else changes
pub keeps-ignored : (load : Load) (items : List Item) (owed rest : List Origin) (sent : List ℕ)
    (freed : ℕ) (pending last : ℕ) (i : Item)
    → Keeps load items owed sent freed false pending last
    → Comes load items owed i rest → i.outcome ≡ Ignored → is_start load i.origin ≡ false
    → i.freed ≡ freed
    → Keeps load (items ++ i ∷ []) rest sent freed false pending last
keeps-ignored load items owed rest sent freed pending last i k comes ignored start same =
    let earlier : List Item = latest_first items in
    let off : is_on load earlier ≡ false = sym k.on_is in
    let owes : owes_overflow load earlier i ≡ false = rw (off, and-false) refl in
    let kept : is_stored i.outcome ≡ false = ap is_stored ignored in
    let whole = keeps-plain load items owed rest sent freed false pending last i sent freed k comes
    owes
    (sym (ap (λ b. sent ++ cond b (block_of load earlier i) []) kept ∙ append-nil sent))
    (omega (arith, same)) k.freed_stored in
    let on_now : is_on load (i ∷ earlier) ≡ false = is_on-off load earlier i start off in
    let pending_now : pending_at (i ∷ earlier) ≡ pending =
    pending_at-other earlier i (no_overflow i comes.stands.other)
    (not_refused i (ap is_refused ignored)) ∙ sym k.pending_is in
    let last_now : last_moment (i ∷ earlier) ≡ last =
    last_moment-other earlier i (ap (λ b. b && not (is_sync i.origin)) kept) ∙ sym k.last_is in
    moved load (items ++ i ∷ []) rest sent freed _ _ _ _ _ _ on_now pending_now last_now whole

-- a packet while the recorder is on and nothing is pending
pub keeps-refused : (load : Load) (items : List Item) (owed rest : List Origin) (sent : List ℕ)
    (freed last : ℕ) (i : Item) (freed_now : ℕ)
    → Keeps load items owed sent freed true 0 last
    → Comes load items owed i rest → is_packet i ≡ true → i.outcome ≡ Refused
    → is_start load i.origin ≡ false
    → i.freed ≡ freed_now → freed_now ≤ length sent
    → Keeps load (items ++ i ∷ []) rest sent freed_now (not (is_stop_reply i.origin)) 1 last
keeps-refused load items owed rest sent freed last i freed_now k comes packet refused start same
    high =
    let earlier : List Item = latest_first items in
    let owes : owes_overflow load earlier i ≡ false = none_owed load earlier i k.pending_is in
    let kept : is_stored i.outcome ≡ false = ap is_stored refused in
    let whole = keeps-plain load items owed rest sent freed true 0 last i sent freed_now k comes
    owes
    (sym (ap (λ b. sent ++ cond b (block_of load earlier i) []) kept ∙ append-nil sent))
    (omega (arith, same)) high in
    let on_now : is_on load (i ∷ earlier) ≡ not (is_stop_reply i.origin) =
    is_on-told load earlier i start (sym k.on_is) in
    let pending_now : pending_at (i ∷ earlier) ≡ 1 =
    pending_at-refused earlier i comes.stands.other packet (ap is_refused refused)
    ∙ ap (λ n. 1 + n) (sym k.pending_is) in
    let last_now : last_moment (i ∷ earlier) ≡ last =
    last_moment-other earlier i (ap (λ b. b && not (is_sync i.origin)) kept) ∙ sym k.last_is in
    moved load (items ++ i ∷ []) rest sent freed_now _ _ _ _ _ _ on_now pending_now last_now whole

pub keeps-stored : (load : Load) (items : List Item) (owed rest : List Origin) (sent : List ℕ)
    (freed last : ℕ) (i : Item) (freed_now : ℕ) (now : List ℕ)
    → Keeps load items owed sent freed true 0 last
    → Comes load items owed i rest → i.outcome ≡ Stored → is_start load i.origin ≡ false
    → is_sync i.origin ≡ false
    → i.freed ≡ freed_now → freed_now ≤ length sent
    → now ≡ sent ++ block_of load (latest_first items) i
    → Keeps load (items ++ i ∷ []) rest now freed_now (not (is_stop_reply i.origin)) 0 i.moment
keeps-stored load items owed rest sent freed last i freed_now now k comes stored start sync same
    high grown =
    let earlier : List Item = latest_first items in
    let owes : owes_overflow load earlier i ≡ false = none_owed load earlier i k.pending_is in
    let kept : is_stored i.outcome ≡ true = ap is_stored stored in
    let longer : length now ≡ length sent + length (block_of load earlier i) = ap length grown
    ∙ length-append sent (block_of load earlier i) in
    let whole = keeps-plain load items owed rest sent freed true 0 last i now freed_now k comes owes
    (grown ∙ sym (ap (λ b. sent ++ cond b (block_of load earlier i) []) kept)) (omega (arith, same))
    (omega arith) in
    let on_now : is_on load (i ∷ earlier) ≡ not (is_stop_reply i.origin) =
    is_on-told load earlier i start (sym k.on_is) in
    let pending_now : pending_at (i ∷ earlier) ≡ 0 =
    pending_at-other earlier i (no_overflow i comes.stands.other)
    (not_refused i (ap is_refused stored)) ∙ sym k.pending_is in
    let last_now : last_moment (i ∷ earlier) ≡ i.moment = last_moment-stored earlier i kept sync in
    moved load (items ++ i ∷ []) rest now freed_now _ _ _ _ _ _ on_now pending_now last_now whole

-- an overflow with the count of what is pending, and the packet after it
pub keeps-after : (load : Load) (items : List Item) (owed rest : List Origin) (sent : List ℕ)
    (freed pending last moment between : ℕ) (outcome : Outcome) (i : Item)
    (sent_between now : List ℕ) (freed_now : ℕ)
    → Keeps load items owed sent freed true pending last → 0 < pending
    → freed ≤ between → between ≤ length sent
    → outcome ≡ write_outcome load (latest_first items)
    (overflow_item pending moment between outcome)
    → sent_between ≡ sent ++ added load (latest_first items)
    (overflow_item pending moment between outcome)
    → Stands load (overflow_item pending moment between outcome ∷ latest_first items) i
    → is_packet i ≡ true → moment ≡ i.moment
    → IsDue load owed i.origin rest
    → count_by (λ j. is_command j.origin) ((items ++ overflow_item pending moment between outcome
    ∷ []) ++ i ∷ []) ≤ length load.commands
    → now ≡ sent_between ++ added load (overflow_item pending moment between outcome
    ∷ latest_first items) i → i.freed ≤ freed_now → freed_now ≤ length now
    → Keeps load ((items ++ overflow_item pending moment between outcome ∷ []) ++ i ∷ []) rest now
    freed_now
    (is_on load (i ∷ overflow_item pending moment between outcome ∷ latest_first items))
    (pending_at (i ∷ overflow_item pending moment between outcome ∷ latest_first items))
    (last_moment (i ∷ overflow_item pending moment between outcome ∷ latest_first items))
keeps-after load items owed rest sent freed pending last moment between outcome i sent_between now
    freed_now k above low high written grown stands packet same due few grown_now low_now high_now =
    let earlier : List Item = latest_first items in
    let o : Item = overflow_item pending moment between outcome in
    let length_sent : length sent ≡ stored_before load earlier = ap length k.sent_is in
    let next : IsNextItem load earlier o = next-overflow load earlier pending moment between outcome
    k.pending_is k.opened.ends (sym k.on_is) (le_trans k.freed_rises low) (omega arith) written
    in
    let owes : owes_overflow load earlier i ≡ true =
    owed_here load earlier i packet (sym k.on_is) k.pending_is above in
    let behind : IsNextItem load (o ∷ earlier) i =
    next-after load earlier o i refl stands same owes in
    let pushed : IsOpen load ((items ++ o ∷ []) ++ i ∷ []) rest =
    IsOpen-overflow load items owed rest o i k.opened due refl stands.other few next behind in
    let looked : latest_first ((items ++ o ∷ []) ++ i ∷ []) ≡ i ∷ o
    ∷ earlier = latest_first-push (items ++ o ∷ []) i
    ∙ ap (λ es. i ∷ es) (latest_first-push items o) in
    let once : stream_of load (items ++ o ∷ []) ≡ stream_of load items ++ added load earlier o =
    stream_of-push load items o in
    let twice : stream_of load ((items ++ o ∷ []) ++ i ∷ []) ≡ stream_of load (items ++ o ∷ []) ++
    added load (o ∷ earlier) i = stream_of-push load (items ++ o ∷ []) i
    ∙ ap (λ es. stream_of load (items ++ o ∷ []) ++ added load es i) (latest_first-push items o)
    in
    record {
      opened = pushed;
      sent_is = grown_now ∙ (ap (λ bs. bs ++ added load (o ∷ earlier) i) (grown
          ∙ (ap (λ bs. bs ++ added load earlier o) k.sent_is ∙ sym once)) ∙ sym twice);
      on_is = ap (is_on load) (sym looked);
      pending_is = ap pending_at (sym looked);
      last_is = ap last_moment (sym looked);
      freed_rises = subst (λ es. freed_before es ≤ freed_now) (sym looked) low_now;
      freed_stored = high_now;
    }

-- a start, a stop or a command: nothing is written
pub keeps-handled : (load : Load) (items : List Item) (owed rest : List Origin) (sent : List ℕ)
    (freed : ℕ) (on : Bool) (pending last : ℕ) (i : Item)
    → Keeps load items owed sent freed on pending last
    → Comes load items owed i rest → i.outcome ≡ Handled → is_packet i ≡ false
    → is_stop_reply i.origin ≡ false → i.freed ≡ freed
    → Keeps load (items ++ i ∷ []) rest sent freed (is_start load i.origin || on) pending last
keeps-handled load items owed rest sent freed on pending last i k comes handled packet stop same =
    let earlier : List Item = latest_first items in
    let owes : owes_overflow load earlier i ≡ false =
    ap (λ b. b && is_on load earlier && nat_lt 0 (pending_at earlier)) packet in
    let kept : is_stored i.outcome ≡ false = ap is_stored handled in
    let whole = keeps-plain load items owed rest sent freed on pending last i sent freed k comes
    owes
    (sym (ap (λ b. sent ++ cond b (block_of load earlier i) []) kept ∙ append-nil sent))
    (omega (arith, same)) k.freed_stored in
    let on_now : is_on load (i ∷ earlier) ≡ (is_start load i.origin || on) =
    switched load earlier i on k.on_is stop in
    let pending_now : pending_at (i ∷ earlier) ≡ pending =
    pending_at-other earlier i (no_overflow i comes.stands.other)
    (not_refused i (ap is_refused handled)) ∙ sym k.pending_is in
    let last_now : last_moment (i ∷ earlier) ≡ last =
    last_moment-other earlier i (ap (λ b. b && not (is_sync i.origin)) kept) ∙ sym k.last_is in
    moved load (items ++ i ∷ []) rest sent freed _ _ _ _ _ _ on_now pending_now last_now whole
  where
    switched : (load : Load) (earlier : List Item) (i : Item) (on : Bool) → on ≡ is_on load earlier
        → is_stop_reply i.origin ≡ false → is_on load (i ∷ earlier) ≡ (is_start load i.origin || on)
    switched load earlier i on o stop = elim (is_start load i.origin) as
        (λ b. is_start load i.origin ≡ b → is_on load (i ∷ earlier) ≡ (b || on)) [
          | true ↦ λ start. is_on-start load earlier i start
          | false ↦ λ start. is_on-other load earlier i start stop ∙ sym o
        ] refl

-- a sync: written, not counted, and it moves no time
pub keeps-sync : (load : Load) (items : List Item) (owed rest : List Origin) (sent : List ℕ)
    (freed : ℕ) (pending last : ℕ) (i : Item) (now : List ℕ) (freed_now : ℕ)
    → Keeps load items owed sent freed true pending last
    → Comes load items owed i rest → i.origin ≡ Sync → i.freed ≡ freed_now → freed_now ≤ length now
    → now ≡ sent ++ added load (latest_first items) i
    → Keeps load (items ++ i ∷ []) rest now freed_now true pending last
keeps-sync load items owed rest sent freed pending last i now freed_now k comes sync same high
    grown =
    let earlier : List Item = latest_first items in
    let packet : is_packet i ≡ false = ap (λ o. holds_packet o i.outcome) sync in
    let owes : owes_overflow load earlier i ≡ false =
    ap (λ b. b && is_on load earlier && nat_lt 0 (pending_at earlier)) packet in
    let whole = keeps-plain load items owed rest sent freed true pending last i now freed_now k
    comes owes grown (omega (arith, same)) high in
    let on_now : is_on load (i ∷ earlier) ≡ true =
    is_on-other load earlier i (ap (is_start load) sync) (ap is_stop_reply sync)
    ∙ sym k.on_is in
    let pending_now : pending_at (i ∷ earlier) ≡ pending =
    pending_at-other earlier i (no_overflow i comes.stands.other)
    (ap (λ b. b && is_refused i.outcome) packet) ∙ sym k.pending_is in
    let moves : (is_stored i.outcome && not (is_sync i.origin)) ≡ false =
    ap (λ o. is_stored i.outcome && not (is_sync o)) sync ∙ and-false (is_stored i.outcome) in
    let last_now : last_moment (i ∷ earlier) ≡ last = last_moment-other earlier i moves
    ∙ sym k.last_is in
    moved load (items ++ i ∷ []) rest now freed_now _ _ _ _ _ _ on_now pending_now last_now whole
