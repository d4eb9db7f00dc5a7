-- The groups of a step keep what the recorder keeps.
use Rattle.std.proofs.Common.{◌≡◌, ◌≢◌, ℕ, ◌+◌, ◌≤◌, Bool, true, false, ◌||◌, cond, List, [], ◌∷◌}
use Rattle.std.proofs.Common.{◌++◌, length, refl, sym, ap, ◌∙◌, subst, arith, replicate, inl, inr}
use Rattle.std.specs.Prelude.{nat_lt, Some, count_by, ◌==◌, if◌then◌else◌}
use Rattle.std.proofs.lemmas.Bool.{ne_eqb}
use Rattle.std.proofs.lemmas.List.{length-append}
use Rattle.std.proofs.lemmas.List.Sums.{sum_by-cons, sum_by-append}
use Rattle.std.specs.Option.{option_map_or}
use Rattle.sv_ring.specs.Ring.{room_of}
use Rattle.sv_load.specs.declared.load.Act.{Act}
use Rattle.sv_load.specs.declared.load.Act.TheVariants as acts
use Rattle.sv_load.specs.Load.{Load, act_of}
use Rattle.sv_load.specs.Need.{is_start_act, is_stop_act}
use Rattle.sv_journal.specs.declared.journal.Kind.{Kind}
use Rattle.sv_journal.specs.declared.journal.Kind.TheVariants as kinds
use Rattle.sv_journal.specs.declared.journal.Origin.{Origin}
use Rattle.sv_journal.specs.declared.journal.Origin.TheVariants.{Call, Sync, Reply, Overflow}
use Rattle.sv_journal.specs.declared.journal.Origin.TheVariants.{Command}
use Rattle.sv_journal.specs.declared.journal.Outcome.TheVariants.{Stored, Refused, Handled}
use Rattle.sv_journal.specs.declared.journal.Item.{Item}
use Rattle.sv_journal.specs.Items.{latest_first, is_start, is_stop, is_stop_reply, stored_before}
use Rattle.sv_journal.specs.Items.{room_at, is_command, is_overflow, is_written, holds_packet}
use Rattle.sv_journal.specs.Items.{item_of}
use Rattle.sv_journal.specs.Legal.{step_ticks, answers_of, is_control, write_outcome, is_head}
use Rattle.sv_journal.specs.Legal.{outcome_at, start_answers, group_of, command_answers}
use Rattle.sv_journal.specs.Clock.{clock_of}
use Rattle.sv_journal.proofs.Shared.{outcome_at-control, outcome_at-write, after_refused-fresh}
use Rattle.sv_need.specs.Next.{MayCome}
use Rattle.sv_need.specs.Weights.{weight, items_ahead, bytes_ahead, item_weights, byte_weights}
use Rattle.sv_need.proofs.Shared.{packet_items}
use Rattle.sv_recorder.specs.Book.{head_if}
use Rattle.sv_recorder.specs.Heads.{IsHeadHere}
use Rattle.sv_recorder.specs.Kept.{Keeps}
use Rattle.sv_recorder.specs.Writes.{WritesItem, outcome_if, IsPacketHere}
use Rattle.sv_recorder.proofs.keeping.Items.{Comes, keeps-handled, keeps-sync, added}
use Rattle.sv_recorder.proofs.keeping.Packets.{few_more, turned}

-- a start, a stop or a command is the head of a group
pub control_head : (load : Load) (o : Origin) → is_control load o ≡ true → is_head o ≡ true
control_head load (Call writer step) control = refl
control_head load Sync control = absurd cc
control_head load (Reply kind index) control = absurd cc
control_head load (Overflow count) control = absurd cc
control_head load (Command byte param) control = refl

-- a head is no overflow, and none that stops the recorder
head_other : (o : Origin) → is_head o ≡ true → is_overflow o ≡ false
head_other (Call writer step) head = refl
head_other Sync head = absurd cc
head_other (Reply kind index) head = absurd cc
head_other (Overflow count) head = absurd cc
head_other (Command byte param) head = refl

head_stays : (o : Origin) → is_head o ≡ true → is_stop_reply o ≡ false
head_stays (Call writer step) head = refl
head_stays Sync head = absurd cc
head_stays (Reply kind index) head = absurd cc
head_stays (Overflow count) head = absurd cc
head_stays (Command byte param) head = refl

-- where it is handled, it holds no packet and is not written
handled_packet : (o : Origin) → is_head o ≡ true → holds_packet o Handled ≡ false
handled_packet (Call writer step) head = refl
handled_packet Sync head = absurd cc
handled_packet (Reply kind index) head = absurd cc
handled_packet (Overflow count) head = absurd cc
handled_packet (Command byte param) head = refl

pub handled_unwritten : (earlier : List Item) (o : Origin) (moment freed : ℕ) → is_head o ≡ true
    → is_written earlier (item_of o moment freed Handled) ≡ false
handled_unwritten earlier (Call writer step) moment freed head = refl
handled_unwritten earlier Sync moment freed head = absurd cc
handled_unwritten earlier (Reply kind index) moment freed head = absurd cc
handled_unwritten earlier (Overflow count) moment freed head = absurd cc
handled_unwritten earlier (Command byte param) moment freed head = refl

pub head_alone : (o : Origin) → is_head o ≡ true → head_if o ≡ o ∷ []
head_alone o head = ap (λ (b : Bool). if b then o ∷ [] else []) head

pub head_no_overflow : (o : Origin) → is_head o ≡ true → is_overflow o ≡ false
head_no_overflow o head = head_other o head

-- there are no more commands than the workload has
head_few : (load : Load) (items : List Item) (o : Origin) (i : Item) → i.origin ≡ o
    → MayCome load items o → count_by (λ j. is_command j.origin) items ≤ length load.commands
    → count_by (λ j. is_command j.origin) (items ++ i ∷ []) ≤ length load.commands
head_few load items o i same may few =
    let all : count_by (λ j. is_command j.origin) (items ++ i ∷ []) ≡ count_by
    (λ j. is_command j.origin) items + (0 + cond (is_command i.origin) 1 0) =
    sum_by-append (λ (j : Item). cond (is_command j.origin) 1 0) items (i ∷ []) in
    by (is_command o) refl all
  where
    by : (b : Bool) → is_command o ≡ b
        → count_by (λ j. is_command j.origin) (items ++ i ∷ []) ≡ count_by
        (λ j. is_command j.origin) items + (0 + cond (is_command i.origin) 1 0)
        → count_by (λ j. is_command j.origin) (items ++ i ∷ []) ≤ length load.commands
    by true command all = omega (
      arith,
      all,
      ap {B = ℕ} (λ b. cond b 1 0) (ap is_command same ∙ command),
      may.command command,
    )
    by false other all = omega (
      arith,
      all,
      ap {B = ℕ} (λ b. cond b 1 0) (ap is_command same ∙ other),
      few,
    )

-- a start, a stop or a command is handled
pub handled : (load : Load) (items : List Item) (sent : List ℕ) (freed : ℕ) (on : Bool)
    (pending last : ℕ) (head : Origin) (moment : ℕ)
    → Keeps load items [] sent freed on pending last → is_control load head ≡ true
    → IsHeadHere load items head → moment ≡ step_ticks load head + clock_of load items
    → Keeps load (items ++ item_of head moment freed Handled ∷ []) (answers_of load head) sent freed
    (is_start load head || on) pending last
handled load items sent freed on pending last head moment k control here clock =
    let earlier = latest_first items in
    let i : Item = item_of head moment freed Handled in
    let is = control_head load head control in
    let length_sent : length sent ≡ stored_before load earlier = ap length k.sent_is in
    let comes : Comes load items [] i (answers_of load head) = record {
      due = inr (is, refl, refl);
      few = head_few load items head i refl here.may k.opened.commands;
      stands = record {
        other = head_other head is;
        command = here.place;
        step = here.may.step;
        moment = clock ∙ sym (sum_by-cons (λ (j : Item). step_ticks load j.origin) i earlier);
        freed_rises = k.freed_rises;
        freed_stored = omega (arith, k.freed_stored, length_sent);
        outcome = sym (outcome_at-control load earlier i control);
      };
    } in
    keeps-handled load items [] (answers_of load head) sent freed on pending last i k comes refl
    (handled_packet head is) (head_stays head is) refl

-- a sync
pub synced : (load : Load) (items after : List Item) (rest : List Origin) (sent now : List ℕ)
    (freed freed_now pending last moment : ℕ) (stored : Bool)
    → Keeps load items (Sync ∷ rest) sent freed true pending last → moment ≡ clock_of load items
    → WritesItem load.ring items after sent now freed freed_now Sync moment (replicate 10 0) stored
    → Keeps load after rest now freed_now true pending last
synced load items after rest sent now freed freed_now pending last moment stored k clock w =
    let earlier = latest_first items in
    let i : Item = item_of Sync moment freed_now (outcome_if stored) in
    let length_sent : length sent ≡ stored_before load earlier = ap length k.sent_is in
    let same_room : room_at load earlier i ≡ room_of load.ring sent freed_now =
    ap (λ bs. room_of load.ring bs freed_now) (sym k.sent_is) in
    let written : write_outcome load earlier i ≡ cond (nat_lt (room_of load.ring sent freed_now) 10)
    Refused Stored = ap (λ room. cond (nat_lt room 10) Refused Stored) same_room in
    let outcome : outcome_if stored ≡ outcome_at load earlier i =
    ap outcome_if w.decided ∙ (turned (nat_lt (room_of load.ring sent freed_now) 10)
    ∙ (sym written ∙ sym (outcome_at-write load earlier i refl (sym k.on_is)
    (after_refused-fresh earlier k.opened.ends)))) in
    let clocked : moment ≡ 0 + clock_of load items = omega (arith, clock) in
    let here : Comes load items (Sync ∷ rest) i rest = record {
      due = inl (refl, refl);
      few = few_more load items i refl k.opened.commands;
      stands = record {
        other = refl;
        command = tt;
        step = tt;
        moment = clocked ∙ sym (sum_by-cons (λ (j : Item). step_ticks load j.origin) i earlier);
        freed_rises = omega (arith, k.freed_rises, w.rises);
        freed_stored = omega (arith, w.within, length_sent);
        outcome = outcome;
      };
    } in
    subst (λ is. Keeps load is rest now freed_now true pending last) (sym w.item)
    (keeps-sync load items (Sync ∷ rest) rest sent freed pending last i now freed_now k here refl
    refl (longer sent now (if stored then replicate 10 0 else []) freed_now w.grown w.within)
    (w.grown ∙ by stored))
  where
    longer : (sent now block : List ℕ) (n : ℕ) → now ≡ sent ++ block → n ≤ length sent
        → n ≤ length now
    longer sent now block n grown within = omega (arith, ap length grown, length-append sent block)

    by : (b : Bool) → sent ++ (if b then replicate 10 0 else []) ≡ sent ++ added load
        (latest_first items) (item_of Sync moment freed_now (outcome_if b))
    by true = refl
    by false = refl

-- a reply has its place where it is owed
pub reply_here : (load : Load) (items : List Item) (kind : Kind) (index moment : ℕ)
    (rest : List Origin)
    → moment ≡ clock_of load items → IsPacketHere load items (Reply kind index ∷ rest)
    (Reply kind index) moment rest
reply_here load items kind index moment rest clock = record {
  telling = refl;
  control = refl;
  due = inl (refl, refl);
  step = tt;
  ticks = let e : moment ≡ 0 + clock_of load items = omega (arith, clock) in e;
}

-- what a start and a stop answer
pub start_owes : (load : Load) (head : Origin) → is_start load head ≡ true
    → (answers_of load head ≡ start_answers load) × (is_control load head ≡ true)
start_owes load head start = (rw start refl, rw start refl)

pub stop_owes : (load : Load) (head : Origin) → is_start load head ≡ false
    → is_stop load head ≡ true
    → (answers_of load head ≡ Reply kinds.TraceStop 0 ∷ []) × (is_control load head ≡ true)
stop_owes load head start stop = (rw (start, stop) refl, rw (start, stop) refl)

-- the step that starts, and the one that stops
pub call_starts : (load : Load) (writer step : ℕ) → act_of load writer step ≡ Some acts.Start
    → is_start load (Call writer step) ≡ true
call_starts load writer step act = ap (λ a. option_map_or is_start_act a false) act

pub call_stops : (load : Load) (writer step : ℕ) → act_of load writer step ≡ Some acts.Stop
    → (is_start load (Call writer step) ≡ false) × (is_stop load (Call writer step) ≡ true)
call_stops load writer step act = (
  ap (λ a. option_map_or is_start_act a false) act,
  ap (λ a. option_map_or is_stop_act a false) act,
)

pub event_owes : (load : Load) (writer step : ℕ) (act : Act) → act_of load writer step ≡ Some act
    → is_start_act act ≡ false → is_stop_act act ≡ false
    → (answers_of load (Call writer step) ≡ []) × (is_control load (Call writer step) ≡ false)
event_owes load writer step act is no_start no_stop =
    let start : is_start load (Call writer step) ≡ false =
    ap (λ a. option_map_or is_start_act a false) is ∙ no_start in
    let stop : is_stop load (Call writer step) ≡ false =
    ap (λ a. option_map_or is_stop_act a false) is ∙ no_stop in
    (rw (start, stop) refl, rw (start, stop) refl)

-- a command that neither starts nor stops
pub command_owes : (load : Load) (byte param : ℕ) → byte ≢ 1 → byte ≢ 2
    → (answers_of load (Command byte param) ≡ command_answers load byte param)
    × (is_control load (Command byte param) ≡ true)
command_owes load byte param no_start no_stop =
    (rw (ne_eqb byte 1 no_start, ne_eqb byte 2 no_stop) refl, last (byte == 1) (byte == 2))
  where
    last : (a b : Bool) → (a || b || true) ≡ true
    last true b = refl
    last false true = refl
    last false false = refl

-- one that is not known
pub no_answers : (load : Load) (byte param : ℕ) → byte ≢ 3 → byte ≢ 4 → byte ≢ 5 → byte ≢ 6
    → byte ≢ 7 → byte ≢ 128 → command_answers load byte param ≡ []
no_answers load byte param a b c d e f = rw (
  ne_eqb byte 3 a,
  ne_eqb byte 4 b,
  ne_eqb byte 5 c,
  ne_eqb byte 6 d,
  ne_eqb byte 7 e,
  ne_eqb byte 128 f,
) refl

-- what a head that is handled and its answers have at most
pub control_ahead : (load : Load) (head : Origin) (os : List Origin)
    → is_control load head ≡ true → answers_of load head ≡ os
    → (items_ahead load (group_of load head) ≡ 1 + items_ahead load os)
    × (bytes_ahead load (group_of load head) ≡ bytes_ahead load os)
control_ahead load head os control owes =
    let item : weight item_weights load head ≡ 1 = rw control refl in
    let byte : weight byte_weights load head ≡ 0 = rw control refl in (
      omega (
        arith,
        item,
        sum_by-cons (weight item_weights load) head (answers_of load head),
        ap (items_ahead load) owes,
      ),
      omega (
        arith,
        byte,
        sum_by-cons (weight byte_weights load) head (answers_of load head),
        ap (bytes_ahead load) owes,
      ),
    )

-- what a step that records an event has at most
pub event_ahead : (load : Load) (writer step : ℕ)
    → is_control load (Call writer step) ≡ false → answers_of load (Call writer step) ≡ []
    → (items_ahead load (group_of load (Call writer step)) ≡ 2)
    × (bytes_ahead load (group_of load (Call writer step)) ≡ weight byte_weights load
    (Call writer step))
event_ahead load writer step control owes =
    let call = Call writer step in (
      omega (
        arith,
        packet_items load call refl control,
        sum_by-cons (weight item_weights load) call (answers_of load call),
        ap (items_ahead load) owes,
      ),
      omega (
        arith,
        sum_by-cons (weight byte_weights load) call (answers_of load call),
        ap (bytes_ahead load) owes,
      ),
    )
