-- A packet keeps what the recorder keeps.
use Rattle.std.proofs.Common.{◌≡◌, ℕ, ◌+◌, ◌≤◌, Bool, true, false, not, ◌||◌, cond, List, [], ◌∷◌}
use Rattle.std.proofs.Common.{◌++◌, length, refl, sym, ap, ◌∙◌, subst, arith, append-nil, replicate}
use Rattle.std.specs.Prelude.{count_by, nat_lt, if◌then◌else◌}
use Rattle.std.proofs.lemmas.List.Sums.{sum_by-cons, sum_by-append}
use Rattle.sv_load.specs.Load.{Load}
use Rattle.sv_journal.specs.declared.journal.Origin.{Origin}
use Rattle.sv_journal.specs.declared.journal.Origin.TheVariants.{Call, Sync, Reply, Overflow}
use Rattle.sv_journal.specs.declared.journal.Origin.TheVariants.{Command}
use Rattle.sv_journal.specs.declared.journal.Outcome.{Outcome}
use Rattle.sv_journal.specs.declared.journal.Outcome.TheVariants.{Stored, Refused, Ignored}
use Rattle.sv_journal.specs.declared.journal.Item.{Item}
use Rattle.sv_journal.specs.Items.{latest_first, is_command, is_overflow, is_packet, is_sync}
use Rattle.sv_journal.specs.Items.{is_start, is_stop, is_stop_reply, last_moment, block_of}
use Rattle.sv_journal.specs.Items.{stored_before, room_at, item_of}
use Rattle.sv_journal.specs.Legal.{IsCommandInPlace, outcome_at, write_outcome, is_control}
use Rattle.sv_journal.specs.Legal.{step_ticks}
use Rattle.sv_journal.specs.Packets.{packet_block, is_call_or_reply}
use Rattle.sv_journal.proofs.Shared.{outcome_at-off, outcome_at-write, after_refused-fresh}
use Rattle.sv_recorder.specs.Kept.{Keeps}
use Rattle.sv_recorder.specs.Writes.{WritesItem, outcome_if, IsPacketHere}
use Rattle.sv_recorder.proofs.keeping.Items.{Comes, keeps-ignored, keeps-refused, keeps-stored}
use Rattle.sv_ring.specs.Ring.{room_of}

pub not_sync : (o : Origin) → is_call_or_reply o ≡ true → is_sync o ≡ false
not_sync (Call writer step) t = refl
not_sync Sync t = cc
not_sync (Reply kind index) t = refl
not_sync (Overflow count) t = cc
not_sync (Command byte param) t = cc

pub not_overflow : (o : Origin) → is_call_or_reply o ≡ true → is_overflow o ≡ false
not_overflow (Call writer step) t = refl
not_overflow Sync t = cc
not_overflow (Reply kind index) t = refl
not_overflow (Overflow count) t = cc
not_overflow (Command byte param) t = cc

pub not_command : (o : Origin) → is_call_or_reply o ≡ true → is_command o ≡ false
not_command (Call writer step) t = refl
not_command Sync t = cc
not_command (Reply kind index) t = refl
not_command (Overflow count) t = cc
not_command (Command byte param) t = cc

pub refused_packet : (o : Origin) (moment freed : ℕ) → is_call_or_reply o ≡ true
    → is_packet (item_of o moment freed Refused) ≡ true
refused_packet (Call writer step) moment freed t = refl
refused_packet Sync moment freed t = cc
refused_packet (Reply kind index) moment freed t = refl
refused_packet (Overflow count) moment freed t = cc
refused_packet (Command byte param) moment freed t = cc

pub in_place : (earlier : List Item) (o : Origin) → is_call_or_reply o ≡ true
    → IsCommandInPlace earlier o
in_place earlier (Call writer step) t = tt
in_place earlier Sync t = tt
in_place earlier (Reply kind index) t = tt
in_place earlier (Overflow count) t = tt
in_place earlier (Command byte param) t = absurd (cc)

left_false : (a b : Bool) → (a || b) ≡ false → a ≡ false
left_false true b e = e
left_false false b e = refl

pub not_start : (load : Load) (o : Origin) → is_control load o ≡ false → is_start load o ≡ false
not_start load o c = left_false (is_start load o) (is_stop load o)
    (left_false (is_start load o || is_stop load o) (is_command o) c)

plus_none : (n m : ℕ) → m ≡ 0 → n + (0 + m) ≡ n
plus_none n m e = omega arith

-- an item that is no command leaves their number
pub few_more : (load : Load) (items : List Item) (i : Item) → is_command i.origin ≡ false
    → count_by (λ j. is_command j.origin) items ≤ length load.commands
    → count_by (λ j. is_command j.origin) (items ++ i ∷ []) ≤ length load.commands
few_more load items i other few =
    subst (λ n. n ≤ length load.commands)
    (sym (sum_by-append (λ (j : Item). cond (is_command j.origin) 1 0) items (i ∷ [])
    ∙ plus_none (count_by (λ j. is_command j.origin) items) (cond (is_command i.origin) 1 0)
    (ap (λ b. cond b 1 0) other)))
    few

-- the place of a packet
comes : (load : Load) (items : List Item) (owed rest : List Origin) (sent : List ℕ) (freed : ℕ)
    (on : Bool) (pending last : ℕ) (origin : Origin) (moment freed_now : ℕ) (outcome : Outcome)
    → Keeps load items owed sent freed on pending last
    → IsPacketHere load items owed origin moment rest
    → freed ≤ freed_now → freed_now ≤ length sent
    → outcome ≡ outcome_at load (latest_first items) (item_of origin moment freed_now outcome)
    → Comes load items owed (item_of origin moment freed_now outcome) rest
comes load items owed rest sent freed on pending last origin moment freed_now outcome k p low high
    becomes =
    let i : Item = item_of origin moment freed_now outcome in
    let length_sent : length sent ≡ stored_before load (latest_first items) = ap length k.sent_is in
    record {
      due = p.due;
      few = few_more load items i (not_command origin p.telling) k.opened.commands;
      stands = record {
        other = not_overflow origin p.telling;
        command = in_place (latest_first items) origin p.telling;
        step = p.step;
        moment = p.ticks ∙ sym (sum_by-cons (λ (j : Item). step_ticks load j.origin) i
            (latest_first items));
        freed_rises = le_trans k.freed_rises low;
        freed_stored = omega arith;
        outcome = becomes;
      };
    } where
      le_trans : {a b c : ℕ} → a ≤ b → b ≤ c → a ≤ c
      le_trans q r = omega arith

-- ignored while the recorder is off
pub packet-off : (load : Load) (items after : List Item) (owed rest : List Origin) (sent : List ℕ)
    (freed : ℕ) (pending last : ℕ) (origin : Origin) (moment : ℕ)
    → Keeps load items owed sent freed false pending last
    → IsPacketHere load items owed origin moment rest
    → after ≡ items ++ item_of origin moment freed Ignored ∷ []
    → Keeps load after rest sent freed false pending last
packet-off load items after owed rest sent freed pending last origin moment k p grown =
    let i : Item = item_of origin moment freed Ignored in
    let here : Comes load items owed i rest = comes load items owed rest sent freed false pending
    last origin moment freed Ignored k p (omega arith) k.freed_stored
    (sym (outcome_at-off load (latest_first items) i p.control (sym k.on_is))) in
    subst (λ is. Keeps load is rest sent freed false pending last) (sym grown)
    (keeps-ignored load items owed rest sent freed pending last i k here refl
    (not_start load origin p.control) refl)

-- the block is that of the item
pub block_here : (load : Load) (earlier : List Item) (origin : Origin) (moment freed last : ℕ)
    (outcome : Outcome) → is_call_or_reply origin ≡ true → last ≡ last_moment earlier
    → block_of load earlier (item_of origin moment freed outcome) ≡ packet_block load origin moment
    last
block_here load earlier origin moment freed last outcome telling same =
    ap (λ b. cond b (replicate 10 0) (packet_block load origin moment (last_moment earlier)))
    (not_sync origin telling)
    ∙ ap (packet_block load origin moment) (sym same)

pub turned : (longer : Bool) → outcome_if (cond longer false true) ≡ cond longer Refused Stored
turned true = refl
turned false = refl

-- what the ring decides is what becomes of the item
becomes : (load : Load) (items : List Item) (owed rest : List Origin) (sent after_sent : List ℕ)
    (freed freed_now last : ℕ) (origin : Origin) (moment : ℕ) (stored : Bool) (after : List Item)
    → Keeps load items owed sent freed true 0 last → IsPacketHere load items owed origin moment rest
    → WritesItem load.ring items after sent after_sent freed freed_now origin moment
    (packet_block load origin moment last) stored
    → outcome_if stored ≡ outcome_at load (latest_first items)
    (item_of origin moment freed_now (outcome_if stored))
becomes load items owed rest sent after_sent freed freed_now last origin moment stored after k p w =
    let earlier : List Item = latest_first items in
    let i : Item = item_of origin moment freed_now (outcome_if stored) in
    let block : List ℕ = packet_block load origin moment last in
    let same_block : block_of load earlier i ≡ block =
    block_here load earlier origin moment freed_now last (outcome_if stored) p.telling k.last_is
    in
    let same_room : room_at load earlier i ≡ room_of load.ring sent freed_now =
    ap (λ bs. room_of load.ring bs freed_now) (sym k.sent_is) in
    let written : write_outcome load earlier i ≡ cond
    (nat_lt (room_of load.ring sent freed_now) (length block)) Refused Stored =
    ap (λ room. cond (nat_lt room (length (block_of load earlier i))) Refused Stored) same_room
    ∙ ap (λ bs. cond (nat_lt (room_of load.ring sent freed_now) (length bs)) Refused Stored)
    same_block in
    ap outcome_if w.decided
    ∙ (turned (nat_lt (room_of load.ring sent freed_now) (length block))
    ∙ (sym written ∙ sym (outcome_at-write load earlier i p.control (sym k.on_is)
    (after_refused-fresh earlier k.opened.ends))))

-- written while nothing is pending
pub packet-plain : (load : Load) (items after : List Item) (owed rest : List Origin)
    (sent now : List ℕ) (freed freed_now last : ℕ) (origin : Origin) (moment : ℕ) (stored : Bool)
    → Keeps load items owed sent freed true 0 last → IsPacketHere load items owed origin moment rest
    → WritesItem load.ring items after sent now freed freed_now origin moment
    (packet_block load origin moment last) stored
    → Keeps load after rest now freed_now (not (is_stop_reply origin)) (if stored then 0 else 1)
    (if stored then moment else last)
packet-plain load items after owed rest sent now freed freed_now last origin moment true k p w =
    let i : Item = item_of origin moment freed_now Stored in
    let here : Comes load items owed i rest = comes load items owed rest sent freed true 0 last
    origin moment freed_now Stored k p w.rises w.within
    (becomes load items owed rest sent now freed freed_now last origin moment true after k p w)
    in
    let grown : now ≡ sent ++ block_of load (latest_first items) i = w.grown
    ∙ ap (λ bs. sent ++ bs) (sym (block_here load (latest_first items) origin moment freed_now
    last Stored p.telling k.last_is)) in
    subst (λ is. Keeps load is rest now freed_now (not (is_stop_reply origin)) 0 moment)
    (sym w.item)
    (keeps-stored load items owed rest sent freed last i freed_now now k here refl
    (not_start load origin p.control) (not_sync origin p.telling) refl w.within grown)
packet-plain load items after owed rest sent now freed freed_now last origin moment false k p w =
    let i : Item = item_of origin moment freed_now Refused in
    let here : Comes load items owed i rest = comes load items owed rest sent freed true 0 last
    origin moment freed_now Refused k p w.rises w.within
    (becomes load items owed rest sent now freed freed_now last origin moment false after k p w)
    in
    let same : now ≡ sent = w.grown ∙ append-nil sent in
    let kept : Keeps load (items ++ i ∷ []) rest sent freed_now (not (is_stop_reply origin)) 1
    last = keeps-refused load items owed rest sent freed last i freed_now k here
    (refused_packet origin moment freed_now p.telling) refl (not_start load origin p.control)
    refl w.within in
    subst (λ bs. Keeps load after rest bs freed_now (not (is_stop_reply origin)) 1 last) (sym same)
    (subst (λ is. Keeps load is rest sent freed_now (not (is_stop_reply origin)) 1 last)
    (sym w.item) kept)
