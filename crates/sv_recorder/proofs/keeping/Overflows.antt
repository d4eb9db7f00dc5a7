-- A packet after an overflow keeps what the recorder keeps.
use Rattle.std.proofs.Common.{◌≡◌, ℕ, ◌+◌, ◌<◌, ◌≤◌, Bool, true, false, not, cond, List, [], ◌∷◌}
use Rattle.std.proofs.Common.{◌++◌, length, length-append, refl, sym, ap, ◌∙◌, subst, arith}
use Rattle.std.proofs.Common.{append-nil, replicate}
use Rattle.std.specs.Prelude.{count_by, sum_by, nat_lt, if◌then◌else◌}
use Rattle.std.proofs.lemmas.List.Sums.{sum_by-cons}
use Rattle.sv_load.specs.Load.{Load}
use Rattle.sv_journal.specs.declared.journal.Origin.{Origin}
use Rattle.sv_journal.specs.declared.journal.Origin.TheVariants.{Call, Sync, Reply, Overflow}
use Rattle.sv_journal.specs.declared.journal.Origin.TheVariants.{Command}
use Rattle.sv_journal.specs.declared.journal.Outcome.{Outcome}
use Rattle.sv_journal.specs.declared.journal.Outcome.TheVariants.{Stored, Refused}
use Rattle.sv_journal.specs.declared.journal.Item.{Item}
use Rattle.sv_journal.specs.Items.{latest_first, is_call_of, is_packet, is_sync, is_stop_reply}
use Rattle.sv_journal.specs.Items.{is_on, pending_at, last_moment, block_of, stored_before}
use Rattle.sv_journal.specs.Items.{stream_before, room_at, item_of}
use Rattle.sv_journal.specs.Legal.{IsNextStep, write_outcome, step_ticks, outcome_at}
use Rattle.sv_journal.specs.Packets.{packet_block, is_call_or_reply}
use Rattle.sv_journal.proofs.Shared.{outcome_at-after, outcome_at-write, is_on-told}
use Rattle.sv_journal.proofs.Shared.{pending_at-refused, pending_at-other}
use Rattle.sv_journal.proofs.Shared.{pending_at-stored_overflow, last_moment-stored}
use Rattle.sv_journal.proofs.Shared.{last_moment-other, stored_before-le, Stands, overflow_item}
use Rattle.sv_recorder.specs.Kept.{Keeps}
use Rattle.sv_recorder.specs.Writes.{WritesItem, outcome_if, IsPacketHere}
use Rattle.sv_recorder.proofs.keeping.Items.{keeps-after, added, moved, no_overflow, not_refused}
use Rattle.sv_recorder.proofs.keeping.Packets.{not_sync, not_overflow, not_command, not_start}
use Rattle.sv_recorder.proofs.keeping.Packets.{in_place, refused_packet, few_more, turned}
use Rattle.sv_ring.specs.Ring.{room_of}

-- what the ring decides of a block is what becomes of its item
decided : (load : Load) (earlier : List Item) (sent now : List ℕ) (freed freed_now last : ℕ)
    (origin : Origin) (moment : ℕ) (stored : Bool) (items after : List Item)
    → sent ≡ stream_before load earlier → last ≡ last_moment earlier → is_sync origin ≡ false
    → WritesItem load.ring items after sent now freed freed_now origin moment
    (packet_block load origin moment last) stored
    → outcome_if stored ≡ write_outcome load earlier
    (item_of origin moment freed_now (outcome_if stored))
decided load earlier sent now freed freed_now last origin moment stored items after sent_is last_is
    sync w =
    let i : Item = item_of origin moment freed_now (outcome_if stored) in
    let block : List ℕ = packet_block load origin moment last in
    let same_block : block_of load earlier i ≡ block =
    ap (λ b. cond b (replicate 10 0) (packet_block load origin moment (last_moment earlier))) sync
    ∙ ap (packet_block load origin moment) (sym last_is) in
    let same_room : room_at load earlier i ≡ room_of load.ring sent freed_now =
    ap (λ bs. room_of load.ring bs freed_now) (sym sent_is) in
    let written : write_outcome load earlier i ≡ cond
    (nat_lt (room_of load.ring sent freed_now) (length block)) Refused Stored =
    ap (λ room. cond (nat_lt room (length (block_of load earlier i))) Refused Stored) same_room
    ∙ ap (λ bs. cond (nat_lt (room_of load.ring sent freed_now) (length bs)) Refused Stored)
    same_block in
    ap outcome_if w.decided ∙ (turned (nat_lt (room_of load.ring sent freed_now) (length block))
    ∙ sym written)

-- an overflow is no call, so the step is still the next one
step_after : (load : Load) (earlier : List Item) (origin : Origin) (count moment freed : ℕ)
    (outcome : Outcome) → IsNextStep load earlier origin
    → IsNextStep load (overflow_item count moment freed outcome ∷ earlier) origin
step_after load earlier (Call writer step) count moment freed outcome h = (
  h.0 ∙ sym (sum_by-cons (λ (j : Item). cond (is_call_of writer j.origin) 1 0)
      (overflow_item count moment freed outcome) earlier
      ∙ none_more (count_by (λ j. is_call_of writer j.origin) earlier)),
  h.1,
) where
  none_more : (n : ℕ) → 0 + n ≡ n
  none_more n = omega arith
step_after load earlier Sync count moment freed outcome h = tt
step_after load earlier (Reply kind index) count moment freed outcome h = tt
step_after load earlier (Overflow other) count moment freed outcome h = tt
step_after load earlier (Command byte param) count moment freed outcome h = tt

-- the place of a packet after an overflow
stands_after : (load : Load) (items : List Item) (owed rest : List Origin) (sent : List ℕ)
    (freed pending last count moment between freed_now : ℕ) (origin : Origin)
    (told outcome : Outcome)
    → Keeps load items owed sent freed true pending last
    → IsPacketHere load items owed origin moment rest
    → between ≤ freed_now → freed_now ≤ stored_before load (overflow_item count moment between told
    ∷ latest_first items)
    → outcome ≡ outcome_at load (overflow_item count moment between told ∷ latest_first items)
    (item_of origin moment freed_now outcome)
    → Stands load (overflow_item count moment between told ∷ latest_first items)
    (item_of origin moment freed_now outcome)
stands_after load items owed rest sent freed pending last count moment between freed_now origin told
    outcome k p low high becomes =
    let earlier : List Item = latest_first items in
    let o : Item = overflow_item count moment between told in
    let i : Item = item_of origin moment freed_now outcome in
    record {
      other = not_overflow origin p.telling;
      command = in_place (o ∷ earlier) origin p.telling;
      step = step_after load earlier origin count moment between told p.step;
      moment = p.ticks ∙ sym (sum_by-cons (λ (j : Item). step_ticks load j.origin) i (o ∷ earlier)
          ∙ ap (λ n. step_ticks load origin + n)
          (sum_by-cons (λ (j : Item). step_ticks load j.origin) o
          earlier ∙ none_more (sum_by (λ j. step_ticks load j.origin) earlier)));
      freed_rises = low;
      freed_stored = high;
      outcome = becomes;
    } where
      none_more : (n : ℕ) → 0 + n ≡ n
      none_more n = omega arith

-- the overflow is refused, and the packet with it
pub packet-after_refused : (load : Load) (items between after : List Item) (owed rest : List Origin)
    (sent now : List ℕ) (freed freed_now pending last : ℕ) (origin : Origin) (moment : ℕ)
    → Keeps load items owed sent freed true pending last → 0 < pending
    → IsPacketHere load items owed origin moment rest
    → WritesItem load.ring items between sent now freed freed_now (Overflow pending) moment
    (packet_block load (Overflow pending) moment last) false
    → after ≡ between ++ item_of origin moment freed_now Refused ∷ []
    → Keeps load after rest now freed_now (not (is_stop_reply origin)) (1 + pending) last
packet-after_refused load items between after owed rest sent now freed freed_now pending last origin
    moment k above p w grown =
    let earlier : List Item = latest_first items in
    let o : Item = overflow_item pending moment freed_now Refused in
    let i : Item = item_of origin moment freed_now Refused in
    let same : now ≡ sent = w.grown ∙ append-nil sent in
    let length_sent : length sent ≡ stored_before load earlier = ap length k.sent_is in
    let length_now : length now ≡ length sent = ap length same in
    let more : stored_before load earlier ≤ stored_before load (o ∷ earlier) =
    stored_before-le load earlier o in
    let stands : Stands load (o ∷ earlier) i = stands_after load items owed rest sent freed pending
    last pending moment freed_now freed_now origin Refused Refused k p (omega arith)
    (reached w.within length_sent more)
    (sym (outcome_at-after load (o ∷ earlier) i p.control (sym k.on_is) refl)) in
    let whole = keeps-after load items owed rest sent freed pending last moment freed_now Refused i
    now now freed_now k above w.rises w.within
    (decided load earlier sent now freed freed_now last (Overflow pending) moment false items
    between k.sent_is k.last_is refl w)
    (same ∙ sym (append-nil sent)) stands (refused_packet origin moment freed_now p.telling) refl
    p.due
    (few_more load (items ++ o ∷ []) i (not_command origin p.telling)
    (few_more load items o refl k.opened.commands))
    (sym (append-nil now)) (omega arith) (reach w.within length_now) in
    let on_now : is_on load (i ∷ o ∷ earlier) ≡ not (is_stop_reply origin) =
    is_on-told load (o ∷ earlier) i (not_start load origin p.control) (sym k.on_is) in
    let pending_now : pending_at (i ∷ o ∷ earlier) ≡ 1 + pending =
    pending_at-refused (o ∷ earlier) i (not_overflow origin p.telling)
    (refused_packet origin moment freed_now p.telling) refl
    ∙ ap (λ n. 1 + n) (pending_at-other earlier o refl refl ∙ sym k.pending_is) in
    let last_now : last_moment (i ∷ o ∷ earlier) ≡ last = last_moment-other (o ∷ earlier) i refl
    ∙ (last_moment-other earlier o refl ∙ sym k.last_is) in
    subst (λ is. Keeps load is rest now freed_now (not (is_stop_reply origin)) (1 + pending) last)
    (sym (grown ∙ ap (λ is. is ++ i ∷ []) w.item))
    (moved load ((items ++ o ∷ []) ++ i ∷ []) rest now freed_now _ _ _ _ _ _ on_now pending_now
    last_now whole)
  where
    reached : {a b c d : ℕ} → a ≤ b → b ≡ c → c ≤ d → a ≤ d
    reached q r s = omega arith

    reach : {a b c : ℕ} → a ≤ b → c ≡ b → a ≤ c
    reach q r = omega arith

-- the overflow is stored, and then the packet is written as if nothing were pending
pub packet-after_stored : (load : Load) (items between after : List Item) (owed rest : List Origin)
    (sent sent_between now : List ℕ) (freed freed_between freed_now pending last : ℕ)
    (origin : Origin) (moment : ℕ) (stored : Bool)
    → Keeps load items owed sent freed true pending last → 0 < pending
    → IsPacketHere load items owed origin moment rest
    → WritesItem load.ring items between sent sent_between freed freed_between
    (Overflow pending) moment
    (packet_block load (Overflow pending) moment last) true
    → WritesItem load.ring between after sent_between now freed_between freed_now origin moment
    (packet_block load origin moment moment) stored
    → Keeps load after rest now freed_now (not (is_stop_reply origin)) (if stored then 0 else 1)
    moment
packet-after_stored load items between after owed rest sent sent_between now freed freed_between
    freed_now pending last origin moment stored k above p v w =
    let earlier : List Item = latest_first items in
    let o : Item = overflow_item pending moment freed_between Stored in
    let i : Item = item_of origin moment freed_now (outcome_if stored) in
    let here : sent_between ≡ stream_before load (o ∷ earlier) =
    v.grown ∙ (ap (λ bs. bs ++ packet_block load (Overflow pending) moment last) k.sent_is
    ∙ ap (λ m. stream_before load earlier ++ packet_block load (Overflow pending) moment m)
    k.last_is) in
    let length_here : length sent_between ≡ stored_before load (o ∷ earlier) = ap length here in
    let writes : outcome_if stored ≡ write_outcome load (o ∷ earlier) i =
    decided load (o ∷ earlier) sent_between now freed_between freed_now moment origin moment
    stored between after here refl (not_sync origin p.telling) w in
    let stands : Stands load (o ∷ earlier) i = stands_after load items owed rest sent freed pending
    last pending moment freed_between freed_now origin Stored (outcome_if stored) k p w.rises
    (reach w.within length_here)
    (writes ∙ sym (outcome_at-write load (o ∷ earlier) i p.control (sym k.on_is) refl)) in
    let block_is : added load (o ∷ earlier) i ≡ (if stored then packet_block load origin moment
    moment else []) = added_is load (o ∷ earlier) origin moment freed_now stored p.telling in
    let length_grown : length sent_between ≤ length now =
    longer sent_between now (if stored then packet_block load origin moment moment else [])
    w.grown in
    let whole = keeps-after load items owed rest sent freed pending last moment freed_between Stored
    i sent_between now freed_now k above v.rises v.within
    (decided load earlier sent sent_between freed freed_between last (Overflow pending) moment true
    items between k.sent_is k.last_is refl v)
    (here ∙ ap (λ bs. bs ++ added load earlier o) (sym k.sent_is)) stands
    (packet_of origin moment freed_now stored p.telling) refl p.due
    (few_more load (items ++ o ∷ []) i (not_command origin p.telling)
    (few_more load items o refl k.opened.commands))
    (w.grown ∙ ap (λ bs. sent_between ++ bs) (sym block_is)) (omega arith)
    (through w.within length_grown) in
    let on_now : is_on load (i ∷ o ∷ earlier) ≡ not (is_stop_reply origin) =
    is_on-told load (o ∷ earlier) i (not_start load origin p.control) (sym k.on_is) in
    let pending_now : pending_at (i ∷ o ∷ earlier) ≡ (if stored then 0 else 1) =
    pending_of (o ∷ earlier) origin moment freed_now stored p.telling
    (pending_at-stored_overflow earlier o refl refl) in
    let last_now : last_moment (i ∷ o ∷ earlier) ≡ moment =
    last_of (o ∷ earlier) origin moment freed_now stored p.telling refl in
    subst (λ is. Keeps load is rest now freed_now (not (is_stop_reply origin))
    (if stored then 0 else 1) moment) (sym (w.item ∙ ap (λ is. is ++ i ∷ []) v.item))
    (moved load ((items ++ o ∷ []) ++ i ∷ []) rest now freed_now _ _ _ _ _ _ on_now pending_now
    last_now whole)
  where
    reach : {a b c : ℕ} → a ≤ b → b ≡ c → a ≤ c
    reach q r = omega arith

    through : {a b c : ℕ} → a ≤ b → b ≤ c → a ≤ c
    through q r = omega arith

    longer : (xs zs ys : List ℕ) → zs ≡ xs ++ ys → length xs ≤ length zs
    longer xs zs ys e = omega (arith, ap length e ∙ length-append xs ys)

    added_is : (load : Load) (es : List Item) (origin : Origin) (moment freed : ℕ) (stored : Bool)
        → is_call_or_reply origin ≡ true
        → added load es (item_of origin moment freed (outcome_if stored)) ≡
        (if stored then packet_block load origin moment (last_moment es) else [])
    added_is load es origin moment freed true t =
        ap (λ b. cond b (replicate 10 0) (packet_block load origin moment (last_moment es)))
        (not_sync origin t)
    added_is load es origin moment freed false t = refl

    packet_of : (origin : Origin) (moment freed : ℕ) (stored : Bool)
        → is_call_or_reply origin ≡ true
        → is_packet (item_of origin moment freed (outcome_if stored))
        ≡ true
    packet_of (Call writer step) moment freed true t = refl
    packet_of (Call writer step) moment freed false t = refl
    packet_of Sync moment freed stored t = cc
    packet_of (Reply kind index) moment freed stored t = refl
    packet_of (Overflow count) moment freed stored t = cc
    packet_of (Command byte param) moment freed stored t = cc

    pending_of : (es : List Item) (origin : Origin) (moment freed : ℕ) (stored : Bool)
        → is_call_or_reply origin ≡ true → pending_at es ≡ 0
        → pending_at (item_of origin moment freed (outcome_if stored) ∷ es)
        ≡ (if stored then 0 else 1)
    pending_of es origin moment freed true t none =
        pending_at-other es (item_of origin moment freed Stored)
        (no_overflow (item_of origin moment freed Stored) (not_overflow origin t))
        (not_refused (item_of origin moment freed Stored) refl) ∙ none
    pending_of es origin moment freed false t none =
        pending_at-refused es (item_of origin moment freed Refused) (not_overflow origin t)
        (refused_packet origin moment freed t) refl ∙ ap (λ n. 1 + n) none

    last_of : (es : List Item) (origin : Origin) (moment freed : ℕ) (stored : Bool)
        → is_call_or_reply origin ≡ true → last_moment es ≡ moment
        → last_moment (item_of origin moment freed (outcome_if stored) ∷ es) ≡ moment
    last_of es origin moment freed true t same =
        last_moment-stored es (item_of origin moment freed Stored) refl (not_sync origin t)
    last_of es origin moment freed false t same =
        last_moment-other es (item_of origin moment freed Refused) refl ∙ same
