-- What one or two items more add to a journal.
use Rattle.std.proofs.Common.{◌≡◌, ℕ, ◌+◌, ◌≤◌, Bool, true, false, not, ◌&&◌, List, [], ◌∷◌, ◌++◌}
use Rattle.std.proofs.Common.{length, refl, sym, ap, ◌∙◌, subst, arith, append_assoc}
use Rattle.std.specs.Prelude.{filter, if◌then◌else◌}
use Rattle.std.proofs.lemmas.List.{length-append}
use Rattle.sv_load.specs.Load.{Load}
use Rattle.sv_load.specs.Need.{HasShortTexts}
use Rattle.sv_journal.specs.declared.journal.Origin.{Origin}
use Rattle.sv_journal.specs.declared.journal.Origin.TheVariants.{Call, Sync, Reply, Overflow}
use Rattle.sv_journal.specs.declared.journal.Origin.TheVariants.{Command}
use Rattle.sv_journal.specs.declared.journal.Outcome.{Outcome}
use Rattle.sv_journal.specs.declared.journal.Item.{Item}
use Rattle.sv_journal.specs.Items.{last_moment, is_stored, is_sync, item_of}
use Rattle.sv_journal.specs.Legal.{is_head, origins_of, is_control}
use Rattle.sv_journal.specs.Packets.{packet_block, is_call_or_reply}
use Rattle.sv_journal.proofs.Shared.{last_moment-stored, last_moment-other}
use Rattle.sv_recorder.specs.Answer.{Gains}
use Rattle.sv_recorder.specs.Writes.{outcome_if, HasPacket}
use Rattle.sv_recorder.specs.Formed.{packet_bytes, block_bytes}
use Rattle.sv_recorder.specs.Book.{head_if}
use Rattle.sv_need.specs.Weights.{weight, byte_weights}
use Rattle.sv_need.proofs.Shared.{packet_bytes_room}

-- the heads among an overflow and an item after it
pub headed_after : (origin : Origin) (count moment freed freed_now : ℕ) (told outcome : Outcome)
    → filter is_head (origins_of (item_of (Overflow count) moment freed told
    ∷ item_of origin moment freed_now outcome ∷ [])) ≡ head_if origin
headed_after (Call writer step) count moment freed freed_now told outcome = refl
headed_after Sync count moment freed freed_now told outcome = refl
headed_after (Reply kind index) count moment freed freed_now told outcome = refl
headed_after (Overflow more) count moment freed freed_now told outcome = refl
headed_after (Command byte param) count moment freed freed_now told outcome = refl

-- a packet's bytes are what it weighs
pub packet_weight : (load : Load) (origin : Origin) → is_call_or_reply origin ≡ true
    → packet_bytes load origin ≡ weight byte_weights load origin
packet_weight load (Call writer step) telling = refl
packet_weight load (Reply kind index) telling = refl
packet_weight load Sync telling = absurd cc
packet_weight load (Overflow count) telling = absurd cc
packet_weight load (Command byte param) telling = absurd cc

-- a packet is no longer than it may be
pub block_short : (load : Load) (origin : Origin) (moment last : ℕ) → HasShortTexts load
    → is_call_or_reply origin ≡ true → is_control load origin ≡ false
    → length (packet_block load origin moment last) ≤ block_bytes load origin
block_short load origin moment last short telling control = omega (
  arith,
  packet_weight load origin telling,
  packet_bytes_room load origin moment last short telling control,
)

-- an overflow has its place in what a packet may have
pub bytes_after : (load : Load) (origin : Origin) → HasShortTexts load → HasPacket load origin
    → 11 + block_bytes load origin ≡ packet_bytes load origin
bytes_after load origin short packet = omega (
  arith,
  packet_weight load origin packet.telling,
  packet_bytes_room load origin 0 0 short packet.telling packet.control,
)

-- a block is as long as the form says
pub as_long : (slice form : List ℕ) (most : ℕ) → slice ≡ form → length form ≤ most
    → length slice ≤ most
as_long slice form most same short = subst (λ (b : List ℕ). length b ≤ most) (sym same) short

pub stored_length : (sent now block : List ℕ) (stored : Bool)
    → now ≡ sent ++ (if stored then block else []) → length now ≤ length sent + length block
stored_length sent now block true grown = omega (arith, ap length grown, length-append sent block)
stored_length sent now block false grown = omega
    (arith, ap length grown, length-append {A = ℕ} sent [])

pub headed_one : (origin : Origin) (moment freed : ℕ) (outcome : Outcome)
    → filter is_head (origins_of (item_of origin moment freed outcome ∷ [])) ≡ head_if origin
headed_one (Call writer step) moment freed outcome = refl
headed_one Sync moment freed outcome = refl
headed_one (Reply kind index) moment freed outcome = refl
headed_one (Overflow count) moment freed outcome = refl
headed_one (Command byte param) moment freed outcome = refl

pub headed_at : (origin : Origin) (count moment moment_now freed freed_now : ℕ)
    (told outcome : Outcome) → moment_now ≡ moment
    → filter is_head (origins_of (item_of (Overflow count) moment freed told
    ∷ item_of origin moment_now freed_now outcome ∷ [])) ≡ head_if origin
headed_at origin count moment moment_now freed freed_now told outcome same =
    subst (λ (k : ℕ). filter is_head (origins_of (item_of (Overflow count) moment freed told
    ∷ item_of origin k freed_now outcome ∷ [])) ≡ head_if origin) (sym same)
    (headed_after origin count moment freed freed_now told outcome)

-- the moment of the last stored packet, after a write
pub settled_last : (earlier : List Item) (i : Item) (moment last moment_now last_now : ℕ)
    (stored : Bool) → i.outcome ≡ outcome_if stored → i.moment ≡ moment → is_sync i.origin ≡ false
    → moment_now ≡ moment → last_now ≡ last_moment earlier
    → (if stored then moment_now else last_now) ≡ last_moment (i ∷ earlier)
settled_last earlier i moment last moment_now last_now true outcome at other same before = same
    ∙ sym at ∙ sym (last_moment-stored earlier i (ap is_stored outcome) other)
settled_last earlier i moment last moment_now last_now false outcome at other same before =
    before ∙ sym (last_moment-other earlier i (ap (λ (b : Bool). b && not (is_sync i.origin))
    (ap is_stored outcome)))

pub last_again : (earlier : List Item) (i : Item) (moment : ℕ) (stored : Bool)
    → i.outcome ≡ outcome_if stored → i.moment ≡ moment → is_sync i.origin ≡ false
    → last_moment earlier ≡ moment → last_moment (i ∷ earlier) ≡ moment
last_again earlier i moment true outcome at other before =
    last_moment-stored earlier i (ap is_stored outcome) other ∙ at
last_again earlier i moment false outcome at other before =
    last_moment-other earlier i (ap (λ (b : Bool). b && not (is_sync i.origin))
    (ap is_stored outcome)) ∙ before

-- the journal has gained an item alone, or one after another
pub gains_one : (old new : List Item) (origin : Origin) (moment freed : ℕ) (outcome told : Outcome)
    → new ≡ old ++ item_of origin moment freed outcome ∷ [] → told ≡ outcome
    → Gains old new origin told
gains_one old new origin moment freed outcome told gained is = record {
  before = [];
  item = item_of origin moment freed outcome;
  later = [];
  gained = gained;
  origin_is = refl;
  outcome_is = sym is;
}

pub gains_two : (old mid new : List Item) (i : Item) (origin : Origin) (moment freed : ℕ)
    (outcome told : Outcome) → mid ≡ old ++ i ∷ []
    → new ≡ mid ++ item_of origin moment freed outcome
    ∷ [] → told ≡ outcome → Gains old new origin told
gains_two old mid new i origin moment freed outcome told first second is = record {
  before = i ∷ [];
  item = item_of origin moment freed outcome;
  later = [];
  gained = second ∙ ap (λ (is : List Item). is ++ item_of origin moment freed outcome ∷ []) first
      ∙ append_assoc old (i ∷ []) (item_of origin moment freed outcome ∷ []);
  origin_is = refl;
  outcome_is = sym is;
}

-- what is pending, and the moment of the last stored packet, after a write
pub settled_pending : (stored : Bool) (n : ℕ) → (if stored then 0 else 1) ≤ n + 2
settled_pending true n = omega arith
settled_pending false n = omega arith

pub and-not : (on : Bool) (b : Bool) → on ≡ true → (on && b) ≡ b
and-not on b is = ap (λ (k : Bool). k && b) is
