-- The room that a packet has within its weight, with an overflow before it.
use Rattle.std.proofs.Common.{◌≡◌, ℕ, ◌+◌, ◌-◌, ◌%◌, ◌≤◌, true, false, cond, length, refl, ap, ◌∙◌}
use Rattle.std.proofs.Common.{arith}
use Rattle.sv_load.specs.Load.{Load, period}
use Rattle.sv_journal.specs.declared.journal.Kind.TheVariants as kinds
use Rattle.sv_journal.specs.declared.journal.Origin.{Origin}
use Rattle.sv_journal.specs.declared.journal.Origin.TheVariants.{Call, Sync, Reply, Overflow}
use Rattle.sv_journal.specs.declared.journal.Origin.TheVariants.{Command}
use Rattle.sv_journal.specs.Legal.{is_control}
use Rattle.sv_journal.specs.Packets.{packet_block, is_call_or_reply}
use Rattle.sv_load.specs.Need.{HasShortTexts}
use Rattle.sv_need.specs.Weights.{Weights, plain_weight, weight, item_weights, byte_weights}
use Rattle.sv_need.proofs.Sizes.{IsPlainSize}
use Rattle.sv_need.proofs.ByteCounts.{plain_bytes}

plain-weight : (w : Weights) (load : Load) (origin : Origin) → is_control load origin ≡ false
    → weight w load origin ≡ plain_weight w load origin
plain-weight w load origin other = ap (λ b. cond b w.control (plain_weight w load origin)) other

two_items : (load : Load) (origin : Origin) → is_call_or_reply origin ≡ true
    → plain_weight item_weights load origin ≡ 2
two_items load (Call writer step) telling = refl
two_items load (Reply kinds.TraceStart index) telling = refl
two_items load (Reply kinds.TraceStop index) telling = refl
two_items load (Reply other index) telling = refl
two_items load Sync telling = absurd cc
two_items load (Overflow count) telling = absurd cc
two_items load (Command byte param) telling = absurd cc

pub packet_items : (load : Load) (origin : Origin) → is_call_or_reply origin ≡ true
    → is_control load origin ≡ false → weight item_weights load origin ≡ 2
packet_items load origin telling other = plain-weight item_weights load origin other
    ∙ two_items load origin telling

with_overflow : (load : Load) (origin : Origin) (size : ℕ) → is_call_or_reply origin ≡ true
    → IsPlainSize byte_weights load 11 size origin
    → size + 11 ≤ plain_weight byte_weights load origin
with_overflow load (Call writer step) size telling plain = plain
with_overflow load (Reply kind index) size telling plain = plain
with_overflow load Sync size telling plain = absurd cc
with_overflow load (Overflow count) size telling plain = absurd cc
with_overflow load (Command byte param) size telling plain = absurd cc

packet_size : (load : Load) (origin : Origin) (moment last : ℕ) → HasShortTexts load
    → is_call_or_reply origin ≡ true → IsPlainSize byte_weights load 11
    (length (packet_block load origin moment last)) origin
packet_size load (Call writer step) moment last short telling =
    plain_bytes load (Call writer step) moment ((moment - last) % period load)
    (length (packet_block load (Call writer step) moment last)) short (omega arith)
packet_size load (Reply kind index) moment last short telling =
    plain_bytes load (Reply kind index) moment ((moment - last) % period load)
    (length (packet_block load (Reply kind index) moment last)) short (omega arith)
packet_size load Sync moment last short telling = absurd cc
packet_size load (Overflow count) moment last short telling = absurd cc
packet_size load (Command byte param) moment last short telling = absurd cc

pub packet_bytes_room : (load : Load) (origin : Origin) (moment last : ℕ) → HasShortTexts load
    → is_call_or_reply origin ≡ true → is_control load origin ≡ false
    → length (packet_block load origin moment last) + 11 ≤ weight byte_weights load origin
packet_bytes_room load origin moment last short telling other =
    omega (
      arith,
      plain-weight byte_weights load origin other,
      with_overflow load origin
          (length (packet_block load origin moment last)) telling
          (packet_size load origin moment last short telling),
    )
