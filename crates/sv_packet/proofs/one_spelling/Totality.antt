-- Of any bytes something can be told of a packet, for one reason, and so any bytes are packets and
-- a rest.
use Rattle.std.proofs.Common.{◌≡◌, ℕ, zero, suc, ◌≤◌, ◌⊎◌, List, [], ◌∷◌, ◌++◌, length, take, drop}
use Rattle.std.proofs.Common.{refl, sym, ap, ◌∙◌, append_assoc, arith, inl, inr}
use Rattle.std.proofs.lemmas.Bool.{cases_lt}
use Rattle.std.proofs.lemmas.List.{length-take, length-drop, take-append-drop}
use Rattle.sv_prim.specs.declared.got.Reason.{Reason}
use Rattle.sv_prim.specs.declared.got.Reason.TheVariants.{BadNumber, BadId, BadLength, BadText}
use Rattle.sv_prim.specs.declared.got.Got.{Got}
use Rattle.sv_prim.specs.declared.got.Got.TheVariants.{Value, Short, Bad}
use Rattle.sv_prim.specs.Code.{Begins, Tells, IsTotal, IsOneReason, IsPair, Always}
use Rattle.sv_prim.specs.Number.{IsNumber, number_reason}
use Rattle.sv_prim.specs.Text.{AreBytes}
use Rattle.sv_prim.specs.TextAt.{text_reason}
use Rattle.sv_prim.proofs.Shared.{begins_not_breaks, begins_not_cut, bytes_behind, carried_total}
use Rattle.sv_prim.proofs.Shared.{number_total, pair_reason, pair_total}
use Rattle.sv_packet.specs.declared.event.Packet.{Packet}
use Rattle.sv_packet.specs.Packet.{IsShortNumber, IsPacket}
use Rattle.sv_packet.specs.Packets.{ArePackets, BeginsWithNone}
use Rattle.sv_packet.specs.Shape.{number_count, ends_in_text}
use Rattle.sv_packet.specs.Parts.{IsIdentifier, AreNumbers, IsTextIf, IsOfSize}
use Rattle.sv_packet.specs.Reason.{Never, BareEndReason, BareReason, CountedEndReason}
use Rattle.sv_packet.specs.Reason.{CountedReason, BodyReason, packet_reason}
use Rattle.sv_packet.proofs.one_spelling.Free.{short_free, packet_free}
use Rattle.sv_packet.proofs.one_spelling.Shorts.{identifier_free}
use Rattle.sv_packet.proofs.how_long.Counts.{numbers_free}
use Rattle.sv_packet.proofs.told_of_parts.Pieces.{size_free}
use Rattle.sv_packet.proofs.told_of_parts.Formed.{text_if_free}
use Rattle.sv_packet.proofs.told_of_parts.Deciding.{some_number, numbers_total, text_if_total, size_total}
use Rattle.sv_packet.proofs.told_of_parts.Deciding.{short_total, identifier_total}
use Rattle.sv_packet.proofs.told_of_parts.Bodies.{IsBehind, packet_to, packet_from, IsBareEnd, IsBareBody}
use Rattle.sv_packet.proofs.told_of_parts.Bodies.{bare_to, bare_from, IsCountedEnd, IsCountedBody, counted_to}
use Rattle.sv_packet.proofs.told_of_parts.Bodies.{counted_from, id_fits, some_bare_end, some_counted_end}
use Rattle.sv_packet.proofs.told_of_parts.Bodies.{some_behind}
use Rattle.sv_packet.proofs.one_spelling.Once.{packet_size, no_packet}

-- ---- what is told of any bytes

bare_total : (id : ℕ) → IsTotal (IsBareBody id) (BareReason id)
bare_total id =
    let text = IsTextIf (ends_in_text id) in
    let end =
    pair_total text (λ (text : List ℕ). IsNumber) (text_if_free (ends_in_text id))
    (some_number text) text_reason (λ (text : List ℕ). number_reason)
    (text_if_total (ends_in_text id)) (λ text front s. number_total) in
    pair_total (AreNumbers (number_count id)) (IsBareEnd id) (numbers_free (number_count id))
    (λ ns front s. some_bare_end id ns) number_reason (λ (ns : List ℕ). BareEndReason id)
    (numbers_total (number_count id)) (λ ns front s. end)

counted_total : IsTotal IsCountedBody CountedReason
counted_total =
    let end =
    λ (size : ℕ).
    pair_total (IsOfSize size) (λ (payload : List ℕ). IsNumber) (size_free size)
    (some_number (IsOfSize size)) Never (λ (payload : List ℕ). number_reason)
    (size_total size) (λ payload front s. number_total) in
    pair_total IsShortNumber IsCountedEnd short_free (λ size front s. some_counted_end size)
    (Always BadLength) CountedEndReason (short_total BadLength) (λ size front s. end size)

behind_total : (id : ℕ) (front : List ℕ) → IsIdentifier id front →
    IsTotal (IsBehind id) (BodyReason id)
behind_total id front s = elim (cases_lt id 24) [
  | inl low ↦
      carried_total (IsBareBody id) (IsBehind id) (bare_to id low) (bare_from id low s.1)
      (BareReason id) (BodyReason id) (λ front reason is. inl (low, is)) (bare_total id)
  | inr high ↦
      carried_total IsCountedBody (IsBehind id) (counted_to id high)
      (counted_from id high (id_fits id front s.0)) CountedReason (BodyReason id)
      (λ front reason is. inr (high, is)) counted_total
]

pub packet_total : IsTotal IsPacket packet_reason
packet_total =
    carried_total (IsPair IsIdentifier IsBehind) IsPacket packet_to packet_from packet_reason
    packet_reason (λ front reason is. is)
    (pair_total IsIdentifier IsBehind identifier_free some_behind (Always BadId) BodyReason
    identifier_total behind_total)

-- ---- for one reason

always_one : (reason : Reason) → IsOneReason (Always reason)
always_one reason front p q is is2 = is ∙ sym is2

never_one : IsOneReason Never
never_one front p q is is2 = absurd is

bare_one : (id : ℕ) → IsOneReason (BareReason id)
bare_one id =
    let end =
    pair_reason (IsTextIf (ends_in_text id)) (text_if_free (ends_in_text id)) (Always BadText)
    (λ (text : List ℕ). Always BadNumber) (always_one BadText)
    (λ text. always_one BadNumber) in
    pair_reason (AreNumbers (number_count id)) (numbers_free (number_count id)) (Always BadNumber)
    (λ (ns : List ℕ). BareEndReason id) (always_one BadNumber) (λ ns. end)

counted_one : IsOneReason CountedReason
counted_one =
    let end =
    λ (size : ℕ).
    pair_reason (IsOfSize size) (size_free size) Never
    (λ (payload : List ℕ). Always BadNumber) never_one
    (λ payload. always_one BadNumber) in
    pair_reason IsShortNumber short_free (Always BadLength) CountedEndReason (always_one BadLength)
    end

body_one : (id : ℕ) → IsOneReason (BodyReason id)
body_one id front p q (inl x) (inl y) = bare_one id front p q x.1 y.1
body_one id front p q (inl x) (inr y) = absurd (omega (arith, x.0, y.0))
body_one id front p q (inr x) (inl y) = absurd (omega (arith, x.0, y.0))
body_one id front p q (inr x) (inr y) = counted_one front p q x.1 y.1

pub reason_one : IsOneReason packet_reason
reason_one =
    pair_reason IsIdentifier identifier_free (Always BadId) BodyReason (always_one BadId) body_one

-- ---- packets one after another

-- a packet stands at the front, or none
pub front_decided : (bytes : List ℕ) → AreBytes bytes →
    ((p : Packet) × (used : ℕ) × Begins IsPacket bytes p used) ⊎ BeginsWithNone bytes
front_decided bytes are = let told = packet_total bytes are in decided told.0 told.1
  where
    decided : (got : Got Packet) → Tells IsPacket packet_reason bytes got →
        ((p : Packet) × (used : ℕ) × Begins IsPacket bytes p used) ⊎ BeginsWithNone bytes
    decided (Value p used) told = inl (p, used, told)
    decided Short told =
        inr (λ p used begins. begins_not_cut IsPacket packet_free bytes p used begins told)
    decided (Bad place reason) told =
        inr
        (λ p used begins.
        begins_not_breaks IsPacket packet_free bytes p used place begins told.0)

-- the bytes are packets and a rest that begins with none
abbrev ArePacketsAndRest : List ℕ → Type 0
ArePacketsAndRest bytes =
    (packets : List Packet) × (text : List ℕ) × (rest : List ℕ) × ArePackets packets text ×
    BeginsWithNone rest × (bytes ≡ text ++ rest)

one_before : (p : Packet) (front behind bytes : List ℕ) → IsPacket p front →
    front ++ behind ≡ bytes → ArePacketsAndRest behind → ArePacketsAndRest bytes
one_before p front behind bytes s whole (packets, text, rest, are, none, parts) = (
  p ∷ packets,
  front ++ text,
  rest,
  (front, text, s, are, refl),
  none,
  sym whole ∙ ap (λ (x : List ℕ). front ++ x) parts ∙ sym (append_assoc front text rest),
)

-- by a bound of the length, since a packet has a byte
packets_within : (most : ℕ) (bytes : List ℕ) → length bytes ≤ most → AreBytes bytes →
    ArePacketsAndRest bytes
packets_within zero [] le are = ([], [], [], refl, no_packet, refl)
packets_within zero (b ∷ bytes) le are = absurd (omega arith)
packets_within (suc most) bytes le are =
    elim (front_decided bytes are) [
      | inl (p, used, begins) ↦
          let size = packet_size p (take used bytes) begins.spelled in
          let later =
          packets_within most (drop used bytes)
          (omega (arith, length-take used bytes, length-drop used bytes))
          (bytes_behind used bytes are) in
          one_before p (take used bytes) (drop used bytes) bytes begins.spelled
          (take-append-drop used bytes) later
      | inr none ↦ ([], [], bytes, refl, none, refl)
    ]

-- any bytes are packets and a rest that begins with none
pub packets_exist : (bytes : List ℕ) → AreBytes bytes →
    (packets : List Packet) × (text : List ℕ) × (rest : List ℕ) × ArePackets packets text ×
    BeginsWithNone rest × (bytes ≡ text ++ rest)
packets_exist bytes are = packets_within (length bytes) bytes (omega arith) are
