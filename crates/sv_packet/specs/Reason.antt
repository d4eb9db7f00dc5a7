-- Why no packet goes on with a byte: by the part of the packet in which it stands.
use Rattle.std.specs.Prelude.{ℕ, ◌<◌, ◌≤◌, ◌⊎◌, List}
use Rattle.sv_prim.specs.declared.got.Reason.{Reason}
use Rattle.sv_prim.specs.declared.got.Reason.TheVariants.{BadNumber, BadId, BadLength, BadText}
use Rattle.sv_prim.specs.Code.{PairReason, Always}
use Rattle.sv_packet.specs.Packet.{IsShortNumber}
use Rattle.sv_packet.specs.Shape.{number_count, ends_in_text}
use Rattle.sv_packet.specs.Parts.{IsIdentifier, AreNumbers, IsTextIf, IsOfSize}

-- no byte is refused
abbrev pub Never : List ℕ → Reason → Type 0
Never front reason = ⊥

-- below identifier 24 and behind the numbers: in the length of the text, if there is one, or in the
-- delta
abbrev pub BareEndReason : ℕ → List ℕ → Reason → Type 0
BareEndReason id =
    PairReason (IsTextIf (ends_in_text id)) (Always BadText) (λ text. Always BadNumber)

-- below identifier 24: in the numbers, or behind them
abbrev pub BareReason : ℕ → List ℕ → Reason → Type 0
BareReason id =
    PairReason (AreNumbers (number_count id)) (Always BadNumber) (λ numbers. BareEndReason id)

-- from identifier 24 on and behind the length: never in the payload, and in the delta
abbrev pub CountedEndReason : ℕ → List ℕ → Reason → Type 0
CountedEndReason size = PairReason (IsOfSize size) Never (λ payload. Always BadNumber)

-- from identifier 24 on: in the length, or behind it
abbrev pub CountedReason : List ℕ → Reason → Type 0
CountedReason = PairReason IsShortNumber (Always BadLength) CountedEndReason

-- behind an identifier
abbrev pub BodyReason : ℕ → List ℕ → Reason → Type 0
BodyReason id front reason =
    ((id < 24) × BareReason id front reason) ⊎ ((24 ≤ id) × CountedReason front reason)

-- the reason behind the bytes before the place: in the identifier, or behind it
abbrev pub packet_reason : List ℕ → Reason → Type 0
packet_reason = PairReason IsIdentifier (Always BadId) BodyReason
