-- The definition of a packet's spelling and the function that gives it say the same.
use Rattle.std.proofs.Common.{◌≡◌, ℕ, ◌+◌, ◌/◌, ◌%◌, ◌^◌, ◌<◌, ◌≤◌, List, [], ◌∷◌, ◌++◌, length}
use Rattle.std.proofs.Common.{refl, sym, ap, subst, ◌∙◌, arith, inl, inr}
use Rattle.std.specs.Prelude.{◌↔◌}
use Rattle.std.specs.List.{AllByRecursion}
use Rattle.std.proofs.lemmas.Bool.{cases_lt}
use Rattle.std.proofs.lemmas.Bool.Decides.{nat_tests}
use Rattle.sv_prim.specs.Number.{number_spelling}
use Rattle.sv_prim.proofs.Shared.{once, spelled, text_fits, text_once, text_spelled}
use Rattle.sv_packet.specs.declared.event.Event.{Event}
use Rattle.sv_packet.specs.declared.event.Event.TheVariants.{Opaque}
use Rattle.sv_packet.specs.declared.event.Packet.{Packet}
use Rattle.sv_packet.specs.Table.{identifier, fields, Field, Number, Text, Raw}
use Rattle.sv_packet.specs.Packet.{IsField, AreFields, IsShortNumber, IsHead, IsKeptAsBytes}
use Rattle.sv_packet.specs.Packet.{IsPacket}
use Rattle.sv_packet.specs.Spelling.{field_spelling, fields_spelling, short_spelling, head_spelling}
use Rattle.sv_packet.specs.Spelling.{payload_of, spelling_of, IsInRange, HasRange, IsTextWithin}
use Rattle.sv_packet.specs.Spelling.{IsValid}

-- ---- fields

field_in_range : (field : Field) (bytes : List ℕ) → IsField field bytes → IsInRange field
field_in_range (Number value) bytes s = s.fits
field_in_range (Text text) bytes s = s.0
field_in_range (Raw raw) bytes s = s.0

field_text : (field : Field) (bytes : List ℕ) → IsField field bytes → IsTextWithin 65535 field
field_text (Number value) bytes s = tt
field_text (Text text) bytes s = text_fits text bytes s
field_text (Raw raw) bytes s = tt

field_once : (field : Field) (bytes : List ℕ) → IsField field bytes → bytes ≡ field_spelling field
field_once (Number value) bytes s = once value bytes s
field_once (Text text) bytes s = text_once text bytes s
field_once (Raw raw) bytes s = s.1

field_spelled : (field : Field) → IsInRange field → IsTextWithin 65535 field →
    IsField field (field_spelling field)
field_spelled (Number value) fits text = spelled value fits
field_spelled (Text text) are most = text_spelled text most are
field_spelled (Raw raw) are text = (are, refl)

fields_in_range : (fs : List Field) (bytes : List ℕ) → AreFields fs bytes →
    AllByRecursion IsInRange fs
fields_in_range [] bytes s = tt
fields_in_range (field ∷ fs) bytes (first, rest, one, others, whole) =
    (field_in_range field first one, fields_in_range fs rest others)

fields_texts : (fs : List Field) (bytes : List ℕ) → AreFields fs bytes →
    AllByRecursion (IsTextWithin 65535) fs
fields_texts [] bytes s = tt
fields_texts (field ∷ fs) bytes (first, rest, one, others, whole) =
    (field_text field first one, fields_texts fs rest others)

pub fields_once : (fs : List Field) (bytes : List ℕ) → AreFields fs bytes →
    bytes ≡ fields_spelling fs
fields_once [] bytes s = s
fields_once (field ∷ fs) bytes (first, rest, one, others, whole) =
    let front = field_once field first one in
    let behind = fields_once fs rest others in
    whole ∙ ap (λ (k : List ℕ). k ++ rest) front
    ∙ ap (λ (k : List ℕ). field_spelling field ++ k) behind

pub fields_spelled : (fs : List Field) → AllByRecursion IsInRange fs →
    AllByRecursion (IsTextWithin 65535) fs → AreFields fs (fields_spelling fs)
fields_spelled [] fit texts = refl
fields_spelled (field ∷ fs) fit texts = (
  field_spelling field,
  fields_spelling fs,
  field_spelled field fit.0 texts.0,
  fields_spelled fs fit.1 texts.1,
  refl,
)

-- ---- identifiers and lengths

pub short_spelling-one : (n : ℕ) → n < 128 → short_spelling n ≡ n ∷ []
short_spelling-one n one = grind (arith, nat_tests)

pub short_spelling-two : (n : ℕ) → 128 ≤ n → short_spelling n ≡ (n % 128 + 128) ∷ (n / 128) ∷ []
short_spelling-two n two = grind (arith, nat_tests)

short_fits : (n : ℕ) (bytes : List ℕ) → IsShortNumber n bytes → n ≤ 16383
short_fits n bytes (inl one) = omega (arith, one.0)
short_fits n bytes (inr two) = omega (arith, two.low_bits, two.rest_bits, two.sum)

short_once : (n : ℕ) (bytes : List ℕ) → IsShortNumber n bytes → bytes ≡ short_spelling n
short_once n bytes (inl one) = one.1 ∙ sym (short_spelling-one n one.0)
short_once n bytes (inr two) =
    let low : n % 128 ≡ two.low = omega (arith, two.low_bits, two.sum) in
    let rest : n / 128 ≡ two.rest = omega (arith, two.low_bits, two.sum) in
    two.whole ∙ sym (short_spelling-two n two.least ∙ rw (low, rest) refl)

short_spelled : (n : ℕ) → n ≤ 16383 → IsShortNumber n (short_spelling n)
short_spelled n fits = elim (cases_lt n 128) [
  | inl one ↦ inl (one, short_spelling-one n one)
  | inr two ↦ inr (record {
    low = n % 128;
    rest = n / 128;
    low_bits = omega arith;
    rest_bits = omega arith;
    sum = omega arith;
    least = two;
    whole = short_spelling-two n two;
  })
]

-- ---- what stands before the payload

pub head_bare : (id size : ℕ) → id < 24 → head_spelling id size ≡ id ∷ []
head_bare id size low = grind (arith, nat_tests)

pub head_counted : (id size : ℕ) → 24 ≤ id →
    head_spelling id size ≡ short_spelling id ++ short_spelling size
head_counted id size high = grind (arith, nat_tests)

head_once : (id size : ℕ) (bytes : List ℕ) → IsHead id size bytes → bytes ≡ head_spelling id size
head_once id size bytes (inl bare) = bare.1 ∙ sym (head_bare id size bare.0)
head_once id size bytes (inr counted) =
    let parts = counted.1 in
    let first = short_once id parts.first parts.id_spelled in
    let second = short_once size parts.second parts.size_spelled in
    parts.whole ∙ ap (λ (k : List ℕ). k ++ parts.second) first
    ∙ ap (λ (k : List ℕ). short_spelling id ++ k) second ∙ sym (head_counted id size counted.0)

size_fits : (id size : ℕ) (bytes : List ℕ) → IsHead id size bytes → 24 ≤ id → size ≤ 16383
size_fits id size bytes (inl bare) high = absurd (omega (arith, bare.0))
size_fits id size bytes (inr counted) high = short_fits size counted.1.second counted.1.size_spelled

pub id_fits : (event : Event) → IsKeptAsBytes event → identifier event ≤ 16383
id_fits (Opaque id payload) kept = kept.1
id_fits other kept = omega arith

head_spelled : (id size : ℕ) → id ≤ 16383 → (24 ≤ id → size ≤ 16383) →
    IsHead id size (head_spelling id size)
head_spelled id size id_fits size_fits = elim (cases_lt id 24) [
  | inl low ↦ inl (low, head_bare id size low)
  | inr high ↦ inr (
    high,
    record {
      first = short_spelling id;
      second = short_spelling size;
      id_spelled = short_spelled id id_fits;
      size_spelled = short_spelled size (size_fits high);
      whole = head_counted id size high;
    },
  )
]

-- ---- packets

-- what an event's one spelling is
abbrev pub HasSpelling : Packet → List ℕ → Type 0
HasSpelling packet bytes =
    HasRange packet.event × IsValid packet.event × (packet.delta < 2 ^ 32) ×
    (bytes ≡ spelling_of packet.event packet.delta)

pub packet_once : (packet : Packet) (bytes : List ℕ) → IsPacket packet bytes →
    HasSpelling packet bytes
packet_once packet bytes s =
    let event = packet.event in
    let payload = fields_once (fields event) s.payload s.fields in
    let head = head_once (identifier event) (length s.payload) s.head s.before in
    let last = once packet.delta s.last s.delta in (
      fields_in_range (fields event) s.payload s.fields,
      record {
        texts = fields_texts (fields event) s.payload s.fields;
        payload = λ high. let most =
            size_fits (identifier event) (length s.payload) s.head s.before high in
            omega (arith, most, ap length payload);
        as_bytes = s.kept;
      },
      s.delta.fits,
      s.whole ∙ ap (λ (k : List ℕ). k ++ (s.payload ++ s.last)) head
          ∙ ap (λ (k : List ℕ). head_spelling (identifier event) (length k) ++ (k ++ s.last))
          payload
          ∙ ap
          (λ (k : List ℕ). head_spelling (identifier event) (length (payload_of event))
          ++ (payload_of event ++ k)) last,
    )

pub packet_spelled : (packet : Packet) → HasRange packet.event → IsValid packet.event →
    packet.delta < 2 ^ 32 → IsPacket packet (spelling_of packet.event packet.delta)
packet_spelled packet range valid fits =
    let event = packet.event in
    record {
      head = head_spelling (identifier event) (length (payload_of event));
      payload = payload_of event;
      last = number_spelling packet.delta;
      kept = valid.as_bytes;
      before =
          head_spelled (identifier event) (length (payload_of event)) (id_fits event valid.as_bytes)
          valid.payload;
      fields = fields_spelled (fields event) range valid.texts;
      delta = spelled packet.delta fits;
      whole = refl;
    }

pub packet_law : (packet : Packet) (bytes : List ℕ) →
    IsPacket packet bytes ↔ HasSpelling packet bytes
packet_law packet bytes = (
  packet_once packet bytes,
  λ (p : HasSpelling packet bytes).
      subst (IsPacket packet) (sym p.3) (packet_spelled packet p.0 p.1 p.2),
)
