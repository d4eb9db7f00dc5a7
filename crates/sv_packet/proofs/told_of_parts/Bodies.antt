-- Packets as what is read one after another: the identifier, and what stands behind it.
use Rattle.std.proofs.Common.{◌≡◌, ◌≢◌, ℕ, ◌<◌, ◌≤◌, ◌⊎◌, List, [], ◌∷◌, ◌++◌, length, refl, sym}
use Rattle.std.proofs.Common.{ap, subst, ◌∙◌, append_assoc, arith, inl, inr}
use Rattle.std.proofs.lemmas.Bool.{cases_lt}
use Rattle.std.proofs.lemmas.List.{append-nil}
use Rattle.sv_prim.specs.Code.{IsPair}
use Rattle.sv_prim.specs.Number.{IsGroups, IsNumber}
use Rattle.sv_prim.specs.Text.{AreBytes, IsText}
use Rattle.sv_prim.proofs.Shared.{bytes_both, zero_number}
use Rattle.sv_packet.specs.declared.event.Event.{Event}
use Rattle.sv_packet.specs.declared.event.Event.TheVariants as event
use Rattle.sv_packet.specs.declared.event.Packet.{Packet}
use Rattle.sv_packet.specs.Table.{identifier, fields, Field, Number, Text, Raw}
use Rattle.sv_packet.specs.Packet.{IsField, AreFields, IsShortNumber, IsHead, IsKeptAsBytes}
use Rattle.sv_packet.specs.Packet.{IsPacket}
use Rattle.sv_packet.specs.Shape.{number_count, ends_in_text, fields_by}
use Rattle.sv_packet.specs.Parts.{IsIdentifier, AreNumbers, IsTextIf, IsOfSize}
use Rattle.sv_packet.specs.Made.{IsMade, IsEventOf}
use Rattle.sv_packet.proofs.one_spelling.Regular.{IsRegular}
use Rattle.sv_packet.proofs.one_spelling.Forms.{bare_is_regular}
use Rattle.sv_packet.proofs.how_long.Counts.{numbers_some}
use Rattle.sv_packet.proofs.told_of_parts.Pieces.{size_some}
use Rattle.sv_packet.proofs.told_of_parts.Making.{shaped, can_make}
use Rattle.sv_packet.proofs.told_of_parts.Payloads.{IsRegularPayload, regular_fields, fields_regular, made_known}
use Rattle.sv_packet.proofs.told_of_parts.Known.{known_kept}
use Rattle.sv_packet.proofs.told_of_parts.Deciding.{some_text, event_exists}

-- what stands behind an identifier: from 24 on the payload's length, the payload, the delta
pub record IsBehind (id : ℕ) (packet : Packet) (bytes : List ℕ) : Type 0 where
  pub same : identifier packet.event ≡ id
  pub kept : IsKeptAsBytes packet.event
  pub size : List ℕ
  pub payload : List ℕ
  pub last : List ℕ
  pub counted : ((id < 24) × (size ≡ [])) ⊎ ((24 ≤ id) × IsShortNumber (length payload) size)
  pub spelled : AreFields (fields packet.event) payload
  pub delta : IsNumber packet.delta last
  pub whole : bytes ≡ size ++ (payload ++ last)

abbrev pub packet_of : Event → ℕ → Packet
packet_of event delta = record { event = event; delta = delta }

-- ---- a packet is an identifier and what stands behind it

not_23 : (event : Event) → IsKeptAsBytes event → identifier event ≡ 23 → ⊥
not_23 (event.Opaque id payload) kept e = omega (arith, e, kept.0)
not_23 other kept e = omega (arith, e)

packet_parts : (p : Packet) (head payload last : List ℕ) → IsKeptAsBytes p.event →
    IsHead (identifier p.event) (length payload) head → AreFields (fields p.event) payload →
    IsNumber p.delta last
    → IsPair IsIdentifier IsBehind (identifier p.event, p) (head ++ (payload ++ last))
packet_parts p head payload last kept (inl bare) spelled delta = record {
  first = head;
  second = payload ++ last;
  first_spelled = (inl (omega (arith, bare.0), bare.1), not_23 p.event kept);
  second_spelled = record {
    same = refl;
    kept = kept;
    size = [];
    payload = payload;
    last = last;
    counted = inl (bare.0, refl);
    spelled = spelled;
    delta = delta;
    whole = refl;
  };
  whole = refl;
}
packet_parts p head payload last kept (inr counted) spelled delta =
    let c = counted.1 in
    record {
      first = c.first;
      second = c.second ++ (payload ++ last);
      first_spelled = (c.id_spelled, not_23 p.event kept);
      second_spelled = record {
        same = refl;
        kept = kept;
        size = c.second;
        payload = payload;
        last = last;
        counted = inr (counted.0, c.size_spelled);
        spelled = spelled;
        delta = delta;
        whole = refl;
      };
      whole =
          ap (λ (k : List ℕ). k ++ (payload ++ last)) c.whole
          ∙ append_assoc c.first c.second (payload ++ last);
    }

pub packet_to : (p : Packet) (bytes : List ℕ) → IsPacket p bytes →
    (v : ℕ × Packet) × IsPair IsIdentifier IsBehind v bytes
packet_to p bytes s = (
  (identifier p.event, p),
  subst (IsPair IsIdentifier IsBehind (identifier p.event, p)) (sym s.whole)
      (packet_parts p s.head s.payload s.last s.kept s.before s.fields s.delta),
)

one_byte : (id : ℕ) (bytes : List ℕ) → id < 24 → IsShortNumber id bytes → bytes ≡ id ∷ []
one_byte id bytes low (inl one) = one.1
one_byte id bytes low (inr two) = absurd (omega (arith, low, two.least))

head_of_parts : (id size : ℕ) (first second : List ℕ) → IsIdentifier id first →
    ((id < 24) × (second ≡ [])) ⊎ ((24 ≤ id) × IsShortNumber size second) →
    IsHead id size (first ++ second)
head_of_parts id size first second s (inl bare) = inl (
  bare.0,
  ap (λ (k : List ℕ). first ++ k) bare.1 ∙ append-nil first ∙ one_byte id first bare.0 s.0,
)
head_of_parts id size first second s (inr counted) = inr (
  counted.0,
  record {
    first = first;
    second = second;
    id_spelled = s.0;
    size_spelled = counted.1;
    whole = refl;
  },
)

pub packet_whole : (v : ℕ × Packet) (bytes : List ℕ) → IsPair IsIdentifier IsBehind v bytes →
    IsPacket v.1 bytes
packet_whole v bytes p =
    let b = p.second_spelled in
    record {
      head = p.first ++ b.size;
      payload = b.payload;
      last = b.last;
      kept = b.kept;
      before =
          subst (λ (k : ℕ). IsHead k (length b.payload) (p.first ++ b.size)) (sym b.same)
          (head_of_parts v.0 (length b.payload) p.first b.size p.first_spelled b.counted);
      fields = b.spelled;
      delta = b.delta;
      whole =
          p.whole ∙ ap (λ (k : List ℕ). p.first ++ k) b.whole
          ∙ sym (append_assoc p.first b.size (b.payload ++ b.last));
    }

pub packet_from : (v : ℕ × Packet) (bytes : List ℕ) → IsPair IsIdentifier IsBehind v bytes →
    (p : Packet) × IsPacket p bytes
packet_from v bytes p = (v.1, packet_whole v bytes p)

-- ---- behind an identifier below 24: numbers, a text or none, the delta

abbrev pub IsBareEnd : ℕ → List ℕ → List ℕ × ℕ → List ℕ → Type 0
IsBareEnd id numbers = IsPair (IsTextIf (ends_in_text id)) (λ (text : List ℕ). IsNumber)

abbrev pub IsBareBody : ℕ → List ℕ × (List ℕ × ℕ) → List ℕ → Type 0
IsBareBody id = IsPair (AreNumbers (number_count id)) (IsBareEnd id)

pub bare_of : (id : ℕ) → id < 24 → (v : List ℕ × (List ℕ × ℕ)) (bytes : List ℕ) →
    IsBareBody id v bytes → (event : Event) → IsMade id v.0 v.1.0 event →
    IsBehind id (packet_of event v.1.1) bytes
bare_of id low v bytes p event m =
    let q = p.second_spelled in
    let pair : IsRegularPayload id (v.0, v.1.0) (p.first ++ q.first) = record {
      first = p.first;
      second = q.first;
      first_spelled = p.first_spelled;
      second_spelled = q.first_spelled;
      whole = refl;
    } in
    record {
      same = m.same;
      kept = known_kept event (made_known id v.0 v.1.0 event m);
      size = [];
      payload = p.first ++ q.first;
      last = q.second;
      counted = inl (low, refl);
      spelled =
          subst (λ (fs : List Field). AreFields fs (p.first ++ q.first)) (sym m.parts)
          (regular_fields id (v.0, v.1.0) (p.first ++ q.first) pair);
      delta = q.second_spelled;
      whole =
          p.whole ∙ ap (λ (k : List ℕ). p.first ++ k) q.whole
          ∙ sym (append_assoc p.first q.first q.second);
    }

no_size : (id : ℕ) (payload size : List ℕ) → id < 24 →
    ((id < 24) × (size ≡ [])) ⊎ ((24 ≤ id) × IsShortNumber (length payload) size) → size ≡ []
no_size id payload size low (inl bare) = bare.1
no_size id payload size low (inr counted) = absurd (omega (arith, low, counted.0))

bare_regular : (event : Event) → IsKeptAsBytes event → identifier event < 24 → IsRegular event
bare_regular event kept low = elim (bare_is_regular event kept) [
  | inl high ↦ absurd (omega (arith, low, high))
  | inr regular ↦ regular
]

pub bare_to : (id : ℕ) → id < 24 → (p : Packet) (bytes : List ℕ) → IsBehind id p bytes →
    (v : List ℕ × (List ℕ × ℕ)) × IsBareBody id v bytes
bare_to id low p bytes s =
    let shape = shaped p.event (bare_regular p.event s.kept (omega (arith, s.same, low))) in
    let parts : AreFields (fields_by id shape.numbers shape.text) s.payload =
    subst (λ (k : ℕ). AreFields (fields_by k shape.numbers shape.text) s.payload) s.same
    (subst (λ (fs : List Field). AreFields fs s.payload) shape.parts s.spelled) in
    let (v, q) =
    fields_regular id shape.numbers shape.text s.payload (shape.count ∙ ap number_count s.same)
    parts in
    let nothing = no_size id s.payload s.size low s.counted in (
      (v.0, (v.1, p.delta)),
      record {
        first = q.first;
        second = q.second ++ s.last;
        first_spelled = q.first_spelled;
        second_spelled = record {
          first = q.second;
          second = s.last;
          first_spelled = q.second_spelled;
          second_spelled = s.delta;
          whole = refl;
        };
        whole =
            s.whole ∙ ap (λ (k : List ℕ). k ++ (s.payload ++ s.last)) nothing
            ∙ ap (λ (k : List ℕ). k ++ s.last) q.whole ∙ append_assoc q.first q.second s.last;
      },
    )

pub bare_from : (id : ℕ) → id < 24 → id ≢ 23 → (v : List ℕ × (List ℕ × ℕ)) (bytes : List ℕ) →
    IsBareBody id v bytes → (p : Packet) × IsBehind id p bytes
bare_from id low known v bytes p =
    let (event, m) = can_make id (inl (omega (arith, low, known))) v.0 v.1.0 p.first_spelled.0 in
    (packet_of event v.1.1, bare_of id low v bytes p event m)

-- ---- behind an identifier from 24 on: the length, so many bytes, the delta

abbrev pub IsCountedEnd : ℕ → List ℕ × ℕ → List ℕ → Type 0
IsCountedEnd size = IsPair (IsOfSize size) (λ (payload : List ℕ). IsNumber)

abbrev pub IsCountedBody : ℕ × (List ℕ × ℕ) → List ℕ → Type 0
IsCountedBody = IsPair IsShortNumber IsCountedEnd

pub counted_of : (id : ℕ) → 24 ≤ id → (v : ℕ × (List ℕ × ℕ)) (bytes : List ℕ) →
    IsCountedBody v bytes → (event : Event) → IsEventOf id v.1.0 event →
    IsBehind id (packet_of event v.1.1) bytes
counted_of id high v bytes p event m =
    let q = p.second_spelled in
    let (len, are, is) = q.first_spelled in
    record {
      same = m.same;
      kept = m.kept;
      size = p.first;
      payload = v.1.0;
      last = q.second;
      counted = inr (high, subst (λ (k : ℕ). IsShortNumber k p.first) (sym len) p.first_spelled);
      spelled = m.spelled;
      delta = q.second_spelled;
      whole =
          p.whole
          ∙ ap (λ (k : List ℕ). p.first ++ k) (q.whole ∙ ap (λ (k : List ℕ). k ++ q.second) is);
    }

groups_are : (bytes : List ℕ) → IsGroups bytes → AreBytes bytes
groups_are [] g = absurd g
groups_are (b ∷ []) g = (omega (arith, g), tt)
groups_are (b ∷ c ∷ bytes) g = (g.1, groups_are (c ∷ bytes) g.2)

text_are : (text bytes : List ℕ) → IsText text bytes → AreBytes bytes
text_are text bytes (are, inl short) =
    subst AreBytes (sym short.whole) (omega (arith, short.most), are)
text_are text bytes (are, inr long) =
    subst AreBytes (sym long.whole) (omega arith, (long.low_byte, (long.high_byte, are)))

field_are : (field : Field) (bytes : List ℕ) → IsField field bytes → AreBytes bytes
field_are (Number value) bytes s = groups_are bytes s.groups
field_are (Text text) bytes s = text_are text bytes s
field_are (Raw raw) bytes s = subst AreBytes (sym s.1) s.0

fields_are : (fs : List Field) (bytes : List ℕ) → AreFields fs bytes → AreBytes bytes
fields_are [] bytes s = subst AreBytes (sym s) tt
fields_are (field ∷ fs) bytes (first, rest, s, others, whole) =
    subst AreBytes (sym whole)
    (bytes_both first rest (field_are field first s) (fields_are fs rest others))

size_spelled : (id : ℕ) (payload size : List ℕ) → 24 ≤ id →
    ((id < 24) × (size ≡ [])) ⊎ ((24 ≤ id) × IsShortNumber (length payload) size) →
    IsShortNumber (length payload) size
size_spelled id payload size high (inl bare) = absurd (omega (arith, high, bare.0))
size_spelled id payload size high (inr counted) = counted.1

pub counted_to : (id : ℕ) → 24 ≤ id → (p : Packet) (bytes : List ℕ) → IsBehind id p bytes →
    (v : ℕ × (List ℕ × ℕ)) × IsCountedBody v bytes
counted_to id high p bytes s = (
  (length s.payload, (s.payload, p.delta)),
  record {
    first = s.size;
    second = s.payload ++ s.last;
    first_spelled = size_spelled id s.payload s.size high s.counted;
    second_spelled = record {
      first = s.payload;
      second = s.last;
      first_spelled = (refl, fields_are (fields p.event) s.payload s.spelled, refl);
      second_spelled = s.delta;
      whole = refl;
    };
    whole = s.whole;
  },
)

pub counted_from : (id : ℕ) → 24 ≤ id → id ≤ 16383 → (v : ℕ × (List ℕ × ℕ)) (bytes : List ℕ) →
    IsCountedBody v bytes → (p : Packet) × IsBehind id p bytes
counted_from id high fits v bytes p =
    let (len, are, is) = p.second_spelled.first_spelled in
    let (event, m) = event_exists id v.1.0 (high, fits) are in
    (packet_of event v.1.1, counted_of id high v bytes p event m)

-- ---- something can stand behind any identifier

pub id_fits : (id : ℕ) (bytes : List ℕ) → IsShortNumber id bytes → id ≤ 16383
id_fits id bytes (inl one) = omega (arith, one.0)
id_fits id bytes (inr two) = omega (arith, two.low_bits, two.rest_bits, two.sum)

pub some_bare_end : (id : ℕ) (ns : List ℕ) →
    (v : List ℕ × ℕ) × (bytes : List ℕ) × IsBareEnd id ns v bytes
some_bare_end id ns =
    let (text, b, t) = some_text (ends_in_text id) in (
      (text, 0),
      b ++ 0 ∷ [],
      record {
        first = b;
        second = 0 ∷ [];
        first_spelled = t;
        second_spelled = zero_number;
        whole = refl;
      },
    )

pub some_counted_end : (size : ℕ) → (v : List ℕ × ℕ) × (bytes : List ℕ) × IsCountedEnd size v bytes
some_counted_end size =
    let (payload, b, s) = size_some size in (
      (payload, 0),
      b ++ 0 ∷ [],
      record {
        first = b;
        second = 0 ∷ [];
        first_spelled = s;
        second_spelled = zero_number;
        whole = refl;
      },
    )

some_bare : (id : ℕ) → (v : List ℕ × (List ℕ × ℕ)) × (bytes : List ℕ) × IsBareBody id v bytes
some_bare id =
    let (ns, a, s) = numbers_some (number_count id) in
    let (v, b, end) = some_bare_end id ns in (
      (ns, v),
      a ++ b,
      record { first = a; second = b; first_spelled = s; second_spelled = end; whole = refl },
    )

some_counted : (v : ℕ × (List ℕ × ℕ)) × (bytes : List ℕ) × IsCountedBody v bytes
some_counted =
    let (v, b, end) = some_counted_end 0 in (
      (0, v),
      0 ∷ b,
      record {
        first = 0 ∷ [];
        second = b;
        first_spelled = inl (omega arith, refl);
        second_spelled = end;
        whole = refl;
      },
    )

pub some_behind : (id : ℕ) (front : List ℕ) → IsIdentifier id front →
    (p : Packet) × (bytes : List ℕ) × IsBehind id p bytes
some_behind id front s = elim (cases_lt id 24) [
  | inl low ↦ let (v, bytes, body) = some_bare id in let (p, behind) =
      bare_from id low s.1 v bytes body in (p, bytes, behind)
  | inr high ↦ let (v, bytes, body) = some_counted in let (p, behind) =
      counted_from id high (id_fits id front s.0) v bytes body in (p, bytes, behind)
]
