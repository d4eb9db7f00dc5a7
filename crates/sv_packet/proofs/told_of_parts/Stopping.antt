-- A reader at a packet: what its parts tell of the whole.
use Rattle.std.proofs.Common.{◌≡◌, ◌≢◌, ℕ, ◌<◌, ◌≤◌, Bool, List, take, drop, ap, subst, inl, inr}
use Rattle.std.proofs.Common.{arith}
use Rattle.sv_prim.specs.declared.got.Reason.{Reason}
use Rattle.sv_prim.specs.declared.got.Reason.TheVariants.{BadId, BadLength}
use Rattle.sv_prim.specs.declared.got.Got.TheVariants as got
use Rattle.sv_prim.specs.Code.{Begins, IsCutShort, BreaksAt, Tells, IsPair, Always}
use Rattle.sv_prim.specs.Number.{IsNumber, number_reason}
use Rattle.sv_prim.specs.TextAt.{text_reason}
use Rattle.sv_packet.specs.declared.event.Event.{Event}
use Rattle.sv_packet.specs.declared.event.Packet.{Packet}
use Rattle.sv_packet.specs.declared.reader.Reader.{Reader}
use Rattle.sv_packet.specs.declared.reader.Stop.{Stop}
use Rattle.sv_packet.specs.declared.reader.Stop.TheVariants.{Short, Bad}
use Rattle.sv_packet.specs.Packet.{IsShortNumber, IsPacket}
use Rattle.sv_packet.specs.Shape.{number_count, ends_in_text}
use Rattle.sv_packet.specs.Parts.{IsIdentifier, AreNumbers, IsTextIf, IsOfSize}
use Rattle.sv_packet.specs.Made.{IsMade, IsEventOf}
use Rattle.sv_packet.specs.Reason.{Never, BareEndReason, BareReason, CountedEndReason}
use Rattle.sv_packet.specs.Reason.{CountedReason, BodyReason, packet_reason}
use Rattle.sv_packet.specs.Reader.{left, TakesPart, Stops}
use Rattle.sv_packet.specs.Read.{told_by}
use Rattle.sv_packet.proofs.one_spelling.Free.{short_free}
use Rattle.sv_packet.proofs.one_spelling.Shorts.{identifier_free}
use Rattle.sv_packet.proofs.how_long.Counts.{numbers_free}
use Rattle.sv_packet.proofs.told_of_parts.Pieces.{size_free}
use Rattle.sv_packet.proofs.told_of_parts.Formed.{text_if_free}
use Rattle.sv_packet.proofs.told_of_parts.Deciding.{some_number}
use Rattle.sv_packet.proofs.told_of_parts.Reading.{takes_both, stops_first, stops_second, stops_carried}
use Rattle.sv_packet.proofs.told_of_parts.Bodies.{IsBehind, packet_of, packet_to, packet_from, packet_whole}
use Rattle.sv_packet.proofs.told_of_parts.Bodies.{IsBareEnd, IsBareBody, bare_of, bare_to, bare_from}
use Rattle.sv_packet.proofs.told_of_parts.Bodies.{IsCountedEnd, IsCountedBody, counted_of, counted_to}
use Rattle.sv_packet.proofs.told_of_parts.Bodies.{counted_from, some_behind, some_bare_end, some_counted_end}

-- a reader took a spelling of each value that is spelled by what it took
takes_as : {U V : Type 0} (S : U → List ℕ → Type 0) (T : V → List ℕ → Type 0) (u : U) (v : V) →
    ((bytes : List ℕ) → S u bytes → T v bytes) → (old new : Reader) → TakesPart S old new u →
    TakesPart T old new v
takes_as S T u v as_v old new t = record {
  used = t.used;
  same = t.same;
  further = t.further;
  spelled = record { within = t.spelled.within; spelled = as_v _ t.spelled.spelled };
}

-- ---- at the identifier, and behind it

at_packet : (old : Reader) (stop : Stop) →
    Stops (IsPair IsIdentifier IsBehind) packet_reason old stop →
    Stops IsPacket packet_reason old stop
at_packet old stop p =
    stops_carried (IsPair IsIdentifier IsBehind) IsPacket packet_to packet_from packet_reason
    packet_reason (λ front reason is. is) old stop p

pub stops_at_id : (old : Reader) (stop : Stop) → Stops IsIdentifier (Always BadId) old stop →
    Stops IsPacket packet_reason old stop
stops_at_id old stop p =
    at_packet old stop
    (stops_first IsIdentifier IsBehind identifier_free some_behind (Always BadId) BodyReason old
    stop p)

module _ (old m1 : Reader) (id : ℕ) (t : TakesPart IsIdentifier old m1 id) where
  stops_behind : (stop : Stop) → Stops (IsBehind id) (BodyReason id) m1 stop →
      Stops IsPacket packet_reason old stop
  stops_behind stop p =
      at_packet old stop
      (stops_second IsIdentifier IsBehind identifier_free some_behind (Always BadId) BodyReason
      old m1 id stop t p)

  takes_behind : (new : Reader) (p : Packet) → TakesPart (IsBehind id) m1 new p →
      TakesPart IsPacket old new p
  takes_behind new p u =
      let both = takes_both IsIdentifier IsBehind identifier_free some_behind old m1 new id p t u in
      takes_as (IsPair IsIdentifier IsBehind) IsPacket (id, p) p (packet_whole (id, p)) old new both

  known : id ≢ 23
  known = t.spelled.spelled.1

  -- ---- behind an identifier below 24

  module _ (low : id < 24) where
    some_end : (ns front : List ℕ) → AreNumbers (number_count id) ns front →
        (v : List ℕ × ℕ) × (bytes : List ℕ) × IsBareEnd id ns v bytes
    some_end ns front s = some_bare_end id ns

    stops_bare : (stop : Stop) → Stops (IsBareBody id) (BareReason id) m1 stop →
        Stops IsPacket packet_reason old stop
    stops_bare stop p =
        stops_behind stop
        (stops_carried (IsBareBody id) (IsBehind id) (bare_to id low) (bare_from id low known)
        (BareReason id) (BodyReason id) (λ front reason is. inl (low, is)) m1 stop p)

    module _ (count : ℕ) (is_count : count ≡ number_count id) where
      pub stops_at_numbers : (stop : Stop) → Stops (AreNumbers count) number_reason m1 stop →
          Stops IsPacket packet_reason old stop
      stops_at_numbers stop p =
          stops_bare stop
          (stops_first (AreNumbers (number_count id)) (IsBareEnd id)
          (numbers_free (number_count id)) some_end number_reason
          (λ (ns : List ℕ). BareEndReason id) m1 stop
          (subst (λ (k : ℕ). Stops (AreNumbers k) number_reason m1 stop) is_count p))

      module _ (m2 : Reader) (ns : List ℕ) (u : TakesPart (AreNumbers count) m1 m2 ns) where
        these : TakesPart (AreNumbers (number_count id)) m1 m2 ns
        these = subst (λ (k : ℕ). TakesPart (AreNumbers k) m1 m2 ns) is_count u

        stops_at_end : (stop : Stop) → Stops (IsBareEnd id ns) (BareEndReason id) m2 stop →
            Stops IsPacket packet_reason old stop
        stops_at_end stop p =
            stops_bare stop
            (stops_second (AreNumbers (number_count id)) (IsBareEnd id)
            (numbers_free (number_count id)) some_end number_reason
            (λ (ns : List ℕ). BareEndReason id) m1 m2 ns stop these p)

        module _ (there : Bool) (is_there : there ≡ ends_in_text id) where
          pub stops_at_text : (stop : Stop) → Stops (IsTextIf there) text_reason m2 stop →
              Stops IsPacket packet_reason old stop
          stops_at_text stop p =
              stops_at_end stop
              (stops_first (IsTextIf (ends_in_text id)) (λ (text : List ℕ). IsNumber)
              (text_if_free (ends_in_text id)) (some_number (IsTextIf (ends_in_text id)))
              text_reason (λ (text : List ℕ). number_reason) m2 stop
              (subst (λ (b : Bool). Stops (IsTextIf b) text_reason m2 stop) is_there p))

          module _ (m3 : Reader) (text : List ℕ) (w : TakesPart (IsTextIf there) m2 m3 text) where
            this : TakesPart (IsTextIf (ends_in_text id)) m2 m3 text
            this = subst (λ (b : Bool). TakesPart (IsTextIf b) m2 m3 text) is_there w

            pub stops_at_delta : (stop : Stop) → Stops IsNumber number_reason m3 stop →
                Stops IsPacket packet_reason old stop
            stops_at_delta stop p =
                stops_at_end stop
                (stops_second (IsTextIf (ends_in_text id)) (λ (text : List ℕ). IsNumber)
                (text_if_free (ends_in_text id)) (some_number (IsTextIf (ends_in_text id)))
                text_reason (λ (text : List ℕ). number_reason) m2 m3 text stop this p)

            pub takes_bare : (new : Reader) (delta : ℕ) → TakesPart IsNumber m3 new delta →
                (event : Event) → IsMade id ns text event →
                TakesPart IsPacket old new (packet_of event delta)
            takes_bare new delta d event m =
                let end =
                takes_both (IsTextIf (ends_in_text id)) (λ (text : List ℕ). IsNumber)
                (text_if_free (ends_in_text id)) (some_number (IsTextIf (ends_in_text id)))
                m2 m3 new text delta this d in
                let body =
                takes_both (AreNumbers (number_count id)) (IsBareEnd id)
                (numbers_free (number_count id)) some_end m1 m2 new ns (text, delta) these
                end in
                takes_behind new (packet_of event delta)
                (takes_as (IsBareBody id) (IsBehind id) (ns, (text, delta))
                (packet_of event delta)
                (λ bytes s. bare_of id low (ns, (text, delta)) bytes s event m) m1 new body)

  -- ---- behind an identifier from 24 on

  module _ (high : 24 ≤ id) (fits : id ≤ 16383) where
    some_rest : (size : ℕ) (front : List ℕ) → IsShortNumber size front →
        (v : List ℕ × ℕ) × (bytes : List ℕ) × IsCountedEnd size v bytes
    some_rest size front s = some_counted_end size

    stops_counted : (stop : Stop) → Stops IsCountedBody CountedReason m1 stop →
        Stops IsPacket packet_reason old stop
    stops_counted stop p =
        stops_behind stop
        (stops_carried IsCountedBody (IsBehind id) (counted_to id high)
        (counted_from id high fits) CountedReason (BodyReason id)
        (λ front reason is. inr (high, is)) m1 stop p)

    pub stops_at_length : (stop : Stop) → Stops IsShortNumber (Always BadLength) m1 stop →
        Stops IsPacket packet_reason old stop
    stops_at_length stop p =
        stops_counted stop
        (stops_first IsShortNumber IsCountedEnd short_free some_rest (Always BadLength)
        CountedEndReason m1 stop p)

    module _ (m2 : Reader) (size : ℕ) (u : TakesPart IsShortNumber m1 m2 size) where
      stops_at_rest : (stop : Stop) → Stops (IsCountedEnd size) (CountedEndReason size) m2 stop →
          Stops IsPacket packet_reason old stop
      stops_at_rest stop p =
          stops_counted stop
          (stops_second IsShortNumber IsCountedEnd short_free some_rest (Always BadLength)
          CountedEndReason m1 m2 size stop u p)

      pub stops_at_payload : (stop : Stop) → Stops (IsOfSize size) Never m2 stop →
          Stops IsPacket packet_reason old stop
      stops_at_payload stop p =
          stops_at_rest stop
          (stops_first (IsOfSize size) (λ (payload : List ℕ). IsNumber) (size_free size)
          (some_number (IsOfSize size)) Never (λ (payload : List ℕ). number_reason) m2 stop p)

      module _ (m3 : Reader) (payload : List ℕ) (w : TakesPart (IsOfSize size) m2 m3 payload) where
        pub stops_at_last : (stop : Stop) → Stops IsNumber number_reason m3 stop →
            Stops IsPacket packet_reason old stop
        stops_at_last stop p =
            stops_at_rest stop
            (stops_second (IsOfSize size) (λ (payload : List ℕ). IsNumber) (size_free size)
            (some_number (IsOfSize size)) Never (λ (payload : List ℕ). number_reason) m2 m3 payload
            stop w p)

        pub takes_counted : (new : Reader) (delta : ℕ) → TakesPart IsNumber m3 new delta →
            (event : Event) → IsEventOf id payload event →
            TakesPart IsPacket old new (packet_of event delta)
        takes_counted new delta d event m =
            let end =
            takes_both (IsOfSize size) (λ (payload : List ℕ). IsNumber) (size_free size)
            (some_number (IsOfSize size)) m2 m3 new payload delta w d in
            let body =
            takes_both IsShortNumber IsCountedEnd short_free some_rest m1 m2 new size
            (payload, delta) u end in
            takes_behind new (packet_of event delta)
            (takes_as IsCountedBody (IsBehind id) (size, (payload, delta))
            (packet_of event delta)
            (λ bytes s. counted_of id high (size, (payload, delta)) bytes s event m) m1 new
            body)

-- ---- at the start of a slice

pub begins_slice : {V : Type 0} (S : V → List ℕ → Type 0) (old new : Reader) (v : V) → old.at ≡ 0 →
    TakesPart S old new v → Begins S old.bytes.now v new.at
begins_slice S old new v start t =
    let all : left old ≡ old.bytes.now = ap (λ (k : ℕ). drop k old.bytes.now) start in
    let used : t.used ≡ new.at = omega (arith, t.further, start) in
    subst (λ (k : ℕ). Begins S old.bytes.now v k) used
    (subst (λ (x : List ℕ). Begins S x v t.used) all t.spelled)

told_at :
    {V : Type 0} (S : V → List ℕ → Type 0) (why : List ℕ → Reason → Type 0) (old : Reader)
    (place : ℕ) (reason : Reason) → old.at ≡ 0 → Stops S why old (Bad place reason) →
    Tells S why old.bytes.now (got.Bad place reason)
told_at S why old place reason start (ahead, is_place, p, is_why) =
    let all : left old ≡ old.bytes.now = ap (λ (k : ℕ). drop k old.bytes.now) start in
    let same : ahead ≡ place = omega (arith, is_place, start) in (
      subst (λ (k : ℕ). BreaksAt S old.bytes.now k) same
          (subst (λ (x : List ℕ). BreaksAt S x ahead) all p),
      subst (λ (k : ℕ). why (take k old.bytes.now) reason) same
          (subst (λ (x : List ℕ). why (take ahead x) reason) all is_why),
    )

pub told_slice : (old : Reader) (stop : Stop) → old.at ≡ 0 → Stops IsPacket packet_reason old stop →
    Tells IsPacket packet_reason old.bytes.now (told_by stop)
told_slice old Short start p =
    subst (IsCutShort IsPacket) (ap (λ (k : ℕ). drop k old.bytes.now) start) p
told_slice old (Bad place reason) start p = told_at IsPacket packet_reason old place reason start p
