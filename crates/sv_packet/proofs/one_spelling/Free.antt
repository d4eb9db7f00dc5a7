-- No packet's spelling begins another's, and each spells one packet.
use Rattle.std.proofs.Common.{◌≡◌, ℕ, ◌+◌, ◌<◌, ◌≤◌, ◌⊎◌, List, [], ◌∷◌, ◌++◌, length, sym, ap}
use Rattle.std.proofs.Common.{subst, ◌∙◌, append_assoc, arith, inl, inr}
use Rattle.std.proofs.lemmas.List.{append_cancel_left}
use Rattle.sv_prim.specs.Code.{IsPrefixFree}
use Rattle.sv_prim.proofs.Shared.{fronts_same, number_free}
use Rattle.sv_packet.specs.declared.event.Event.{Event}
use Rattle.sv_packet.specs.declared.event.Packet.{Packet}
use Rattle.sv_packet.specs.Table.{identifier, fields}
use Rattle.sv_packet.specs.Packet.{AreFields, IsTwoBytes, IsShortNumber, IsCounted, IsHead}
use Rattle.sv_packet.specs.Packet.{IsKeptAsBytes, IsPacket}
use Rattle.sv_packet.proofs.one_spelling.Regular.{regular_free}
use Rattle.sv_packet.proofs.one_spelling.Forms.{event_once, bare_is_regular}

-- ---- identifiers and lengths

two_bytes_free : (m n : ℕ) (a b x y : List ℕ) → IsTwoBytes m a → IsTwoBytes n b → a ++ x ≡ b ++ y →
    (a ≡ b) × (m ≡ n)
two_bytes_free m n a b x y s t e =
    let whole : (s.low + 128) ∷ s.rest ∷ x ≡ (t.low + 128) ∷ t.rest ∷ y =
    ap (λ (k : List ℕ). k ++ x) (sym s.whole) ∙ e ∙ ap (λ (k : List ℕ). k ++ y) t.whole in
    let low : s.low + 128 ≡ t.low + 128 = cc in
    let rest : s.rest ≡ t.rest = cc in
    let front : a ≡ (s.low + 128) ∷ s.rest ∷ [] = s.whole in
    let other : b ≡ (t.low + 128) ∷ t.rest ∷ [] = t.whole in
    (cc, omega (arith, low, rest, s.sum, t.sum))

one_not_two : (m n : ℕ) (a b x y : List ℕ) → m < 128 → a ≡ m ∷ [] → IsTwoBytes n b →
    a ++ x ≡ b ++ y → ⊥
one_not_two m n a b x y one is t e =
    let whole : m ∷ x ≡ (t.low + 128) ∷ t.rest ∷ y =
    ap (λ (k : List ℕ). k ++ x) (sym is) ∙ e ∙ ap (λ (k : List ℕ). k ++ y) t.whole in
    let first : m ≡ t.low + 128 = cc in
    omega (arith, first)

pub short_free : IsPrefixFree IsShortNumber
short_free m n a b x y (inl s) (inl t) e =
    let whole : m ∷ x ≡ n ∷ y =
    ap (λ (k : List ℕ). k ++ x) (sym s.1) ∙ e ∙ ap (λ (k : List ℕ). k ++ y) t.1 in
    let same : m ≡ n = cc in
    (s.1 ∙ ap (λ (k : ℕ). k ∷ []) same ∙ sym t.1, same)
short_free m n a b x y (inl s) (inr t) e = absurd (one_not_two m n a b x y s.0 s.1 t e)
short_free m n a b x y (inr s) (inl t) e = absurd (one_not_two n m b a y x t.0 t.1 s (sym e))
short_free m n a b x y (inr s) (inr t) e = two_bytes_free m n a b x y s t e

-- ---- what stands before the payload

-- two heads are the same
record SameHeads (i j m n : ℕ) (a b x y : List ℕ) : Type 0 where
  pub heads : a ≡ b
  pub ids : i ≡ j
  pub tails : x ≡ y
  pub sizes : (i < 24) ⊎ (m ≡ n)

counted_free : (i j m n : ℕ) (a b x y : List ℕ) → IsCounted i m a → IsCounted j n b →
    a ++ x ≡ b ++ y → SameHeads i j m n a b x y
counted_free i j m n a b x y s t e =
    let regrouped : s.first ++ (s.second ++ x) ≡ t.first ++ (t.second ++ y) =
    sym (append_assoc s.first s.second x) ∙ ap (λ (k : List ℕ). k ++ x) (sym s.whole) ∙ e
    ∙ ap (λ (k : List ℕ). k ++ y) t.whole ∙ append_assoc t.first t.second y in
    let one =
    short_free i j s.first t.first (s.second ++ x) (t.second ++ y) s.id_spelled t.id_spelled
    regrouped in
    let behind : s.second ++ x ≡ t.second ++ y =
    append_cancel_left t.first (s.second ++ x) (t.second ++ y)
    (ap (λ (k : List ℕ). k ++ (s.second ++ x)) (sym one.0) ∙ regrouped) in
    let two = short_free m n s.second t.second x y s.size_spelled t.size_spelled behind in
    record {
      heads =
          s.whole ∙ ap (λ (k : List ℕ). k ++ s.second) one.0
          ∙ ap (λ (k : List ℕ). t.first ++ k) two.0 ∙ sym t.whole;
      ids = one.1;
      tails = append_cancel_left t.second x y (ap (λ (k : List ℕ). k ++ x) (sym two.0) ∙ behind);
      sizes = inr two.1;
    }

-- an identifier from 24 on begins with a byte from 24 on
first_high : (id : ℕ) (bytes : List ℕ) → 24 ≤ id → IsShortNumber id bytes →
    (byte : ℕ) × (rest : List ℕ) × (24 ≤ byte) × (bytes ≡ byte ∷ rest)
first_high id bytes high (inl one) = (id, [], high, one.1)
first_high id bytes high (inr two) = (two.low + 128, two.rest ∷ [], omega arith, two.whole)

bare_not_counted : (i j n : ℕ) (a b x y : List ℕ) → i < 24 → a ≡ i ∷ [] → 24 ≤ j → IsCounted j n b →
    a ++ x ≡ b ++ y → ⊥
bare_not_counted i j n a b x y low is high t e =
    let (byte, rest, least, first) = first_high j t.first high t.id_spelled in
    let whole : i ∷ x ≡ byte ∷ ((rest ++ t.second) ++ y) =
    ap (λ (k : List ℕ). k ++ x) (sym is) ∙ e ∙ ap (λ (k : List ℕ). k ++ y) t.whole
    ∙ ap (λ (k : List ℕ). (k ++ t.second) ++ y) first in
    let same : i ≡ byte = cc in
    omega (arith, same, least)

head_free : (i j m n : ℕ) (a b x y : List ℕ) → IsHead i m a → IsHead j n b → a ++ x ≡ b ++ y →
    SameHeads i j m n a b x y
head_free i j m n a b x y (inl s) (inl t) e =
    let whole : i ∷ x ≡ j ∷ y =
    ap (λ (k : List ℕ). k ++ x) (sym s.1) ∙ e ∙ ap (λ (k : List ℕ). k ++ y) t.1 in
    let same : i ≡ j = cc in
    let behind : x ≡ y = cc in
    record {
      heads = s.1 ∙ ap (λ (k : ℕ). k ∷ []) same ∙ sym t.1;
      ids = same;
      tails = behind;
      sizes = inl s.0;
    }
head_free i j m n a b x y (inl s) (inr t) e =
    absurd (bare_not_counted i j n a b x y s.0 s.1 t.0 t.1 e)
head_free i j m n a b x y (inr s) (inl t) e =
    absurd (bare_not_counted j i m b a y x t.0 t.1 s.0 s.1 (sym e))
head_free i j m n a b x y (inr s) (inr t) e = counted_free i j m n a b x y s.1 t.1 e

-- ---- payloads

-- behind the same head stands the same payload, of the same event
payload_free : (u v : Event) (p q x y : List ℕ) → IsKeptAsBytes u → IsKeptAsBytes v →
    identifier u ≡ identifier v → (identifier u < 24) ⊎ (length p ≡ length q) →
    AreFields (fields u) p → AreFields (fields v) q → p ++ x ≡ q ++ y → (p ≡ q) × (u ≡ v)
payload_free u v p q x y kept kept2 same (inr sizes) s t e =
    let one = fronts_same p x q y e sizes in
    (one.0, event_once u v q kept kept2 same (subst (AreFields (fields u)) one.0 s) t)
payload_free u v p q x y kept kept2 same (inl low) s t e =
    elim (bare_is_regular u kept) [
      | inl high ↦ absurd (omega arith)
      | inr regular ↦
          elim (bare_is_regular v kept2) [
            | inl high ↦ absurd (omega (arith, same))
            | inr regular2 ↦ regular_free u v regular regular2 same p q x y s t e
          ]
    ]

pub packet_free : IsPrefixFree IsPacket
packet_free u v a b x y s t e =
    let regroup =
    λ (h p l k : List ℕ). append_assoc h (p ++ l) k
    ∙ ap (λ (m : List ℕ). h ++ m) (append_assoc p l k) in
    let regrouped : s.head ++ (s.payload ++ (s.last ++ x)) ≡ t.head ++ (t.payload ++ (t.last ++ y))
    =
    sym (regroup s.head s.payload s.last x) ∙ ap (λ (k : List ℕ). k ++ x) (sym s.whole) ∙ e
    ∙ ap (λ (k : List ℕ). k ++ y) t.whole ∙ regroup t.head t.payload t.last y in
    let one =
    head_free (identifier u.event) (identifier v.event) (length s.payload) (length t.payload)
    s.head t.head (s.payload ++ (s.last ++ x)) (t.payload ++ (t.last ++ y)) s.before
    t.before regrouped in
    let two =
    payload_free u.event v.event s.payload t.payload (s.last ++ x) (t.last ++ y) s.kept t.kept
    one.ids one.sizes s.fields t.fields one.tails in
    let behind : s.last ++ x ≡ t.last ++ y =
    append_cancel_left t.payload (s.last ++ x) (t.last ++ y)
    (ap (λ (k : List ℕ). k ++ (s.last ++ x)) (sym two.0) ∙ one.tails) in
    let three = number_free u.delta v.delta s.last t.last x y s.delta t.delta behind in
    let event : u.event ≡ v.event = two.1 in
    let delta : u.delta ≡ v.delta = three.1 in (
      s.whole ∙ ap (λ (k : List ℕ). k ++ (s.payload ++ s.last)) one.heads
          ∙ ap (λ (k : List ℕ). t.head ++ (k ++ s.last)) two.0
          ∙ ap (λ (k : List ℕ). t.head ++ (t.payload ++ k)) three.0 ∙ sym t.whole,
      same_packet u v event delta,
    )
  where
    packet_of : Event → ℕ → Packet
    packet_of event delta = record { event = event; delta = delta }

    same_packet : (u v : Packet) → u.event ≡ v.event → u.delta ≡ v.delta → u ≡ v
    same_packet u v event delta =
        ap (λ (k : Event). packet_of k u.delta) event ∙ ap (packet_of v.event) delta
