-- Bytes are packets and a rest in one way.
use Rattle.std.proofs.Common.{◌≡◌, ℕ, ◌<◌, ◌≤◌, List, [], ◌∷◌, ◌++◌, length, take, refl, sym, ap}
use Rattle.std.proofs.Common.{subst, ◌∙◌, append_assoc, arith, inl, inr}
use Rattle.std.proofs.lemmas.List.{length-append, length-take, append-nil, append_cancel_left}
use Rattle.std.proofs.Math.Seq.{take-append_seam}
use Rattle.sv_prim.specs.Code.{Begins}
use Rattle.sv_prim.specs.Number.{IsGroups}
use Rattle.sv_packet.specs.declared.event.Packet.{Packet}
use Rattle.sv_packet.specs.Packet.{IsPacket}
use Rattle.sv_packet.specs.Packets.{ArePackets, BeginsWithNone}
use Rattle.sv_packet.specs.Packet.{IsHead, IsShortNumber}
use Rattle.sv_packet.proofs.one_spelling.Free.{packet_free}

groups_some : (bytes : List ℕ) → IsGroups bytes → 0 < length bytes
groups_some [] g = absurd g
groups_some (b ∷ bs) g = omega arith

short_some : (n : ℕ) (bytes : List ℕ) → IsShortNumber n bytes → 0 < length bytes
short_some n bytes (inl one) = omega (arith, ap length one.1)
short_some n bytes (inr two) = omega (arith, ap length two.whole)

head_some : (id size : ℕ) (bytes : List ℕ) → IsHead id size bytes → 0 < length bytes
head_some id size bytes (inl bare) = omega (arith, ap length bare.1)
head_some id size bytes (inr counted) =
    let some = short_some id counted.1.first counted.1.id_spelled in
    omega (arith, ap length counted.1.whole, length-append counted.1.first counted.1.second)

-- a packet has an identifier and a delta
pub packet_size : (p : Packet) (bytes : List ℕ) → IsPacket p bytes → 2 ≤ length bytes
packet_size p bytes s =
    let some = groups_some s.last s.delta.groups in
    let front = head_some _ _ s.head s.before in
    omega (
      arith,
      ap length s.whole,
      length-append s.payload s.last,
      length-append s.head (s.payload ++ s.last),
    )

pub no_packet : BeginsWithNone []
no_packet p used b = let size = packet_size p (take used []) b.spelled in
    omega (arith, length-take {A = ℕ} used [])

begins : (p : Packet) (rest first more : List ℕ) → IsPacket p first → rest ≡ first ++ more →
    Begins IsPacket rest p (length first)
begins p rest first more s e = record {
  within = omega (arith, ap length e, length-append first more);
  spelled = subst (IsPacket p) (sym (ap (take (length first)) e ∙ take-append_seam first more)) s;
}

-- one more packet at the end
pub ArePackets-push : (ps : List Packet) (p : Packet) (text first : List ℕ) → ArePackets ps text →
    IsPacket p first → ArePackets (ps ++ p ∷ []) (text ++ first)
ArePackets-push [] p text first s q =
    (first, [], q, refl, ap (λ (k : List ℕ). k ++ first) s ∙ sym (append-nil first))
ArePackets-push (r ∷ ps) p text first (one, rest, q1, others, whole) q = (
  one,
  rest ++ first,
  q1,
  ArePackets-push ps p rest first others q,
  ap (λ (k : List ℕ). k ++ first) whole ∙ append_assoc one rest first,
)

-- packets at the front are the first packets
pub packets_front : (ps qs : List Packet) (t r u s : List ℕ) → ArePackets ps t → ArePackets qs u →
    t ++ r ≡ u ++ s → BeginsWithNone s →
    (more : List Packet) × (later : List ℕ) × (qs ≡ ps ++ more) × ArePackets more later ×
    (r ≡ later ++ s)
packets_front [] qs t r u s p q e stop = (qs, u, refl, q, ap (λ (x : List ℕ). x ++ r) (sym p) ∙ e)
packets_front (p ∷ ps) [] t r u s (first, rest, is, others, whole) q e stop =
    let at : s ≡ first ++ (rest ++ r) =
    ap (λ (x : List ℕ). x ++ s) (sym q) ∙ sym e ∙ ap (λ (x : List ℕ). x ++ r) whole
    ∙ append_assoc first rest r in
    absurd (stop p (length first) (begins p s first (rest ++ r) is at))
packets_front (p ∷ ps) (q ∷ qs) t r u s (first, rest, is, others, whole)
    (first2, rest2, is2, others2, whole2) e stop =
    let split : first ++ (rest ++ r) ≡ first2 ++ (rest2 ++ s) =
    sym (append_assoc first rest r) ∙ ap (λ (x : List ℕ). x ++ r) (sym whole) ∙ e
    ∙ ap (λ (x : List ℕ). x ++ s) whole2 ∙ append_assoc first2 rest2 s in
    let one = packet_free p q first first2 (rest ++ r) (rest2 ++ s) is is2 split in
    let tails : rest ++ r ≡ rest2 ++ s =
    append_cancel_left first2 (rest ++ r) (rest2 ++ s)
    (ap (λ (x : List ℕ). x ++ (rest ++ r)) (sym one.0) ∙ split) in
    let more = packets_front ps qs rest r rest2 s others others2 tails stop in
    let same : p ≡ q = one.1 in
    let list : qs ≡ ps ++ more.0 = more.2 in
    (more.0, more.1, cc, more.3, more.4)

-- no more packets where the rest begins with none
packets_end : (more : List Packet) (later r s : List ℕ) → ArePackets more later → r ≡ later ++ s →
    BeginsWithNone r → (more ≡ []) × (later ≡ [])
packets_end [] later r s p e stop = (refl, p)
packets_end (q ∷ qs) later r s (first, rest, is, others, whole) e stop =
    let at : r ≡ first ++ (rest ++ s) =
    e ∙ ap (λ (x : List ℕ). x ++ s) whole ∙ append_assoc first rest s in
    absurd (stop q (length first) (begins q r first (rest ++ s) is at))

-- the packets and the rest behind the last of them are determined
pub packets_once : (ps qs : List Packet) (t r u s : List ℕ) → ArePackets ps t → ArePackets qs u →
    t ++ r ≡ u ++ s → BeginsWithNone r → BeginsWithNone s → (ps ≡ qs) × (t ≡ u) × (r ≡ s)
packets_once ps qs t r u s p q e stop_r stop_s =
    let f = packets_front ps qs t r u s p q e stop_s in
    let last = packets_end f.0 f.1 r s f.3 f.4 stop_r in
    let rest : r ≡ s = f.4 ∙ ap (λ (x : List ℕ). x ++ s) last.1 in
    let text : t ++ s ≡ u ++ s = ap (λ (x : List ℕ). t ++ x) (sym rest) ∙ e in
    (sym (f.2 ∙ ap (λ (x : List Packet). ps ++ x) last.0 ∙ append-nil ps), front t u s text, rest)
  where
    front : (t u s : List ℕ) → t ++ s ≡ u ++ s → t ≡ u
    front [] [] s e = refl
    front [] (d ∷ u) s e = absurd (omega (arith, ap length e, length-append u s))
    front (c ∷ t) [] s e = absurd (omega (arith, ap length e, length-append t s))
    front (c ∷ t) (d ∷ u) s e =
        let tails : t ++ s ≡ u ++ s = cc in
        let same : c ≡ d = cc in
        let rest = front t u s tails in
        cc
