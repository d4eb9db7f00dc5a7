-- Texts and bytes as they stand: what is told of where they stand is told of them.
use Rattle.std.proofs.Common.{◌≡◌, ℕ, ◌-◌, ◌<◌, ◌≤◌, List, ◌++◌, length, take, drop, replicate}
use Rattle.std.proofs.Common.{refl, sym, ap, ◌∙◌, arith}
use Rattle.std.proofs.lemmas.List.{length-append, length-replicate, length-take, length-drop}
use Rattle.std.proofs.lemmas.List.{take_all}
use Rattle.sv_prim.specs.Code.{Begins, IsCutShort, BreaksAt, IsPrefixFree}
use Rattle.sv_prim.specs.Text.{AreBytes, IsText}
use Rattle.sv_prim.specs.TextAt.{IsTextAt}
use Rattle.sv_prim.proofs.Shared.{at_of, bytes_both, bytes_front, carried_breaks, fronts_same}
use Rattle.sv_prim.proofs.Shared.{zeros}
use Rattle.sv_packet.specs.Parts.{IsOfSize}

pub text_breaks : (bytes : List ℕ) (place : ℕ) → BreaksAt IsTextAt bytes place →
    BreaksAt IsText bytes place
text_breaks bytes place p =
    carried_breaks IsTextAt IsText at_of (λ at b s. (drop at.start b, s.spelled)) bytes place p

-- ---- bytes as they stand

pub size_free : (size : ℕ) → IsPrefixFree (IsOfSize size)
size_free size u v a b x y (len, are, is) (len2, are2, is2) e =
    let same = fronts_same a x b y e (ap length is ∙ len ∙ sym len2 ∙ sym (ap length is2)) in
    (same.0, sym is ∙ same.0 ∙ is2)

pub size_some : (size : ℕ) → (payload : List ℕ) × (bytes : List ℕ) × IsOfSize size payload bytes
size_some size = (replicate size 0, replicate size 0, (length-replicate size 0, zeros size, refl))

pub size_short : (size : ℕ) (bytes : List ℕ) → AreBytes bytes → length bytes < size →
    IsCutShort (IsOfSize size) bytes
size_short size bytes are less =
    let more : List ℕ = replicate (size - length bytes) 0 in
    let count : length more ≡ size - length bytes =
    length-replicate {A = ℕ} (size - length bytes) 0 in (
      bytes ++ more,
      more,
      (λ e. omega (arith, ap length e, count)),
      (
        omega (arith, length-append bytes more, count),
        bytes_both bytes more are (zeros (size - length bytes)),
        refl,
      ),
    )

pub size_begins : (size : ℕ) (bytes : List ℕ) → AreBytes bytes → size ≤ length bytes →
    Begins (IsOfSize size) bytes (take size bytes) size
size_begins size bytes are le = record {
  within = le;
  spelled = (omega (arith, le, length-take size bytes), bytes_front size bytes are, refl);
}

-- a slice from an offset on
pub slice_from : (bytes : List ℕ) (at : ℕ) → at ≤ length bytes →
    take (length bytes - at) (drop at bytes) ≡ drop at bytes
slice_from bytes at le =
    take_all (length bytes - at) (drop at bytes) (omega (arith, length-drop at bytes))
