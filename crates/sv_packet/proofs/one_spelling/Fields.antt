-- Fields one after another: those of the same kinds are read in one way.
use Rattle.std.proofs.Common.{◌≡◌, ℕ, ◌<◌, List, [], ◌∷◌, ◌++◌, map, length, refl, sym, ap, ◌∙◌}
use Rattle.std.proofs.Common.{append_assoc, arith}
use Rattle.std.proofs.lemmas.List.{append_cancel_left, length-append}
use Rattle.sv_prim.specs.Number.{IsGroups}
use Rattle.sv_prim.proofs.Shared.{number_free, text_free}
use Rattle.sv_packet.specs.Table.{Field, Number, Text, Raw}
use Rattle.sv_packet.specs.Packet.{IsField, AreFields}

-- two fields are both numbers or both texts
abbrev pub IsLike : Field → Field → Type 0
IsLike (Number value) (Number other) = Unit {0}
IsLike (Text text) (Text other) = Unit {0}
IsLike field other = ⊥

abbrev pub AreLike : List Field → List Field → Type 0
AreLike [] [] = Unit {0}
AreLike (f ∷ fs) (g ∷ gs) = IsLike f g × AreLike fs gs
AreLike fs gs = ⊥

pub field_free : (f g : Field) → IsLike f g → (a b x y : List ℕ) → IsField f a → IsField g b →
    a ++ x ≡ b ++ y → (a ≡ b) × (f ≡ g)
field_free (Number value) (Number other) like a b x y s t e = let r =
    number_free value other a b x y s t e in (r.0, ap Number r.1)
field_free (Text text) (Text other) like a b x y s t e = let r =
    text_free text other a b x y s t e in (r.0, ap Text r.1)
field_free (Number value) (Text other) like a b x y s t e = absurd like
field_free (Number value) (Raw other) like a b x y s t e = absurd like
field_free (Text text) (Number other) like a b x y s t e = absurd like
field_free (Text text) (Raw other) like a b x y s t e = absurd like
field_free (Raw raw) other like a b x y s t e = absurd like

-- what stands behind the first of two lists of fields
pub record Tails (f g : Field) (fs gs : List Field) (a b x y : List ℕ) : Type 0 where
  pub same : f ≡ g
  pub first : List ℕ
  pub left : List ℕ
  pub right : List ℕ
  pub left_spelled : AreFields fs left
  pub right_spelled : AreFields gs right
  pub left_whole : a ≡ first ++ left
  pub right_whole : b ≡ first ++ right
  pub tails : left ++ x ≡ right ++ y

-- the first fields are the same, where they are of one kind
pub first_free : (f g : Field) (fs gs : List Field) → IsLike f g → (a b x y : List ℕ) →
    AreFields (f ∷ fs) a → AreFields (g ∷ gs) b → a ++ x ≡ b ++ y → Tails f g fs gs a b x y
first_free f g fs gs like a b x y (c, d, s, p, whole) (h, k, t, q, whole2) e =
    let regrouped : c ++ (d ++ x) ≡ h ++ (k ++ y) =
    sym (append_assoc c d x) ∙ ap (λ (l : List ℕ). l ++ x) (sym whole) ∙ e
    ∙ ap (λ (l : List ℕ). l ++ y) whole2 ∙ append_assoc h k y in
    let one = field_free f g like c h (d ++ x) (k ++ y) s t regrouped in
    record {
      same = one.1;
      first = h;
      left = d;
      right = k;
      left_spelled = p;
      right_spelled = q;
      left_whole = whole ∙ ap (λ (l : List ℕ). l ++ d) one.0;
      right_whole = whole2;
      tails =
          append_cancel_left h (d ++ x) (k ++ y)
          (ap (λ (l : List ℕ). l ++ (d ++ x)) (sym one.0) ∙ regrouped);
    }

pub fields_free : (fs gs : List Field) → AreLike fs gs → (a b x y : List ℕ) → AreFields fs a →
    AreFields gs b → a ++ x ≡ b ++ y → (a ≡ b) × (fs ≡ gs)
fields_free [] [] like a b x y p q e = (p ∙ sym q, refl)
fields_free [] (g ∷ gs) like a b x y p q e = absurd like
fields_free (f ∷ fs) [] like a b x y p q e = absurd like
fields_free (f ∷ fs) (g ∷ gs) like a b x y p q e =
    let r = first_free f g fs gs like.0 a b x y p q e in
    let rest = fields_free fs gs like.1 r.left r.right x y r.left_spelled r.right_spelled r.tails in
    let same : f ≡ g = r.same in
    let others : fs ≡ gs = rest.1 in
    (r.left_whole ∙ ap (λ (l : List ℕ). r.first ++ l) rest.0 ∙ sym r.right_whole, cc)

-- as many numbers
pub numbers_like : (ns ms : List ℕ) → length ns ≡ length ms →
    AreLike (map Number ns) (map Number ms)
numbers_like [] [] same = tt
numbers_like [] (m ∷ ms) same = absurd (omega arith)
numbers_like (n ∷ ns) [] same = absurd (omega arith)
numbers_like (n ∷ ns) (m ∷ ms) same = (tt, numbers_like ns ms (omega arith))

groups_some : (bytes : List ℕ) → IsGroups bytes → 0 < length bytes
groups_some [] g = absurd g
groups_some (b ∷ bs) g = omega arith

-- a number behind nothing
pub not_nothing : (n : ℕ) (fs : List Field) (bytes : List ℕ) → AreFields (Number n ∷ fs) bytes →
    bytes ≡ [] → ⊥
not_nothing n fs bytes (first, rest, s, others, whole) e =
    let some = groups_some first s.groups in
    omega (arith, ap length whole, ap length e, length-append first rest)
