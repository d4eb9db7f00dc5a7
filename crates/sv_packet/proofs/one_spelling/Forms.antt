-- A whole payload has at most one form, and no event beside it.
use Rattle.std.proofs.Common.{◌≡◌, ◌≢◌, ℕ, ◌≤◌, ◌⊎◌, List, [], ◌∷◌, ◌++◌, map, length, Option, Some}
use Rattle.std.proofs.Common.{None, refl, sym, ap, subst, ◌∙◌, arith, inl, inr}
use Rattle.std.proofs.lemmas.Bool.{cases_eq}
use Rattle.std.proofs.lemmas.List.{append-nil}
use Rattle.sv_packet.specs.declared.event.Event.{Event}
use Rattle.sv_packet.specs.declared.event.Event.TheVariants.{Print, EndCall, Opaque}
use Rattle.sv_packet.specs.Table.{identifier, fields, Number, Text, Raw}
use Rattle.sv_packet.specs.Packet.{AreFields, IsOpaque, IsKeptAsBytes}
use Rattle.sv_packet.proofs.one_spelling.Fields.{first_free, fields_free, numbers_like, not_nothing}
use Rattle.sv_packet.proofs.one_spelling.Regular.{IsRegular, value_of, text_of, regular_free}

-- ---- prints

values : (ns : List ℕ) → map value_of (map Number ns) ≡ ns
values [] = refl
values (n ∷ ns) = ap (λ (k : List ℕ). n ∷ k) (values ns)

pub is_print : (event : Event) → (IsOpaque event → ⊥) → identifier event ≡ 26 →
    (text : List ℕ) × (options : ℕ) × (args : List ℕ) × (event ≡ Print text options args)
is_print (Print text options args) known same = (text, options, args, refl)
is_print (Opaque id payload) known same = absurd (known tt)
is_print other known same = absurd (omega (arith, same))

print_once : (t t2 : List ℕ) (o o2 : ℕ) (args args2 p : List ℕ) →
    AreFields (fields (Print t o args)) p → AreFields (fields (Print t2 o2 args2)) p →
    Print t o args ≡ Print t2 o2 args2
print_once t t2 o o2 args args2 p s r =
    let one =
    first_free (Text t) (Text t2) (Number o ∷ Number (length args) ∷ map Number args)
    (Number o2 ∷ Number (length args2) ∷ map Number args2) tt p p [] [] s r refl in
    let two =
    first_free (Number o) (Number o2) (Number (length args) ∷ map Number args)
    (Number (length args2) ∷ map Number args2) tt one.left one.right [] [] one.left_spelled
    one.right_spelled one.tails in
    let three =
    first_free (Number (length args)) (Number (length args2)) (map Number args)
    (map Number args2) tt two.left two.right [] [] two.left_spelled two.right_spelled
    two.tails in
    let many : length args ≡ length args2 = ap value_of three.same in
    let rest =
    fields_free (map Number args) (map Number args2) (numbers_like args args2 many) three.left
    three.right [] [] three.left_spelled three.right_spelled three.tails in
    let text : t ≡ t2 = ap text_of one.same in
    let options : o ≡ o2 = ap value_of two.same in
    let others : args ≡ args2 = sym (values args) ∙ ap (map value_of) rest.1 ∙ values args2 in
    cc

-- ---- ends of calls

pub is_end : (event : Event) → (IsOpaque event → ⊥) → identifier event ≡ 28 →
    (call : ℕ) × (value : Option ℕ) × (event ≡ EndCall call value)
is_end (EndCall call value) known same = (call, value, refl)
is_end (Opaque id payload) known same = absurd (known tt)
is_end other known same = absurd (omega (arith, same))

end_once : (e e2 : ℕ) (v v2 : Option ℕ) (p : List ℕ) → AreFields (fields (EndCall e v)) p →
    AreFields (fields (EndCall e2 v2)) p → EndCall e v ≡ EndCall e2 v2
end_once e e2 None None p s r =
    let one = first_free (Number e) (Number e2) [] [] tt p p [] [] s r refl in
    let call : e ≡ e2 = ap value_of one.same in
    cc
end_once e e2 None (Some v2) p s r =
    let one = first_free (Number e) (Number e2) [] (Number v2 ∷ []) tt p p [] [] s r refl in
    absurd
    (not_nothing v2 [] one.right one.right_spelled
    (sym (append-nil one.right) ∙ sym one.tails ∙ append-nil one.left ∙ one.left_spelled))
end_once e e2 (Some v) None p s r =
    let one = first_free (Number e) (Number e2) (Number v ∷ []) [] tt p p [] [] s r refl in
    absurd
    (not_nothing v [] one.left one.left_spelled
    (sym (append-nil one.left) ∙ one.tails ∙ append-nil one.right ∙ one.right_spelled))
end_once e e2 (Some v) (Some v2) p s r =
    let one =
    first_free (Number e) (Number e2) (Number v ∷ []) (Number v2 ∷ []) tt p p [] [] s r refl in
    let two =
    first_free (Number v) (Number v2) [] [] tt one.left one.right [] [] one.left_spelled
    one.right_spelled one.tails in
    let call : e ≡ e2 = ap value_of one.same in
    let value : v ≡ v2 = ap value_of two.same in
    cc

-- ---- any form

pub other_is_regular : (event : Event) → (IsOpaque event → ⊥) → identifier event ≢ 26 →
    identifier event ≢ 28 → IsRegular event
other_is_regular (Print text options args) known no_print no_end = absurd (no_print refl)
other_is_regular (EndCall call value) known no_print no_end = absurd (no_end refl)
other_is_regular (Opaque id payload) known no_print no_end = absurd (known tt)
other_is_regular other known no_print no_end = tt

prints_once : (u v : Event) (p : List ℕ) → (IsOpaque u → ⊥) → (IsOpaque v → ⊥) → identifier u ≡ 26 →
    identifier v ≡ 26 → AreFields (fields u) p → AreFields (fields v) p → u ≡ v
prints_once u v p known known2 is is2 s r =
    let (t, o, args, e) = is_print u known is in
    let (t2, o2, args2, e2) = is_print v known2 is2 in
    e
    ∙ print_once t t2 o o2 args args2 p (subst (λ (k : Event). AreFields (fields k) p) e s)
    (subst (λ (k : Event). AreFields (fields k) p) e2 r) ∙ sym e2

ends_once : (u v : Event) (p : List ℕ) → (IsOpaque u → ⊥) → (IsOpaque v → ⊥) → identifier u ≡ 28 →
    identifier v ≡ 28 → AreFields (fields u) p → AreFields (fields v) p → u ≡ v
ends_once u v p known known2 is is2 s r =
    let (call, value, e) = is_end u known is in
    let (call2, value2, e2) = is_end v known2 is2 in
    e
    ∙ end_once call call2 value value2 p (subst (λ (k : Event). AreFields (fields k) p) e s)
    (subst (λ (k : Event). AreFields (fields k) p) e2 r) ∙ sym e2

-- a payload has one form of an identifier
pub form_once : (u v : Event) (p : List ℕ) → (IsOpaque u → ⊥) → (IsOpaque v → ⊥) →
    identifier u ≡ identifier v → AreFields (fields u) p → AreFields (fields v) p → u ≡ v
form_once u v p known known2 same s r =
    elim (cases_eq (identifier u) 26) [
      | inl print ↦ prints_once u v p known known2 print (sym same ∙ print) s r
      | inr no_print ↦
          elim (cases_eq (identifier u) 28) [
            | inl end ↦ ends_once u v p known known2 end (sym same ∙ end) s r
            | inr no_end ↦
                let regular = other_is_regular u known no_print no_end in
                let regular2 =
                other_is_regular v known2 (λ e. no_print (same ∙ e)) (λ e. no_end (same ∙ e)) in
                (regular_free u v regular regular2 same p p [] [] s r refl).1
          ]
    ]

pub opaque_or : (event : Event) →
    ((id : ℕ) × (payload : List ℕ) × (event ≡ Opaque id payload)) ⊎ (IsOpaque event → ⊥)
opaque_or (Opaque id payload) = inl (id, payload, refl)
opaque_or other = inr (λ opaque. opaque)

raw_is : (raw p : List ℕ) → AreFields (Raw raw ∷ []) p → p ≡ raw
raw_is raw p (first, rest, s, nothing, whole) =
    whole ∙ ap (λ (k : List ℕ). first ++ k) nothing ∙ append-nil first ∙ s.1

no_form : (id : ℕ) (payload p : List ℕ) (event : Event) → IsKeptAsBytes (Opaque id payload) →
    (IsOpaque event → ⊥) → id ≡ identifier event → AreFields (Raw payload ∷ []) p →
    AreFields (fields event) p → ⊥
no_form id payload p event kept known same s r =
    kept.2 (event, known, sym same, subst (AreFields (fields event)) (raw_is payload p s) r)

opaque_known : (u v : Event) (id : ℕ) (payload p : List ℕ) → IsKeptAsBytes u →
    u ≡ Opaque id payload → (IsOpaque v → ⊥) → identifier u ≡ identifier v →
    AreFields (fields u) p → AreFields (fields v) p → ⊥
opaque_known u v id payload p kept e known same s r =
    no_form id payload p v (subst IsKeptAsBytes e kept) known (sym (ap identifier e) ∙ same)
    (subst (λ (k : Event). AreFields (fields k) p) e s) r

opaque_once : (u v : Event) (id id2 : ℕ) (payload payload2 p : List ℕ) → u ≡ Opaque id payload →
    v ≡ Opaque id2 payload2 → identifier u ≡ identifier v → AreFields (fields u) p →
    AreFields (fields v) p → u ≡ v
opaque_once u v id id2 payload payload2 p e e2 same s r =
    let ids : id ≡ id2 = sym (ap identifier e) ∙ same ∙ ap identifier e2 in
    let one = raw_is payload p (subst (λ (k : Event). AreFields (fields k) p) e s) in
    let two = raw_is payload2 p (subst (λ (k : Event). AreFields (fields k) p) e2 r) in
    let payloads : payload ≡ payload2 = sym one ∙ two in
    cc

-- an identifier and a whole payload are those of one event
pub event_once : (u v : Event) (p : List ℕ) → IsKeptAsBytes u → IsKeptAsBytes v →
    identifier u ≡ identifier v → AreFields (fields u) p → AreFields (fields v) p → u ≡ v
event_once u v p kept kept2 same s r =
    elim (opaque_or u) [
      | inl (id, payload, e) ↦
          elim (opaque_or v) [
            | inl (id2, payload2, e2) ↦ opaque_once u v id id2 payload payload2 p e e2 same s r
            | inr known2 ↦ absurd (opaque_known u v id payload p kept e known2 same s r)
          ]
      | inr known ↦
          elim (opaque_or v) [
            | inl (id2, payload2, e2) ↦
                absurd (opaque_known v u id2 payload2 p kept2 e2 known (sym same) r s)
            | inr known2 ↦ form_once u v p known known2 same s r
          ]
    ]

-- an event without a length field has the same kinds of fields for its identifier
pub bare_is_regular : (event : Event) → IsKeptAsBytes event →
    24 ≤ identifier event ⊎ IsRegular event
bare_is_regular (Print text options args) kept = inl (omega arith)
bare_is_regular (EndCall call value) kept = inl (omega arith)
bare_is_regular (Opaque id payload) kept = inl kept.0
bare_is_regular other kept = inr tt
