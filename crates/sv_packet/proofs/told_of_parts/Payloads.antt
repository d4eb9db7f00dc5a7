-- Payloads under a length field: the forms of each identifier, as what is read one after another.
use Rattle.std.proofs.Common.{◌≡◌, ◌≢◌, ℕ, Bool, true, false, List, [], ◌∷◌, ◌++◌, map, length}
use Rattle.std.proofs.Common.{Option, Some, None, refl, sym, ap, subst, ◌∙◌, arith, inr}
use Rattle.std.specs.Prelude.{if◌then◌else◌}
use Rattle.std.proofs.lemmas.List.{append-nil}
use Rattle.sv_prim.specs.Code.{IsPair}
use Rattle.sv_prim.specs.Number.{IsNumber}
use Rattle.sv_prim.specs.Text.{IsText}
use Rattle.sv_packet.specs.declared.event.Event.{Event}
use Rattle.sv_packet.specs.declared.event.Event.TheVariants as event
use Rattle.sv_packet.specs.Table.{identifier, fields, Field, Number, Text, Raw}
use Rattle.sv_packet.specs.Packet.{AreFields, IsOpaque, IsForm}
use Rattle.sv_packet.specs.Shape.{number_count, ends_in_text, fields_by, IsRegularId}
use Rattle.sv_packet.specs.Parts.{AreNumbers, IsTextIf}
use Rattle.sv_packet.specs.Made.{IsMade}
use Rattle.sv_packet.specs.Forms.{IsRegularForm}
use Rattle.sv_packet.proofs.one_spelling.Forms.{is_print, is_end, other_is_regular}
use Rattle.sv_packet.proofs.how_long.Counts.{fields_both, fields_split}
use Rattle.sv_packet.proofs.told_of_parts.Making.{shaped, can_make}

-- ---- numbers and a text or none

abbrev pub IsRegularPayload : ℕ → List ℕ × List ℕ → List ℕ → Type 0
IsRegularPayload id =
    IsPair (AreNumbers (number_count id)) (λ (numbers : List ℕ). IsTextIf (ends_in_text id))

pub text_fields : (there : Bool) (text bytes : List ℕ) → IsTextIf there text bytes →
    AreFields (if there then Text text ∷ [] else []) bytes
text_fields true text bytes s = (bytes, [], s, refl, sym (append-nil bytes))
text_fields false text bytes s = s.1

fields_text : (there : Bool) (text bytes : List ℕ) →
    AreFields (if there then Text text ∷ [] else []) bytes → (t : List ℕ) × IsTextIf there t bytes
fields_text true text bytes (first, rest, s, nothing, whole) = (
  text,
  subst (IsText text) (sym (whole ∙ ap (λ (k : List ℕ). first ++ k) nothing ∙ append-nil first)) s,
)
fields_text false text bytes p = ([], (refl, p))

pub regular_fields : (id : ℕ) (v : List ℕ × List ℕ) (bytes : List ℕ) → IsRegularPayload id v bytes →
    AreFields (fields_by id v.0 v.1) bytes
regular_fields id v bytes p =
    subst (AreFields (fields_by id v.0 v.1)) (sym p.whole)
    (fields_both (map Number v.0) (if ends_in_text id then Text v.1 ∷ [] else []) p.first p.second
    p.first_spelled.1 (text_fields (ends_in_text id) v.1 p.second p.second_spelled))

pub fields_regular : (id : ℕ) (numbers text bytes : List ℕ) → length numbers ≡ number_count id →
    AreFields (fields_by id numbers text) bytes →
    (v : List ℕ × List ℕ) × IsRegularPayload id v bytes
fields_regular id numbers text bytes count s =
    let (a, b, p, q, whole) =
    fields_split (map Number numbers) (if ends_in_text id then Text text ∷ [] else []) bytes
    s in
    let (t, q2) = fields_text (ends_in_text id) text b q in (
      (numbers, t),
      record {
        first = a;
        second = b;
        first_spelled = (count, p);
        second_spelled = q2;
        whole = whole;
      },
    )

-- ---- events of numbers and a text

no_raw : (there : Bool) (text raw : List ℕ) →
    Raw raw ∷ [] ≡ (if there then Text text ∷ [] else []) → ⊥
no_raw true text raw e = absurd cc
no_raw false text raw e = absurd cc

not_raw : (id : ℕ) (numbers text raw : List ℕ) → Raw raw ∷ [] ≡ fields_by id numbers text → ⊥
not_raw id [] text raw e = no_raw (ends_in_text id) text raw e
not_raw id (n ∷ numbers) text raw e = absurd cc

-- such an event is not opaque
pub made_known : (id : ℕ) (numbers text : List ℕ) (event : Event) → IsMade id numbers text event →
    IsOpaque event → ⊥
made_known id numbers text (event.Opaque other raw) m opaque = not_raw id numbers text raw m.parts
made_known id numbers text other m opaque = opaque

regular_id : (id : ℕ) → IsRegularForm id → (id ≢ 26) × (id ≢ 28)
regular_id id form = ((λ e. omega (arith, form, e)), (λ e. omega (arith, form, e)))

pub as_regular : (id : ℕ) → IsRegularForm id → IsRegularId id
as_regular id form = inr form

pub form_regular : (id : ℕ) (payload : List ℕ) → IsRegularForm id → IsForm id payload →
    (v : List ℕ × List ℕ) × IsRegularPayload id v payload
form_regular id payload form (event, known, same, s) =
    let not = regular_id id form in
    let shape =
    shaped event
    (other_is_regular event known (λ e. not.0 (sym same ∙ e))
    (λ e. not.1 (sym same ∙ e))) in
    fields_regular id shape.numbers shape.text payload (shape.count ∙ ap number_count same)
    (subst (λ (k : ℕ). AreFields (fields_by k shape.numbers shape.text) payload) same
    (subst (λ (fs : List Field). AreFields fs payload) shape.parts s))

pub regular_form : (id : ℕ) (payload : List ℕ) → IsRegularForm id → (v : List ℕ × List ℕ) →
    IsRegularPayload id v payload → IsForm id payload
regular_form id payload form v p =
    let (event, m) = can_make id (as_regular id form) v.0 v.1 p.first_spelled.0 in (
      event,
      made_known id v.0 v.1 event m,
      m.same,
      subst (λ (fs : List Field). AreFields fs payload) (sym m.parts)
          (regular_fields id v payload p),
    )

-- ---- prints

abbrev pub IsArguments : ℕ → ℕ × List ℕ → List ℕ → Type 0
IsArguments options = IsPair IsNumber AreNumbers

abbrev pub IsOptions : List ℕ → ℕ × (ℕ × List ℕ) → List ℕ → Type 0
IsOptions text = IsPair IsNumber IsArguments

-- a text, its options, a number, and so many numbers
abbrev pub IsPrintPayload : List ℕ × (ℕ × (ℕ × List ℕ)) → List ℕ → Type 0
IsPrintPayload = IsPair IsText IsOptions

print_fields : (text : List ℕ) (options : ℕ) (args bytes : List ℕ) →
    AreFields (fields (event.Print text options args)) bytes →
    IsPrintPayload (text, (options, (length args, args))) bytes
print_fields text options args bytes (a, b, s, (c, d, t, (e, f, u, rest, whole3), whole2), whole) =
    record {
      first = a;
      second = b;
      first_spelled = s;
      second_spelled = record {
        first = c;
        second = d;
        first_spelled = t;
        second_spelled = record {
          first = e;
          second = f;
          first_spelled = u;
          second_spelled = (refl, rest);
          whole = whole3;
        };
        whole = whole2;
      };
      whole = whole;
    }

pub form_print : (payload : List ℕ) → IsForm 26 payload →
    (v : List ℕ × (ℕ × (ℕ × List ℕ))) × IsPrintPayload v payload
form_print payload (event, known, same, s) =
    let (text, options, args, is) = is_print event known same in (
      (text, (options, (length args, args))),
      print_fields text options args payload
          (subst (λ (k : Event). AreFields (fields k) payload) is s),
    )

pub fields_print : (text : List ℕ) (options count : ℕ) (args bytes : List ℕ) →
    IsPrintPayload (text, (options, (count, args))) bytes →
    AreFields (fields (event.Print text options args)) bytes
fields_print text options count args bytes p =
    let o = p.second_spelled in
    let n = o.second_spelled in
    let many = n.second_spelled in (
      p.first,
      p.second,
      p.first_spelled,
      (
        o.first,
        o.second,
        o.first_spelled,
        (
          n.first,
          n.second,
          subst (λ (k : ℕ). IsNumber k n.first) (sym many.0) n.first_spelled,
          many.1,
          n.whole,
        ),
        o.whole,
      ),
      p.whole,
    )

pub print_form : (payload : List ℕ) (v : List ℕ × (ℕ × (ℕ × List ℕ))) → IsPrintPayload v payload →
    IsForm 26 payload
print_form payload (text, (options, (count, args))) p = (
  event.Print text options args,
  (λ opaque. opaque),
  refl,
  fields_print text options count args payload p,
)

-- ---- ends of calls

-- a number, or nothing
abbrev pub IsNumberOrNone : Option ℕ → List ℕ → Type 0
IsNumberOrNone None bytes = bytes ≡ []
IsNumberOrNone (Some n) bytes = IsNumber n bytes

abbrev pub IsEndPayload : ℕ × Option ℕ → List ℕ → Type 0
IsEndPayload = IsPair IsNumber (λ (call : ℕ). IsNumberOrNone)

end_fields : (call : ℕ) (value : Option ℕ) (bytes : List ℕ) →
    AreFields (fields (event.EndCall call value)) bytes → IsEndPayload (call, value) bytes
end_fields call None bytes (first, rest, s, nothing, whole) = record {
  first = first;
  second = rest;
  first_spelled = s;
  second_spelled = nothing;
  whole = whole;
}
end_fields call (Some value) bytes (first, rest, s, one, whole) =
    record {
      first = first;
      second = rest;
      first_spelled = s;
      second_spelled = only_number value rest one;
      whole = whole;
    }
  where
    only_number : (n : ℕ) (bytes : List ℕ) → AreFields (Number n ∷ []) bytes → IsNumber n bytes
    only_number n bytes (first, rest, s, nothing, whole) =
        subst (IsNumber n)
        (sym (whole ∙ ap (λ (k : List ℕ). first ++ k) nothing ∙ append-nil first)) s

pub form_end : (payload : List ℕ) → IsForm 28 payload → (v : ℕ × Option ℕ) × IsEndPayload v payload
form_end payload (event, known, same, s) =
    let (call, value, is) = is_end event known same in (
      (call, value),
      end_fields call value payload (subst (λ (k : Event). AreFields (fields k) payload) is s),
    )

pub fields_end : (call : ℕ) (value : Option ℕ) (bytes : List ℕ) → IsEndPayload (call, value) bytes →
    AreFields (fields (event.EndCall call value)) bytes
fields_end call None bytes p = (p.first, p.second, p.first_spelled, p.second_spelled, p.whole)
fields_end call (Some value) bytes p = (
  p.first,
  p.second,
  p.first_spelled,
  (p.second, [], p.second_spelled, refl, sym (append-nil p.second)),
  p.whole,
)

pub end_form : (payload : List ℕ) (v : ℕ × Option ℕ) → IsEndPayload v payload → IsForm 28 payload
end_form payload (call, value) p =
    (event.EndCall call value, not_opaque value, same value, fields_end call value payload p)
  where
    not_opaque : (value : Option ℕ) → IsOpaque (event.EndCall call value) → ⊥
    not_opaque value opaque = opaque

    same : (value : Option ℕ) → identifier (event.EndCall call value) ≡ 28
    same value = refl
