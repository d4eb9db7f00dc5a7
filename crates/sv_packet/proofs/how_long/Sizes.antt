-- How many bytes a payload has at most.
use Rattle.std.proofs.Common.{◌≡◌, ℕ, ◌+◌, ◌*◌, ◌≤◌, List, [], ◌∷◌, ◌++◌, map, length, Some, None}
use Rattle.std.proofs.Common.{refl, ap, arith, inl, inr}
use Rattle.std.proofs.lemmas.Bool.{cases_lt}
use Rattle.std.proofs.lemmas.List.{length-append}
use Rattle.sv_prim.specs.Text.{text_spelling}
use Rattle.sv_prim.proofs.Shared.{of_few, text_spelling-long, text_spelling-short}
use Rattle.sv_packet.specs.declared.event.Event.{Event}
use Rattle.sv_packet.specs.declared.event.Event.TheVariants.{TaskInfo, SysDesc, ModuleDesc}
use Rattle.sv_packet.specs.declared.event.Event.TheVariants.{NameResource, Print, EndCall, Opaque}
use Rattle.sv_packet.specs.Table.{fields, Field, Number, Text, Raw}
use Rattle.sv_packet.specs.Spelling.{field_spelling, fields_spelling, payload_of, HasTexts, IsShort}

abbrev pub weight : Field → ℕ
weight (Number value) = 5
weight (Text text) = 3 + length text
weight (Raw raw) = length raw

abbrev pub weights : List Field → ℕ
weights [] = 0
weights (field ∷ fs) = weight field + weights fs

pub text_small : (text : List ℕ) → length (text_spelling text) ≤ 3 + length text
text_small text = elim (cases_lt (length text) 255) [
  | inl short ↦ omega (arith, ap length (text_spelling-short text short))
  | inr long ↦ omega (arith, ap length (text_spelling-long text long))
]

field_small : (field : Field) → length (field_spelling field) ≤ weight field
field_small (Number value) = of_few 4 value
field_small (Text text) = text_small text
field_small (Raw raw) = omega arith

pub fields_small : (fs : List Field) → length (fields_spelling fs) ≤ weights fs
fields_small [] = omega arith
fields_small (field ∷ fs) = omega (
  arith,
  length-append (field_spelling field) (fields_spelling fs),
  field_small field,
  fields_small fs,
)

pub args_weight : (args : List ℕ) → weights (map Number args) ≡ 5 * length args
args_weight [] = refl
args_weight (arg ∷ args) = omega (arith, args_weight args)

-- a packet of short texts, few arguments and a short payload has at most 196 bytes of payload
fields_weight : (event : Event) → HasTexts 128 event → IsShort event → weights (fields event) ≤ 196
fields_weight (TaskInfo task priority name) texts short = omega (arith, texts.1.1.0)
fields_weight (SysDesc text) texts short = omega (arith, texts.0)
fields_weight (ModuleDesc number offset text) texts short = omega (arith, texts.1.1.0)
fields_weight (NameResource resource text) texts short = omega (arith, texts.1.0)
fields_weight (Print text options args) texts short = omega (arith, texts.0, args_weight args)
fields_weight (EndCall event None) texts short = omega arith
fields_weight (EndCall event (Some value)) texts short = omega arith
fields_weight (Opaque id payload) texts short = omega arith
fields_weight other texts short = omega arith

pub payload_small : (event : Event) → HasTexts 128 event → IsShort event →
    length (payload_of event) ≤ 196
payload_small event texts short =
    omega (arith, fields_small (fields event), fields_weight event texts short)

-- an event that holds numbers alone has four at most
numbers_weight : (event : Event) → ((a b : ℕ) (t : List ℕ) → event ≡ TaskInfo a b t → ⊥) →
    ((t : List ℕ) → event ≡ SysDesc t → ⊥) → ((a b : ℕ) (t : List ℕ) → event ≡ ModuleDesc a b t → ⊥)
    → ((a : ℕ) (t : List ℕ) → event ≡ NameResource a t → ⊥) →
    ((t : List ℕ) (a : ℕ) (args : List ℕ) → event ≡ Print t a args → ⊥) →
    ((a : ℕ) (t : List ℕ) → event ≡ Opaque a t → ⊥) → weights (fields event) ≤ 20
numbers_weight (TaskInfo a b t) n1 n2 n3 n4 n5 n6 = absurd (n1 a b t refl)
numbers_weight (SysDesc t) n1 n2 n3 n4 n5 n6 = absurd (n2 t refl)
numbers_weight (ModuleDesc a b t) n1 n2 n3 n4 n5 n6 = absurd (n3 a b t refl)
numbers_weight (NameResource a t) n1 n2 n3 n4 n5 n6 = absurd (n4 a t refl)
numbers_weight (Print t a args) n1 n2 n3 n4 n5 n6 = absurd (n5 t a args refl)
numbers_weight (Opaque a t) n1 n2 n3 n4 n5 n6 = absurd (n6 a t refl)
numbers_weight (EndCall event None) n1 n2 n3 n4 n5 n6 = omega arith
numbers_weight (EndCall event (Some value)) n1 n2 n3 n4 n5 n6 = omega arith
numbers_weight other n1 n2 n3 n4 n5 n6 = omega arith

pub numbers_small : (event : Event) → ((a b : ℕ) (t : List ℕ) → event ≡ TaskInfo a b t → ⊥) →
    ((t : List ℕ) → event ≡ SysDesc t → ⊥) → ((a b : ℕ) (t : List ℕ) → event ≡ ModuleDesc a b t → ⊥)
    → ((a : ℕ) (t : List ℕ) → event ≡ NameResource a t → ⊥) →
    ((t : List ℕ) (a : ℕ) (args : List ℕ) → event ≡ Print t a args → ⊥) →
    ((a : ℕ) (t : List ℕ) → event ≡ Opaque a t → ⊥) → length (payload_of event) ≤ 20
numbers_small event n1 n2 n3 n4 n5 n6 =
    omega (arith, fields_small (fields event), numbers_weight event n1 n2 n3 n4 n5 n6)

pub plain_small : (ns : List ℕ) → length (fields_spelling (map Number ns)) ≤ 5 * length ns
plain_small ns = omega (arith, fields_small (map Number ns), args_weight ns)

texted_weight : (ns text : List ℕ) →
    weights (map Number ns ++ Text text ∷ []) ≡ 5 * length ns + (3 + length text)
texted_weight [] text = omega arith
texted_weight (n ∷ ns) text = omega (arith, texted_weight ns text)

pub texted_small : (ns text : List ℕ) →
    length (fields_spelling (map Number ns ++ Text text ∷ [])) ≤ 5 * length ns + (3 + length text)
texted_small ns text =
    omega (arith, fields_small (map Number ns ++ Text text ∷ []), texted_weight ns text)
