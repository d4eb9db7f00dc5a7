-- Which events a recorder takes, by the kinds of their fields.
use Rattle.std.proofs.Common.{◌≡◌, ℕ, ◌≤◌, List, [], ◌∷◌, map, length, Some, None, refl, ap, rules}
use Rattle.std.proofs.Common.{arith}
use Rattle.std.specs.Prelude.{IsTrue, nat_le}
use Rattle.std.specs.List.{AllByRecursion}
use Rattle.std.proofs.lemmas.Bool.Decides.{nat_tests}
use Rattle.sv_packet.specs.declared.event.Event.{Event}
use Rattle.sv_packet.specs.declared.event.Event.TheVariants.{TaskInfo, SysDesc, ModuleDesc}
use Rattle.sv_packet.specs.declared.event.Event.TheVariants.{NameResource, Print, EndCall, Opaque}
use Rattle.sv_packet.specs.Table.{identifier, fields, Field, Number, Text, Raw}
use Rattle.sv_packet.specs.Packet.{IsForm, IsOpaque, IsKeptAsBytes}
use Rattle.sv_packet.specs.Spelling.{IsTextWithin, HasTexts, IsShort, IsValid, IsRecordable}
use Rattle.sv_packet.proofs.how_long.Sizes.{fields_small, payload_small}

-- texts that are short enough for a recorder are short enough
longer_texts : (fs : List Field) → AllByRecursion (IsTextWithin 128) fs →
    AllByRecursion (IsTextWithin 65535) fs
longer_texts [] all = tt
longer_texts (Number value ∷ fs) all = (tt, longer_texts fs all.1)
longer_texts (Text text ∷ fs) all = (omega (arith, all.0), longer_texts fs all.1)
longer_texts (Raw raw ∷ fs) all = (tt, longer_texts fs all.1)

pub short_recordable : (event : Event) → HasTexts 128 event → IsShort event → IsKeptAsBytes event →
    IsRecordable event
short_recordable event texts short kept = record {
  valid = record {
    texts = longer_texts (fields event) texts;
    payload = λ high. omega (arith, payload_small event texts short);
    as_bytes = kept;
  };
  texts = texts;
  short = short;
}

number_fields : (most : ℕ) (args : List ℕ) → AllByRecursion (IsTextWithin most) (map Number args)
number_fields most [] = tt
number_fields most (arg ∷ args) = (tt, number_fields most args)

pub print_recordable : (text : List ℕ) (options : ℕ) (args : List ℕ) → length text ≤ 128 →
    length args ≤ 8 → IsRecordable (Print text options args)
print_recordable text options args most few =
    short_recordable (Print text options args) (most, (tt, (tt, number_fields 128 args))) few tt

-- a test of the number of arguments tells whether a print with a short text is taken
pub print_law : (text shown_text args shown : List ℕ) (options : ℕ) → shown_text ≡ text →
    shown ≡ args → length shown_text ≤ 128
    → (IsTrue (nat_le (length shown) 8) → IsRecordable (Print text options args)) ×
    (IsRecordable (Print text options args) → IsTrue (nat_le (length shown) 8))
print_law text shown_text args shown options same_text same most = (
  λ yes. let few : length shown ≤ 8 = grind (arith, nat_tests) in
      print_recordable text options args (omega (arith, ap length same_text)) (omega (
        arith,
        ap length same,
      )),
  λ r. let few : length shown ≤ 8 = omega (arith, r.short, ap length same) in
      grind (arith, nat_tests),
)

pub opaque_recordable : (id : ℕ) (payload : List ℕ) → 24 ≤ id → id ≤ 16383 → length payload ≤ 64 →
    (IsForm id payload → ⊥) → IsRecordable (Opaque id payload)
opaque_recordable id payload least most few no_form =
    short_recordable (Opaque id payload) (tt, tt) few (least, most, no_form)

-- an event that holds numbers alone
pub numbers_recordable : (event : Event) → ((a b : ℕ) (t : List ℕ) → event ≡ TaskInfo a b t → ⊥) →
    ((t : List ℕ) → event ≡ SysDesc t → ⊥) → ((a b : ℕ) (t : List ℕ) → event ≡ ModuleDesc a b t → ⊥)
    → ((a : ℕ) (t : List ℕ) → event ≡ NameResource a t → ⊥) →
    ((t : List ℕ) (a : ℕ) (args : List ℕ) → event ≡ Print t a args → ⊥) →
    ((a : ℕ) (t : List ℕ) → event ≡ Opaque a t → ⊥) → IsRecordable event
numbers_recordable (TaskInfo a b t) n1 n2 n3 n4 n5 n6 = absurd (n1 a b t refl)
numbers_recordable (SysDesc t) n1 n2 n3 n4 n5 n6 = absurd (n2 t refl)
numbers_recordable (ModuleDesc a b t) n1 n2 n3 n4 n5 n6 = absurd (n3 a b t refl)
numbers_recordable (NameResource a t) n1 n2 n3 n4 n5 n6 = absurd (n4 a t refl)
numbers_recordable (Print t a args) n1 n2 n3 n4 n5 n6 = absurd (n5 t a args refl)
numbers_recordable (Opaque a t) n1 n2 n3 n4 n5 n6 = absurd (n6 a t refl)
numbers_recordable (EndCall event None) n1 n2 n3 n4 n5 n6 =
    short_recordable (EndCall event None) (tt, tt) tt tt
numbers_recordable (EndCall event (Some value)) n1 n2 n3 n4 n5 n6 =
    short_recordable (EndCall event (Some value)) (tt, (tt, tt)) tt tt
numbers_recordable other n1 n2 n3 n4 n5 n6 = short_recordable other (search rules) tt tt

-- no form has an identifier from 30 on
form_low : (event : Event) → (IsOpaque event → ⊥) → identifier event ≤ 29
form_low (Opaque id payload) known = absurd (known tt)
form_low other known = omega arith

pub high_valid : (id : ℕ) (payload : List ℕ) → 30 ≤ id → id ≤ 16383 → length payload ≤ 16383 →
    IsValid (Opaque id payload)
high_valid id payload high most few = record {
  texts = (tt, tt);
  payload = λ counted. omega (arith, fields_small (Raw payload ∷ []));
  as_bytes = (
    omega arith,
    most,
    λ (event, known, same, spelled). omega (arith, form_low event known, same),
  );
}
