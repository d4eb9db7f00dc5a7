-- What was read of a payload under a length field, and the event that it tells.
use Rattle.std.proofs.Common.{◌≡◌, ℕ, ◌-◌, Bool, List, [], length, take, drop, Option, Some, None}
use Rattle.std.proofs.Common.{refl, sym, ap, subst, ◌∙◌, inl, inr}
use Rattle.std.specs.Prelude.{IsTrue, ◌↔◌, MatchOption}
use Rattle.std.specs.Option.{is_some}
use Rattle.std.proofs.lemmas.List.{append-nil}
use Rattle.sv_prim.specs.Text.{AreBytes, IsText}
use Rattle.sv_prim.specs.Number.{IsNumber}
use Rattle.sv_packet.specs.declared.event.Event.{Event}
use Rattle.sv_packet.specs.declared.event.Event.TheVariants as event
use Rattle.sv_packet.specs.declared.counted.Form.{Form}
use Rattle.sv_packet.specs.declared.counted.Form.TheVariants.{Regular, Print, EndCall}
use Rattle.sv_packet.specs.declared.reader.Reader.{Reader}
use Rattle.sv_packet.specs.declared.reader.Four.{Four}
use Rattle.sv_packet.specs.Table.{identifier, fields, Field}
use Rattle.sv_packet.specs.Packet.{AreFields, IsOpaque, IsForm, IsKeptAsBytes}
use Rattle.sv_packet.specs.Shape.{number_count, fields_by}
use Rattle.sv_packet.specs.Parts.{AreNumbers}
use Rattle.sv_packet.specs.Forms.{IsRegularForm, IsCountedId, IsFormOf}
use Rattle.sv_packet.specs.Made.{IsMade, IsEventOf}
use Rattle.sv_packet.specs.Reader.{left, TakesPart, numbers_in}
use Rattle.sv_packet.proofs.how_long.Counts.{numbers_free}
use Rattle.sv_packet.proofs.told_of_parts.Making.{can_make}
use Rattle.sv_packet.proofs.told_of_parts.Payloads.{made_known, as_regular}
use Rattle.sv_packet.proofs.told_of_parts.Pieces.{slice_from}

pub known_kept : (event : Event) → (IsOpaque event → ⊥) → IsKeptAsBytes event
known_kept (event.Opaque id payload) known = absurd (known tt)
known_kept other known = tt

four_count : (id : ℕ) → IsRegularForm id → (four : Four) →
    length (numbers_in (number_count id) four) ≡ number_count id
four_count id (inl is) four =
    subst (λ (k : ℕ). length (numbers_in (number_count k) four) ≡ number_count k) (sym is) refl
four_count id (inr (inl is)) four =
    subst (λ (k : ℕ). length (numbers_in (number_count k) four) ≡ number_count k) (sym is) refl
four_count id (inr (inr (inl is))) four =
    subst (λ (k : ℕ). length (numbers_in (number_count k) four) ≡ number_count k) (sym is) refl
four_count id (inr (inr (inr is))) four =
    subst (λ (k : ℕ). length (numbers_in (number_count k) four) ≡ number_count k) (sym is) refl

end_known : (call : ℕ) (value : Option ℕ) →
    (IsOpaque (event.EndCall call value) → ⊥) × (identifier (event.EndCall call value) ≡ 28)
end_known call value = ((λ opaque. opaque), refl)

-- what was read is a form
pub form_of : (id : ℕ) (payload : List ℕ) (form : Form) → IsFormOf id payload form →
    IsForm id payload
form_of id payload (Regular four text) (is, s) =
    let ns = numbers_in (number_count id) four in
    let (event, m) = can_make id (as_regular id is) ns text.now (four_count id is four) in (
      event,
      made_known id ns text.now event m,
      m.same,
      subst (λ (fs : List Field). AreFields fs payload) (sym m.parts) s,
    )
form_of id payload (Print text options count args) (is, ns, many, s) =
    (event.Print text.now options ns, (λ opaque. opaque), sym is, s)
form_of id payload (EndCall call value) (is, s) = let known = end_known call value in
    (event.EndCall call value, known.0, known.1 ∙ sym is, s)

pub form_found : (id : ℕ) (payload : List ℕ) (form : Option Form) (found : Bool) →
    found ≡ is_some form → MatchOption form (IsForm id payload → ⊥) (IsFormOf id payload) →
    IsTrue found ↔ IsForm id payload
form_found id payload None found e none = (λ is. absurd cc, λ form. absurd (none form))
form_found id payload (Some form) found e s = (λ is. form_of id payload form s, λ is. cc)

-- ---- events

pub opaque_event : (id : ℕ) (payload : List ℕ) → IsCountedId id → AreBytes payload →
    (IsForm id payload → ⊥) → IsEventOf id payload (event.Opaque id payload)
opaque_event id payload counted are none = record {
  same = refl;
  kept = (counted.0, counted.1, none);
  spelled = (payload, [], (are, refl), refl, sym (append-nil payload));
}

pub regular_made : (id : ℕ) (payload : List ℕ) (four : Four) (text : List ℕ) (event : Event) →
    AreFields (fields_by id (numbers_in (number_count id) four) text) payload →
    IsMade id (numbers_in (number_count id) four) text event → IsEventOf id payload event
regular_made id payload four text event s m = record {
  same = m.same;
  kept = known_kept event (made_known id (numbers_in (number_count id) four) text event m);
  spelled = subst (λ (fs : List Field). AreFields fs payload) (sym m.parts) s;
}

pub print_event :
    (id : ℕ) (payload : List ℕ) (text args : List ℕ) (options count : ℕ) (numbers : List ℕ) →
    id ≡ 26 →
    ((ns : List ℕ) × AreNumbers count ns args ×
    AreFields (fields (event.Print text options ns)) payload) → AreNumbers count numbers args →
    IsEventOf id payload (event.Print text options numbers)
print_event id payload text args options count numbers is (ns, many, s) taken =
    let same = (numbers_free count ns numbers args args [] [] many taken refl).1 in
    record {
      same = sym is;
      kept = tt;
      spelled =
          subst (λ (k : List ℕ). AreFields (fields (event.Print text options k)) payload) same s;
    }

-- ---- what stands behind a text and two numbers

pub behind_three : (old m1 m2 m3 : Reader) (text : List ℕ) (options count : ℕ) →
    TakesPart IsText old m1 text → TakesPart IsNumber m1 m2 options → TakesPart IsNumber m2 m3 count →
    take (length old.bytes.now - m3.at) (drop m3.at old.bytes.now) ≡ left m3
behind_three old m1 m2 m3 text options count t u w =
    let same : m3.bytes.now ≡ old.bytes.now = w.same ∙ u.same ∙ t.same in
    ap (λ (b : List ℕ). take (length b - m3.at) (drop m3.at b)) (sym same)
    ∙ slice_from m3.bytes.now m3.at m3.within
