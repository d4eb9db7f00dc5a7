-- What is told of any bytes at each part of a packet, and whether a payload is a form.
use Rattle.std.proofs.Common.{◌≡◌, ◌≢◌, ℕ, zero, suc, ◌+◌, ◌-◌, ◌*◌, ◌<◌, ◌≤◌, ◌⊎◌, Bool, true}
use Rattle.std.proofs.Common.{false, List, [], ◌∷◌, ◌++◌, length, take, drop, Option, Some, None}
use Rattle.std.proofs.Common.{refl, sym, ap, subst, ◌∙◌, arith, inl, inr}
use Rattle.std.proofs.lemmas.Bool.{cases_lt, cases_eq}
use Rattle.std.proofs.lemmas.List.{append-nil, take-append-drop}
use Rattle.sv_prim.specs.declared.got.Reason.{Reason}
use Rattle.sv_prim.specs.declared.got.Reason.TheVariants.{BadNumber, BadId}
use Rattle.sv_prim.specs.declared.got.Got.{Got}
use Rattle.sv_prim.specs.declared.got.Got.TheVariants.{Value, Short, Bad}
use Rattle.sv_prim.specs.Code.{Tells, IsTotal, IsPair, PairReason, Always}
use Rattle.sv_prim.specs.Number.{IsNumber, number_reason}
use Rattle.sv_prim.specs.Text.{AreBytes, IsText}
use Rattle.sv_prim.specs.TextAt.{text_reason}
use Rattle.sv_prim.proofs.Shared.{carried_total, number_free, number_total, pair_free, pair_total}
use Rattle.sv_prim.proofs.Shared.{text_free, text_total, zero_number}
use Rattle.sv_packet.specs.declared.event.Event.{Event}
use Rattle.sv_packet.specs.declared.event.Event.TheVariants as event
use Rattle.sv_packet.specs.Table.{identifier}
use Rattle.sv_packet.specs.Packet.{IsShortNumber, IsOpaque, IsForm}
use Rattle.sv_packet.specs.Shape.{number_count, ends_in_text}
use Rattle.sv_packet.specs.Parts.{IsIdentifier, AreNumbers, IsTextIf, IsOfSize}
use Rattle.sv_packet.specs.Reason.{Never}
use Rattle.sv_packet.specs.Forms.{IsRegularForm, IsCountedId}
use Rattle.sv_packet.specs.Made.{IsEventOf}
use Rattle.sv_packet.proofs.how_long.Counts.{numbers_free, numbers_some, FirstNumbers, numbers_of_first}
use Rattle.sv_packet.proofs.how_long.Counts.{first_of_numbers, numbers_of_one, one_of_numbers, same_reason}
use Rattle.sv_packet.proofs.told_of_parts.Pieces.{size_short, size_begins}
use Rattle.sv_packet.proofs.one_spelling.Shorts.{cut_short, breaks, identifier_short, identifier_breaks}
use Rattle.sv_packet.proofs.one_spelling.Shorts.{breaks_at_23}
use Rattle.sv_packet.proofs.told_of_parts.Formed.{text_if_free}
use Rattle.sv_packet.proofs.told_of_parts.Payloads.{IsRegularPayload, form_regular, regular_form, IsArguments}
use Rattle.sv_packet.proofs.told_of_parts.Payloads.{IsOptions, IsPrintPayload, form_print, print_form}
use Rattle.sv_packet.proofs.told_of_parts.Payloads.{IsEndPayload, form_end, end_form}
use Rattle.sv_packet.proofs.told_of_parts.Known.{known_kept, opaque_event}
use Rattle.sv_packet.proofs.told_of_parts.Whole.{whole_decided}

-- ---- the parts

pub some_number : {A : Type 0} (S : A → List ℕ → Type 0) (a : A) (front : List ℕ) → S a front →
    (n : ℕ) × (bytes : List ℕ) × IsNumber n bytes
some_number S a front s = (0, 0 ∷ [], zero_number)

pub some_count : {A : Type 0} (S : A → List ℕ → Type 0) (count : ℕ) (a : A) (front : List ℕ) →
    S a front → (ns : List ℕ) × (bytes : List ℕ) × AreNumbers count ns bytes
some_count S count a front s = numbers_some count

pub some_text : (there : Bool) → (text : List ℕ) × (bytes : List ℕ) × IsTextIf there text bytes
some_text true = ([], 0 ∷ [], (tt, inl (record { most = omega arith; whole = refl })))
some_text false = ([], [], (refl, refl))

pub some_text_if : {A : Type 0} (S : A → List ℕ → Type 0) (there : Bool) (a : A) (front : List ℕ) →
    S a front → (text : List ℕ) × (bytes : List ℕ) × IsTextIf there text bytes
some_text_if S there a front s = some_text there

none_total : IsTotal (AreNumbers 0) number_reason
none_total bytes are = (Value [] 0, record { within = omega arith; spelled = (refl, refl) })

one_total : IsTotal (AreNumbers 1) number_reason
one_total =
    carried_total IsNumber (AreNumbers 1) one_of_numbers
    (λ n bytes s. (n ∷ [], numbers_of_one n bytes s)) number_reason number_reason
    (λ front reason is. is) number_total

pub numbers_total : (count : ℕ) → IsTotal (AreNumbers count) number_reason
numbers_total zero = none_total
numbers_total (suc count) =
    let both =
    pair_total (AreNumbers 1) (λ (ns : List ℕ). AreNumbers count) (numbers_free 1)
    (some_count (AreNumbers 1) count) number_reason (λ (ns : List ℕ). number_reason)
    one_total (λ ns front s. numbers_total count) in
    let all =
    carried_total (FirstNumbers 1 count) (AreNumbers (1 + count)) (first_of_numbers 1 count)
    (numbers_of_first 1 count) _ number_reason (same_reason (AreNumbers 1) BadNumber)
    both in
    subst (λ (k : ℕ). IsTotal (AreNumbers k) number_reason) (omega arith) all

pub text_if_total : (there : Bool) → IsTotal (IsTextIf there) text_reason
text_if_total true bytes are = text_total bytes are
text_if_total false bytes are =
    (Value [] 0, record { within = omega arith; spelled = (refl, refl) })

pub size_total : (size : ℕ) → IsTotal (IsOfSize size) Never
size_total size bytes are = elim (cases_lt (length bytes) size) [
  | inl less ↦ (Short, size_short size bytes are less)
  | inr le ↦ (Value (take size bytes) size, size_begins size bytes are le)
]

two_spelled : (b c : ℕ) (rest : List ℕ) (reason : Reason) → AreBytes (b ∷ c ∷ rest) → 128 ≤ b →
    (got : Got ℕ) × Tells IsShortNumber (Always reason) (b ∷ c ∷ rest) got
two_spelled b c rest reason are high = elim (cases_lt 0 c) [
  | inr none ↦ (
    Bad 1 reason,
    (breaks (b ∷ c ∷ rest) are (omega arith) high (λ is. omega (arith, is.0)), refl),
  )
  | inl some ↦ elim (cases_lt c 128) [
    | inr wide ↦ (
      Bad 1 reason,
      (breaks (b ∷ c ∷ rest) are (omega arith) high (λ is. omega (arith, is.1)), refl),
    )
    | inl fits ↦
        let first : b ≡ b - 128 + 128 = omega arith in (
          Value (b - 128 + 128 * c) 2,
          record {
            within = omega arith;
            spelled = inr (record {
              low = b - 128;
              rest = c;
              low_bits = omega (arith, are.0);
              rest_bits = fits;
              sum = refl;
              least = omega arith;
              whole = ap (λ (k : ℕ). k ∷ c ∷ []) first;
            });
          },
        )
  ]
]

pub short_total : (reason : Reason) → IsTotal IsShortNumber (Always reason)
short_total reason [] are = (Short, cut_short [] are (omega arith) (λ some. absurd (omega arith)))
short_total reason (b ∷ rest) are = elim (cases_lt b 128) [
  | inl low ↦ (Value b 1, record { within = omega arith; spelled = inl (low, refl) })
  | inr high ↦ behind rest are high
]
  where
    behind : (rest : List ℕ) → AreBytes (b ∷ rest) → 128 ≤ b →
        (got : Got ℕ) × Tells IsShortNumber (Always reason) (b ∷ rest) got
    behind [] are high = (Short, cut_short (b ∷ []) are (omega arith) (λ some. high))
    behind (c ∷ rest) are high = two_spelled b c rest reason are high

-- what is told of the short number at the front is told of an identifier, where that is not 23
as_identifier : (bytes : List ℕ) (got : Got ℕ) → Tells IsShortNumber (Always BadId) bytes got →
    (got : Got ℕ) × Tells IsIdentifier (Always BadId) bytes got
as_identifier bytes (Value n used) p = elim (cases_eq n 23) [
  | inl is ↦
      let first = take used bytes in
      let s : IsShortNumber 23 first = subst (λ (k : ℕ). IsShortNumber k first) is p.spelled in (
        Bad 0 BadId,
        (breaks_at_23 bytes first (drop used bytes) s (take-append-drop used bytes), refl),
      )
  | inr other ↦ (Value n used, record { within = p.within; spelled = (p.spelled, other) })
]
as_identifier bytes Short p = (Short, identifier_short bytes p)
as_identifier bytes (Bad place reason) p =
    (Bad place reason, (identifier_breaks bytes place p.0, p.1))

pub identifier_total : IsTotal IsIdentifier (Always BadId)
identifier_total bytes are = let (got, told) = short_total BadId bytes are in
    as_identifier bytes got told

-- ---- whole payloads

regular_decided : (id : ℕ) (payload : List ℕ) → IsRegularForm id → AreBytes payload →
    IsForm id payload ⊎ (IsForm id payload → ⊥)
regular_decided id payload form are =
    let S = AreNumbers (number_count id) in
    let T = λ (ns : List ℕ). IsTextIf (ends_in_text id) in
    let some = some_text_if S (ends_in_text id) in
    let free =
    pair_free S T (numbers_free (number_count id)) some
    (λ ns. text_if_free (ends_in_text id)) in
    let total =
    pair_total S T (numbers_free (number_count id)) some number_reason
    (λ (ns : List ℕ). text_reason) (numbers_total (number_count id))
    (λ ns front s. text_if_total (ends_in_text id)) in
    elim (whole_decided (IsRegularPayload id) free
    (PairReason S number_reason (λ (ns : List ℕ). text_reason)) total payload are) [
      | inl (v, p) ↦ inl (regular_form id payload form v p)
      | inr none ↦ inr (λ f. let (v, p) = form_regular id payload form f in none v p)
    ]

some_args : (n : ℕ) (front : List ℕ) → IsNumber n front →
    (ns : List ℕ) × (bytes : List ℕ) × AreNumbers n ns bytes
some_args n front s = numbers_some n

some_arguments : (options : ℕ) → (v : ℕ × List ℕ) × (bytes : List ℕ) × IsArguments options v bytes
some_arguments options = (
  (0, []),
  0 ∷ [],
  record {
    first = 0 ∷ [];
    second = [];
    first_spelled = zero_number;
    second_spelled = (refl, refl);
    whole = refl;
  },
)

some_options : (text : List ℕ) → (v : ℕ × (ℕ × List ℕ)) × (bytes : List ℕ) × IsOptions text v bytes
some_options text =
    let (v, bytes, s) = some_arguments 0 in (
      (0, v),
      0 ∷ bytes,
      record {
        first = 0 ∷ [];
        second = bytes;
        first_spelled = zero_number;
        second_spelled = s;
        whole = refl;
      },
    )

abbrev ArgumentsReason : List ℕ → Reason → Type 0
ArgumentsReason = PairReason IsNumber number_reason (λ (n : ℕ). number_reason)

abbrev OptionsReason : List ℕ → Reason → Type 0
OptionsReason = PairReason IsNumber number_reason (λ (options : ℕ). ArgumentsReason)

abbrev PrintReason : List ℕ → Reason → Type 0
PrintReason = PairReason IsText text_reason (λ (text : List ℕ). OptionsReason)

print_decided : (payload : List ℕ) → AreBytes payload → IsForm 26 payload ⊎ (IsForm 26 payload → ⊥)
print_decided payload are =
    let args_free =
    λ (options : ℕ). pair_free IsNumber AreNumbers number_free some_args numbers_free in
    let args_total =
    λ (options : ℕ).
    pair_total IsNumber AreNumbers number_free some_args number_reason
    (λ (n : ℕ). number_reason) number_total (λ n front s. numbers_total n) in
    let options_free =
    λ (text : List ℕ).
    pair_free IsNumber IsArguments number_free (λ options front s. some_arguments options)
    args_free in
    let options_total =
    λ (text : List ℕ).
    pair_total IsNumber IsArguments number_free (λ options front s. some_arguments options)
    number_reason (λ (options : ℕ). ArgumentsReason) number_total
    (λ options front s. args_total options) in
    let free =
    pair_free IsText IsOptions text_free (λ text front s. some_options text) options_free in
    let total =
    pair_total IsText IsOptions text_free (λ text front s. some_options text) text_reason
    (λ (text : List ℕ). OptionsReason) text_total (λ text front s. options_total text) in
    elim (whole_decided IsPrintPayload free PrintReason total payload are) [
      | inl (v, p) ↦ inl (print_form payload v p)
      | inr none ↦ inr (λ f. let (v, p) = form_print payload f in none v p)
    ]

end_decided : (payload : List ℕ) → AreBytes payload → IsForm 28 payload ⊎ (IsForm 28 payload → ⊥)
end_decided payload are =
    let T = λ (call : ℕ). IsNumber in
    let some = some_number IsNumber in
    let free = pair_free IsNumber T number_free some (λ call. number_free) in
    let total =
    pair_total IsNumber T number_free some number_reason (λ (call : ℕ). number_reason)
    number_total (λ call front s. number_total) in
    elim (whole_decided IsNumber number_free number_reason number_total payload are) [
      | inl (n, s) ↦ inl (end_form payload (n, None) (record {
        first = payload;
        second = [];
        first_spelled = s;
        second_spelled = refl;
        whole = sym (append-nil payload);
      }))
      | inr no_one ↦
          elim (whole_decided (IsPair IsNumber T) free ArgumentsReason total payload are) [
            | inl (v, p) ↦ inl (end_form payload (v.0, Some v.1) (record {
              first = p.first;
              second = p.second;
              first_spelled = p.first_spelled;
              second_spelled = p.second_spelled;
              whole = p.whole;
            }))
            | inr no_two ↦
                inr (λ f. let (v, p) = form_end payload f in neither no_one no_two v.0 v.1 p)
          ]
    ]
  where
    neither : ((n : ℕ) → IsNumber n payload → ⊥) →
        ((v : ℕ × ℕ) → IsPair IsNumber (λ (call : ℕ). IsNumber) v payload → ⊥) →
        (call : ℕ) (value : Option ℕ) → IsEndPayload (call, value) payload → ⊥
    neither no_one no_two call None p =
        no_one call
        (subst (IsNumber call)
        (sym (p.whole ∙ ap (λ (k : List ℕ). p.first ++ k) p.second_spelled ∙ append-nil p.first))
        p.first_spelled)
    neither no_one no_two call (Some value) p = no_two (call, value) (record {
      first = p.first;
      second = p.second;
      first_spelled = p.first_spelled;
      second_spelled = p.second_spelled;
      whole = p.whole;
    })

-- a form has an identifier below 30
form_low : (event : Event) → (IsOpaque event → ⊥) → identifier event ≤ 29
form_low (event.Opaque id payload) known = absurd (known tt)
form_low other known = omega arith

pub form_decided : (id : ℕ) (payload : List ℕ) → 24 ≤ id → AreBytes payload →
    IsForm id payload ⊎ (IsForm id payload → ⊥)
form_decided id payload high are =
    elim (cases_eq id 26) [
      | inl is ↦
          subst (λ (k : ℕ). IsForm k payload ⊎ (IsForm k payload → ⊥)) (sym is)
          (print_decided payload are)
      | inr no_print ↦ elim (cases_eq id 28) [
        | inl is ↦
            subst (λ (k : ℕ). IsForm k payload ⊎ (IsForm k payload → ⊥)) (sym is)
            (end_decided payload are)
        | inr no_end ↦ elim (cases_lt id 30) [
          | inl low ↦ regular_decided id payload (regular_form_id id high low no_print no_end) are
          | inr beyond ↦
              inr (λ (event, known, same, s). let low = form_low event known in omega (
                arith,
                same,
                low,
                beyond,
              ))
        ]
      ]
    ]
  where
    regular_form_id : (id : ℕ) → 24 ≤ id → id < 30 → id ≢ 26 → id ≢ 28 → IsRegularForm id
    regular_form_id id high low no_print no_end = elim (cases_eq id 24) [
      | inl is ↦ inl is
      | inr a ↦ elim (cases_eq id 25) [
        | inl is ↦ inr (inl is)
        | inr b ↦ elim (cases_eq id 27) [
          | inl is ↦ inr (inr (inl is))
          | inr c ↦ inr (inr (inr (omega (arith, high, low, no_print, no_end, a, b, c))))
        ]
      ]
    ]

-- any bytes under a length field are the payload of an event
pub event_exists : (id : ℕ) (payload : List ℕ) → IsCountedId id → AreBytes payload →
    (event : Event) × IsEventOf id payload event
event_exists id payload counted are = elim (form_decided id payload counted.0 are) [
  | inl (event, known, same, s) ↦
      (event, record { same = same; kept = known_kept event known; spelled = s })
  | inr none ↦ (event.Opaque id payload, opaque_event id payload counted are none)
]
