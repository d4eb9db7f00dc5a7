-- Events from their identifier, their numbers and their text, where the identifier alone tells how
-- many there are.
use Rattle.std.proofs.Common.{◌≡◌, ℕ, zero, suc, ◌<◌, List, [], ◌∷◌, length, refl, sym, ap, subst}
use Rattle.std.proofs.Common.{◌∙◌, arith, inl, inr}
use Rattle.std.proofs.lemmas.Bool.{cases_eq}
use Rattle.sv_packet.specs.declared.event.Event.{Event}
use Rattle.sv_packet.specs.declared.event.Event.TheVariants.{Nop, Overflow, IsrEnter, IsrExit}
use Rattle.sv_packet.specs.declared.event.Event.TheVariants.{TaskStart, TaskStop, TaskReady}
use Rattle.sv_packet.specs.declared.event.Event.TheVariants.{TaskUnready, TaskCreate, TaskInfo}
use Rattle.sv_packet.specs.declared.event.Event.TheVariants.{TraceStart, TraceStop, SystimeCycles}
use Rattle.sv_packet.specs.declared.event.Event.TheVariants.{SystimeUs, SysDesc, MarkStart}
use Rattle.sv_packet.specs.declared.event.Event.TheVariants.{MarkStop, Idle, ToScheduler}
use Rattle.sv_packet.specs.declared.event.Event.TheVariants.{TimerEnter, TimerExit, StackInfo}
use Rattle.sv_packet.specs.declared.event.Event.TheVariants.{ModuleDesc, Init, NameResource}
use Rattle.sv_packet.specs.declared.event.Event.TheVariants.{NumModules, TaskTerminate, Print}
use Rattle.sv_packet.specs.declared.event.Event.TheVariants.{EndCall, Opaque}
use Rattle.sv_packet.specs.Table.{identifier, fields}
use Rattle.sv_packet.specs.Shape.{number_count, fields_by, IsRegularId}
use Rattle.sv_packet.specs.Made.{IsMade}
use Rattle.sv_packet.proofs.one_spelling.Regular.{IsRegular}

-- ---- from an event its numbers and its text

pub record IsShaped (event : Event) : Type 0 where
  pub numbers : List ℕ
  pub text : List ℕ
  pub count : length numbers ≡ number_count (identifier event)
  pub parts : fields event ≡ fields_by (identifier event) numbers text

pub shaped : (event : Event) → IsRegular event → IsShaped event
shaped Nop regular = record { numbers = []; text = []; count = refl; parts = refl }
shaped (Overflow count) regular =
    record { numbers = count ∷ []; text = []; count = refl; parts = refl }
shaped (IsrEnter isr) regular = record { numbers = isr ∷ []; text = []; count = refl; parts = refl }
shaped IsrExit regular = record { numbers = []; text = []; count = refl; parts = refl }
shaped (TaskStart task) regular =
    record { numbers = task ∷ []; text = []; count = refl; parts = refl }
shaped TaskStop regular = record { numbers = []; text = []; count = refl; parts = refl }
shaped (TaskReady task) regular =
    record { numbers = task ∷ []; text = []; count = refl; parts = refl }
shaped (TaskUnready task cause) regular =
    record { numbers = task ∷ cause ∷ []; text = []; count = refl; parts = refl }
shaped (TaskCreate task) regular =
    record { numbers = task ∷ []; text = []; count = refl; parts = refl }
shaped (TaskInfo task priority name) regular =
    record { numbers = task ∷ priority ∷ []; text = name; count = refl; parts = refl }
shaped TraceStart regular = record { numbers = []; text = []; count = refl; parts = refl }
shaped TraceStop regular = record { numbers = []; text = []; count = refl; parts = refl }
shaped (SystimeCycles value) regular =
    record { numbers = value ∷ []; text = []; count = refl; parts = refl }
shaped (SystimeUs low high) regular =
    record { numbers = low ∷ high ∷ []; text = []; count = refl; parts = refl }
shaped (SysDesc text) regular = record { numbers = []; text = text; count = refl; parts = refl }
shaped (MarkStart id) regular = record { numbers = id ∷ []; text = []; count = refl; parts = refl }
shaped (MarkStop id) regular = record { numbers = id ∷ []; text = []; count = refl; parts = refl }
shaped Idle regular = record { numbers = []; text = []; count = refl; parts = refl }
shaped ToScheduler regular = record { numbers = []; text = []; count = refl; parts = refl }
shaped (TimerEnter timer) regular =
    record { numbers = timer ∷ []; text = []; count = refl; parts = refl }
shaped TimerExit regular = record { numbers = []; text = []; count = refl; parts = refl }
shaped (StackInfo task stack_base stack_size extra) regular = record {
  numbers = task ∷ stack_base ∷ stack_size ∷ extra ∷ [];
  text = [];
  count = refl;
  parts = refl;
}
shaped (ModuleDesc number offset text) regular =
    record { numbers = number ∷ offset ∷ []; text = text; count = refl; parts = refl }
shaped (Init sys_freq cpu_freq ram_base shift) regular = record {
  numbers = sys_freq ∷ cpu_freq ∷ ram_base ∷ shift ∷ [];
  text = [];
  count = refl;
  parts = refl;
}
shaped (NameResource resource text) regular =
    record { numbers = resource ∷ []; text = text; count = refl; parts = refl }
shaped (NumModules count) regular =
    record { numbers = count ∷ []; text = []; count = refl; parts = refl }
shaped (TaskTerminate task) regular =
    record { numbers = task ∷ []; text = []; count = refl; parts = refl }
shaped (Print text options args) regular = absurd regular
shaped (EndCall event value) regular = absurd regular
shaped (Opaque id payload) regular = absurd regular

-- ---- from numbers and a text their event

-- whatever the numbers and the text, there is an event of the identifier
abbrev pub CanMake : ℕ → Type 0
CanMake id =
    (numbers text : List ℕ) → length numbers ≡ number_count id →
    (event : Event) × IsMade id numbers text event

none : (ns : List ℕ) → length ns ≡ 0 → ns ≡ []
none [] len = refl
none (n ∷ ns) len = absurd (omega arith)

one : (ns : List ℕ) → length ns ≡ 1 → (a : ℕ) × (ns ≡ a ∷ [])
one [] len = absurd (omega arith)
one (a ∷ ns) len = let rest : ns ≡ [] = none ns (omega arith) in (a, cc)

two : (ns : List ℕ) → length ns ≡ 2 → (a : ℕ) × (b : ℕ) × (ns ≡ a ∷ b ∷ [])
two [] len = absurd (omega arith)
two (a ∷ ns) len = let (b, rest) = one ns (omega arith) in (a, b, ap (λ (k : List ℕ). a ∷ k) rest)

four : (ns : List ℕ) → length ns ≡ 4 →
    (a : ℕ) × (b : ℕ) × (c : ℕ) × (d : ℕ) × (ns ≡ a ∷ b ∷ c ∷ d ∷ [])
four [] len = absurd (omega arith)
four (a ∷ []) len = absurd (omega arith)
four (a ∷ b ∷ ns) len = let (c, d, rest) = two ns (omega arith) in
    (a, b, c, d, ap (λ (k : List ℕ). a ∷ b ∷ k) rest)

-- the event of these numbers, for those that are the same
made : (id : ℕ) (event : Event) (known numbers text : List ℕ) → identifier event ≡ id →
    fields event ≡ fields_by id known text → numbers ≡ known →
    (event : Event) × IsMade id numbers text event
made id event known numbers text same parts e = (
  event,
  record { same = same; parts = parts ∙ ap (λ (k : List ℕ). fields_by id k text) (sym e) },
)

make_none : (id : ℕ) (event : Event) → identifier event ≡ id →
    ((text : List ℕ) → fields event ≡ fields_by id [] text) → number_count id ≡ 0 → CanMake id
make_none id event same parts count numbers text len =
    made id event [] numbers text same (parts text) (none numbers (len ∙ count))

make_one : (id : ℕ) (make : ℕ → Event) → ((a : ℕ) → identifier (make a) ≡ id) →
    ((a : ℕ) (text : List ℕ) → fields (make a) ≡ fields_by id (a ∷ []) text) → number_count id ≡ 1 →
    CanMake id
make_one id make same parts count numbers text len =
    let (a, e) = one numbers (len ∙ count) in
    made id (make a) (a ∷ []) numbers text (same a) (parts a text) e

make_two : (id : ℕ) (make : ℕ → ℕ → List ℕ → Event) →
    ((a b : ℕ) (text : List ℕ) → identifier (make a b text) ≡ id) →
    ((a b : ℕ) (text : List ℕ) → fields (make a b text) ≡ fields_by id (a ∷ b ∷ []) text) →
    number_count id ≡ 2 → CanMake id
make_two id make same parts count numbers text len =
    let (a, b, e) = two numbers (len ∙ count) in
    made id (make a b text) (a ∷ b ∷ []) numbers text (same a b text) (parts a b text) e

make_four : (id : ℕ) (make : ℕ → ℕ → ℕ → ℕ → Event) →
    ((a b c d : ℕ) → identifier (make a b c d) ≡ id) →
    ((a b c d : ℕ) (text : List ℕ) →
    fields (make a b c d) ≡ fields_by id (a ∷ b ∷ c ∷ d ∷ []) text) → number_count id ≡ 4 →
    CanMake id
make_four id make same parts count numbers text len =
    let (a, b, c, d, e) = four numbers (len ∙ count) in
    made id (make a b c d) (a ∷ b ∷ c ∷ d ∷ []) numbers text (same a b c d) (parts a b c d text) e

make_described : CanMake 14
make_described numbers text len =
    made 14 (SysDesc text) [] numbers text refl refl (none numbers len)

make_named : CanMake 25
make_named numbers text len = let (a, e) = one numbers len in
    made 25 (NameResource a text) (a ∷ []) numbers text refl refl e

-- each of the first so many numbers has a property that each of them was shown to have
abbrev AllBelow : ℕ → (ℕ → Type 0) → Type 0
AllBelow zero P = Unit {0}
AllBelow (suc n) P = P n × AllBelow n P

below : (n : ℕ) (P : ℕ → Type 0) → AllBelow n P → (k : ℕ) → k < n → P k
below zero P all k lt = absurd (omega arith)
below (suc n) P all k lt = elim (cases_eq k n) [
  | inl same ↦ subst P (sym same) all.0
  | inr other ↦ below n P all.1 k (omega arith)
]

bare : (id : ℕ) → id < 23 → CanMake id
bare =
    let to_0 : AllBelow 0 CanMake = tt in
    let to_1 : AllBelow 1 CanMake = (make_none 0 Nop refl (λ text. refl) refl, to_0) in
    let to_2 : AllBelow 2 CanMake =
    (make_one 1 (λ a. Overflow a) (λ a. refl) (λ a text. refl) refl, to_1) in
    let to_3 : AllBelow 3 CanMake =
    (make_one 2 (λ a. IsrEnter a) (λ a. refl) (λ a text. refl) refl, to_2) in
    let to_4 : AllBelow 4 CanMake = (make_none 3 IsrExit refl (λ text. refl) refl, to_3) in
    let to_5 : AllBelow 5 CanMake =
    (make_one 4 (λ a. TaskStart a) (λ a. refl) (λ a text. refl) refl, to_4) in
    let to_6 : AllBelow 6 CanMake = (make_none 5 TaskStop refl (λ text. refl) refl, to_5) in
    let to_7 : AllBelow 7 CanMake =
    (make_one 6 (λ a. TaskReady a) (λ a. refl) (λ a text. refl) refl, to_6) in
    let to_8 : AllBelow 8 CanMake = (
      make_two 7 (λ a b text. TaskUnready a b) (λ a b text. refl) (λ a b text. refl) refl,
      to_7,
    ) in
    let to_9 : AllBelow 9 CanMake =
    (make_one 8 (λ a. TaskCreate a) (λ a. refl) (λ a text. refl) refl, to_8) in
    let to_10 : AllBelow 10 CanMake = (
      make_two 9 (λ a b text. TaskInfo a b text) (λ a b text. refl) (λ a b text. refl) refl,
      to_9,
    ) in
    let to_11 : AllBelow 11 CanMake = (make_none 10 TraceStart refl (λ text. refl) refl, to_10) in
    let to_12 : AllBelow 12 CanMake = (make_none 11 TraceStop refl (λ text. refl) refl, to_11) in
    let to_13 : AllBelow 13 CanMake =
    (make_one 12 (λ a. SystimeCycles a) (λ a. refl) (λ a text. refl) refl, to_12) in
    let to_14 : AllBelow 14 CanMake = (
      make_two 13 (λ a b text. SystimeUs a b) (λ a b text. refl) (λ a b text. refl) refl,
      to_13,
    ) in
    let to_15 : AllBelow 15 CanMake = (make_described, to_14) in
    let to_16 : AllBelow 16 CanMake =
    (make_one 15 (λ a. MarkStart a) (λ a. refl) (λ a text. refl) refl, to_15) in
    let to_17 : AllBelow 17 CanMake =
    (make_one 16 (λ a. MarkStop a) (λ a. refl) (λ a text. refl) refl, to_16) in
    let to_18 : AllBelow 18 CanMake = (make_none 17 Idle refl (λ text. refl) refl, to_17) in
    let to_19 : AllBelow 19 CanMake = (make_none 18 ToScheduler refl (λ text. refl) refl, to_18) in
    let to_20 : AllBelow 20 CanMake =
    (make_one 19 (λ a. TimerEnter a) (λ a. refl) (λ a text. refl) refl, to_19) in
    let to_21 : AllBelow 21 CanMake = (make_none 20 TimerExit refl (λ text. refl) refl, to_20) in
    let to_22 : AllBelow 22 CanMake = (
      make_four 21 (λ a b c d. StackInfo a b c d) (λ a b c d. refl)
          (λ a b c d text. refl) refl,
      to_21,
    ) in
    let to_23 : AllBelow 23 CanMake = (
      make_two 22 (λ a b text. ModuleDesc a b text)
          (λ a b text. refl) (λ a b text. refl) refl,
      to_22,
    ) in
    below 23 CanMake to_23

pub can_make : (id : ℕ) → IsRegularId id → CanMake id
can_make id (inl low) = bare id (omega arith)
can_make id (inr (inl is)) =
    subst CanMake (sym is)
    (make_four 24 (λ a b c d. Init a b c d) (λ a b c d. refl) (λ a b c d text. refl) refl)
can_make id (inr (inr (inl is))) = subst CanMake (sym is) make_named
can_make id (inr (inr (inr (inl is)))) =
    subst CanMake (sym is) (make_one 27 (λ a. NumModules a) (λ a. refl) (λ a text. refl) refl)
can_make id (inr (inr (inr (inr is)))) =
    subst CanMake (sym is) (make_one 29 (λ a. TaskTerminate a) (λ a. refl) (λ a text. refl) refl)
