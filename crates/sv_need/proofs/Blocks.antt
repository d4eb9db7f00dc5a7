-- How many bytes the packet of an item has at most.
use Rattle.std.proofs.Common.{◌≡◌, ℕ, ◌+◌, ◌/◌, ◌%◌, ◌^◌, ◌≤◌, true, false, cond, Option, Some}
use Rattle.std.proofs.Common.{None, List, [], ◌∷◌, ◌++◌, map, length, refl, sym, ap, subst, ◌∙◌}
use Rattle.std.proofs.Common.{arith}
use Rattle.std.specs.Prelude.{All, nat_lt, nat_le, slice_get, slice_index_or, unwrap_or}
use Rattle.std.specs.Option.{option_map_or}
use Rattle.std.proofs.lemmas.List.{length-append}
use Rattle.std.proofs.lemmas.List.Elements.{All-get_or}
use Rattle.std.proofs.lemmas.Option.{slice_get_within, get_or_from_slice_get, unwrap_or-slice_get}
use Rattle.sv_prim.specs.Number.{number_spelling}
use Rattle.sv_prim.specs.Text.{text_spelling}
use Rattle.sv_prim.proofs.Shared.{of_few, text_spelling-short}
use Rattle.sv_packet.specs.declared.event.Event.{Event}
use Rattle.sv_packet.specs.declared.event.Event.TheVariants as events
use Rattle.sv_packet.specs.Table.{identifier, Number}
use Rattle.sv_packet.specs.Spelling.{short_spelling, head_spelling, spelling_of, payload_of}
use Rattle.sv_packet.specs.Spelling.{fields_spelling}
use Rattle.sv_packet.proofs.Shared.{plain_small}
use Rattle.sv_load.specs.declared.load.Task.{Task}
use Rattle.sv_desc.specs.Modules.{ModuleRow}
use Rattle.sv_load.specs.Load.{Load}
use Rattle.sv_journal.specs.declared.journal.Kind.{Kind}
use Rattle.sv_journal.specs.declared.journal.Kind.TheVariants as kinds
use Rattle.sv_journal.specs.Items.{reply_event, system_time, task_info, stack_info}
use Rattle.sv_desc.specs.Says.{micros_at}
use Rattle.sv_journal.specs.Items.{module_desc}
use Rattle.sv_load.specs.Need.{HasShortTexts}

number_short : (value : ℕ) → length (number_spelling value) ≤ 5
number_short value = of_few 4 value

short_small : (n : ℕ) → length (short_spelling n) ≤ 2
short_small n = elim (nat_lt n 128) as (λ b. length
    (cond b (n ∷ []) ((n % 128 + 128) ∷ (n / 128) ∷ [])) ≤ 2) [
      | true ↦ omega arith
      | false ↦ omega arith
    ]

head_small : (id size : ℕ) → length (head_spelling id size) ≤ 4
head_small id size = elim (nat_le 24 id) as (λ b. length
    (cond b (short_spelling id ++ short_spelling size) (id ∷ [])) ≤ 4) [
      | true ↦ omega (
        arith,
        length-append (short_spelling id) (short_spelling size),
        short_small id,
        short_small size,
      )
      | false ↦ omega arith
    ]

-- a packet is its head, its payload and its delta
three_parts : (event : Event) (delta : ℕ) → length (spelling_of event delta) ≡ length
    (head_spelling (identifier event) (length (payload_of event))) +
    (length (payload_of event) + length (number_spelling delta))
three_parts event delta = omega (
  arith,
  length-append
      (head_spelling (identifier event) (length (payload_of event)))
      (payload_of event ++ number_spelling delta),
  length-append (payload_of event)
      (number_spelling delta),
)

no_delta : length (number_spelling 0) ≡ 1
no_delta = refl

-- a delta has at most four bytes more than the shortest
pub with_delta : (event : Event) (delta : ℕ) → length (spelling_of event delta) ≤ length
    (spelling_of event 0) + 4
with_delta event delta = omega (
  arith,
  three_parts event delta,
  three_parts event 0,
  number_short
      delta,
  no_delta,
)

-- at most four numbers
numbers_small : (event : Event) (delta : ℕ) (ns : List ℕ)
    → payload_of event ≡ fields_spelling (map Number ns) → length ns ≤ 4
    → length (spelling_of event delta) ≤ 29
numbers_small event delta ns is few = omega (
  arith,
  three_parts event delta,
  head_small
      (identifier event) (length (payload_of event)),
  ap length is,
  plain_small ns,
  number_short
      delta,
  few,
)

bare_small : (event : Event) (delta : ℕ) → payload_of event ≡ []
    → length (head_spelling (identifier event) 0) ≡ 1 → length (spelling_of event delta) ≤ 6
bare_small event delta none head = omega (
  arith,
  three_parts event delta,
  ap
      (λ (p : List ℕ). length (head_spelling (identifier event) (length p))) none,
  head,
  ap length
      none,
  number_short delta,
)

pub overflow_small : (count delta : ℕ) → length (spelling_of (events.Overflow count) delta) ≤ 11
overflow_small count delta =
    let payload : length (number_spelling count ++ []) ≤ 5 =
    omega (arith, length-append (number_spelling count) [], number_short count) in
    let head : length (head_spelling 1 (length (number_spelling count ++ []))) ≡ 1 = refl in
    omega (arith, three_parts (events.Overflow count) delta, payload, head, number_short delta)

text_small : (text : List ℕ) → length text ≤ 128 → length (text_spelling text) ≤ 129
text_small text short = omega (
  arith,
  short,
  ap length
      (text_spelling-short text (omega (arith, short))),
)

-- REPLIES

abbrev IsSmall : ℕ → Event → Type 0
IsSmall delta event = length (spelling_of event delta) ≤ 145

nop_small : (delta : ℕ) → IsSmall delta events.Nop
nop_small delta = omega (arith, bare_small events.Nop delta refl refl)

desc_small : (text : List ℕ) (delta : ℕ) → length text ≤ 128 → IsSmall delta (events.SysDesc text)
desc_small text delta short =
    let payload : length (text_spelling text ++ []) ≤ 129 =
    omega (arith, length-append (text_spelling text) [], text_small text short) in
    let head : length (head_spelling 14 (length (text_spelling text ++ []))) ≡ 1 = refl in
    omega (arith, three_parts (events.SysDesc text) delta, payload, head, number_short delta)

named_payload : (a b : ℕ) (text : List ℕ) → length text ≤ 128
    → length (number_spelling a ++ (number_spelling b ++ (text_spelling text ++ []))) ≤ 139
named_payload a b text short = omega (
  arith,
  number_short a,
  number_short b,
  text_small text short,
  length-append (number_spelling a) (number_spelling b ++ (text_spelling text ++ [])),
  length-append (number_spelling b) (text_spelling text ++ []),
  length-append (text_spelling text) [],
)

task_small : (a b : ℕ) (text : List ℕ) (delta : ℕ) → length text ≤ 128
    → IsSmall delta (events.TaskInfo a b text)
task_small a b text delta short =
    let payload : length (payload_of (events.TaskInfo a b text)) ≤ 139 =
    named_payload a b text short in
    let head : length (head_spelling 9 (length (payload_of (events.TaskInfo a b text)))) ≡ 1 =
    refl in
    omega (arith, three_parts (events.TaskInfo a b text) delta, payload, head, number_short delta)

module_small : (a b : ℕ) (text : List ℕ) (delta : ℕ) → length text ≤ 128
    → IsSmall delta (events.ModuleDesc a b text)
module_small a b text delta short =
    let payload : length (payload_of (events.ModuleDesc a b text)) ≤ 139 =
    named_payload a b text short in
    let head : length (head_spelling 22 (length (payload_of (events.ModuleDesc a b text)))) ≡ 1 =
    refl in
    omega (arith, three_parts (events.ModuleDesc a b text) delta, payload, head, number_short delta)

all-at : {X : Type 0} (P : X → Type 0) (xs : List X) (k : ℕ) (x : X) → All P xs
    → slice_get xs k ≡ Some x → P x
all-at P xs k x all is = subst P (get_or_from_slice_get xs k x x is)
    (All-get_or P xs k x (slice_get_within xs k x is) all)

abbrev IsShortText : List ℕ → Type 0
IsShortText text = length text ≤ 128

line-at : (lines : List (List ℕ)) (index : ℕ) → All IsShortText lines
    → IsShortText (slice_index_or lines index [])
line-at lines index all = by (slice_get lines index) refl
  where
    by : (o : Option (List ℕ)) → slice_get lines index ≡ o
        → IsShortText (slice_index_or lines index [])
    by (Some text) is = subst IsShortText (sym (get_or_from_slice_get lines index text [] is))
        (all-at IsShortText lines index text all is)
    by None is = subst IsShortText (ap (λ o. unwrap_or o []) (sym is)
        ∙ unwrap_or-slice_get lines index []) (omega arith)

task-at : (load : Load) (index delta : ℕ) (found : Option Task) → HasShortTexts load
    → slice_get load.tasks index ≡ found
    → IsSmall delta (option_map_or (task_info load) found events.Nop)
    × IsSmall delta (option_map_or (stack_info load) found events.Nop)
task-at load index delta None short is = (nop_small delta, nop_small delta)
task-at load index delta (Some task) short is = (
  task_small _ task.priority task.name delta (all-at (λ t. length t.name ≤ 128) load.tasks index
      task short.tasks is),
  omega (
    arith,
    numbers_small (stack_info load task) delta (_ ∷ task.stack_base ∷ task.stack_size
        ∷ task.extra ∷ []) refl (omega arith),
  ),
)

module-at : (load : Load) (index delta : ℕ) (found : Option ModuleRow) → HasShortTexts load
    → slice_get load.modules index ≡ found
    → IsSmall delta (option_map_or (module_desc load index) found events.Nop)
module-at load index delta None short is = nop_small delta
module-at load index delta (Some row) short is =
    module_small index _ row.name delta (all-at (λ r. length r.name ≤ 128) load.modules index row
    short.modules is)

time_small : (load : Load) (moment delta : ℕ) → IsSmall delta (system_time load moment)
time_small load moment delta = elim load.timed as
    (λ b. IsSmall delta (cond b (events.SystimeUs (micros_at load.clock moment % 2 ^ 32)
    (micros_at load.clock moment / 2 ^ 32)) (events.SystimeCycles (moment % 2 ^ 32)))) [
      | true ↦ omega (
        arith,
        numbers_small (events.SystimeUs (micros_at load.clock moment % 2 ^ 32)
            (micros_at load.clock moment / 2 ^ 32)) delta ((micros_at load.clock moment % 2 ^ 32)
            ∷ (micros_at load.clock moment / 2 ^ 32) ∷ []) refl (omega arith),
      )
      | false ↦ omega (
        arith,
        numbers_small (events.SystimeCycles (moment % 2 ^ 32)) delta
            ((moment % 2 ^ 32) ∷ []) refl (omega arith),
      )
    ]

-- TRACE_START and TRACE_STOP are shorter
abbrev pub reply_most : Kind → ℕ
reply_most kinds.TraceStart = 6
reply_most kinds.TraceStop = 6
reply_most other = 145

pub reply_small : (load : Load) (moment index delta : ℕ) (kind : Kind) → HasShortTexts load
    → length (spelling_of (reply_event load moment kind index) delta) ≤ reply_most kind
reply_small load moment index delta kinds.TraceStart short =
    bare_small events.TraceStart delta refl refl
reply_small load moment index delta kinds.TraceStop short =
    bare_small events.TraceStop delta refl refl
reply_small load moment index delta kinds.Init short =
    omega (
      arith,
      numbers_small (events.Init load.clock load.cpu load.base load.shift) delta
          (load.clock ∷ load.cpu ∷ load.base ∷ load.shift ∷ []) refl (omega arith),
    )
reply_small load moment index delta kinds.Line short =
    desc_small (slice_index_or load.lines index []) delta (line-at load.lines index short.lines)
reply_small load moment index delta kinds.Systime short = time_small load moment delta
reply_small load moment index delta kinds.Task short =
    (task-at load index delta (slice_get load.tasks index) short refl).0
reply_small load moment index delta kinds.Stack short =
    (task-at load index delta (slice_get load.tasks index) short refl).1
reply_small load moment index delta kinds.ModuleCount short =
    omega (
      arith,
      numbers_small (events.NumModules (length load.modules)) delta (length load.modules
          ∷ []) refl (omega arith),
    )
reply_small load moment index delta kinds.Module short =
    module-at load index delta (slice_get load.modules index) short refl
