-- What a step does, a recorder takes, in a packet of at most 138 bytes.
use Rattle.std.proofs.Common.{◌≡◌, ℕ, zero, suc, ◌+◌, ◌*◌, ◌^◌, ◌<◌, ◌≤◌, Bool, true, false, cond}
use Rattle.std.proofs.Common.{nat_le, List, [], ◌∷◌, ◌++◌, length, map, get_or, Option, Some, None}
use Rattle.std.proofs.Common.{refl, ap, subst, arith}
use Rattle.std.specs.Prelude.{drop, slice_get}
use Rattle.std.proofs.lemmas.Bool.Decides.{nat_tests}
use Rattle.std.proofs.lemmas.List.{length-append, length-drop}
use Rattle.std.proofs.Math.Nat.{div-le_self}
use Rattle.std.proofs.lemmas.Bool.{and_parts, leb-true}
use Rattle.std.specs.List.{list_all}
use Rattle.sv_prim.specs.Number.{IsGroups, number_spelling, numbers_spelling, AreWords}
use Rattle.sv_prim.specs.Shrink.{offset_from}
use Rattle.sv_prim.specs.Text.{AreBytes}
use Rattle.sv_prim.proofs.Shared.{bytes_both, of_few, spelled, text_spelling-short}
use Rattle.sv_prim.specs.Text.{text_spelling}
use Rattle.sv_packet.specs.declared.event.Event.{Event}
use Rattle.sv_packet.specs.declared.event.Event.TheVariants as event
use Rattle.sv_packet.specs.Packet.{IsOpaque, IsForm, IsKeptAsBytes}
use Rattle.sv_packet.specs.Spelling.{spelling_of, payload_of, short_spelling, head_spelling}
use Rattle.sv_packet.specs.Spelling.{HasTexts, IsShort, HasRange, IsRecordable}
use Rattle.sv_packet.specs.Table.{identifier}
use Rattle.sv_packet.proofs.Shared.{opaque_recordable, print_recordable, short_recordable}
use Rattle.sv_workload.specs.declared.keyword.ActWord.{ActWord}
use Rattle.sv_workload.specs.declared.keyword.ActWord.TheVariants.{Start, Stop, Nop, Isr, IsrExit}
use Rattle.sv_workload.specs.declared.keyword.ActWord.TheVariants.{Run, Halt, Ready, Unready}
use Rattle.sv_workload.specs.declared.keyword.ActWord.TheVariants.{Create, Terminate, Mark, MarkEnd}
use Rattle.sv_workload.specs.declared.keyword.ActWord.TheVariants.{Idle, Sched, Timer, TimerExit}
use Rattle.sv_workload.specs.declared.keyword.ActWord.TheVariants.{Name, Print, Call, Return}
use Rattle.sv_load.specs.declared.load.Act.{Act}
use Rattle.sv_load.specs.declared.load.Act.TheVariants as act
use Rattle.sv_workload.specs.Checks.{is_printable}
use Rattle.sv_workload.specs.Meaning.{act_with, with_shrunk}
use Rattle.sv_workload.specs.Numbers.{capped}
use Rattle.sv_load.specs.Need.{IsStepAct}

-- a step's event as a recorder takes it, in a packet of at most 138 bytes
abbrev IsSmallAct : Act → Type 0
IsSmallAct (act.Event event) = IsRecordable event × (length (spelling_of event 0) ≤ 138)
IsSmallAct act.Start = Unit {0}
IsSmallAct act.Stop = Unit {0}

-- what the numbers and the text of a step keep to
pub record IsKeptTo (word : ActWord) (numbers text : List ℕ) : Type 0 where
  pub name : word ≡ Name → length text ≤ 128
  pub print : word ≡ Print → length text ≤ 128
  pub least : word ≡ Call → 32 ≤ get_or numbers 0 0
  pub most : word ≡ Call → get_or numbers 0 0 ≤ 16383
  pub few : word ≡ Call → length numbers ≤ 9
  pub words : AreWords numbers
  pub name_bytes : word ≡ Name → AreBytes text
  pub print_bytes : word ≡ Print → AreBytes text

-- an identifier or a length has at most two bytes
short_small : (n : ℕ) → length (short_spelling n) ≤ 2
short_small n = grind (arith, nat_tests)

-- either list is short enough
one_of : (b : Bool) (xs ys : List ℕ) (n : ℕ) → length xs ≤ n → length ys ≤ n
    → length (cond b xs ys) ≤ n
one_of true xs ys n x y = x
one_of false xs ys n x y = y

-- at most four bytes stand before a payload
head_small : (id size : ℕ) → length (head_spelling id size) ≤ 4
head_small id size =
    one_of (nat_le 24 id) (short_spelling id ++ short_spelling size) (id ∷ []) 4
    (omega (
      arith,
      length-append (short_spelling id) (short_spelling size),
      short_small id,
      short_small size,
    )) (omega arith)

-- a packet has at most five bytes around its payload
around : (event : Event) → length (spelling_of event 0) ≤ length (payload_of event) + 5
around event =
    omega (
      arith,
      head_small (identifier event) (length (payload_of event)),
      length-append
          (head_spelling (identifier event) (length (payload_of event)))
          (payload_of event ++ number_spelling 0),
      length-append (payload_of event)
          (number_spelling 0),
    )

-- a text with its length
text_small : (text : List ℕ) → length text ≤ 128 → length (text_spelling text) ≤ 129
text_small text short = omega (arith, ap length (text_spelling-short text (omega (arith, short))))

-- an event of numbers alone
plain : (event : Event) → HasTexts 128 event × IsShort event × IsKeptAsBytes event
    → length (payload_of event) ≤ 10 → IsSmallAct (act.Event event)
plain event is small = (short_recordable event is.0 is.1 is.2, omega (arith, around event, small))

-- one number, and two
one_small : (n : ℕ) → length (number_spelling n ++ []) ≤ 10
one_small n = omega (arith, of_few 4 n, length-append (number_spelling n) [])

two_small : (n m : ℕ) → length (number_spelling n ++ (number_spelling m ++ [])) ≤ 10
two_small n m =
    omega (
      arith,
      of_few 4 n,
      of_few 4 m,
      length-append (number_spelling n)
          (number_spelling m ++ []),
      length-append (number_spelling m) [],
    )

-- the end of a call, with an answer or without
end_call : (call : ℕ) (value : Option ℕ) → IsSmallAct (act.Event (event.EndCall call value))
end_call call None = plain (event.EndCall call None) ((tt, tt), tt, tt) (one_small call)
end_call call (Some value) =
    plain (event.EndCall call (Some value)) ((tt, (tt, tt)), tt, tt) (two_small call value)

-- the two bytes before the payload's length are one for an identifier below 128
name_resource : (resource : ℕ) (text : List ℕ) → length text ≤ 128
    → IsSmallAct (act.Event (event.NameResource resource text))
name_resource resource text short =
    let e = event.NameResource resource text in
    let size = length (payload_of e) in
    let payload = payload_of e in (
      short_recordable e (tt, (short, tt)) tt tt,
      omega (
        arith,
        short_small size,
        length-append (short_spelling size) (payload ++ number_spelling 0),
        length-append payload (number_spelling 0),
        length-append (number_spelling resource) (text_spelling text ++ []),
        length-append (text_spelling text) [],
        of_few 4 resource,
        text_small text short,
      ),
    )

-- a text without arguments
print_text : (text : List ℕ) → length text ≤ 128 → IsSmallAct (act.Event (event.Print text 0 []))
print_text text short = (
  print_recordable text 0 [] short (omega arith),
  omega (
    arith,
    around (event.Print text 0 []),
    length-append (text_spelling text) (0 ∷ 0 ∷ []),
    text_small text short,
  ),
)

-- each event of the table goes by an identifier below 32
known_low : (event : Event) → (IsOpaque event → ⊥) → identifier event < 32
known_low (event.Opaque id payload) known = absurd (known tt)
known_low (event.EndCall call value) known = omega arith
known_low other known = omega arith

-- so a payload under a greater identifier is no form of it
no_form : (id : ℕ) (payload : List ℕ) → 32 ≤ id → IsForm id payload → ⊥
no_form id payload high (event, known, same, rest) =
    omega (arith, high, same, known_low event known)

-- each number has at most five bytes
numbers_small : (numbers : List ℕ) → length (numbers_spelling numbers) ≤ 5 * length numbers
numbers_small [] = omega arith
numbers_small (n ∷ ns) =
    omega (
      arith,
      length-append (number_spelling n) (numbers_spelling ns),
      of_few 4 n,
      numbers_small
          ns,
    )

-- a call with at most eight numbers
call_event : (numbers : List ℕ) → 32 ≤ get_or numbers 0 0 → get_or numbers 0 0 ≤ 16383
    → length numbers ≤ 9
    → IsSmallAct (act.Event (event.Opaque (get_or numbers 0 0) (numbers_spelling (drop 1 numbers))))
call_event numbers least most few =
    let id = get_or numbers 0 0 in
    let payload = numbers_spelling (drop 1 numbers) in
    let small : length payload ≤ 40 = omega
    (arith, numbers_small (drop 1 numbers), length-drop 1 numbers, few) in (
      opaque_recordable id payload (omega (arith, least)) most (omega (arith, small))
          (no_form id payload least),
      omega (arith, around (event.Opaque id payload), length-append payload [], small),
    )

-- the step of a word with what it keeps to is small
small_act : (word : ActWord) (numbers text : List ℕ) → IsKeptTo word numbers text
    → IsSmallAct (act_with word numbers text)
small_act Start ns text is = tt
small_act Stop ns text is = tt
small_act Nop ns text is = plain event.Nop (tt, tt, tt) (omega arith)
small_act Isr ns text is =
    plain (event.IsrEnter (get_or ns 0 0)) ((tt, tt), tt, tt) (one_small (get_or ns 0 0))
small_act IsrExit ns text is = plain event.IsrExit (tt, tt, tt) (omega arith)
small_act Run ns text is =
    plain (event.TaskStart (get_or ns 0 0)) ((tt, tt), tt, tt) (one_small (get_or ns 0 0))
small_act Halt ns text is = plain event.TaskStop (tt, tt, tt) (omega arith)
small_act Ready ns text is =
    plain (event.TaskReady (get_or ns 0 0)) ((tt, tt), tt, tt) (one_small (get_or ns 0 0))
small_act Unready ns text is =
    plain (event.TaskUnready (get_or ns 0 0) (get_or ns 1 0)) ((tt, (tt, tt)), tt, tt)
    (two_small (get_or ns 0 0) (get_or ns 1 0))
small_act Create ns text is =
    plain (event.TaskCreate (get_or ns 0 0)) ((tt, tt), tt, tt) (one_small (get_or ns 0 0))
small_act Terminate ns text is =
    plain (event.TaskTerminate (get_or ns 0 0)) ((tt, tt), tt, tt) (one_small (get_or ns 0 0))
small_act Mark ns text is =
    plain (event.MarkStart (get_or ns 0 0)) ((tt, tt), tt, tt) (one_small (get_or ns 0 0))
small_act MarkEnd ns text is =
    plain (event.MarkStop (get_or ns 0 0)) ((tt, tt), tt, tt) (one_small (get_or ns 0 0))
small_act Idle ns text is = plain event.Idle (tt, tt, tt) (omega arith)
small_act Sched ns text is = plain event.ToScheduler (tt, tt, tt) (omega arith)
small_act Timer ns text is =
    plain (event.TimerEnter (get_or ns 0 0)) ((tt, tt), tt, tt) (one_small (get_or ns 0 0))
small_act TimerExit ns text is = plain event.TimerExit (tt, tt, tt) (omega arith)
small_act Name ns text is = name_resource (get_or ns 0 0) text (is.name refl)
small_act Print ns text is = print_text text (is.print refl)
small_act Call ns text is = call_event ns (is.least refl) (is.most refl) (is.few refl)
small_act Return ns text is = end_call (get_or ns 0 0) (slice_get ns 1)

-- ---- numbers and texts

pub word_at : (ns : List ℕ) (k : ℕ) → AreWords ns → get_or ns k 0 < 2 ^ 32
word_at [] k are = omega arith
word_at (n ∷ ns) zero are = are.0
word_at (n ∷ ns) (suc k) are = word_at ns k are.1

groups_are : (bytes : List ℕ) → IsGroups bytes → AreBytes bytes
groups_are [] is = absurd is
groups_are (b ∷ []) is = (omega (arith, is), tt)
groups_are (b ∷ c ∷ bytes) is = (is.1, groups_are (c ∷ bytes) is.2)

numbers_are : (ns : List ℕ) → AreWords ns → AreBytes (numbers_spelling ns)
numbers_are [] are = tt
numbers_are (n ∷ ns) are =
    bytes_both (number_spelling n) (numbers_spelling ns)
    (groups_are (number_spelling n) (spelled n are.0).groups) (numbers_are ns are.1)

words_behind : (k : ℕ) (ns : List ℕ) → AreWords ns → AreWords (drop k ns)
words_behind zero ns are = are
words_behind (suc k) [] are = tt
words_behind (suc k) (n ∷ ns) are = words_behind k ns are.1

-- the numbers that a program holds are words
pub capped_words : (ns : List ℕ) → AreWords (map capped ns)
capped_words [] = tt
capped_words (n ∷ ns) = (omega arith, capped_words ns)

pub shrunk_words : (identifier : Bool) (base shift : ℕ) (ns : List ℕ) → AreWords ns
    → AreWords (with_shrunk identifier base shift ns)
shrunk_words false base shift ns are = are
shrunk_words true base shift [] are = tt
shrunk_words true base shift (id ∷ ns) are =
    (omega (arith, div-le_self (offset_from base id) (2 ^ shift)), are.1)

pub printable_bytes : (text : List ℕ) → list_all is_printable text ≡ true → AreBytes text
printable_bytes [] e = tt
printable_bytes (b ∷ text) e =
    let both = and_parts (is_printable b) (list_all is_printable text) e in
    (low b both.0, printable_bytes text both.1)
  where
    low : (b : ℕ) → is_printable b ≡ true → b < 256
    low b e = let both = and_parts (nat_le 0x20 b) (nat_le b 0x7E) e in omega
        (arith, leb-true b 0x7E both.1)

-- ---- acts

answered : (ns : List ℕ) (call : ℕ) (value : Option ℕ) → slice_get ns 1 ≡ value → call < 2 ^ 32
    → AreWords ns → HasRange (event.EndCall call value)
answered ns call None at low are = (low, tt)
answered [] call (Some value) at low are = absurd cc
answered (n ∷ []) call (Some value) at low are = absurd cc
answered (n ∷ m ∷ ns) call (Some value) at low are =
    let same : m ≡ value = cc in (low, (subst (λ (k : ℕ). k < 2 ^ 32) same are.1.0, tt))

pub step_act : (word : ActWord) (ns text : List ℕ) → IsKeptTo word ns text
    → IsStepAct (act_with word ns text)
step_act Start ns text is = tt
step_act Stop ns text is = tt
step_act Nop ns text is = let small = small_act Nop ns text is in (small.0, small.1, tt, refl)
step_act Isr ns text is =
    let small = small_act Isr ns text is in (small.0, small.1, (word_at ns 0 is.words, tt), refl)
step_act IsrExit ns text is =
    let small = small_act IsrExit ns text is in (small.0, small.1, tt, refl)
step_act Run ns text is =
    let small = small_act Run ns text is in (small.0, small.1, (word_at ns 0 is.words, tt), refl)
step_act Halt ns text is = let small = small_act Halt ns text is in (small.0, small.1, tt, refl)
step_act Ready ns text is =
    let small = small_act Ready ns text is in (small.0, small.1, (word_at ns 0 is.words, tt), refl)
step_act Unready ns text is =
    let small = small_act Unready ns text is in
    (small.0, small.1, (word_at ns 0 is.words, (word_at ns 1 is.words, tt)), refl)
step_act Create ns text is =
    let small = small_act Create ns text is in (small.0, small.1, (word_at ns 0 is.words, tt), refl)
step_act Terminate ns text is =
    let small = small_act Terminate ns text is in
    (small.0, small.1, (word_at ns 0 is.words, tt), refl)
step_act Mark ns text is =
    let small = small_act Mark ns text is in (small.0, small.1, (word_at ns 0 is.words, tt), refl)
step_act MarkEnd ns text is =
    let small = small_act MarkEnd ns text is in
    (small.0, small.1, (word_at ns 0 is.words, tt), refl)
step_act Idle ns text is = let small = small_act Idle ns text is in (small.0, small.1, tt, refl)
step_act Sched ns text is = let small = small_act Sched ns text is in (small.0, small.1, tt, refl)
step_act Timer ns text is =
    let small = small_act Timer ns text is in (small.0, small.1, (word_at ns 0 is.words, tt), refl)
step_act TimerExit ns text is =
    let small = small_act TimerExit ns text is in (small.0, small.1, tt, refl)
step_act Name ns text is =
    let small = small_act Name ns text is in
    (small.0, small.1, (word_at ns 0 is.words, (is.name_bytes refl, tt)), refl)
step_act Print ns text is =
    let small = small_act Print ns text is in
    (small.0, small.1, (is.print_bytes refl, (omega arith, (omega arith, tt))), refl)
step_act Call ns text is =
    let small = small_act Call ns text is in
    (small.0, small.1, (numbers_are (drop 1 ns) (words_behind 1 ns is.words), tt), refl)
step_act Return ns text is =
    let small = small_act Return ns text is in (
      small.0,
      small.1,
      answered ns (get_or ns 0 0) (slice_get ns 1) refl (word_at ns 0 is.words)
          is.words,
      refl,
    )
