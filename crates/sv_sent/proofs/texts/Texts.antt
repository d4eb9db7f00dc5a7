-- What a workload within the limits has to say of itself can be spelled.
use Rattle.std.proofs.Common.{ℕ, ◌^◌, ◌<◌, ◌≤◌, List, [], ◌∷◌, zero, suc, length, arith}
use Rattle.std.specs.Prelude.{take, All, sum_by}
use Rattle.std.proofs.lemmas.List.Elements.{All-cons, All-head, All-nil, All-tail}
use Rattle.std.proofs.lemmas.List.Sums.{sum_by-cons}
use Rattle.sv_prim.specs.Text.{AreBytes}
use Rattle.sv_load.specs.declared.load.Task.{Task}
use Rattle.sv_load.specs.Load.{Load}
use Rattle.sv_load.specs.Need.{HasWords, IsWithinLimits}
use Rattle.sv_desc.specs.Modules.{ModuleRow, offset_after}

-- a text that a packet can hold
abbrev pub IsSpeakableText : List ℕ → Type 0
IsSpeakableText text = AreBytes text × (length text ≤ 65535)

-- a task's numbers and its name
abbrev pub IsSpeakableTask : Task → Type 0
IsSpeakableTask task = HasWords task × IsSpeakableText task.name

pub record IsSpeakable (load : Load) : Type 0 where
  pub lines : All IsSpeakableText load.lines
  pub tasks : All IsSpeakableTask load.tasks
  pub modules : All (λ row. IsSpeakableText row.name) load.modules
  pub offsets : (index : ℕ) → offset_after (take index load.modules) < 2 ^ 32

all-both : {X : Type 0} (P Q R : X → Type 0) → ((x : X) → P x → Q x → R x) → (xs : List X) →
    All P xs → All Q xs → All R xs
all-both P Q R both [] p q = All-nil R
all-both P Q R both (x ∷ xs) p q =
    All-cons R x xs (both x (All-head P x xs p) (All-head Q x xs q))
    (all-both P Q R both xs (All-tail P x xs p) (All-tail Q x xs q))

short : (text : List ℕ) → AreBytes text → length text ≤ 128 → IsSpeakableText text
short text are most = (are, omega (arith, most))

-- the modules before one have no more events than all
fewer : (index : ℕ) (rows : List ModuleRow) →
    sum_by (λ row. row.events) (take index rows) ≤ sum_by (λ row. row.events) rows
fewer zero rows = omega arith
fewer (suc index) [] = omega arith
fewer (suc index) (row ∷ rows) =
    omega (
      arith,
      sum_by-cons (λ (r : ModuleRow). r.events) row (take index rows),
      sum_by-cons (λ (r : ModuleRow). r.events) row rows,
      fewer index rows,
    )

pub speakable : (load : Load) → IsWithinLimits load → IsSpeakable load
speakable load l = record {
  lines = all-both AreBytes (λ text. length text ≤ 128) IsSpeakableText short load.lines
      l.bytes.lines l.texts.lines;
  tasks = all-both HasWords (λ task. IsSpeakableText task.name) IsSpeakableTask
      (λ task words name. (words, name)) load.tasks l.task_words
      (all-both (λ task. AreBytes task.name) (λ task. length task.name ≤ 128)
      (λ task. IsSpeakableText task.name) (λ task. short task.name) load.tasks l.bytes.tasks
      l.texts.tasks);
  modules = all-both (λ row. AreBytes row.name) (λ row. length row.name ≤ 128)
      (λ row. IsSpeakableText row.name) (λ row. short row.name) load.modules l.bytes.modules
      l.texts.modules;
  offsets = λ index. omega (arith, fewer index load.modules, l.module_events);
}
