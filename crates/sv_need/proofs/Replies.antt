-- Answers that are replies, but no TRACE_START or TRACE_STOP, and how many a group has at most.
use Rattle.std.proofs.Common.{◌≡◌, ℕ, ◌+◌, ◌*◌, ◌≤◌, Bool, true, false, ◌&&◌, cond}
use Rattle.std.proofs.Common.{List, [], ◌∷◌, ◌++◌, map, length, refl, sym, subst}
use Rattle.std.proofs.Common.{arith}
use Rattle.std.specs.Prelude.{flat_map, nat_lt, ◌==◌}
use Rattle.std.specs.List.{enumerate_from}
use Rattle.std.proofs.Math.Nat.{suc-mul, zero-mul, mul-le-mul_right}
use Rattle.std.proofs.lemmas.List.{length-append, length-map}
use Rattle.std.proofs.lemmas.List.Concat.{flat_map-cons}
use Rattle.std.proofs.lemmas.List.FromFn.{length-enumerate_from}
use Rattle.std.proofs.lemmas.List.Sums.{sum_by-cons}
use Rattle.sv_load.specs.Load.{Load}
use Rattle.sv_journal.specs.declared.journal.Kind.{Kind}
use Rattle.sv_journal.specs.declared.journal.Kind.TheVariants as kinds
use Rattle.sv_journal.specs.declared.journal.Origin.{Origin}
use Rattle.sv_journal.specs.declared.journal.Origin.TheVariants.{Reply}
use Rattle.sv_journal.specs.Legal.{replies_for, single, task_replies, init_replies}
use Rattle.sv_journal.specs.Legal.{command_answers}
use Rattle.sv_need.specs.Weights.{Weights, weight, weight_of}

-- the replies of a group other than a first TRACE_START
abbrev pub most_replies : Load → ℕ
most_replies load = 3 + length load.lines + 2 * length load.tasks + length load.modules

abbrev pub AreReplies : Weights → Load → List Origin → Type 0
AreReplies w load [] = Unit {0}
AreReplies w load (o ∷ os) = (weight w load o ≡ w.reply) × AreReplies w load os

pub replies_weight : (w : Weights) (load : Load) (os : List Origin) → AreReplies w load os
    → weight_of w load os ≡ length os * w.reply
replies_weight w load [] are = sym (zero-mul w.reply)
replies_weight w load (o ∷ os) are = omega (
  arith,
  sum_by-cons (weight w load) o os,
  are.0,
  replies_weight w load os are.1,
  suc-mul (length os) w.reply,
)

-- these are replies, and at most so many
pub record IsFew (w : Weights) (load : Load) (most : ℕ) (os : List Origin) : Type 0 where
  pub are : AreReplies w load os
  pub few : length os ≤ most

pub few_weight : (w : Weights) (load : Load) (most : ℕ) (os : List Origin) → IsFew w load most os
    → weight_of w load os ≤ most * w.reply
few_weight w load most os f = omega (
  arith,
  replies_weight w load os f.are,
  mul-le-mul_right
      {m = length os} {n = most} w.reply f.few,
)

pub few_more : (w : Weights) (load : Load) (most more : ℕ) (os : List Origin) → most ≤ more
    → IsFew w load most os → IsFew w load more os
few_more w load most more os le f = record { are = f.are; few = omega (arith, f.few, le) }

pub few_none : (w : Weights) (load : Load) (most : ℕ) → IsFew w load most []
few_none w load most = record { are = tt; few = omega arith }

pub few_one : (w : Weights) (load : Load) (o : Origin) → weight w load o ≡ w.reply
    → IsFew w load 1 (o ∷ [])
few_one w load o is = record { are = (is, tt); few = omega arith }

pub append-are : (w : Weights) (load : Load) (xs ys : List Origin) → AreReplies w load xs
    → AreReplies w load ys → AreReplies w load (xs ++ ys)
append-are w load [] ys p q = q
append-are w load (o ∷ xs) ys p q = (p.0, append-are w load xs ys p.1 q)

pub few_append : (w : Weights) (load : Load) (m n : ℕ) (xs ys : List Origin) → IsFew w load m xs
    → IsFew w load n ys → IsFew w load (m + n) (xs ++ ys)
few_append w load m n xs ys f g = record {
  are = append-are w load xs ys f.are g.are;
  few =
      omega (arith, length-append xs ys, f.few, g.few);
}

pub few_if : (w : Weights) (load : Load) (most : ℕ) (b : Bool) (xs ys : List Origin)
    → IsFew w load most xs → IsFew w load most ys → IsFew w load most (cond b xs ys)
few_if w load most true xs ys f g = f
few_if w load most false xs ys f g = g

pub map-are : {X : Type 0} (w : Weights) (load : Load) (kind : Kind)
    → ((index : ℕ) → weight w load (Reply kind index) ≡ w.reply) → (es : List (ℕ × X))
    → AreReplies w load (map (λ e. Reply kind e.0) es)
map-are w load kind is [] = tt
map-are w load kind is (e ∷ es) = (is e.0, map-are w load kind is es)

pub few_map : {X : Type 0} (w : Weights) (load : Load) (kind : Kind) (xs : List X)
    → ((index : ℕ) → weight w load (Reply kind index) ≡ w.reply)
    → IsFew w load (length xs) (replies_for kind xs)
few_map {X} w load kind xs is = record {
  are = map-are w load kind is (enumerate_from 0 xs);
  few = omega (
    arith,
    length-map (enumerate_from 0 xs) (λ (e : ℕ × X). Reply kind e.0),
    length-enumerate_from 0 xs,
  );
}

pub few_tasks : {X : Type 0} (w : Weights) (load : Load) (es : List (ℕ × X))
    → IsFew w load (2 * length es) (flat_map (λ e. Reply kinds.Task e.0 ∷ Reply kinds.Stack e.0
    ∷ []) es)
few_tasks w load [] = few_none w load 0
few_tasks {X} w load (e ∷ es) =
    let rest = few_tasks w load es in
    subst (IsFew w load (2 * length (e ∷ es))) (sym
    (flat_map-cons (λ (x : ℕ × X). Reply kinds.Task x.0 ∷ Reply kinds.Stack x.0 ∷ []) e es))
    (record { are = (refl, (refl, rest.are)); few = omega (arith, rest.few) })

pub few_task : (w : Weights) (load : Load) → IsFew w load (2 * length load.tasks)
    (task_replies load)
few_task w load = few_more w load (2 * length (enumerate_from 0 load.tasks)) (2 * length load.tasks)
    (task_replies load) (omega (arith, length-enumerate_from 0 load.tasks))
    (few_tasks w load (enumerate_from 0 load.tasks))

pub few_init : (w : Weights) (load : Load) → IsFew w load (1 + length load.lines)
    (init_replies load)
few_init w load = few_append w load 1 (length load.lines) (single kinds.Init)
    (replies_for kinds.Line load.lines) (few_one w load (Reply kinds.Init 0) refl)
    (few_map w load kinds.Line load.lines (λ index. refl))

-- what a start answers after its sync and its TRACE_START
abbrev pub start_rest : Load → List Origin
start_rest load = init_replies load ++ (single kinds.Systime ++
    (task_replies load ++ single kinds.ModuleCount))

pub few_start : (w : Weights) (load : Load) → IsFew w load (most_replies load) (start_rest load)
few_start w load =
    let last = few_append w load (2 * length load.tasks) 1 (task_replies load)
    (single kinds.ModuleCount) (few_task w load)
    (few_one w load (Reply kinds.ModuleCount 0) refl) in
    let more = few_append w load 1 (2 * length load.tasks + 1) (single kinds.Systime)
    (task_replies load ++ single kinds.ModuleCount)
    (few_one w load (Reply kinds.Systime 0) refl) last in
    let all = few_append w load (1 + length load.lines) (1 + (2 * length load.tasks + 1))
    (init_replies load) (single kinds.Systime ++
    (task_replies load ++ single kinds.ModuleCount)) (few_init w load) more in
    few_more w load ((1 + length load.lines) + (1 + (2 * length load.tasks + 1)))
    (most_replies load) (start_rest load) (omega arith) all

pub few_command : (w : Weights) (load : Load) (byte param : ℕ)
    → IsFew w load (most_replies load) (command_answers load byte param)
few_command w load byte param =
    let most = most_replies load in
    few_if w load most (byte == 3) (single kinds.Systime) _
    (few_more w load 1 most (single kinds.Systime) (omega arith)
    (few_one w load (Reply kinds.Systime 0) refl))
    (few_if w load most (byte == 4) (task_replies load) _
    (few_more w load (2 * length load.tasks) most (task_replies load) (omega arith)
    (few_task w load))
    (few_if w load most (byte == 5) (init_replies load) _
    (few_more w load (1 + length load.lines) most (init_replies load) (omega arith)
    (few_init w load))
    (few_if w load most (byte == 6) (single kinds.ModuleCount) _
    (few_more w load 1 most (single kinds.ModuleCount) (omega arith)
    (few_one w load (Reply kinds.ModuleCount 0) refl))
    (few_if w load most (byte == 7) (replies_for kinds.Module load.modules) _
    (few_more w load (length load.modules) most (replies_for kinds.Module load.modules)
    (omega arith) (few_map w load kinds.Module load.modules (λ index. refl)))
    (few_if w load most ((byte == 128) && nat_lt param (length load.modules))
    (Reply kinds.Module param ∷ []) [] (few_more w load 1 most (Reply kinds.Module param ∷ [])
    (omega arith) (few_one w load (Reply kinds.Module param) refl)) (few_none w load most))))))
