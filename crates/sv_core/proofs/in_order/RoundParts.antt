-- A round of an order, writer by writer.
use Rattle.std.proofs.Common.{◌≡◌, ℕ, zero, suc, ◌+◌, ◌<◌, ◌≤◌, Bool, true, false, cond, List, []}
use Rattle.std.proofs.Common.{◌∷◌, ◌++◌, length, reverse, flat_map, take, ◌⊎◌, inl, inr, refl, sym}
use Rattle.std.proofs.Common.{ap, ◌∙◌, arith, rules, append-nil}
use Rattle.std.specs.Prelude.{count_by, nat_lt, ◌==◌}
use Rattle.std.specs.List.{enumerate_from}
use Rattle.std.proofs.Math.Seq.{take-suc}
use Rattle.std.proofs.lemmas.List.{take_all, length-take-le}
use Rattle.std.proofs.lemmas.List.Concat.{flat_map-append}
use Rattle.std.proofs.lemmas.Bool.{cases_lt}
use Rattle.sv_load.specs.declared.load.Step.{Step}
use Rattle.sv_load.specs.Load.{Load, script_of}
use Rattle.sv_core.specs.Order.{Turn, Takes_step, Reads_all, is_step_of, scheduled, line_turns}
use Rattle.sv_core.specs.Order.{round_of}
use Rattle.sv_core.proofs.parts.Counts.{lt_true, lt_false, count-cons}
use Rattle.sv_core.proofs.parts.TurnCounts.{count-append}
use Rattle.sv_core.proofs.in_order.OrderParts.{count_one, count_possible}

-- how many steps of a writer the schedule takes
abbrev pub scheduled_of : Load → ℕ → ℕ
scheduled_of load writer = count_by (is_step_of writer) (scheduled load)

-- no more than there are
pub scheduled-within : (load : Load) (writer : ℕ)
    → scheduled_of load writer ≤ length (script_of load writer)
scheduled-within load writer =
    omega (arith, count_possible load writer (reverse (flat_map line_turns load.schedule)))

-- ONE ROUND

-- what a writer does in a round
abbrev pub turns_in : Load → ℕ → ℕ × List Step → List Turn
turns_in load round e =
    cond (nat_lt (count_by (is_step_of e.0) (scheduled load) + round) (length e.1))
    (Takes_step e.0 ∷ Reads_all ∷ []) []

-- a round as far as so many writers
abbrev pub round_part : Load → ℕ → ℕ → List Turn
round_part load round writers =
    flat_map (turns_in load round) (enumerate_from 0 (take writers load.scripts))

pub part_all : (load : Load) (round : ℕ)
    → round_part load round (length load.scripts) ≡ round_of load round
part_all load round =
    ap (λ (ss : List (List Step)). flat_map (turns_in load round) (enumerate_from 0 ss))
    (take_all (length load.scripts) load.scripts (omega arith))

-- one more element
enumerate-push : {X : Type 0} (n : ℕ) (xs : List X) (x : X)
    → enumerate_from n (xs ++ x ∷ []) ≡ enumerate_from n xs ++ (n + length xs, x) ∷ []
enumerate-push n [] x = ap (λ m. (m, x) ∷ []) (none n) where
  none : (n : ℕ) → n ≡ n + 0
  none n = omega arith
enumerate-push n (y ∷ xs) x =
    ap (λ es. (n, y) ∷ es)
    (enumerate-push (n + 1) xs x
    ∙ ap (λ m. enumerate_from (n + 1) xs ++ (m, x) ∷ []) (further n (length xs))) where
      further : (a b : ℕ) → (a + 1) + b ≡ a + suc b
      further a b = omega arith

-- one more writer
pub part_more : (load : Load) (round writer : ℕ) → writer < length load.scripts
    → round_part load round (suc writer)
    ≡ round_part load round writer ++ turns_in load round (writer, script_of load writer)
part_more load round writer below =
    ap (λ (ss : List (List Step)). flat_map (turns_in load round) (enumerate_from 0 ss))
    (take-suc load.scripts writer [] below)
    ∙ (ap (flat_map (turns_in load round))
    (enumerate-push 0 (take writer load.scripts) (script_of load writer))
    ∙ (flat_map-append (turns_in load round) (enumerate_from 0 (take writer load.scripts))
    ((0 + length (take writer load.scripts), script_of load writer) ∷ [])
    ∙ ap (λ ts. round_part load round writer ++ ts)
    (append-nil
    (turns_in load round (0 + length (take writer load.scripts), script_of load writer))
    ∙ ap (λ (n : ℕ). turns_in load round (n, script_of load writer)) number))) where
      number : 0 + length (take writer load.scripts) ≡ writer
      number = omega (arith, length-take-le writer load.scripts (omega (arith, below)))

-- a writer takes a step exactly in its turn
count_turns : (load : Load) (round writer own : ℕ) (script : List Step)
    → count_by (is_step_of own) (turns_in load round (writer, script))
    ≡ cond (writer == own)
    (cond (nat_lt (scheduled_of load writer + round) (length script)) 1 0) 0
count_turns load round writer own script =
    at (nat_lt (scheduled_of load writer + round) (length script)) (writer == own) refl where
      at : (b c : Bool) → (writer == own) ≡ c
          → count_by (is_step_of own) (cond b (Takes_step writer ∷ Reads_all ∷ []) [])
          ≡ cond c (cond b 1 0) 0
      at true c e =
          count-cons (is_step_of own) (Takes_step writer) (Reads_all ∷ [])
          ∙ (ap (λ n. cond (writer == own) 1 0 + n) (count_one (is_step_of own) Reads_all)
          ∙ (ap (λ d. cond d 1 0 + 0) e ∙ one c)) where
            one : (c : Bool) → cond c 1 0 + 0 ≡ cond c 1 0
            one true = omega arith
            one false = omega arith
      at false true e = refl
      at false false e = refl

-- of the writers before this one, each that is not through
pub count_part : (load : Load) (round own writers : ℕ) → writers ≤ length load.scripts
    → count_by (is_step_of own) (round_part load round writers)
    ≡ cond (nat_lt own writers)
    (cond (nat_lt (scheduled_of load own + round) (length (script_of load own))) 1 0) 0
count_part load round own zero h =
    ap (λ b. cond b (cond (nat_lt (scheduled_of load own + round)
    (length (script_of load own))) 1 0) 0) (sym (lt_false own 0 (omega arith)))
count_part load round own (suc writer) h =
    ap (count_by (is_step_of own)) (part_more load round writer (omega (arith, h)))
    ∙ (count-append (is_step_of own) (round_part load round writer)
    (turns_in load round (writer, script_of load writer))
    ∙ (ap (λ n. n + count_by (is_step_of own) (turns_in load round (writer, script_of load writer)))
    (count_part load round own writer (omega (arith, h)))
    ∙ (ap (λ n. cond (nat_lt own writer) (due own) 0 + n)
    (count_turns load round writer own (script_of load writer))
    ∙ at (writer == own) refl))) where
      due : ℕ → ℕ
      due w = cond (nat_lt (scheduled_of load w + round) (length (script_of load w))) 1 0

      at : (b : Bool) → (writer == own) ≡ b
          → cond (nat_lt own writer) (due own) 0 + cond b (due writer) 0
          ≡ cond (nat_lt own (suc writer)) (due own) 0
      at true e =
          let same : writer ≡ own = search (rules, e) in
          ap (λ c. cond c (due own) 0 + due writer)
          (lt_false own writer (omega (arith, same)))
          ∙ (omega arith
          ∙ (ap due same
          ∙ ap (λ c. cond c (due own) 0)
          (sym (lt_true own (suc writer) (omega (arith, same))))))
      at false e =
          ap (λ c. cond c (due own) 0 + 0) (apart (cases_lt own writer) other)
          ∙ sides (cond (nat_lt own (suc writer)) (due own) 0) where
            other : writer ≡ own → ⊥
            other = search (rules, e)

            sides : (n : ℕ) → n + 0 ≡ n
            sides n = omega arith

            apart : (own < writer) ⊎ (writer ≤ own) → (writer ≡ own → ⊥)
                → nat_lt own writer ≡ nat_lt own (suc writer)
            apart (inl below) other =
                lt_true own writer below ∙ sym (lt_true own (suc writer) (omega (arith, below)))
            apart (inr past) other =
                lt_false own writer past
                ∙ sym (lt_false own (suc writer) (omega (arith, past, other)))
