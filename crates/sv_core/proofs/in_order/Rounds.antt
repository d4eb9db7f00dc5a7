-- The rounds of an order, as they are taken writer by writer.
use Rattle.std.proofs.Common.{◌≡◌, ℕ, zero, suc, ◌+◌, ◌-◌, ◌<◌, ◌≤◌, min, true, false, cond, List}
use Rattle.std.proofs.Common.{[], ◌∷◌, ◌++◌, length, reverse, flat_map, replicate, ◌⊎◌, inl, inr}
use Rattle.std.proofs.Common.{refl, sym, ap, ◌∙◌, subst, arith, append_assoc, append-nil}
use Rattle.std.specs.Prelude.{count_by, sum_by, nat_lt}
use Rattle.std.proofs.lemmas.List.Concat.{flat_map-append}
use Rattle.std.proofs.lemmas.List.Sums.{sum_by-cons, get_or-le-sum_by}
use Rattle.std.proofs.lemmas.Bool.{cases_lt}
use Rattle.sv_load.specs.declared.load.Step.{Step}
use Rattle.sv_load.specs.Load.{Load, script_of}
use Rattle.sv_load.specs.Need.{steps_in}
use Rattle.sv_core.specs.Order.{Takes_step, Reads_all, Sends, is_step_of, is_send, is_possible}
use Rattle.sv_core.specs.Order.{scheduled, sends_left, count_up, round_of, rounds_of, order_of}
use Rattle.sv_core.specs.Played.{with_step, sent_first, played_rounds}
use Rattle.sv_core.proofs.parts.Counts.{lt_true, lt_false, count-not}
use Rattle.sv_core.proofs.parts.TurnCounts.{count-append, count-reverse}
use Rattle.sv_core.proofs.in_order.OrderParts.{count_one, within}
use Rattle.sv_core.proofs.in_order.RoundParts.{scheduled_of, scheduled-within, turns_in, round_part}
use Rattle.sv_core.proofs.in_order.RoundParts.{part_all, part_more, count_part}

-- SO MANY ROUNDS

pub rounds_more : (load : Load) (rounds : ℕ)
    → played_rounds load (suc rounds) ≡ played_rounds load rounds ++ round_of load rounds
rounds_more load rounds =
    ap (λ ts. sent_first load ++ ts)
    (flat_map-append (round_of load) (count_up rounds) (rounds ∷ [])
    ∙ ap (λ ts. flat_map (round_of load) (count_up rounds) ++ ts)
    (append-nil (round_of load rounds)))
    ∙ sym
    (append_assoc (sent_first load) (flat_map (round_of load) (count_up rounds))
    (round_of load rounds))

-- sends are no steps
count_replicate : (writer n : ℕ) → count_by (is_step_of writer) (replicate n Sends) ≡ 0
count_replicate writer zero = refl
count_replicate writer (suc n) =
    count-not (is_step_of writer) Sends (replicate n Sends) refl ∙ count_replicate writer n

pub count_first : (load : Load) (writer : ℕ)
    → count_by (is_step_of writer) (sent_first load) ≡ scheduled_of load writer
count_first load writer =
    count-append (is_step_of writer) (scheduled load) (sends_left load)
    ∙ omega (
      arith,
      count_replicate writer (length load.commands - count_by is_send (scheduled load)),
    )

-- each writer has taken a step in each, or its whole script
pub count_rounds : (load : Load) (writer rounds : ℕ) → writer < length load.scripts
    → count_by (is_step_of writer) (played_rounds load rounds)
    ≡ min (length (script_of load writer)) (scheduled_of load writer + rounds)
count_rounds load writer zero below =
    ap (count_by (is_step_of writer)) (append-nil (sent_first load))
    ∙ (count_first load writer ∙ omega (arith, scheduled-within load writer))
count_rounds load writer (suc rounds) below =
    ap (count_by (is_step_of writer)) (rounds_more load rounds)
    ∙ (count-append (is_step_of writer) (played_rounds load rounds) (round_of load rounds)
    ∙ (ap (λ n. n + count_by (is_step_of writer) (round_of load rounds))
    (count_rounds load writer rounds below)
    ∙ (ap (λ n. min (length (script_of load writer)) (scheduled_of load writer + rounds) + n)
    (ap (count_by (is_step_of writer)) (sym (part_all load rounds))
    ∙ (count_part load rounds writer (length load.scripts) (omega arith)
    ∙ ap
    (λ b. cond b (cond (nat_lt (scheduled_of load writer + rounds)
    (length (script_of load writer))) 1 0) 0)
    (lt_true writer (length load.scripts) below)))
    ∙ sums (scheduled_of load writer) rounds (length (script_of load writer))))) where
      sums : (a b c : ℕ) → min c (a + b) + cond (nat_lt (a + b) c) 1 0 ≡ min c (a + suc b)
      sums a b c = at (cases_lt (a + b) c) where
        at : ((a + b) < c) ⊎ (c ≤ (a + b))
            → min c (a + b) + cond (nat_lt (a + b) c) 1 0 ≡ min c (a + suc b)
        at (inl below) =
            ap (λ d. min c (a + b) + cond d 1 0) (lt_true (a + b) c below)
            ∙ omega (arith, below)
        at (inr past) =
            ap (λ d. min c (a + b) + cond d 1 0) (lt_false (a + b) c past)
            ∙ omega (arith, past)

-- after so many rounds and a part of one, a writer that is still to come
count_between : (load : Load) (rounds writer : ℕ) → writer < length load.scripts
    → count_by (is_step_of writer)
    (reverse (played_rounds load rounds ++ round_part load rounds writer))
    ≡ min (length (script_of load writer)) (scheduled_of load writer + rounds)
count_between load rounds writer below =
    count-reverse (is_step_of writer) (played_rounds load rounds ++ round_part load rounds writer)
    ∙ (count-append (is_step_of writer) (played_rounds load rounds)
    (round_part load rounds writer)
    ∙ (ap (λ n. count_by (is_step_of writer) (played_rounds load rounds) + n)
    (count_part load rounds writer writer (omega (arith, below))
    ∙ ap
    (λ b. cond b (cond (nat_lt (scheduled_of load writer + rounds)
    (length (script_of load writer))) 1 0) 0) (lt_false writer writer (omega arith)))
    ∙ omega (arith, count_rounds load writer rounds below)))

-- takes a step exactly where the round has one
possible_between : (load : Load) (rounds writer : ℕ) → writer < length load.scripts
    → is_possible load (reverse (played_rounds load rounds ++ round_part load rounds writer))
    (Takes_step writer)
    ≡ nat_lt (scheduled_of load writer + rounds) (length (script_of load writer))
possible_between load rounds writer below =
    ap (λ n. nat_lt n (length (script_of load writer))) (count_between load rounds writer below)
    ∙ smaller (length (script_of load writer)) (scheduled_of load writer + rounds) where
      swapped : (a b : ℕ) → min a b ≡ min b a
      swapped a b = omega arith

      smaller : (b a : ℕ) → nat_lt (min b a) b ≡ nat_lt a b
      smaller b a = ap (λ n. nat_lt n b) (swapped b a) ∙ within a b

-- a writer more, that takes a step
pub part_step : (load : Load) (rounds writer : ℕ) → writer < length load.scripts
    → is_possible load (reverse (played_rounds load rounds ++ round_part load rounds writer))
    (Takes_step writer) ≡ true
    → with_step load (played_rounds load rounds ++ round_part load rounds writer) writer
    ++ Reads_all ∷ []
    ≡ played_rounds load rounds ++ round_part load rounds (suc writer)
part_step load rounds writer below steps =
    ap
    (λ b. ((played_rounds load rounds ++ round_part load rounds writer)
    ++ cond b (Takes_step writer ∷ []) []) ++ Reads_all ∷ []) steps
    ∙ (append_assoc (played_rounds load rounds ++ round_part load rounds writer)
    (Takes_step writer ∷ []) (Reads_all ∷ [])
    ∙ (append_assoc (played_rounds load rounds) (round_part load rounds writer)
    (Takes_step writer ∷ Reads_all ∷ [])
    ∙ ap (λ ts. played_rounds load rounds ++ ts)
    (ap
    (λ b. round_part load rounds writer ++ cond b (Takes_step writer ∷ Reads_all ∷ []) [])
    (sym (sym (possible_between load rounds writer below) ∙ steps))
    ∙ sym (part_more load rounds writer below))))

-- or is through
pub part_idle : (load : Load) (rounds writer : ℕ) → writer < length load.scripts
    → is_possible load (reverse (played_rounds load rounds ++ round_part load rounds writer))
    (Takes_step writer) ≡ false
    → with_step load (played_rounds load rounds ++ round_part load rounds writer) writer
    ≡ played_rounds load rounds ++ round_part load rounds (suc writer)
part_idle load rounds writer below idle =
    ap
    (λ b. (played_rounds load rounds ++ round_part load rounds writer)
    ++ cond b (Takes_step writer ∷ []) []) idle
    ∙ (append_assoc (played_rounds load rounds) (round_part load rounds writer) []
    ∙ ap (λ ts. played_rounds load rounds ++ ts)
    (ap
    (λ b. round_part load rounds writer ++ cond b (Takes_step writer ∷ Reads_all ∷ []) [])
    (sym (sym (possible_between load rounds writer below) ∙ idle))
    ∙ sym (part_more load rounds writer below)))

-- THE WHOLE ORDER

-- so many rounds that each writer takes what the schedule left of its script
pub record AreEnough (load : Load) (rounds : ℕ) : Type 0 where
  pub enough : (writer : ℕ) → writer < length load.scripts
      → length (script_of load writer) ≤ scheduled_of load writer + rounds
  pub most : rounds ≤ steps_in load

-- no round comes after them
round_none : (load : Load) (rounds round : ℕ) → AreEnough load rounds → rounds ≤ round
    → round_of load round ≡ []
round_none load rounds round are past =
    sym (part_all load round) ∙ none (length load.scripts) (omega arith) where
      none : (writers : ℕ) → writers ≤ length load.scripts → round_part load round writers ≡ []
      none zero h = refl
      none (suc writer) h =
          part_more load round writer (omega (arith, h))
          ∙ (ap (λ ts. ts ++ turns_in load round (writer, script_of load writer))
          (none writer (omega (arith, h)))
          ∙ ap (λ b. cond b (Takes_step writer ∷ Reads_all ∷ []) [])
          (lt_false (scheduled_of load writer + round) (length (script_of load writer))
          (omega (arith, are.enough writer (omega (arith, h)), past))))

rounds_end : (load : Load) (rounds more : ℕ) → AreEnough load rounds
    → flat_map (round_of load) (count_up (more + rounds))
    ≡ flat_map (round_of load) (count_up rounds)
rounds_end load rounds zero are = ap (λ n. flat_map (round_of load) (count_up n)) (none rounds)
  where
    none : (n : ℕ) → 0 + n ≡ n
    none n = omega arith
rounds_end load rounds (suc more) are =
    ap (λ n. flat_map (round_of load) (count_up n)) (further more rounds)
    ∙ (flat_map-append (round_of load) (count_up (more + rounds)) ((more + rounds) ∷ [])
    ∙ (ap (λ ts. flat_map (round_of load) (count_up (more + rounds)) ++ (ts ++ []))
    (round_none load rounds (more + rounds) are (omega arith))
    ∙ (append-nil (flat_map (round_of load) (count_up (more + rounds)))
    ∙ rounds_end load rounds more are))) where
      further : (a b : ℕ) → suc a + b ≡ suc (a + b)
      further a b = omega arith

-- the schedule, the commands that are left, these rounds, and a last read are the order of the
-- workload
pub order_played : (load : Load) (rounds : ℕ) → AreEnough load rounds
    → order_of load ≡ played_rounds load rounds ++ Reads_all ∷ []
order_played load rounds are =
    let split : steps_in load ≡ (steps_in load - rounds) + rounds = omega (arith, are.most) in
    let all : rounds_of load ≡ flat_map (round_of load) (count_up rounds) =
    ap (λ n. flat_map (round_of load) (count_up n)) split
    ∙ rounds_end load rounds (steps_in load - rounds) are in
    ap (λ ts. scheduled load ++ (sends_left load ++ (ts ++ Reads_all ∷ []))) all
    ∙ (sym
    (append_assoc (scheduled load) (sends_left load)
    (flat_map (round_of load) (count_up rounds) ++ Reads_all ∷ []))
    ∙ sym
    (append_assoc (sent_first load) (flat_map (round_of load) (count_up rounds))
    (Reads_all ∷ [])))

-- in which each writer takes its whole script
pub count_whole : (load : Load) (rounds writer : ℕ) → AreEnough load rounds
    → writer < length load.scripts
    → count_by (is_step_of writer) (played_rounds load rounds ++ Reads_all ∷ [])
    ≡ length (script_of load writer)
count_whole load rounds writer are below =
    count-append (is_step_of writer) (played_rounds load rounds) (Reads_all ∷ [])
    ∙ omega (
      arith,
      count_one (is_step_of writer) Reads_all,
      count_rounds load writer rounds below,
      are.enough writer below,
    )

-- so many ones
sum_ones : {X : Type 0} (xs : List X) → sum_by (λ x. 1) xs ≡ length xs
sum_ones [] = refl
sum_ones (x ∷ xs) = sum_by-cons (λ y. 1) x xs ∙ (ap (λ n. 1 + n) (sum_ones xs) ∙ omega arith)

-- no script has more steps than all of them
pub script_within : (load : Load) (writer : ℕ) → writer < length load.scripts
    → length (script_of load writer) ≤ steps_in load
script_within load writer below =
    subst (λ n. n ≤ steps_in load) (sum_ones (script_of load writer))
    (get_or-le-sum_by (λ (s : List Step). sum_by (λ (t : Step). 1) s) load.scripts writer [] below)
