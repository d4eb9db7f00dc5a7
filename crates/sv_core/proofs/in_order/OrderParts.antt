-- The turns of a schedule, as they are taken one after another.
use Rattle.std.proofs.Common.{◌≡◌, ℕ, zero, suc, ◌+◌, ◌<◌, ◌≤◌, min, Bool, true, false, cond, List}
use Rattle.std.proofs.Common.{[], ◌∷◌, ◌++◌, length, reverse, replicate, flat_map, take, ◌⊎◌, inl}
use Rattle.std.proofs.Common.{inr, refl, sym, ap, ◌∙◌, subst, arith, rules, append-nil, add-one}
use Rattle.std.specs.Prelude.{count_by, nat_lt, ◌==◌, slice_index_or}
use Rattle.std.proofs.Math.Seq.{take-suc}
use Rattle.std.proofs.lemmas.List.{reverse-append, replicate_more}
use Rattle.std.proofs.lemmas.List.Concat.{flat_map-append}
use Rattle.std.proofs.lemmas.Bool.{cases_lt}
use Rattle.sv_load.specs.declared.load.Action.{Action}
use Rattle.sv_load.specs.Load.{Load, script_of}
use Rattle.sv_core.specs.Order.{Turn, Takes_step, Reads, Reads_all, Sends, is_step_of, is_send}
use Rattle.sv_core.specs.Order.{line_turns, is_possible, possible}
use Rattle.sv_core.specs.Played.{with_step}
use Rattle.sv_core.proofs.parts.Counts.{lt_true, lt_false, count-cons}
use Rattle.sv_core.proofs.parts.TurnCounts.{count-append, count-reverse}

-- WHAT IS TAKEN OF WHAT IS ASKED

-- one element alone
pub count_one : {X : Type 0} (p : X → Bool) (x : X) → count_by p (x ∷ []) ≡ cond (p x) 1 0
count_one p x = count-cons p x [] ∙ omega arith

-- a writer takes as many steps as are asked, or its whole script
pub count_possible : (load : Load) (writer : ℕ) (asked : List Turn)
    → count_by (is_step_of writer) (possible load asked)
    ≡ min (count_by (is_step_of writer) asked) (length (script_of load writer))
count_possible load writer [] = omega arith
count_possible load writer (t ∷ earlier) =
    count-append (is_step_of writer) (possible load earlier)
    (cond (is_possible load earlier t) (t ∷ []) [])
    ∙ (ap
    (λ n. n + count_by (is_step_of writer) (cond (is_possible load earlier t) (t ∷ []) []))
    (count_possible load writer earlier)
    ∙ (at t ∙ ap (λ n. min n (length (script_of load writer)))
    (sym (count-cons (is_step_of writer) t earlier)))) where
      c : ℕ
      c = count_by (is_step_of writer) earlier

      other : (t : Turn) (b : Bool) → is_step_of writer t ≡ false
          → min c (length (script_of load writer))
          + count_by (is_step_of writer) (cond b (t ∷ []) [])
          ≡ min (cond (is_step_of writer t) 1 0 + c) (length (script_of load writer))
      other t true e =
          ap (λ n. min c (length (script_of load writer)) + n)
          (count_one (is_step_of writer) t ∙ ap (λ b. cond b 1 0) e)
          ∙ (omega arith
          ∙ ap (λ b. min (cond b 1 0 + c) (length (script_of load writer))) (sym e))
      other t false e =
          omega arith ∙ ap (λ b. min (cond b 1 0 + c) (length (script_of load writer))) (sym e)

      own : (v : ℕ) → (v == writer) ≡ true → v ≡ writer → (b : Bool)
          → nat_lt (count_by (is_step_of v) earlier) (length (script_of load v)) ≡ b
          → min c (length (script_of load writer))
          + count_by (is_step_of writer) (cond b (Takes_step v ∷ []) [])
          ≡ min (cond (v == writer) 1 0 + c) (length (script_of load writer))
      own v e same true h =
          let below : count_by (is_step_of v) earlier < length (script_of load v) =
          search (rules, h) in
          let here : c < length (script_of load writer) =
          subst (λ w. count_by (is_step_of w) earlier < length (script_of load w)) same below in
          ap (λ n. min c (length (script_of load writer)) + n)
          (count_one (is_step_of writer) (Takes_step v) ∙ ap (λ b. cond b 1 0) e)
          ∙ (sums c (length (script_of load writer)) here
          ∙ ap (λ b. min (cond b 1 0 + c) (length (script_of load writer))) (sym e)) where
            sums : (a b : ℕ) → a < b → min a b + 1 ≡ min (1 + a) b
            sums a b h = omega arith
      own v e same false h =
          let past : length (script_of load v) ≤ count_by (is_step_of v) earlier =
          search (rules, h) in
          let here : length (script_of load writer) ≤ c =
          subst (λ w. length (script_of load w) ≤ count_by (is_step_of w) earlier) same past in
          sums c (length (script_of load writer)) here
          ∙ ap (λ b. min (cond b 1 0 + c) (length (script_of load writer))) (sym e) where
            sums : (a b : ℕ) → b ≤ a → min a b + 0 ≡ min (1 + a) b
            sums a b h = omega arith

      at : (t : Turn) → min c (length (script_of load writer))
          + count_by (is_step_of writer) (cond (is_possible load earlier t) (t ∷ []) [])
          ≡ min (cond (is_step_of writer t) 1 0 + c) (length (script_of load writer))
      at (Takes_step v) = by (v == writer) refl where
        by : (b : Bool) → (v == writer) ≡ b → min c (length (script_of load writer))
            + count_by (is_step_of writer)
            (cond (is_possible load earlier (Takes_step v)) (Takes_step v ∷ []) [])
            ≡ min (cond (v == writer) 1 0 + c) (length (script_of load writer))
        by true e =
            own v e (search (rules, e))
            (nat_lt (count_by (is_step_of v) earlier) (length (script_of load v))) refl
        by false e = other (Takes_step v) (is_possible load earlier (Takes_step v)) e
      at (Reads most) = other (Reads most) true refl
      at Reads_all = other Reads_all true refl
      at Sends = other Sends (is_possible load earlier Sends) refl

-- below a number is what its smaller one with it is
pub within : (a b : ℕ) → nat_lt (min a b) b ≡ nat_lt a b
within a b = at (cases_lt a b) where
  at : (a < b) ⊎ (b ≤ a) → nat_lt (min a b) b ≡ nat_lt a b
  at (inl below) = lt_true (min a b) b (omega (arith, below)) ∙ sym (lt_true a b below)
  at (inr past) = lt_false (min a b) b (omega (arith, past)) ∙ sym (lt_false a b past)

-- a step that comes after the possible turns is possible where it is after all that are asked
pub possible-same : (load : Load) (asked : List Turn) (writer : ℕ)
    → is_possible load (reverse (possible load asked)) (Takes_step writer)
    ≡ is_possible load asked (Takes_step writer)
possible-same load asked writer =
    ap (λ n. nat_lt n (length (script_of load writer)))
    (count-reverse (is_step_of writer) (possible load asked) ∙ count_possible load writer asked)
    ∙ within (count_by (is_step_of writer) asked) (length (script_of load writer))

-- so a step taken is a step asked
pub step_asked : (load : Load) (asked : List Turn) (writer : ℕ)
    → with_step load (possible load asked) writer ≡ possible load (Takes_step writer ∷ asked)
step_asked load asked writer =
    ap (λ b. possible load asked ++ cond b (Takes_step writer ∷ []) [])
    (possible-same load asked writer)

-- where a step is not possible, so many more of them are not
pub steps_through : (load : Load) (asked : List Turn) (writer few count : ℕ)
    → is_possible load (replicate few (Takes_step writer) ++ asked) (Takes_step writer) ≡ false
    → few ≤ count
    → possible load (replicate count (Takes_step writer) ++ asked)
    ≡ possible load (replicate few (Takes_step writer) ++ asked)
steps_through load asked writer few zero through h =
    ap (λ n. possible load (replicate n (Takes_step writer) ++ asked)) (none few h) where
      none : (n : ℕ) → n ≤ 0 → 0 ≡ n
      none n h = omega arith
steps_through load asked writer few (suc count) through h =
    at (cases_lt count few) (steps_through load asked writer few count through) where
      t : Turn
      t = Takes_step writer

      number : (n : ℕ) → count_by (is_step_of writer) (replicate n t ++ asked)
          ≡ n + count_by (is_step_of writer) asked
      number zero = omega arith
      number (suc n) =
          count-cons (is_step_of writer) t (replicate n t ++ asked)
          ∙ (ap (λ b. cond b 1 0 + count_by (is_step_of writer) (replicate n t ++ asked))
          (same writer) ∙ further (count_by (is_step_of writer) asked) n (number n)) where
            same : (w : ℕ) → (w == w) ≡ true
            same w = search rules

            further : {a : ℕ} (b n : ℕ) → a ≡ n + b → 1 + a ≡ suc n + b
            further b n e = omega arith

      at : (count < few) ⊎ (few ≤ count)
          → (few ≤ count
          → possible load (replicate count t ++ asked) ≡ possible load (replicate few t ++ asked))
          → possible load (replicate (suc count) t ++ asked)
          ≡ possible load (replicate few t ++ asked)
      at (inl below) rest =
          ap (λ n. possible load (replicate n t ++ asked)) (exact count few below h) where
            exact : (a b : ℕ) → a < b → b ≤ suc a → suc a ≡ b
            exact a b h k = omega arith
      at (inr more) rest =
          let past : length (script_of load writer)
          ≤ count_by (is_step_of writer) (replicate few t ++ asked) =
          search (rules, through) in
          let then_past : length (script_of load writer)
          ≤ count_by (is_step_of writer) (replicate count t ++ asked) =
          omega (arith, past, more, number few, number count) in
          ap (λ b. possible load (replicate count t ++ asked) ++ cond b (t ∷ []) [])
          (lt_false (count_by (is_step_of writer) (replicate count t ++ asked))
          (length (script_of load writer)) then_past)
          ∙ (append-nil (possible load (replicate count t ++ asked))
          ∙ rest more)

-- as many sends as are asked, or one for each command
pub count_sends : (load : Load) (asked : List Turn)
    → count_by is_send (possible load asked)
    ≡ min (count_by is_send asked) (length load.commands)
count_sends load [] = omega arith
count_sends load (t ∷ earlier) =
    count-append is_send (possible load earlier) (cond (is_possible load earlier t) (t ∷ []) [])
    ∙ (ap (λ n. n + count_by is_send (cond (is_possible load earlier t) (t ∷ []) []))
    (count_sends load earlier)
    ∙ (at t ∙ ap (λ n. min n (length load.commands)) (sym (count-cons is_send t earlier)))) where
      c : ℕ
      c = count_by is_send earlier

      other : (t : Turn) (b : Bool) → is_send t ≡ false
          → min c (length load.commands) + count_by is_send (cond b (t ∷ []) [])
          ≡ min (cond (is_send t) 1 0 + c) (length load.commands)
      other t true e =
          ap (λ n. min c (length load.commands) + n)
          (count_one is_send t ∙ ap (λ b. cond b 1 0) e)
          ∙ (omega arith ∙ ap (λ b. min (cond b 1 0 + c) (length load.commands)) (sym e))
      other t false e =
          omega arith ∙ ap (λ b. min (cond b 1 0 + c) (length load.commands)) (sym e)

      own : (b : Bool) → nat_lt c (length load.commands) ≡ b
          → min c (length load.commands) + count_by is_send (cond b (Sends ∷ []) [])
          ≡ min (1 + c) (length load.commands)
      own true h =
          let below : c < length load.commands = search (rules, h) in
          ap (λ n. min c (length load.commands) + n) (count_one is_send Sends)
          ∙ omega (arith, below)
      own false h =
          let past : length load.commands ≤ c = search (rules, h) in
          omega (arith, past)

      at : (t : Turn) → min c (length load.commands)
          + count_by is_send (cond (is_possible load earlier t) (t ∷ []) [])
          ≡ min (cond (is_send t) 1 0 + c) (length load.commands)
      at (Takes_step v) = other (Takes_step v) (is_possible load earlier (Takes_step v)) refl
      at (Reads most) = other (Reads most) true refl
      at Reads_all = other Reads_all true refl
      at Sends = own (nat_lt c (length load.commands)) refl

-- a send after the possible turns is possible exactly where a command is left
pub send-same : (load : Load) (asked : List Turn)
    → is_possible load asked Sends
    ≡ nat_lt (count_by is_send (possible load asked)) (length load.commands)
send-same load asked =
    sym
    (ap (λ n. nat_lt n (length load.commands)) (count_sends load asked)
    ∙ within (count_by is_send asked) (length load.commands))

-- LINES

-- the turns that the first lines ask for, the latest first
abbrev pub asked_by : Load → ℕ → List Turn
asked_by load lines = reverse (flat_map line_turns (take lines load.schedule))

-- a line more
pub line_more : (load : Load) (at : ℕ) (d : Action) → at < length load.schedule
    → asked_by load (at + 1)
    ≡ reverse (line_turns (slice_index_or load.schedule at d)) ++ asked_by load at
line_more load at d below =
    ap (λ n. asked_by load n) (add-one at)
    ∙ (ap (λ ls. reverse (flat_map line_turns ls)) (take-suc load.schedule at d below)
    ∙ (ap reverse
    (flat_map-append line_turns (take at load.schedule)
    (slice_index_or load.schedule at d ∷ []))
    ∙ (reverse-append (flat_map line_turns (take at load.schedule))
    (line_turns (slice_index_or load.schedule at d) ++ [])
    ∙ ap (λ ts. reverse ts ++ asked_by load at)
    (append-nil (line_turns (slice_index_or load.schedule at d))))))

-- so many times the same, from behind
pub reverse-replicate : {X : Type 0} (n : ℕ) (x : X) → reverse (replicate n x) ≡ replicate n x
reverse-replicate zero x = refl
reverse-replicate (suc n) x =
    reverse-append (x ∷ []) (replicate n x)
    ∙ (ap (λ xs. xs ++ x ∷ []) (reverse-replicate n x)
    ∙ (replicate_more n x ∙ ap (λ m. replicate m x) (add-one n)))
