-- A recorder that takes the lines of a schedule and the rounds of an order.
use Rattle.std.proofs.Common.{◌≡◌, ℕ, zero, suc, ◌+◌, ◌<◌, ◌≤◌, true, false, cond, List, [], ◌∷◌}
use Rattle.std.proofs.Common.{refl, append_assoc, ◌++◌, length, reverse, replicate, ◌⊎◌, inl, inr}
use Rattle.std.proofs.Common.{sym, ap, ◌∙◌, subst, arith, append-nil, add-one}
use Rattle.std.specs.Prelude.{max, min, count_by, slice_index_or, nat_lt, Bool, ◌-◌}
use Rattle.std.proofs.lemmas.List.{replicate_more}
use Rattle.std.proofs.lemmas.Bool.{cases_order, cases_lt}
use Rattle.sv_load.specs.declared.load.Action.{Action}
use Rattle.sv_load.specs.declared.load.Action.TheVariants as actions
use Rattle.sv_load.specs.Load.{Load, script_of}
use Rattle.sv_load.specs.Need.{steps_in}
use Rattle.sv_journal.specs.declared.journal.Item.{Item}
use Rattle.sv_recorder.specs.Recording.{Recording}
use Rattle.sv_core.specs.Order.{Turn, Takes_step, Reads, Sends, line_turns, is_possible, possible}
use Rattle.sv_core.specs.Order.{is_send, scheduled}
use Rattle.sv_core.specs.Played.{IsPlayed, IsSending, with_step, played_rounds}
use Rattle.sv_core.proofs.parts.Counts.{lt_true, lt_false, count-cons}
use Rattle.sv_core.proofs.parts.TurnCounts.{count-append, count-reverse}
use Rattle.sv_core.proofs.in_order.OrderParts.{count_sends, send-same, asked_by, line_more}
use Rattle.sv_core.proofs.in_order.OrderParts.{reverse-replicate}
use Rattle.sv_core.proofs.in_order.RoundParts.{round_part, part_all}
use Rattle.sv_core.proofs.in_order.Rounds.{part_step, part_idle, rounds_more, script_within}
use Rattle.sv_core.proofs.in_order.Playing.{own_calls, played-read_all, played-send}

-- THE SCHEDULE

-- a line of steps
pub played-steps : (load : Load) (at : ℕ) (d : Action) (recorder : Recording) (writer count : ℕ)
    → at < length load.schedule
    → slice_index_or load.schedule at d ≡ actions.Step writer count
    → IsPlayed load (possible load (replicate count (Takes_step writer) ++ asked_by load at))
    recorder
    → IsPlayed load (possible load (asked_by load (at + 1))) recorder
played-steps load at d recorder writer count below line p =
    subst (λ ts. IsPlayed load (possible load ts) recorder)
    (sym
    (line_more load at d below
    ∙ (ap (λ a. reverse (line_turns a) ++ asked_by load at) line
    ∙ ap (λ ts. ts ++ asked_by load at) (reverse-replicate count (Takes_step writer))))) p

-- a line with a read
pub played-line : (load : Load) (at : ℕ) (d : Action) (recorder : Recording) (most : ℕ)
    → at < length load.schedule → slice_index_or load.schedule at d ≡ actions.Read most
    → IsPlayed load (possible load (asked_by load at) ++ Reads most ∷ []) recorder
    → IsPlayed load (possible load (asked_by load (at + 1))) recorder
played-line load at d recorder most below line p =
    subst (λ ts. IsPlayed load (possible load ts) recorder)
    (sym
    (line_more load at d below ∙ ap (λ a. reverse (line_turns a) ++ asked_by load at) line)) p

-- lines that send nothing
sends_same : (load : Load) (at : ℕ) (d : Action) → at < length load.schedule
    → count_by is_send (line_turns (slice_index_or load.schedule at d)) ≡ 0
    → count_by is_send (possible load (asked_by load (at + 1)))
    ≡ count_by is_send (possible load (asked_by load at))
sends_same load at d below none =
    count_sends load (asked_by load (at + 1))
    ∙ (ap (λ n. min n (length load.commands))
    (ap (count_by is_send) (line_more load at d below)
    ∙ (count-append is_send (reverse (line_turns (slice_index_or load.schedule at d)))
    (asked_by load at)
    ∙ (ap (λ n. n + count_by is_send (asked_by load at))
    (count-reverse is_send (line_turns (slice_index_or load.schedule at d)) ∙ none)
    ∙ rest (count_by is_send (asked_by load at)))))
    ∙ sym (count_sends load (asked_by load at))) where
      rest : (n : ℕ) → 0 + n ≡ n
      rest n = omega arith

pub sends-steps : (load : Load) (at : ℕ) (d : Action) (writer count : ℕ)
    → at < length load.schedule
    → slice_index_or load.schedule at d ≡ actions.Step writer count
    → count_by is_send (possible load (asked_by load (at + 1)))
    ≡ count_by is_send (possible load (asked_by load at))
sends-steps load at d writer count below line =
    sends_same load at d below
    (ap (λ a. count_by is_send (line_turns a)) line ∙ all count) where
      all : (n : ℕ) → count_by is_send (replicate n (Takes_step writer)) ≡ 0
      all zero = refl
      all (suc n) =
          count-cons is_send (Takes_step writer) (replicate n (Takes_step writer))
          ∙ omega (arith, all n)

pub sends-read : (load : Load) (at : ℕ) (d : Action) (most : ℕ)
    → at < length load.schedule → slice_index_or load.schedule at d ≡ actions.Read most
    → count_by is_send (possible load (asked_by load (at + 1)))
    ≡ count_by is_send (possible load (asked_by load at))
sends-read load at d most below line =
    sends_same load at d below
    (ap (λ a. count_by is_send (line_turns a)) line
    ∙ count-cons is_send (Reads most) [] ∙ omega arith)

-- the turns asked for, with a line of a send
line_is : (load : Load) (at : ℕ) (d : Action) → at < length load.schedule
    → slice_index_or load.schedule at d ≡ actions.Send
    → asked_by load (at + 1) ≡ Sends ∷ asked_by load at
line_is load at d below line =
    line_more load at d below ∙ ap (λ a. reverse (line_turns a) ++ asked_by load at) line

-- a line with a send: of the next command, or of none where none is left
pub played-line_send : (load : Load) (at : ℕ) (d : Action) (before after : Recording) (sent : ℕ)
    → at < length load.schedule → slice_index_or load.schedule at d ≡ actions.Send
    → IsPlayed load (possible load (asked_by load at)) before
    → (length load.commands ≤ count_by is_send (possible load (asked_by load at))
    → (sent ≡ count_by is_send (possible load (asked_by load at))) × (after ≡ before))
    → (count_by is_send (possible load (asked_by load at)) < length load.commands
    → (sent ≡ count_by is_send (possible load (asked_by load at)) + 1)
    × IsSending load before after (count_by is_send (possible load (asked_by load at))))
    → IsPlayed load (possible load (asked_by load (at + 1))) after
    × (sent ≡ count_by is_send (possible load (asked_by load (at + 1))))
played-line_send load at d before after sent below line p none some =
    by (cases_lt so_far (length load.commands)) where
      turns : List Turn
      turns = possible load (asked_by load at)

      so_far : ℕ
      so_far = count_by is_send turns

      next : (b : Bool) → nat_lt so_far (length load.commands) ≡ b
          → possible load (asked_by load (at + 1)) ≡ turns ++ cond b (Sends ∷ []) []
      next b e =
          ap (possible load) (line_is load at d below line)
          ∙ ap (λ c. turns ++ cond c (Sends ∷ []) []) (send-same load (asked_by load at) ∙ e)

      by : (so_far < length load.commands) ⊎ (length load.commands ≤ so_far)
          → IsPlayed load (possible load (asked_by load (at + 1))) after
          × (sent ≡ count_by is_send (possible load (asked_by load (at + 1))))
      by (inl left) =
          let s = some left in
          let is = next true (lt_true so_far (length load.commands) left) in (
            subst (λ ts. IsPlayed load ts after) (sym is)
                (played-send load turns before after p s.1),
            s.0 ∙ sym (ap (count_by is_send) is
                ∙ (count-append is_send turns (Sends ∷ [])
                ∙ ap (λ n. so_far + n) (count-cons is_send Sends []))),
          )
      by (inr past) =
          let s = none past in
          let is = next false (lt_false so_far (length load.commands) past)
          ∙ append-nil turns in (
            subst (λ ts. IsPlayed load ts after) (sym is)
                (subst (IsPlayed load turns) (sym s.1) p),
            s.0 ∙ sym (ap (count_by is_send) is),
          )

-- THE COMMANDS THAT ARE LEFT

-- how many were sent by then
pub sends-left : (load : Load) (done : ℕ)
    → count_by is_send (scheduled load ++ replicate done Sends)
    ≡ count_by is_send (scheduled load) + done
sends-left load done =
    count-append is_send (scheduled load) (replicate done Sends)
    ∙ ap (λ n. count_by is_send (scheduled load) + n) (all done) where
      all : (n : ℕ) → count_by is_send (replicate n Sends) ≡ n
      all zero = refl
      all (suc n) =
          count-cons is_send Sends (replicate n Sends) ∙ omega (arith, all n)

-- one more of them is sent; `at` is how many were sent before
pub played-left : (load : Load) (before after : Recording) (at : ℕ)
    → count_by is_send (scheduled load) ≤ at
    → IsPlayed load (scheduled load ++ replicate (at - count_by is_send (scheduled load)) Sends)
    before
    → IsSending load before after at
    → IsPlayed load
    (scheduled load ++ replicate ((at + 1) - count_by is_send (scheduled load)) Sends) after
played-left load before after at least p s =
    subst (λ ts. IsPlayed load ts after)
    (append_assoc (scheduled load) (replicate done Sends) (Sends ∷ [])
    ∙ ap (λ ts. scheduled load ++ ts)
    (replicate_more done Sends ∙ ap (λ n. replicate n Sends) longer))
    (played-send load (scheduled load ++ replicate done Sends) before after p
    (subst (IsSending load before after) (sym (sends-left load done ∙ here)) s)) where
      done : ℕ
      done = at - count_by is_send (scheduled load)

      here : count_by is_send (scheduled load) + done ≡ at
      here = omega (arith, least)

      longer : done + 1 ≡ (at + 1) - count_by is_send (scheduled load)
      longer = omega (arith, least)

-- THE ROUNDS

-- a writer more of whose steps the most is known
pub most-more : (load : Load) (items : List Item) (writer most left : ℕ)
    → left + own_calls writer items ≡ length (script_of load writer)
    → ((other : ℕ) → other < writer
    → length (script_of load other) ≤ own_calls other items + most)
    → (other : ℕ) → other < writer + 1
    → length (script_of load other) ≤ own_calls other items + max most left
most-more load items writer most left own so_far other below =
    at (cases_order other writer) where
      at : (other ≡ writer) ⊎ ((other < writer) ⊎ (writer < other))
          → length (script_of load other) ≤ own_calls other items + max most left
      at (inl same) =
          subst (λ w. length (script_of load w) ≤ own_calls w items + max most left) (sym same)
          (omega (arith, own))
      at (inr (inl earlier)) = omega (arith, so_far other earlier)
      at (inr (inr later)) = absurd (omega (arith, below, later))

pub most-within : (load : Load) (items : List Item) (writer most left : ℕ)
    → writer < length load.scripts → left + own_calls writer items ≡ length (script_of load writer)
    → most ≤ steps_in load → max most left ≤ steps_in load
most-within load items writer most left below own within =
    omega (arith, own, within, script_within load writer below)

-- a writer of a round that takes a step, after which everything is read
pub played-writer : (load : Load) (rounds writer : ℕ) (stepped after : Recording)
    → writer < length load.scripts
    → is_possible load (reverse (played_rounds load rounds ++ round_part load rounds writer))
    (Takes_step writer) ≡ true
    → IsPlayed load
    (with_step load (played_rounds load rounds ++ round_part load rounds writer) writer) stepped
    → after ≡ record stepped { freed = length stepped.sent }
    → IsPlayed load (played_rounds load rounds ++ round_part load rounds (writer + 1)) after
played-writer load rounds writer stepped after below steps p read =
    subst (λ ts. IsPlayed load ts after)
    (part_step load rounds writer below steps
    ∙ ap (λ n. played_rounds load rounds ++ round_part load rounds n) (sym (add-one writer)))
    (played-read_all load
    (with_step load (played_rounds load rounds ++ round_part load rounds writer) writer) stepped
    after p read)

-- and one that is through
pub played-idle_writer : (load : Load) (rounds writer : ℕ) (after : Recording)
    → writer < length load.scripts
    → is_possible load (reverse (played_rounds load rounds ++ round_part load rounds writer))
    (Takes_step writer) ≡ false
    → IsPlayed load
    (with_step load (played_rounds load rounds ++ round_part load rounds writer) writer) after
    → IsPlayed load (played_rounds load rounds ++ round_part load rounds (writer + 1)) after
played-idle_writer load rounds writer after below idle p =
    subst (λ ts. IsPlayed load ts after)
    (part_idle load rounds writer below idle
    ∙ ap (λ n. played_rounds load rounds ++ round_part load rounds n) (sym (add-one writer))) p

-- after the last writer the round is over
pub played-round : (load : Load) (rounds writer : ℕ) (recorder : Recording)
    → writer ≡ length load.scripts
    → IsPlayed load (played_rounds load rounds ++ round_part load rounds writer) recorder
    → IsPlayed load (played_rounds load (rounds + 1)) recorder
played-round load rounds writer recorder all p =
    subst (λ ts. IsPlayed load ts recorder)
    (ap (λ n. played_rounds load rounds ++ round_part load rounds n) all
    ∙ (ap (λ ts. played_rounds load rounds ++ ts) (part_all load rounds)
    ∙ (sym (rounds_more load rounds)
    ∙ ap (λ n. played_rounds load n) (sym (add-one rounds))))) p
