-- What the items of a legal journal have in all, where each has no more than its weight: as many
-- items, or as many bytes.
use Rattle.std.proofs.Common.{◌≡◌, ℕ, ◌+◌, ◌*◌, ◌<◌, ◌≤◌, Bool, true, false, ◌&&◌, ◌||◌, cond, List}
use Rattle.std.proofs.Common.{[], ◌∷◌, length, refl, sym, ap, subst, ◌∙◌, inl, inr, arith}
use Rattle.std.specs.Prelude.{sum_by, count_by, nat_lt}
use Rattle.std.specs.Option.{option_map_or}
use Rattle.std.proofs.Math.Nat.{mul-le-mul_right}
use Rattle.std.proofs.lemmas.List.Sums.{sum_by-cons}
use Rattle.sv_packet.specs.declared.event.Event.TheVariants.{Nop}
use Rattle.sv_load.specs.Load.{Load, act_of}
use Rattle.sv_load.specs.Need.{over_steps}
use Rattle.sv_journal.specs.declared.journal.Origin.{Origin}
use Rattle.sv_journal.specs.declared.journal.Origin.TheVariants.{Call, Sync, Reply, Overflow}
use Rattle.sv_journal.specs.declared.journal.Origin.TheVariants.{Command}
use Rattle.sv_journal.specs.declared.journal.Outcome.{Outcome}
use Rattle.sv_journal.specs.declared.journal.Outcome.TheVariants.{Handled}
use Rattle.sv_journal.specs.declared.journal.Item.{Item}
use Rattle.sv_journal.specs.Items.{latest_first, is_start, is_stop, is_overflow, is_command}
use Rattle.sv_journal.specs.Items.{is_packet, holds_packet, is_on, pending_at, is_after_overflow}
use Rattle.sv_journal.specs.Items.{before_overflow, act_event}
use Rattle.sv_journal.specs.Legal.{IsLegal, EachItem, IsNextItem, is_control, is_head, group_of}
use Rattle.sv_journal.specs.Open.{IsOpen, IsDue}
use Rattle.sv_need.specs.Next.{MayCome}
use Rattle.sv_journal.proofs.Shared.{outcome_at-control, IsOpen-legal, IsLegal-open}
use Rattle.sv_need.specs.Weights.{Weights, reply_weight, plain_weight, weight, weight_of}
use Rattle.sv_need.proofs.Groups.{act_most, group_most, group_weight}
use Rattle.sv_need.proofs.Heads.{journal_weight, reverse_sum}
use Rattle.sv_need.proofs.Scripts.{heads_most, heads_next}

-- what an item has by its origin; a packet leaves room for an overflow
abbrev pub IsPlainSize : Weights → Load → ℕ → ℕ → Origin → Type 0
IsPlainSize w load most size (Call writer step) =
    size + most ≤ w.call (option_map_or act_event (act_of load writer step) Nop)
IsPlainSize w load most size Sync = size ≤ w.sync
IsPlainSize w load most size (Reply kind index) = size + most ≤ reply_weight w kind
IsPlainSize w load most size (Overflow count) = size ≤ most
IsPlainSize w load most size (Command byte param) = Unit {0}

pub record IsSized (w : Weights) (load : Load) (most : ℕ) (size : List Item → Item → ℕ)
    (earlier : List Item) (item : Item) : Type 0 where
  pub control : is_control load item.origin ≡ true → size earlier item ≤ w.control
  pub plain : IsPlainSize w load most (size earlier item) item.origin

abbrev pub total : (List Item → Item → ℕ) → List Item → ℕ
total size [] = 0
total size (i ∷ earlier) = total size earlier + size earlier i

or_last : (a : Bool) → (a || true) ≡ true
or_last true = refl
or_last false = refl

command_control : (load : Load) (byte param : ℕ) → is_control load (Command byte param) ≡ true
command_control load byte param = or_last (is_start load (Command byte param) || is_stop load
    (Command byte param))

-- a packet has room for an overflow within its weight
packet_fits : (w : Weights) (load : Load) (most size : ℕ) (origin : Origin) (outcome : Outcome)
    → (is_control load origin ≡ true → outcome ≡ Handled) → IsPlainSize w load most size origin
    → holds_packet origin outcome ≡ true → size + most ≤ weight w load origin
packet_fits w load most size (Call writer step) outcome handled plain packet =
    elim (is_control load (Call writer step)) as (λ b. is_control load (Call writer step) ≡ b
    → size + most ≤ cond b w.control (plain_weight w load (Call writer step))) [
      | true ↦ λ control. let none : true ≡ false = sym packet
          ∙ ap (holds_packet (Call writer step)) (handled control) in absurd cc
      | false ↦ λ other. plain
    ] refl
packet_fits w load most size (Reply kind index) outcome handled plain packet = plain
packet_fits w load most size Sync outcome handled plain packet = absurd cc
packet_fits w load most size (Overflow count) outcome handled plain packet = absurd cc
packet_fits w load most size (Command byte param) outcome handled plain packet = absurd cc

-- any item but an overflow is within its weight
item_fits : (w : Weights) (load : Load) (most size : ℕ) (origin : Origin)
    → (is_control load origin ≡ true → size ≤ w.control) → IsPlainSize w load most size origin
    → is_overflow origin ≡ false → size ≤ weight w load origin
item_fits w load most size (Call writer step) handled plain other =
    elim (is_control load (Call writer step)) as (λ b. is_control load (Call writer step) ≡ b
    → size ≤ cond b w.control (plain_weight w load (Call writer step))) [
      | true ↦ λ control. handled control
      | false ↦ λ recorded. omega (arith, plain)
    ] refl
item_fits w load most size (Reply kind index) handled plain other = omega (arith, plain)
item_fits w load most size Sync handled plain other = plain
item_fits w load most size (Overflow count) handled plain other = absurd cc
item_fits w load most size (Command byte param) handled plain other =
    omega (
      arith,
      handled (command_control load byte param),
      ap (λ b. cond b w.control w.control)
          (command_control load byte param),
    )

overflow_fits : (w : Weights) (load : Load) (most size : ℕ) (origin : Origin)
    → IsPlainSize w load most size origin → is_overflow origin ≡ true → size ≤ most
overflow_fits w load most size (Overflow count) plain over = plain
overflow_fits w load most size (Call writer step) plain over = absurd cc
overflow_fits w load most size Sync plain over = absurd cc
overflow_fits w load most size (Reply kind index) plain over = absurd cc
overflow_fits w load most size (Command byte param) plain over = absurd cc

overflow_no_packet : (origin : Origin) (outcome : Outcome) → is_overflow origin ≡ true
    → holds_packet origin outcome ≡ false
overflow_no_packet (Overflow count) outcome over = refl
overflow_no_packet (Call writer step) outcome over = absurd cc
overflow_no_packet Sync outcome over = absurd cc
overflow_no_packet (Reply kind index) outcome over = absurd cc
overflow_no_packet (Command byte param) outcome over = absurd cc

-- no overflow stands before an item that is no packet
not_owed : (load : Load) (earlier : List Item) (i : Item) → IsNextItem load earlier i
    → is_packet i ≡ false → is_after_overflow earlier ≡ false
not_owed load earlier i next none = next.overflow
    ∙ ap (λ b. (b && is_on load (before_overflow earlier)) && nat_lt 0
    (pending_at (before_overflow earlier))) none

abbrev weights_of : Weights → Load → List Item → ℕ
weights_of w load earlier = sum_by (λ i. weight w load i.origin) earlier

-- the room that an overflow at the end has in the weight of its packet
abbrev ahead : ℕ → Bool → ℕ
ahead most over = cond over most 0

ahead_most : (most : ℕ) (over : Bool) → ahead most over ≤ most
ahead_most most true = omega arith
ahead_most most false = omega arith

one_more : (w : Weights) (load : Load) (most : ℕ) (size : List Item → Item → ℕ)
    (earlier : List Item) (i : Item) → IsNextItem load earlier i
    → IsSized w load most size earlier i
    → total size earlier ≤ weights_of w load earlier + ahead most (is_after_overflow earlier)
    → total size earlier + size earlier i ≤ (weight w load i.origin + weights_of w load earlier) +
    ahead most (is_overflow i.origin)
one_more w load most size earlier i next sized before =
    elim (is_overflow i.origin) as (λ b. is_overflow i.origin ≡ b
    → total size earlier + size earlier i ≤ (weight w load i.origin + weights_of w load earlier) +
    ahead most b) [
      | true ↦ λ over. omega (
        arith,
        before,
        overflow_fits w load most (size earlier i) i.origin
            sized.plain over,
        ap (ahead most) (not_owed load earlier i next
            (overflow_no_packet i.origin i.outcome over)),
      )
      | false ↦ λ other. elim (is_packet i) as (λ b. is_packet i ≡ b
          → total size earlier + size earlier i ≤ (weight w load i.origin + weights_of w load
          earlier) +
          0) [
            | true ↦ λ packet. omega (
              arith,
              before,
              ahead_most most (is_after_overflow earlier),
              packet_fits w load most (size earlier i) i.origin i.outcome (λ control. next.outcome
                  ∙ outcome_at-control load earlier i control) sized.plain packet,
            )
            | false ↦ λ none. omega (
              arith,
              before,
              item_fits w load most (size earlier i) i.origin
                  sized.control sized.plain other,
              ap (ahead most) (not_owed load earlier i next none),
            )
          ] refl
    ] refl

total_weight : (w : Weights) (load : Load) (most : ℕ) (size : List Item → Item → ℕ)
    (earlier : List Item) → EachItem (IsNextItem load) earlier
    → EachItem (IsSized w load most size) earlier
    → total size earlier ≤ weights_of w load earlier + ahead most (is_after_overflow earlier)
total_weight w load most size [] next sized = omega arith
total_weight w load most size (i ∷ earlier) next sized =
    omega (
      arith,
      sum_by-cons (λ (j : Item). weight w load j.origin) i earlier,
      one_more w load most
          size earlier i next.1 sized.1 (total_weight w load most size earlier next.0 sized.0),
    )

-- what all steps need, and all commands
abbrev pub need_of : Weights → Load → ℕ
need_of w load = over_steps (λ s. act_most w load s.act) load + length load.commands * group_most w
    load

commands_same : (items : List Item) → count_by (λ i. is_command i.origin) (latest_first items) ≡
    count_by (λ i. is_command i.origin) items
commands_same items = reverse_sum (λ (i : Item). cond (is_command i.origin) 1 0) items

-- all items of a journal and what it owes: no more than the need
pub within : (w : Weights) (load : Load) (most : ℕ) (size : List Item → Item → ℕ)
    (items : List Item) (owed : List Origin) → IsOpen load items owed
    → EachItem (IsSized w load most size) (latest_first items)
    → total size (latest_first items) + weight_of w load owed ≤ need_of w load
within w load most size items owed journal sized =
    let all = total_weight w load most size (latest_first items) journal.each sized in
    let last : ahead most (is_after_overflow (latest_first items)) ≡ 0 =
    ap (ahead most) journal.ends in
    let few : count_by (λ (i : Item). is_command i.origin) (latest_first items) ≤ length
    load.commands = omega (arith, commands_same items, journal.commands) in
    omega (
      arith,
      all,
      last,
      journal_weight w load items owed journal.groups,
      heads_most w load
          (latest_first items) journal.each,
      mul-le-mul_right (group_most w load) few,
    )

few_commands : (command : Bool) (before most : ℕ) → (command ≡ true → before < most) → before ≤ most
    → cond command 1 0 + before ≤ most
few_commands true before most some le = omega (arith, some refl)
few_commands false before most some le = omega (arith, le)

-- and so with the group that comes next
pub within_next : (w : Weights) (load : Load) (most : ℕ) (size : List Item → Item → ℕ)
    (items : List Item) (next : Origin) → IsLegal load items → is_head next ≡ true
    → MayCome load items next → EachItem (IsSized w load most size) (latest_first items)
    → total size (latest_first items) + weight_of w load (group_of load next) ≤ need_of w load
within_next w load most size items next legal head may sized =
    let journal = IsOpen-legal load items legal in
    let all = total_weight w load most size (latest_first items) legal.each sized in
    let last : ahead most (is_after_overflow (latest_first items)) ≡ 0 =
    ap (ahead most) legal.ends in
    let none : weight_of w load [] ≡ 0 = refl in
    let few : cond (is_command next) 1 0 + count_by (λ (i : Item). is_command i.origin)
    (latest_first items) ≤ length load.commands =
    omega (
      arith,
      commands_same items,
      few_commands (is_command next)
          (count_by (λ (i : Item). is_command i.origin) items) (length load.commands) may.command
          legal.commands,
    ) in
    omega (
      arith,
      all,
      last,
      none,
      journal_weight w load items [] journal.groups,
      group_weight w
          load next head,
      heads_next w load (latest_first items) next legal.each may.step,
      mul-le-mul_right (group_most w load) few,
    )

-- and so with what is due next, a head or an answer, and what is owed after it
pub within_due : (w : Weights) (load : Load) (most : ℕ) (size : List Item → Item → ℕ)
    (items : List Item) (owed rest : List Origin) (next : Origin) → IsOpen load items owed
    → IsDue load owed next rest → MayCome load items next
    → EachItem (IsSized w load most size) (latest_first items)
    → total size (latest_first items) + weight_of w load (next ∷ rest) ≤ need_of w load
within_due w load most size items owed rest next journal (inl answer) may sized =
    omega (arith, within w load most size items owed journal sized, ap (weight_of w load) answer.1)
within_due w load most size items owed rest next journal (inr head) may sized =
    let legal : IsLegal load items = IsLegal-open load items
    (subst (IsOpen load items) head.1 journal) in
    omega (
      arith,
      within_next w load most size items next legal head.0 may sized,
      ap
          (λ (os : List Origin). weight_of w load (next ∷ os)) head.2,
    )
