-- The heads of a journal are steps of the scripts, each at most once, and commands.
use Rattle.std.proofs.Common.{◌≡◌, ℕ, zero, suc, ◌+◌, ◌*◌, ◌<◌, ◌≤◌, ◌≢◌, cond, Some, List, [], ◌∷◌}
use Rattle.std.proofs.Common.{length, get_or, take, refl, sym, ap, subst, ◌∙◌, arith}
use Rattle.std.specs.Prelude.{sum_by, count_by, slice_get, slice_index_or, option_map}
use Rattle.std.specs.Option.{option_map_or}
use Rattle.std.proofs.Math.Nat.{one-mul, add-mul}
use Rattle.std.proofs.lemmas.Bool.{eq-eqb, ne_eqb}
use Rattle.std.proofs.lemmas.Option.{slice_get-get_or}
use Rattle.std.proofs.lemmas.List.Sums.{sum_by-cons, sum_by-take-le, sum_by_more}
use Rattle.sv_packet.specs.declared.event.Event.TheVariants.{Nop}
use Rattle.sv_load.specs.declared.load.Act.TheVariants as acts
use Rattle.sv_load.specs.declared.load.Step.{Step}
use Rattle.sv_load.specs.Load.{Load, act_of, script_of}
use Rattle.sv_load.specs.Need.{over_steps}
use Rattle.sv_journal.specs.declared.journal.Origin.{Origin}
use Rattle.sv_journal.specs.declared.journal.Origin.TheVariants.{Call, Sync, Reply, Overflow}
use Rattle.sv_journal.specs.declared.journal.Origin.TheVariants.{Command}
use Rattle.sv_journal.specs.declared.journal.Item.{Item}
use Rattle.sv_journal.specs.Items.{is_call_of, is_command}
use Rattle.sv_journal.specs.Legal.{EachItem, IsNextItem, IsNextStep}
use Rattle.sv_need.specs.Weights.{Weights}
use Rattle.sv_need.proofs.Groups.{act_most, head_most, group_most}

-- the first so many steps of each script, summed
abbrev pub spent : {S : Type 0} → (S → ℕ) → List (List S) → (ℕ → ℕ) → ℕ
spent f [] counts = 0
spent f (script ∷ rest) counts = sum_by f (take (counts 0) script) + spent f rest
    (λ v. counts (suc v))

pub spent-same : {S : Type 0} (f : S → ℕ) (scripts : List (List S)) (a b : ℕ → ℕ)
    → ((v : ℕ) → a v ≡ b v) → spent f scripts a ≡ spent f scripts b
spent-same f [] a b same = refl
spent-same f (script ∷ rest) a b same = omega (
  arith,
  ap (λ n. sum_by f (take n script)) (same 0),
  spent-same f rest (λ v. a (suc v)) (λ v. b (suc v)) (λ v. same (suc v)),
)

pub spent-most : {S : Type 0} (f : S → ℕ) (scripts : List (List S)) (counts : ℕ → ℕ)
    → spent f scripts counts ≤ sum_by (λ script. sum_by f script) scripts
spent-most f [] counts = omega arith
spent-most f (script ∷ rest) counts = omega (
  arith,
  sum_by-take-le f script (counts 0),
  spent-most f
      rest (λ v. counts (suc v)),
  sum_by-cons (λ (s : List _). sum_by f s) script rest,
)

-- one step more of one writer
pub spent-more : {S : Type 0} (f : S → ℕ) (d : S) (scripts : List (List S)) (writer : ℕ)
    (counts more : ℕ → ℕ) → counts writer < length (slice_index_or scripts writer [])
    → more writer ≡ counts writer + 1 → ((v : ℕ) → writer ≢ v → more v ≡ counts v)
    → spent f scripts more ≡ f (get_or (slice_index_or scripts writer []) (counts writer) d) + spent
    f scripts counts
spent-more f d [] writer counts more below one same = absurd (omega (arith, below))
spent-more f d (script ∷ rest) zero counts more below one same =
    omega (
      arith,
      ap (λ n. sum_by f (take n script)) one,
      sum_by_more f script (counts 0) d below,
      spent-same f rest (λ v. more (suc v)) (λ v. counts (suc v))
          (λ v. same (suc v) (λ e. omega (arith, e))),
    )
spent-more f d (script ∷ rest) (suc writer) counts more below one same =
    omega (
      arith,
      ap (λ n. sum_by f (take n script)) (same 0 (λ e. omega (arith, e))),
      spent-more f
          d rest writer (λ v. counts (suc v)) (λ v. more (suc v)) below one
          (λ v other. same (suc v) (λ e. other (omega (arith, e)))),
    )

abbrev pub calls_at : List Item → ℕ → ℕ
calls_at earlier writer = count_by (λ i. is_call_of writer i.origin) earlier

abbrev step_most : Weights → Load → Step → ℕ
step_most w load step = act_most w load step.act

-- the steps and commands so far
abbrev charged : Weights → Load → (ℕ → ℕ) → ℕ → ℕ
charged w load counts commands = spent (step_most w load) load.scripts counts + commands *
    group_most w load

pub no_step : Step
no_step = record { advance = 0; act = acts.Stop }

-- what comes to an item by its origin
abbrev pub one_call : Origin → ℕ → ℕ
one_call origin writer = cond (is_call_of writer origin) 1 0

none-called : (w : Weights) (load : Load) (counts : ℕ → ℕ)
    → spent (step_most w load) load.scripts (λ v. 0 + counts v) ≡ spent (step_most w load)
    load.scripts counts
none-called w load counts = spent-same (step_most w load) load.scripts (λ v. 0 + counts v) counts
    (λ v. omega arith)

no_command : (w : Weights) (load : Load) (commands : ℕ)
    → (0 + commands) * group_most w load ≡ commands * group_most w load
no_command w load commands = let same : 0 + commands ≡ commands =
    omega arith in ap (λ n. n * group_most w load) same

charge : (w : Weights) (load : Load) (earlier : List Item) (commands : ℕ) (origin : Origin)
    → IsNextStep load earlier origin
    → head_most w load origin + charged w load (calls_at earlier) commands ≤ charged w load
    (λ v. one_call origin v + calls_at earlier v) (cond (is_command origin) 1 0 + commands)
charge w load earlier commands (Call writer step) next =
    let script = script_of load writer in
    let at : step ≡ calls_at earlier writer = next.0 in
    let below : calls_at earlier writer < length script =
    subst (λ n. n < length script) at next.1 in
    let found : act_of load writer step ≡ Some (get_or script (calls_at earlier writer)
    no_step).act = ap (λ n. option_map (λ (s : Step). s.act) (slice_get script n)) at
    ∙ ap (option_map (λ (s : Step). s.act)) (slice_get-get_or script (calls_at earlier writer)
    no_step below) in
    let head : head_most w load (Call writer step) ≡ step_most w load
    (get_or script (calls_at earlier writer) no_step) =
    ap (λ o. option_map_or (act_most w load) o (w.call Nop)) found in
    let one : one_call (Call writer step) writer + calls_at earlier writer ≡ calls_at earlier writer
    + 1 = omega (arith, ap {B = ℕ} (λ b. cond b 1 0) (eq-eqb writer writer refl)) in
    let else : (v : ℕ) → writer ≢ v → one_call (Call writer step) v + calls_at earlier v ≡ calls_at
    earlier v = λ v other. omega (arith, ap {B = ℕ} (λ b. cond b 1 0) (ne_eqb writer v other))
    in
    let more = spent-more (step_most w load) no_step load.scripts writer (calls_at earlier)
    (λ v. one_call (Call writer step) v + calls_at earlier v) below one else in
    let same : (0 + commands) * group_most w load ≡ commands * group_most w load =
    no_command w load commands in
    omega (arith, head, more, same)
charge w load earlier commands (Command byte param) next =
    omega (
      arith,
      none-called w load (calls_at earlier),
      add-mul 1 commands (group_most w load),
      one-mul (group_most w load),
    )
charge w load earlier commands Sync next = omega
    (arith, none-called w load (calls_at earlier), no_command w load commands)
charge w load earlier commands (Reply kind index) next =
    omega (arith, none-called w load (calls_at earlier), no_command w load commands)
charge w load earlier commands (Overflow count) next =
    omega (arith, none-called w load (calls_at earlier), no_command w load commands)

abbrev commands_at : List Item → ℕ
commands_at earlier = count_by (λ i. is_command i.origin) earlier

heads_charged : (w : Weights) (load : Load) (earlier : List Item)
    → EachItem (IsNextItem load) earlier
    → sum_by (λ i. head_most w load i.origin) earlier ≤ charged w load (calls_at earlier)
    (commands_at earlier)
heads_charged w load [] each = omega arith
heads_charged w load (i ∷ earlier) each =
    let counts : (v : ℕ) → one_call i.origin v + calls_at earlier v ≡ calls_at (i ∷ earlier) v =
    λ v. sym (sum_by-cons (λ (j : Item). cond (is_call_of v j.origin) 1 0) i earlier) in
    let here = charge w load earlier (commands_at earlier) i.origin each.1.step in
    let steps = spent-same (step_most w load) load.scripts
    (λ v. one_call i.origin v + calls_at earlier v) (calls_at (i ∷ earlier)) counts in
    let commands : (cond (is_command i.origin) 1 0 + commands_at earlier) * group_most w load ≡
    commands_at (i ∷ earlier) * group_most w load =
    ap (λ n. n * group_most w load) (sym (sum_by-cons
    (λ (j : Item). cond (is_command j.origin) 1 0) i earlier)) in
    omega (
      arith,
      sum_by-cons (λ (j : Item). head_most w load j.origin) i earlier,
      heads_charged w
          load earlier each.0,
      here,
      steps,
      commands,
    )

-- the heads need no more than all steps and so many commands
pub heads_most : (w : Weights) (load : Load) (earlier : List Item)
    → EachItem (IsNextItem load) earlier
    → sum_by (λ i. head_most w load i.origin) earlier ≤ over_steps (λ s. act_most w load s.act) load
    + commands_at earlier * group_most w load
heads_most w load earlier each = omega (
  arith,
  heads_charged w load earlier each,
  spent-most
      (step_most w load) load.scripts (calls_at earlier),
)

-- and so with the head that comes next
pub heads_next : (w : Weights) (load : Load) (earlier : List Item) (next : Origin)
    → EachItem (IsNextItem load) earlier → IsNextStep load earlier next
    → sum_by (λ i. head_most w load i.origin) earlier + head_most w load next ≤ over_steps
    (λ s. act_most w load s.act) load + (cond (is_command next) 1 0 + commands_at earlier) *
    group_most w load
heads_next w load earlier next each step = omega (
  arith,
  heads_charged w load earlier each,
  charge w load earlier (commands_at earlier) next step,
  spent-most (step_most w load) load.scripts (λ v. one_call next v + calls_at earlier v),
)
