-- What the items of a group weigh at most, each with the overflow that may stand before it.
use Rattle.std.proofs.Common.{◌≡◌, ℕ, ◌+◌, ◌*◌, ◌≤◌, Bool, true, false, ◌||◌, cond, Option}
use Rattle.std.proofs.Common.{Some, None, [], ◌∷◌, refl, ap}
use Rattle.std.proofs.Common.{◌∙◌, arith}
use Rattle.std.specs.Option.{option_map_or}
use Rattle.std.proofs.lemmas.List.Sums.{sum_by-cons}
use Rattle.sv_packet.specs.declared.event.Event.TheVariants.{Nop}
use Rattle.sv_load.specs.declared.load.Act.{Act}
use Rattle.sv_load.specs.declared.load.Act.TheVariants as acts
use Rattle.sv_load.specs.Load.{Load, act_of}
use Rattle.sv_load.specs.Need.{is_start_act, is_stop_act}
use Rattle.sv_journal.specs.declared.journal.Kind.TheVariants as kinds
use Rattle.sv_journal.specs.declared.journal.Origin.{Origin}
use Rattle.sv_journal.specs.declared.journal.Origin.TheVariants.{Call, Sync, Reply, Overflow}
use Rattle.sv_journal.specs.declared.journal.Origin.TheVariants.{Command}
use Rattle.sv_journal.specs.Items.{is_start, is_stop, is_command, act_event}
use Rattle.sv_journal.specs.Legal.{single, start_answers}
use Rattle.sv_journal.specs.Legal.{command_answers, other_answers, answers_of, group_of, is_head}
use Rattle.sv_journal.specs.Legal.{is_control}
use Rattle.sv_need.specs.Weights.{Weights, plain_weight, weight, weight_of}
use Rattle.sv_need.proofs.Replies.{few_weight, start_rest, few_start, few_command, most_replies}

-- what the group of a start or of a command weighs at most
abbrev pub group_most : Weights → Load → ℕ
group_most w load = w.control + w.sync + w.edge + most_replies load * w.reply

abbrev pub act_most : Weights → Load → Act → ℕ
act_most w load (acts.Event event) = w.call event
act_most w load acts.Start = group_most w load
act_most w load acts.Stop = w.control + w.edge

-- what the group of a head weighs at most
abbrev pub head_most : Weights → Load → Origin → ℕ
head_most w load (Call writer step) = option_map_or (act_most w load) (act_of load writer step)
    (w.call Nop)
head_most w load (Command byte param) = group_most w load
head_most w load other = 0

control_weight : (w : Weights) (load : Load) (o : Origin) → is_control load o ≡ true
    → weight w load o ≡ w.control
control_weight w load o control = ap (λ b. cond b w.control (plain_weight w load o)) control

start_control : (load : Load) (o : Origin) → is_start load o ≡ true → is_control load o ≡ true
start_control load o start = ap (λ b. (b || is_stop load o) || is_command o) start

stop_control : (load : Load) (o : Origin) → is_start load o ≡ false → is_stop load o ≡ true
    → is_control load o ≡ true
stop_control load o start stop = ap (λ b. (b || is_stop load o) || is_command o) start
    ∙ ap (λ b. b || is_command o) stop

weight-start : (w : Weights) (load : Load) (o : Origin) → is_start load o ≡ true
    → weight_of w load (group_of load o) ≤ group_most w load
weight-start w load o start =
    let answers : answers_of load o ≡ start_answers load =
    ap (λ b. cond b (start_answers load) (cond (is_stop load o) (single kinds.TraceStop)
    (other_answers load o))) start in
    let rest : weight_of w load (start_rest load) ≤ most_replies load * w.reply =
    few_weight w load (most_replies load) (start_rest load) (few_start w load) in
    let two : weight_of w load (start_answers load) ≡ w.sync + weight_of w load
    (Reply kinds.TraceStart 0 ∷ start_rest load) =
    sum_by-cons (weight w load) Sync (Reply kinds.TraceStart 0 ∷ start_rest load) in
    let one : weight_of w load (Reply kinds.TraceStart 0 ∷ start_rest load) ≡ w.edge + weight_of w
    load (start_rest load) = sum_by-cons (weight w load) (Reply kinds.TraceStart 0)
    (start_rest load) in
    omega (
      arith,
      sum_by-cons (weight w load) o (answers_of load o),
      ap (weight_of w load) answers,
      control_weight w load o (start_control load o start),
      two,
      one,
      rest,
    )

weight-stop : (w : Weights) (load : Load) (o : Origin) → is_start load o ≡ false
    → is_stop load o ≡ true → weight_of w load (group_of load o) ≤ w.control + w.edge
weight-stop w load o start stop =
    let answers : answers_of load o ≡ single kinds.TraceStop =
    ap (λ b. cond b (start_answers load) (cond (is_stop load o) (single kinds.TraceStop)
    (other_answers load o))) start ∙ ap (λ b. cond b (single kinds.TraceStop)
    (other_answers load o)) stop in
    let one : weight_of w load (single kinds.TraceStop) ≡ w.edge = omega arith in
    omega (
      arith,
      sum_by-cons (weight w load) o (answers_of load o),
      ap (weight_of w load) answers,
      control_weight w load o (stop_control load o start stop),
      one,
    )

weight-other : (w : Weights) (load : Load) (o : Origin) → is_start load o ≡ false
    → is_stop load o ≡ false → weight_of w load (group_of load o) ≡ weight w load o + weight_of w
    load (other_answers load o)
weight-other w load o start stop =
    let answers : answers_of load o ≡ other_answers load o =
    ap (λ b. cond b (start_answers load) (cond (is_stop load o) (single kinds.TraceStop)
    (other_answers load o))) start ∙ ap (λ b. cond b (single kinds.TraceStop)
    (other_answers load o)) stop in
    sum_by-cons (weight w load) o (answers_of load o)
    ∙ ap (λ os. weight w load o + weight_of w load os) answers

weight-call : (w : Weights) (load : Load) (writer step : ℕ) (act : Option Act)
    → act_of load writer step ≡ act → weight_of w load (group_of load (Call writer step)) ≤
    option_map_or (act_most w load) act (w.call Nop)
weight-call w load writer step (Some acts.Start) is =
    weight-start w load (Call writer step) (ap (λ a. option_map_or is_start_act a false) is)
weight-call w load writer step (Some acts.Stop) is =
    weight-stop w load (Call writer step) (ap (λ a. option_map_or is_start_act a false) is)
    (ap (λ a. option_map_or is_stop_act a false) is)
weight-call w load writer step (Some (acts.Event event)) is =
    let start : is_start load (Call writer step) ≡ false =
    ap (λ a. option_map_or is_start_act a false) is in
    let stop : is_stop load (Call writer step) ≡ false =
    ap (λ a. option_map_or is_stop_act a false) is in
    let plain : is_control load (Call writer step) ≡ false =
    ap (λ b. (b || is_stop load (Call writer step)) || false) start
    ∙ ap (λ b. b || false) stop in
    let here : weight w load (Call writer step) ≡ w.call event =
    ap (λ b. cond b w.control (plain_weight w load (Call writer step))) plain
    ∙ ap (λ a. w.call (option_map_or act_event a Nop)) is in
    let none : weight_of w load [] ≡ 0 = refl in
    omega (arith, weight-other w load (Call writer step) start stop, here, none)
weight-call w load writer step None is =
    let start : is_start load (Call writer step) ≡ false =
    ap (λ a. option_map_or is_start_act a false) is in
    let stop : is_stop load (Call writer step) ≡ false =
    ap (λ a. option_map_or is_stop_act a false) is in
    let plain : is_control load (Call writer step) ≡ false =
    ap (λ b. (b || is_stop load (Call writer step)) || false) start
    ∙ ap (λ b. b || false) stop in
    let here : weight w load (Call writer step) ≡ w.call Nop =
    ap (λ b. cond b w.control (plain_weight w load (Call writer step))) plain
    ∙ ap (λ a. w.call (option_map_or act_event a Nop)) is in
    let none : weight_of w load [] ≡ 0 = refl in
    omega (arith, weight-other w load (Call writer step) start stop, here, none)

or_last : (a : Bool) → (a || true) ≡ true
or_last true = refl
or_last false = refl

weight-command : (w : Weights) (load : Load) (byte param : ℕ)
    → weight_of w load (group_of load (Command byte param)) ≤ group_most w load
weight-command w load byte param = elim (is_start load (Command byte param)) as
    (λ b. is_start load (Command byte param) ≡ b
    → weight_of w load (group_of load (Command byte param)) ≤ group_most w load) [
      | true ↦ λ start. weight-start w load (Command byte param) start
      | false ↦ λ start. elim (is_stop load (Command byte param)) as
          (λ b. is_stop load (Command byte param) ≡ b
          → weight_of w load (group_of load (Command byte param)) ≤ group_most w load) [
            | true ↦ λ stop. omega (arith, weight-stop w load (Command byte param) start stop)
            | false ↦ λ stop.
                let here : weight w load (Command byte param) ≡ w.control =
                control_weight w load (Command byte param)
                (or_last (is_start load (Command byte param) || is_stop load (Command byte param)))
                in
                omega (
                  arith,
                  weight-other w load (Command byte param) start stop,
                  here,
                  few_weight w load
                      (most_replies load) (command_answers load byte param)
                      (few_command w load byte param),
                )
          ] refl
    ] refl

-- the group of a head weighs no more than its most
pub group_weight : (w : Weights) (load : Load) (head : Origin) → is_head head ≡ true
    → weight_of w load (group_of load head) ≤ head_most w load head
group_weight w load (Call writer step) head = weight-call w load writer step
    (act_of load writer step) refl
group_weight w load (Command byte param) head = weight-command w load byte param
group_weight w load Sync head = absurd cc
group_weight w load (Reply kind index) head = absurd cc
group_weight w load (Overflow count) head = absurd cc
