-- The stream of a legal journal has at most as many bytes as its workload needs.
use Rattle.std.proofs.Common.{◌≡◌, ℕ, ◌+◌, ◌*◌, ◌≤◌, Bool, true, false, cond, List, [], ◌∷◌, length}
use Rattle.std.proofs.Common.{replicate, refl, ap, ◌∙◌, arith}
use Rattle.std.specs.Prelude.{if◌then◌else◌}
use Rattle.std.specs.Option.{option_map_or}
use Rattle.std.proofs.Math.Nat.{zero-mul, one-mul}
use Rattle.std.proofs.lemmas.List.{length-append}
use Rattle.sv_packet.specs.declared.event.Event.TheVariants as events
use Rattle.sv_packet.specs.Spelling.{spelling_of}
use Rattle.sv_load.specs.declared.load.Act.{Act}
use Rattle.sv_load.specs.declared.load.Act.TheVariants as acts
use Rattle.sv_load.specs.Load.{Load, act_of}
use Rattle.sv_load.specs.Need.{need_bytes, act_bytes, replies_in, one_if, is_start_act}
use Rattle.sv_journal.specs.declared.journal.Kind.TheVariants as kinds
use Rattle.sv_journal.specs.declared.journal.Origin.{Origin}
use Rattle.sv_journal.specs.declared.journal.Origin.TheVariants.{Call, Sync, Reply, Overflow}
use Rattle.sv_journal.specs.declared.journal.Origin.TheVariants.{Command}
use Rattle.sv_journal.specs.declared.journal.Item.{Item}
use Rattle.sv_journal.specs.Items.{latest_first, is_sync, is_stored, act_event, event_at, block_of}
use Rattle.sv_journal.specs.Items.{delta_of, stream_before}
use Rattle.sv_journal.specs.Legal.{IsLegal, EachItem, IsNextItem}
use Rattle.sv_journal.specs.Open.{IsOpen, IsDue}
use Rattle.sv_need.specs.Next.{MayCome}
use Rattle.sv_journal.specs.Stream.{stream_of}
use Rattle.sv_journal.proofs.Shared.{outcome_at-control, IsOpen-legal}
use Rattle.sv_load.specs.Need.{HasShortTexts}
use Rattle.sv_need.specs.Weights.{byte_weights, bytes_ahead}
use Rattle.sv_need.proofs.Groups.{act_most}
use Rattle.sv_need.proofs.Sizes.{IsPlainSize, IsSized, total, need_of, within, within_due}
use Rattle.sv_need.proofs.Rows.{need_most}
use Rattle.sv_need.proofs.Blocks.{with_delta, overflow_small, reply_small}

abbrev stored_bytes : Load → List Item → Item → ℕ
stored_bytes load earlier item = length (if is_stored item.outcome then block_of load earlier item
    else [])

-- a block, if it is stored
part : (stored : Bool) (block : List ℕ) → length (cond stored block []) ≤ length block
part true block = omega arith
part false block = omega arith

pub plain_bytes : (load : Load) (origin : Origin) (moment delta size : ℕ) → HasShortTexts load
    → size ≤ length (cond (is_sync origin) (replicate 10 0)
    (spelling_of (event_at load moment origin) delta))
    → IsPlainSize byte_weights load 11 size origin
plain_bytes load (Call writer step) moment delta size short le =
    omega (
      arith,
      le,
      with_delta (option_map_or act_event (act_of load writer step) events.Nop)
          delta,
    )
plain_bytes load Sync moment delta size short le = omega (arith, le)
plain_bytes load (Overflow count) moment delta size short le =
    omega (arith, le, overflow_small count delta)
plain_bytes load (Command byte param) moment delta size short le = tt
plain_bytes load (Reply kinds.TraceStart index) moment delta size short le =
    omega (arith, le, reply_small load moment index delta kinds.TraceStart short)
plain_bytes load (Reply kinds.TraceStop index) moment delta size short le =
    omega (arith, le, reply_small load moment index delta kinds.TraceStop short)
plain_bytes load (Reply kinds.Init index) moment delta size short le =
    omega (arith, le, reply_small load moment index delta kinds.Init short)
plain_bytes load (Reply kinds.Line index) moment delta size short le =
    omega (arith, le, reply_small load moment index delta kinds.Line short)
plain_bytes load (Reply kinds.Systime index) moment delta size short le =
    omega (arith, le, reply_small load moment index delta kinds.Systime short)
plain_bytes load (Reply kinds.Task index) moment delta size short le =
    omega (arith, le, reply_small load moment index delta kinds.Task short)
plain_bytes load (Reply kinds.Stack index) moment delta size short le =
    omega (arith, le, reply_small load moment index delta kinds.Stack short)
plain_bytes load (Reply kinds.ModuleCount index) moment delta size short le =
    omega (arith, le, reply_small load moment index delta kinds.ModuleCount short)
plain_bytes load (Reply kinds.Module index) moment delta size short le =
    omega (arith, le, reply_small load moment index delta kinds.Module short)

sized_bytes : (load : Load) (earlier : List Item) → HasShortTexts load
    → EachItem (IsNextItem load) earlier → EachItem
    (IsSized byte_weights load 11 (stored_bytes load)) earlier
sized_bytes load [] short each = tt
sized_bytes load (i ∷ earlier) short each = (
  sized_bytes load earlier short each.0,
  record {
    control = λ control.
        let none : is_stored i.outcome ≡ false = ap is_stored each.1.outcome
        ∙ ap is_stored (outcome_at-control load earlier i control) in
        omega (arith, ap (λ b. length (cond b (block_of load earlier i) [])) none);
    plain = plain_bytes load i.origin i.moment (delta_of load earlier i)
        (stored_bytes load earlier i) short (part (is_stored i.outcome) (block_of load earlier i));
  },
)

total_bytes : (load : Load) (earlier : List Item)
    → total (stored_bytes load) earlier ≡ length (stream_before load earlier)
total_bytes load [] = refl
total_bytes load (i ∷ earlier) = omega (
  arith,
  total_bytes load earlier,
  length-append
      (stream_before load earlier) (if is_stored i.outcome then block_of load earlier i else []),
)

act_needs : (load : Load) (act : Act) → act_most byte_weights load act ≤ 1 * act_bytes act + one_if
    (is_start_act act) * (27 + 156 * replies_in load)
act_needs load (acts.Event event) = omega (arith, zero-mul (27 + 156 * replies_in load))
act_needs load acts.Start = omega (arith, one-mul (27 + 156 * replies_in load))
act_needs load acts.Stop = omega (arith, zero-mul (27 + 156 * replies_in load))

bytes_needed : (load : Load) → need_of byte_weights load ≤ need_bytes load
bytes_needed load = omega (
  arith,
  need_most byte_weights load act_bytes 1
      (27 + 156 * replies_in load) (act_needs load) (omega arith),
)

pub due_bytes : (load : Load) (items : List Item) (owed rest : List Origin) (next : Origin)
    → IsOpen load items owed → IsDue load owed next rest → MayCome load items next
    → HasShortTexts load
    → length (stream_of load items) + bytes_ahead load (next ∷ rest) ≤ need_bytes load
due_bytes load items owed rest next journal due may short =
    omega (
      arith,
      total_bytes load (latest_first items),
      within_due byte_weights load 11
          (stored_bytes load) items owed rest next journal due may
          (sized_bytes load (latest_first items) short journal.each),
      bytes_needed load,
    )

pub within_bytes : (load : Load) (items : List Item) → IsLegal load items → HasShortTexts load
    → length (stream_of load items) ≤ need_bytes load
within_bytes load items legal short =
    omega (
      arith,
      total_bytes load (latest_first items),
      within byte_weights load 11
          (stored_bytes load) items [] (IsOpen-legal load items legal)
          (sized_bytes load (latest_first items) short legal.each),
      bytes_needed load,
    )
