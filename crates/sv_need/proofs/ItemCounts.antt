-- A legal journal has at most as many items as its workload needs.
use Rattle.std.proofs.Common.{◌≡◌, ℕ, ◌+◌, ◌*◌, ◌≤◌, List, [], ◌∷◌, length, refl, ◌∙◌, arith}
use Rattle.std.proofs.Math.Nat.{zero-mul, one-mul}
use Rattle.std.proofs.lemmas.List.{length-reverse}
use Rattle.sv_load.specs.declared.load.Act.{Act}
use Rattle.sv_load.specs.declared.load.Act.TheVariants as acts
use Rattle.sv_load.specs.Load.{Load}
use Rattle.sv_load.specs.Need.{need_items, replies_in, one_if, is_start_act}
use Rattle.sv_journal.specs.declared.journal.Kind.TheVariants as kinds
use Rattle.sv_journal.specs.declared.journal.Origin.{Origin}
use Rattle.sv_journal.specs.declared.journal.Origin.TheVariants.{Call, Sync, Reply, Overflow}
use Rattle.sv_journal.specs.declared.journal.Origin.TheVariants.{Command}
use Rattle.sv_journal.specs.declared.journal.Item.{Item}
use Rattle.sv_journal.specs.Items.{latest_first}
use Rattle.sv_journal.specs.Legal.{IsLegal, EachItem}
use Rattle.sv_journal.specs.Open.{IsOpen, IsDue}
use Rattle.sv_journal.proofs.Shared.{IsOpen-legal}
use Rattle.sv_need.specs.Next.{MayCome}
use Rattle.sv_need.specs.Weights.{item_weights, items_ahead}
use Rattle.sv_need.proofs.Groups.{act_most}
use Rattle.sv_need.proofs.Sizes.{IsPlainSize, IsSized, total, need_of, within, within_due}
use Rattle.sv_need.proofs.Rows.{need_most}

abbrev one : List Item → Item → ℕ
one earlier item = 1

plain_one : (load : Load) (origin : Origin) → IsPlainSize item_weights load 1 1 origin
plain_one load (Call writer step) = omega arith
plain_one load Sync = omega arith
plain_one load (Reply kinds.TraceStart index) = omega arith
plain_one load (Reply kinds.TraceStop index) = omega arith
plain_one load (Reply other index) = omega arith
plain_one load (Overflow count) = omega arith
plain_one load (Command byte param) = tt

sized_one : (load : Load) (earlier : List Item) → EachItem (IsSized item_weights load 1 one) earlier
sized_one load [] = tt
sized_one load (i ∷ earlier) = (
  sized_one load earlier,
  record
      { control = λ c. omega arith; plain = plain_one load i.origin },
)

total_one : (earlier : List Item) → total one earlier ≡ length earlier
total_one [] = refl
total_one (i ∷ earlier) = omega (arith, total_one earlier)

act_items : (load : Load) (act : Act) → act_most item_weights load act ≤ 3 * 1 + one_if
    (is_start_act act) * (2 + 2 * replies_in load)
act_items load (acts.Event event) = omega (arith, zero-mul (2 + 2 * replies_in load))
act_items load acts.Start = omega (arith, one-mul (2 + 2 * replies_in load))
act_items load acts.Stop = omega (arith, zero-mul (2 + 2 * replies_in load))

items_needed : (load : Load) → need_of item_weights load ≤ need_items load
items_needed load = need_most item_weights load (λ act. 1) 3 (2 + 2 * replies_in load)
    (act_items load) (omega arith)

items_total : (items : List Item) → total one (latest_first items) ≡ length items
items_total items = total_one (latest_first items) ∙ length-reverse items

pub due_items : (load : Load) (items : List Item) (owed rest : List Origin) (next : Origin)
    → IsOpen load items owed → IsDue load owed next rest → MayCome load items next
    → length items + items_ahead load (next ∷ rest) ≤ need_items load
due_items load items owed rest next journal due may =
    omega (
      arith,
      items_total items,
      within_due item_weights load 1 one items owed rest next journal
          due may (sized_one load (latest_first items)),
      items_needed load,
    )

pub within_items : (load : Load) (items : List Item) → IsLegal load items
    → length items ≤ need_items load
within_items load items legal = omega (
  arith,
  items_total items,
  within item_weights load 1 one
      items [] (IsOpen-legal load items legal) (sized_one load (latest_first items)),
  items_needed
      load,
)
