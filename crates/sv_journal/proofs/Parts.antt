-- The origins and the items of a journal, in parts.
use Rattle.std.proofs.Common.{◌≡◌, ℕ, Bool, true, false, not, ◌&&◌, cond, List, [], ◌∷◌, ◌++◌}
use Rattle.std.proofs.Common.{reverse, map, filter, flat_map, refl, sym, ap, ◌∙◌, subst}
use Rattle.std.proofs.Common.{append_assoc}
use Rattle.std.specs.Prelude.{nat_lt}
use Rattle.std.proofs.lemmas.List.{reverse-append, map-append, append_cancel_left}
use Rattle.std.proofs.lemmas.List.Concat.{flat_map-append}
use Rattle.std.proofs.lemmas.List.Elements.{filter-append}
use Rattle.sv_load.specs.Load.{Load}
use Rattle.sv_journal.specs.declared.journal.Origin.{Origin}
use Rattle.sv_journal.specs.declared.journal.Origin.TheVariants.{Call, Sync, Reply, Overflow}
use Rattle.sv_journal.specs.declared.journal.Origin.TheVariants.{Command}
use Rattle.sv_journal.specs.declared.journal.Item.{Item}
use Rattle.sv_journal.specs.declared.journal.Outcome.{Outcome}
use Rattle.sv_journal.specs.Items.{latest_first, is_overflow, holds_packet, is_on, pending_at}
use Rattle.sv_journal.specs.Items.{is_after_overflow, before_overflow}
use Rattle.sv_journal.specs.Legal.{IsLegal, IsNextItem, EachItem, owes_overflow, is_head, group_of}
use Rattle.sv_journal.specs.Legal.{origins_of}
use Rattle.sv_journal.specs.Frees.{overflow_freed}
use Rattle.sv_journal.proofs.Steps.{latest_first-push}

-- OVERFLOWS

-- an overflow begins no group
pub not_head : (o : Origin) → is_overflow o ≡ true → is_head o ≡ false
not_head (Call writer step) h = cc
not_head Sync h = cc
not_head (Reply kind index) h = cc
not_head (Overflow count) h = refl
not_head (Command byte param) h = cc

-- an overflow is no packet of its own
pub no_packet : (o : Origin) (outcome : Outcome) → is_overflow o ≡ true
    → holds_packet o outcome ≡ false
no_packet (Call writer step) outcome h = cc
no_packet Sync outcome h = cc
no_packet (Reply kind index) outcome h = cc
no_packet (Overflow count) outcome h = refl
no_packet (Command byte param) outcome h = cc

-- where no overflow stands directly before, nothing is left out
pub alone : (earlier : List Item) → is_after_overflow earlier ≡ false
    → before_overflow earlier ≡ earlier
alone [] h = refl
alone (i ∷ earlier) h = ap (λ b. cond b earlier (i ∷ earlier)) h

pub unmoved : (earlier : List Item) (freed : ℕ) → is_after_overflow earlier ≡ false
    → overflow_freed earlier freed ≡ freed
unmoved [] freed h = refl
unmoved (i ∷ earlier) freed h = ap (λ b. cond b i.freed freed) h

-- after an item with this freed, an overflow has it too
pub after-push : (items : List Item) (i : Item) (freed : ℕ) → i.freed ≡ freed
    → overflow_freed (latest_first (items ++ i ∷ [])) freed ≡ freed
after-push items i freed e =
    ap (λ (is : List Item). overflow_freed is freed) (latest_first-push items i) ∙ at
    (is_overflow i.origin) where
      at : (b : Bool) → cond b i.freed freed ≡ freed
      at true = e
      at false = refl

-- ORIGINS

-- the origins of two lists of items
pub origins_of-append : (items more : List Item)
    → origins_of (items ++ more) ≡ origins_of items ++ origins_of more
origins_of-append items more =
    ap (filter (λ o. not (is_overflow o))) (map-append (λ (i : Item). i.origin) items more) ∙
    filter-append (λ o. not (is_overflow o)) (map (λ (i : Item). i.origin) items)
    (map (λ (i : Item). i.origin) more)

-- the origins with one more in front
pub origins_of-cons : (i : Item) (more : List Item) → is_overflow i.origin ≡ false
    → origins_of (i ∷ more) ≡ i.origin ∷ origins_of more
origins_of-cons i more other =
    ap (λ b. cond (not b) (i.origin ∷ origins_of more) (origins_of more)) other

abbrev groups_of : Load → List Origin → List Origin
groups_of load os = flat_map (group_of load) (filter is_head os)

groups_of-append : (load : Load) (os more : List Origin)
    → groups_of load (os ++ more) ≡ groups_of load os ++ groups_of load more
groups_of-append load os more =
    ap (flat_map (group_of load)) (filter-append is_head os more) ∙ flat_map-append (group_of load)
    (filter is_head os) (filter is_head more)

-- what a legal journal adds to a legal one is groups
pub more_groups : (load : Load) (before more : List Item) → IsLegal load before
    → IsLegal load (before ++ more)
    → origins_of more ≡ flat_map (group_of load) (filter is_head (origins_of more))
more_groups load before more old new =
    append_cancel_left (origins_of before) (origins_of more) (groups_of load (origins_of more))
    (sym (origins_of-append before more)
    ∙ (new.groups
    ∙ (ap (groups_of load) (origins_of-append before more)
    ∙ (groups_of-append load (origins_of before) (origins_of more)
    ∙ ap (λ os. os ++ groups_of load (origins_of more)) (sym old.groups)))))

-- EACH ITEM

-- one item moves from those ahead to those after
pub reverse_moved : (i : Item) (later earlier : List Item)
    → reverse (i ∷ later) ++ earlier ≡ reverse later ++ (i ∷ earlier)
reverse_moved i later earlier =
    ap (λ is. is ++ earlier) (reverse-append (i ∷ []) later) ∙ append_assoc (reverse later) (i ∷ [])
    earlier

-- what holds of each item of a longer journal
pub each-front : (P : List Item → Item → Type 0) (xs ys : List Item) → EachItem P (xs ++ ys)
    → EachItem P ys
each-front P [] ys each = each
each-front P (x ∷ xs) ys each = each-front P xs ys each.0

each-before : (P : List Item → Item → Type 0) (items more : List Item)
    → EachItem P (latest_first (items ++ more)) → EachItem P (latest_first items)
each-before P items more each =
    each-front P (reverse more) (latest_first items)
    (subst (EachItem P) (reverse-append items more) each)

pub next_is : (load : Load) (items more : List Item) (i : Item)
    → EachItem (IsNextItem load) (latest_first (items ++ (i ∷ more)))
    → IsNextItem load (latest_first items) i
next_is load items more i each =
    let front : EachItem (IsNextItem load) (latest_first (items ++ i ∷ [])) = each-before
    (IsNextItem load) (items ++ i ∷ []) more
    (subst (λ is. EachItem (IsNextItem load) (latest_first is))
    (sym (append_assoc items (i ∷ []) more)) each) in
    let both : EachItem (IsNextItem load) (i ∷ latest_first items) = subst
    (EachItem (IsNextItem load)) (latest_first-push items i) front in
    both.1

-- no overflow stands directly after an overflow
pub not_two : (load : Load) (items : List Item) (o p : Item) → is_overflow o.origin ≡ true
    → is_overflow p.origin ≡ true → IsNextItem load (latest_first (items ++ o ∷ [])) p → ⊥
not_two load items o p e f next =
    let here : IsNextItem load (o ∷ latest_first items) p = subst (λ es. IsNextItem load es p)
    (latest_first-push items o) next in
    let owes : owes_overflow load (before_overflow (o ∷ latest_first items)) p ≡ false = ap
    (λ b. (b && is_on load (before_overflow (o ∷ latest_first items))) && nat_lt 0
    (pending_at (before_overflow (o ∷ latest_first items)))) (no_packet p.origin p.outcome f) in
    let both : true ≡ false = sym e ∙ (here.overflow ∙ owes) in
    cc
