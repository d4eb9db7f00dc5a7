-- What is known of each item of a legal journal in its place.
use Rattle.std.proofs.Common.{◌≡◌, true, false, cond, Some, List, [], ◌∷◌, ap}
use Rattle.sv_load.specs.Load.{Load}
use Rattle.sv_journal.specs.declared.journal.Item.{Item}
use Rattle.sv_journal.specs.Items.{latest_first, is_overflow}
use Rattle.sv_journal.specs.Legal.{EachItem, IsLegal, IsNextItem}
use Rattle.sv_sent.proofs.places.Following.{IsFollowing, following, previous}
use Rattle.sv_sent.proofs.places.Later.{IsLater, all_later}

pub record IsPlaced (load : Load) (earlier : List Item) (item : Item) : Type 0 where
  pub next : IsNextItem load earlier item
  pub later : IsLater load earlier item
  pub follows : IsFollowing load earlier item

each-placed : (load : Load) (earlier : List Item) → EachItem (IsNextItem load) earlier →
    EachItem (IsLater load) earlier → EachItem (IsFollowing load) earlier →
    EachItem (IsPlaced load) earlier
each-placed load [] n l f = tt
each-placed load (i ∷ earlier) n l f =
    (each-placed load earlier n.0 l.0 f.0, record { next = n.1; later = l.1; follows = f.1 })

pub placed : (load : Load) (items : List Item) → IsLegal load items →
    EachItem (IsPlaced load) (latest_first items)
placed load items legal =
    each-placed load (latest_first items) legal.each
    (all_later load (latest_first items) legal.each legal.ends).each (following load items legal)

pub previous-over : (earlier : List Item) (item : Item) → is_overflow item.origin ≡ true →
    previous (item ∷ earlier) ≡ previous earlier
previous-over earlier item over = ap (λ b. cond b (previous earlier) (Some item.origin)) over

pub previous-other : (earlier : List Item) (item : Item) → is_overflow item.origin ≡ false →
    previous (item ∷ earlier) ≡ Some item.origin
previous-other earlier item other = ap (λ b. cond b (previous earlier) (Some item.origin)) other
