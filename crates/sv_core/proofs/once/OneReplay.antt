-- Of some turns there is one replayed journal.
use Rattle.std.proofs.Common.{◌≡◌, ℕ, ◌+◌, ◌-◌, ◌≤◌, Bool, true, false, not, ◌&&◌, cond, List, []}
use Rattle.std.proofs.Common.{◌∷◌, ◌++◌, refl, sym, ap, ◌∙◌, subst, arith, append_assoc, append-nil}
use Rattle.std.specs.Prelude.{nat_lt, reverse, flat_map}
use Rattle.std.proofs.lemmas.List.{append_cancel_left, reverse-reverse}
use Rattle.sv_load.specs.Load.{Load}
use Rattle.sv_journal.specs.declared.journal.Origin.{Origin}
use Rattle.sv_journal.specs.declared.journal.Item.{Item}
use Rattle.sv_journal.specs.Items.{latest_first, is_overflow, is_packet, is_on, is_written}
use Rattle.sv_journal.specs.Items.{pending_at, is_after_overflow, before_overflow}
use Rattle.sv_journal.specs.Legal.{IsLegal, IsNextItem, EachItem, AreFirstCommands, origins_of}
use Rattle.sv_journal.specs.Legal.{group_of, step_ticks}
use Rattle.sv_journal.specs.Frees.{written_freed, frees_before}
use Rattle.sv_journal.proofs.Shared.{no_overflow, moment_is, ticks_in, ticks-cons}
use Rattle.sv_journal.proofs.Shared.{ticks-before_overflow, forms_packet, packet_is, same_next}
use Rattle.sv_journal.proofs.Shared.{overflow_is, writes, written_is, freed_rises, frees-written}
use Rattle.sv_journal.proofs.Shared.{alone, origins_of-cons}
use Rattle.sv_core.specs.Turns.{StepTurn, Turns, IsReplayed, HasLatestFreed, step_turns}
use Rattle.sv_core.proofs.parts.Heads.{heads_by}
use Rattle.sv_core.proofs.parts.OriginsOfTurns.{origins_by, origins_of-reverse}
use Rattle.sv_core.proofs.parts.OriginsOfTurns.{origins-before_overflow}

-- the front of a settled journal, the latest first, up to an item that is no overflow; it uses the
-- first of these frees
pub record IsFront (load : Load) (frees : List ℕ) (front : List Item) : Type 0 where
  pub next : EachItem (IsNextItem load) front
  pub settled : EachItem HasLatestFreed front
  pub ends : is_after_overflow front ≡ false
  pub left : List ℕ
  pub used : frees_before front ++ left ≡ frees

-- a part of what is used
pub used_before : (frees left : List ℕ) (i : Item) (earlier : List Item) →
    frees_before (i ∷ earlier) ++ left ≡ frees →
    (more : List ℕ) × (frees_before earlier ++ more ≡ frees)
used_before frees left i earlier used = (
  cond (is_written earlier i) ((i.freed - written_freed earlier) ∷ []) [] ++ left,
  sym
      (append_assoc (frees_before earlier)
      (cond (is_written earlier i) ((i.freed - written_freed earlier) ∷ []) []) left) ∙ used,
)

-- the front before an item and the overflow that may stand before it
pub front_before : (load : Load) (frees : List ℕ) (earlier : List Item) (i : Item) →
    IsFront load frees (i ∷ earlier) → IsFront load frees (before_overflow earlier)
front_before load frees [] i f =
    record { next = tt; settled = tt; ends = refl; left = frees; used = refl }
front_before load frees (o ∷ earlier) i f = at (is_overflow o.origin) refl where
  here : (more : List ℕ) × (frees_before (o ∷ earlier) ++ more ≡ frees)
  here = used_before frees f.left i (o ∷ earlier) f.used

  at : (b : Bool) → is_overflow o.origin ≡ b → IsFront load frees (cond b earlier (o ∷ earlier))
  at true e = let deep = used_before frees here.0 o earlier here.1 in record {
    next = f.next.0.0;
    settled = f.settled.0.0;
    ends = no_overflow load earlier o e f.next.0.1;
    left = deep.0;
    used = deep.1;
  }
  at false e =
      record { next = f.next.0; settled = f.settled.0; ends = e; left = here.0; used = here.1 }

-- a front without an origin is empty
pub front_none : (front : List Item) → is_after_overflow front ≡ false → origins_of front ≡ [] →
    front ≡ []
front_none [] ends none = refl
front_none (i ∷ earlier) ends none = let some : i.origin ∷ origins_of earlier ≡ [] =
    sym (origins_of-cons i earlier ends) ∙ none in cc

-- AN ITEM MORE

-- the same number behind the same ones
next_number : (front m n : List ℕ) (a b : ℕ) → (front ++ a ∷ []) ++ m ≡ (front ++ b ∷ []) ++ n →
    a ≡ b
next_number front m n a b e =
    let rest : a ∷ m ≡ b ∷ n =
    append_cancel_left front (a ∷ m) (b ∷ n)
    (sym (append_assoc front (a ∷ []) m) ∙ (e ∙ append_assoc front (b ∷ []) n)) in
    cc

-- the same rise from the same number
same_rise : (w a b : ℕ) → w ≤ a → w ≤ b → a - w ≡ b - w → a ≡ b
same_rise w a b p q e = omega arith

-- two items that follow the same ones, and free by the same numbers
pub same_freed : (load : Load) (earlier : List Item) (i j : Item) (m n : List ℕ) →
    EachItem (IsNextItem load) (i ∷ earlier) → EachItem (IsNextItem load) (j ∷ earlier)
    → HasLatestFreed earlier i → HasLatestFreed earlier j → i.origin ≡ j.origin →
    frees_before (i ∷ earlier) ++ m ≡ frees_before (j ∷ earlier) ++ n → i.freed ≡ j.freed
same_freed load earlier i j m n each_i each_j settled_i settled_j origin used =
    at (is_written earlier i) refl where
      same : is_written earlier i ≡ is_written earlier j
      same =
          written_is load earlier i each_i.1.outcome
          ∙ (ap (writes load earlier) origin ∙ sym (written_is load earlier j each_j.1.outcome))

      at : (b : Bool) → is_written earlier i ≡ b → i.freed ≡ j.freed
      at true e =
          let f : is_written earlier j ≡ true = sym same ∙ e in
          let numbers : (frees_before earlier ++ (i.freed - written_freed earlier) ∷ []) ++ m
          ≡ (frees_before earlier ++ (j.freed - written_freed earlier) ∷ []) ++ n =
          ap (λ ns. ns ++ m) (sym (frees-written earlier i e))
          ∙ (used ∙ ap (λ ns. ns ++ n) (frees-written earlier j f)) in
          same_rise (written_freed earlier) i.freed j.freed (freed_rises load earlier i each_i)
          (freed_rises load earlier j each_j)
          (next_number (frees_before earlier) m n (i.freed - written_freed earlier)
          (j.freed - written_freed earlier) numbers)
      at false e =
          let f : is_written earlier j ≡ false = sym same ∙ e in
          settled_i (ap not e) ∙ sym (settled_j (ap not f))

-- the overflows before two items of one moment, behind the same items
same_overflow : (load : Load) (earlier : List Item) (i j o p : Item) (m n : List ℕ) →
    is_overflow o.origin ≡ true → is_overflow p.origin ≡ true
    → EachItem (IsNextItem load) (o ∷ earlier) → EachItem (IsNextItem load) (p ∷ earlier) →
    IsNextItem load (o ∷ earlier) i → IsNextItem load (p ∷ earlier) j
    → HasLatestFreed earlier o → HasLatestFreed earlier p →
    frees_before (o ∷ earlier) ++ m ≡ frees_before (p ∷ earlier) ++ n → i.moment ≡ j.moment →
    o ≡ p
same_overflow load earlier i j o p m n e f each_o each_p next_i next_j settled_o settled_p used
    moment =
    let origin : o.origin ≡ p.origin =
    overflow_is earlier o.origin e each_o.1.count
    ∙ sym (overflow_is earlier p.origin f each_p.1.count) in
    same_next load earlier o p each_o.1 each_p.1 origin
    (sym (ap (λ b. cond b o.moment i.moment) e)
    ∙ (next_i.overflow_moment
    ∙ (moment ∙ sym (sym (ap (λ b. cond b p.moment j.moment) f) ∙ next_j.overflow_moment))))
    (same_freed load earlier o p m n each_o each_p settled_o settled_p origin used)

-- what stands before two items of one moment, where each has an overflow before it or neither
pub same_earlier : (load : Load) (xs ys : List Item) (i j : Item) (m n : List ℕ) →
    before_overflow xs ≡ before_overflow ys → is_after_overflow xs ≡ is_after_overflow ys
    → EachItem (IsNextItem load) (i ∷ xs) → EachItem (IsNextItem load) (j ∷ ys) →
    EachItem HasLatestFreed xs → EachItem HasLatestFreed ys
    → frees_before xs ++ m ≡ frees_before ys ++ n → i.moment ≡ j.moment → xs ≡ ys
same_earlier load [] [] i j m n before after next_i next_j settled_x settled_y used moment = refl
same_earlier load [] (p ∷ ys) i j m n before after next_i next_j settled_x settled_y used moment =
    before ∙ alone (p ∷ ys) (sym after)
same_earlier load (o ∷ xs) [] i j m n before after next_i next_j settled_x settled_y used moment =
    sym (alone (o ∷ xs) after) ∙ before
same_earlier load (o ∷ xs) (p ∷ ys) i j m n before after next_i next_j settled_x settled_y used
    moment = at (is_overflow o.origin) refl where
      at : (c : Bool) → is_overflow o.origin ≡ c → o ∷ xs ≡ p ∷ ys
      at true e =
          let f : is_overflow p.origin ≡ true = sym after ∙ e in
          let rest : xs ≡ ys =
          sym (ap (λ c. cond c xs (o ∷ xs)) e) ∙ (before ∙ ap (λ c. cond c ys (p ∷ ys)) f) in
          let back : ys ≡ xs = sym rest in
          let same : o ≡ p =
          same_overflow load xs i j o p m n e f next_i.0
          (subst (λ zs. EachItem (IsNextItem load) (p ∷ zs)) back next_j.0) next_i.1
          (subst (λ zs. IsNextItem load (p ∷ zs) j) back next_j.1)
          settled_x.1 (subst (λ zs. HasLatestFreed zs p) back settled_y.1)
          (used ∙ ap (λ zs. frees_before (p ∷ zs) ++ n) back) moment in
          ap (λ q. q ∷ xs) same ∙ ap (λ zs. p ∷ zs) rest
      at false e = sym (alone (o ∷ xs) e) ∙ (before ∙ alone (p ∷ ys) (sym after ∙ e))

-- two items of one origin, behind items that are the same but for an overflow
pub record IsBehind (load : Load) (xs ys : List Item) (i j : Item) : Type 0 where
  pub moment : i.moment ≡ j.moment
  pub after : is_after_overflow xs ≡ is_after_overflow ys

pub behind : (load : Load) (xs ys : List Item) (i j : Item) → IsNextItem load xs i →
    IsNextItem load ys j → is_overflow i.origin ≡ false → is_overflow j.origin ≡ false
    → before_overflow xs ≡ before_overflow ys → i.origin ≡ j.origin → IsBehind load xs ys i j
behind load xs ys i j next_i next_j plain_i plain_j before origin =
    record { moment = moment; after = after } where
      ticks : ticks_in load xs ≡ ticks_in load ys
      ticks =
          sym (ticks-before_overflow load xs)
          ∙ (ap (ticks_in load) before ∙ ticks-before_overflow load ys)

      moment : i.moment ≡ j.moment
      moment =
          moment_is load xs i i.origin plain_i next_i.moment
          ∙ (ticks-cons load i xs
          ∙ (ap (λ o. step_ticks load o + ticks_in load xs) origin
          ∙ (ap (λ n. step_ticks load j.origin + n) ticks ∙ sym (ticks-cons load j ys))))
          ∙ sym (moment_is load ys j j.origin plain_j next_j.moment)

      packet : is_packet i ≡ is_packet j
      packet =
          packet_is load xs i next_i.outcome
          ∙ (ap (forms_packet load) origin ∙ sym (packet_is load ys j next_j.outcome))

      after : is_after_overflow xs ≡ is_after_overflow ys
      after =
          next_i.overflow
          ∙ (ap
          (λ c. (c && is_on load (before_overflow xs)) &&
          nat_lt 0 (pending_at (before_overflow xs))) packet
          ∙ (ap (λ is. (is_packet j && is_on load is) && nat_lt 0 (pending_at is)) before
          ∙ sym next_j.overflow))

-- two fronts whose latest items have one origin, behind the same items
same_latest : (load : Load) (frees : List ℕ) (is js : List Item) (i j : Item) →
    IsFront load frees (i ∷ is) → IsFront load frees (j ∷ js)
    → before_overflow is ≡ before_overflow js → i.origin ≡ j.origin → i ∷ is ≡ j ∷ js
same_latest load frees is js i j front_i front_j before origin =
    let here : IsBehind load is js i j =
    behind load is js i j front_i.next.1 front_j.next.1 front_i.ends front_j.ends before
    origin in
    let used_i = used_before frees front_i.left i is front_i.used in
    let used_j = used_before frees front_j.left j js front_j.used in
    let rest : is ≡ js =
    same_earlier load is js i j used_i.0 used_j.0 before here.after front_i.next front_j.next
    front_i.settled.0 front_j.settled.0 (used_i.1 ∙ sym used_j.1) here.moment in
    let next_j : EachItem (IsNextItem load) (j ∷ is) =
    subst (λ ks. EachItem (IsNextItem load) (j ∷ ks)) (sym rest) front_j.next in
    let freed : i.freed ≡ j.freed =
    same_freed load is i j front_i.left front_j.left front_i.next next_j front_i.settled.1
    (subst (λ ks. HasLatestFreed ks j) (sym rest) front_j.settled.1) origin
    (front_i.used ∙ sym (ap (λ ks. frees_before (j ∷ ks) ++ front_j.left) rest ∙ front_j.used)) in
    let same : i ≡ j = same_next load is i j front_i.next.1 next_j.1 origin here.moment freed in
    ap (λ k. k ∷ is) same ∙ ap (λ ks. j ∷ ks) rest

-- two fronts of the same origins are the same
pub same_fronts : (load : Load) (frees : List ℕ) (os : List Origin) (xs ys : List Item) →
    IsFront load frees xs → IsFront load frees ys → origins_of xs ≡ os → origins_of ys ≡ os →
    xs ≡ ys
same_fronts load frees [] xs ys front_a front_b of_a of_b =
    front_none xs front_a.ends of_a ∙ sym (front_none ys front_b.ends of_b)
same_fronts load frees (o ∷ os) [] ys front_a front_b of_a of_b = cc
same_fronts load frees (o ∷ os) (i ∷ xs) [] front_a front_b of_a of_b = cc
same_fronts load frees (o ∷ os) (i ∷ xs) (j ∷ ys) front_a front_b of_a of_b =
    let shape_a : i.origin ∷ origins_of xs ≡ o ∷ os =
    sym (origins_of-cons i xs front_a.ends) ∙ of_a in
    let shape_b : j.origin ∷ origins_of ys ≡ o ∷ os =
    sym (origins_of-cons j ys front_b.ends) ∙ of_b in
    let here_a : i.origin ≡ o = cc in
    let here_b : j.origin ≡ o = cc in
    let rest_a : origins_of xs ≡ os = cc in
    let rest_b : origins_of ys ≡ os = cc in
    let before : before_overflow xs ≡ before_overflow ys =
    same_fronts load frees os (before_overflow xs) (before_overflow ys)
    (front_before load frees xs i front_a) (front_before load frees ys j front_b)
    (origins-before_overflow xs ∙ rest_a) (origins-before_overflow ys ∙ rest_b) in
    same_latest load frees xs ys i j front_a front_b before (here_a ∙ sym here_b)

-- ONE JOURNAL

-- the origins of a journal by its steps
pub origins_told : (load : Load) (items : List Item) (steps : List StepTurn) → IsLegal load items →
    AreFirstCommands load items → step_turns items ≡ steps
    → origins_of (latest_first items)
    ≡ reverse (flat_map (group_of load) (heads_by [] steps load.commands))
origins_told load items steps legal commands turned =
    origins_of-reverse items
    ∙ ap reverse
    (origins_by load items legal.each commands legal.groups
    ∙ ap (λ ts. flat_map (group_of load) (heads_by [] ts load.commands)) turned)

-- a whole journal is a front
pub whole_front : (load : Load) (items : List Item) (frees left : List ℕ) → IsLegal load items →
    EachItem HasLatestFreed (latest_first items)
    → frees_before (latest_first items) ++ left ≡ frees →
    IsFront load frees (latest_first items)
whole_front load items frees left legal settled used =
    record { next = legal.each; settled = settled; ends = legal.ends; left = left; used = used }

-- two settled journals of the same steps that use the first of the same frees
pub once : (load : Load) (frees : List ℕ) (a b : List Item) → IsLegal load a → IsLegal load b →
    AreFirstCommands load a → AreFirstCommands load b → step_turns a ≡ step_turns b
    → IsFront load frees (latest_first a) → IsFront load frees (latest_first b) → a ≡ b
once load frees a b legal_a legal_b commands_a commands_b steps front_a front_b =
    let same : latest_first a ≡ latest_first b =
    same_fronts load frees
    (reverse (flat_map (group_of load) (heads_by [] (step_turns b) load.commands)))
    (latest_first a) (latest_first b) front_a front_b
    (origins_told load a (step_turns b) legal_a commands_a steps)
    (origins_told load b (step_turns b) legal_b commands_b refl) in
    sym (reverse-reverse a) ∙ (ap reverse same ∙ reverse-reverse b)

-- turns give one journal
pub replayed_once : (load : Load) (turns : Turns) (a b : List Item) → IsReplayed load turns a →
    IsReplayed load turns b → a ≡ b
replayed_once load turns a b of_a of_b =
    let steps : step_turns a ≡ step_turns b =
    ap (λ (t : Turns). t.steps) (of_a.turned ∙ sym of_b.turned) in
    once load turns.frees a b of_a.legal of_b.legal of_a.commands of_b.commands steps
    (whole_front load a turns.frees [] of_a.legal of_a.settled
    (append-nil (frees_before (latest_first a)) ∙ ap (λ (t : Turns). t.frees) of_a.turned))
    (whole_front load b turns.frees [] of_b.legal of_b.settled
    (append-nil (frees_before (latest_first b)) ∙ ap (λ (t : Turns). t.frees) of_b.turned))
