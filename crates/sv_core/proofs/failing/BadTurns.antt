-- Turns that have a place where they fail have no journal, and there is one such place.
use Rattle.std.proofs.Common.{◌≡◌, ℕ, zero, suc, ◌+◌, ◌-◌, ◌<◌, ◌≤◌, Bool, true, false, not, cond}
use Rattle.std.proofs.Common.{List, [], ◌∷◌, ◌++◌, length, take, drop, take-add, refl, sym, ap, ◌∙◌}
use Rattle.std.proofs.Common.{subst, arith, rules, append_assoc, append-nil, Some}
use Rattle.std.specs.Prelude.{reverse, flat_map, count_by, slice_get, ◌==◌}
use Rattle.std.proofs.lemmas.List.{append_cancel_left, reverse-append, take_all}
use Rattle.std.proofs.lemmas.List.Concat.{flat_map-append}
use Rattle.std.proofs.lemmas.Option.{slice_get_within}
use Rattle.std.proofs.lemmas.Bool.{true≢false}
use Rattle.sv_load.specs.declared.load.Command.{Command as Asked}
use Rattle.sv_load.specs.Load.{Load, script_of}
use Rattle.sv_journal.specs.declared.journal.Origin.{Origin}
use Rattle.sv_journal.specs.declared.journal.Item.{Item}
use Rattle.sv_journal.specs.Items.{latest_first, is_call_of, is_overflow, is_written}
use Rattle.sv_journal.specs.Items.{is_after_overflow, before_overflow, stored_before}
use Rattle.sv_journal.specs.Legal.{IsLegal, IsNextItem, EachItem, AreFirstCommands, origins_of}
use Rattle.sv_journal.specs.Legal.{group_of}
use Rattle.sv_journal.specs.Frees.{written_freed, frees_before}
use Rattle.sv_journal.proofs.Shared.{calls_within, no_overflow, writes, written_is, frees-written}
use Rattle.sv_journal.proofs.Shared.{overflow_written, alone, origins_of-append, origins_of-cons}
use Rattle.sv_journal.proofs.Shared.{each-front}
use Rattle.sv_core.specs.Turns.{StepTurn, Turns, IsReplayed, HasLatestFreed, step_turns}
use Rattle.sv_core.specs.BadTurns.{IsReplayedBy, IsReplayedTo, IsAmiss, FallsShort, IsFault}
use Rattle.sv_core.specs.BadTurns.{No_step, No_command, No_frees, IsEnd, Left_over, Faulty}
use Rattle.sv_core.specs.BadTurns.{IsBadTurns}
use Rattle.sv_core.proofs.parts.Heads.{next_call, first_head, heads_by}
use Rattle.sv_core.proofs.parts.OriginsOfTurns.{origins-before_overflow}
use Rattle.sv_core.proofs.once.OneReplay.{IsFront, IsBehind, behind, same_earlier, same_fronts}
use Rattle.sv_core.proofs.once.OneReplay.{used_before, origins_told, whole_front, once}
use Rattle.sv_core.proofs.parts.TurnCounts.{count-reverse, count-append, calls_turned}
use Rattle.sv_core.proofs.parts.TurnCounts.{commands_turned}
use Rattle.sv_core.proofs.parts.Counts.{count-cons}

-- FRONTS

-- the front of a list that these origins have
record IsCut (xs : List Item) (os : List Origin) : Type 0 where
  later : List Item
  front : List Item
  whole : xs ≡ later ++ front
  ends : is_after_overflow front ≡ false
  told : origins_of front ≡ os

deeper : (i : Item) (xs : List Item) (os : List Origin) → IsCut xs os → IsCut (i ∷ xs) os
deeper i xs os c = record {
  later = i ∷ c.later;
  front = c.front;
  whole = ap (λ is. i ∷ is) c.whole;
  ends = c.ends;
  told = c.told;
}

cut : (os : List Origin) (xs : List Item) (more : List Origin) → origins_of xs ≡ more ++ os →
    IsCut xs os
cut os [] [] e = record { later = []; front = []; whole = refl; ends = refl; told = e }
cut os [] (o ∷ more) e = cc
cut os (i ∷ xs) more e = at (is_overflow i.origin) refl more e (cut os xs) where
  at : (b : Bool) → is_overflow i.origin ≡ b → (more : List Origin) →
      origins_of (i ∷ xs) ≡ more ++ os →
      ((more : List Origin) → origins_of xs ≡ more ++ os → IsCut xs os) → IsCut (i ∷ xs) os
  at true f more e rest =
      deeper i xs os
      (rest more
      (sym (ap (λ b. cond (not b) (i.origin ∷ origins_of xs) (origins_of xs)) f) ∙ e))
  at false f [] e rest = record { later = []; front = i ∷ xs; whole = refl; ends = f; told = e }
  at false f (o ∷ more) e rest =
      let shape : i.origin ∷ origins_of xs ≡ o ∷ (more ++ os) = sym (origins_of-cons i xs f) ∙ e in
      let tail : origins_of xs ≡ more ++ os = cc in
      deeper i xs os (rest more tail)

-- the front of a settled list
record IsPart (load : Load) (frees : List ℕ) (xs : List Item) : Type 0 where
  next : EachItem (IsNextItem load) xs
  settled : EachItem HasLatestFreed xs
  left : List ℕ
  used : frees_before xs ++ left ≡ frees

part_behind : (load : Load) (frees : List ℕ) (i : Item) (xs : List Item) →
    IsPart load frees (i ∷ xs) → IsPart load frees xs
part_behind load frees i xs p = let rest = used_before frees p.left i xs p.used in record {
  next = p.next.0;
  settled = p.settled.0;
  left = rest.0;
  used = rest.1;
}

part_front : (load : Load) (frees : List ℕ) (later front : List Item) →
    IsPart load frees (later ++ front) → IsPart load frees front
part_front load frees [] front p = p
part_front load frees (i ∷ later) front p =
    part_front load frees later front (part_behind load frees i (later ++ front) p)

-- without the overflow that may stand directly before
part_before : (load : Load) (frees : List ℕ) (xs : List Item) → IsPart load frees xs →
    IsFront load frees (before_overflow xs)
part_before load frees [] p =
    record { next = p.next; settled = p.settled; ends = refl; left = p.left; used = p.used }
part_before load frees (o ∷ earlier) p = at (is_overflow o.origin) refl where
  at : (b : Bool) → is_overflow o.origin ≡ b → IsFront load frees (cond b earlier (o ∷ earlier))
  at true e = let deep = part_behind load frees o earlier p in record {
    next = deep.next;
    settled = deep.settled;
    ends = no_overflow load earlier o e p.next.1;
    left = deep.left;
    used = deep.used;
  }
  at false e = record { next = p.next; settled = p.settled; ends = e; left = p.left; used = p.used }

-- A WRITE THAT FAILS

-- a write of these frees cannot be amiss
sound : (load : Load) (frees left more : List ℕ) (earlier : List Item) (i : Item) →
    EachItem (IsNextItem load) (i ∷ earlier) → is_written earlier i ≡ true
    → frees_before (i ∷ earlier) ++ more ≡ frees → frees_before earlier ++ left ≡ frees →
    IsAmiss (stored_before load earlier - written_freed earlier) left → ⊥
sound load frees left more earlier i each written used told = at left here where
  here : (i.freed - written_freed earlier) ∷ more ≡ left
  here =
      append_cancel_left (frees_before earlier) ((i.freed - written_freed earlier) ∷ more) left
      (sym (append_assoc (frees_before earlier) ((i.freed - written_freed earlier) ∷ []) more)
      ∙ (ap (λ ns. ns ++ more) (sym (frees-written earlier i written)) ∙ (used ∙ sym told)))

  at : (left : List ℕ) → (i.freed - written_freed earlier) ∷ more ≡ left →
      IsAmiss (stored_before load earlier - written_freed earlier) left → ⊥
  at [] e h = cc
  at (n ∷ left) e h =
      let same : i.freed - written_freed earlier ≡ n = cc in
      too_much (stored_before load earlier) (written_freed earlier) i.freed n each.1.freed_stored
      same h where
        too_much : (s w f n : ℕ) → f ≤ s → f - w ≡ n → s - w < n → ⊥
        too_much s w f n p q r = omega arith

-- what stands before an item of one origin, in two lists that free by the same numbers
same_behind : (load : Load) (frees : List ℕ) (xs ys : List Item) (i j : Item) →
    is_overflow i.origin ≡ false → is_overflow j.origin ≡ false → i.origin ≡ j.origin →
    origins_of xs ≡ origins_of ys
    → IsPart load frees (i ∷ xs) → EachItem (IsNextItem load) (j ∷ ys) →
    IsPart load frees (before_overflow ys) →
    (before_overflow xs ≡ before_overflow ys) ×
    (is_after_overflow xs ≡ is_after_overflow ys)
same_behind load frees xs ys i j plain_i plain_j origin origins part next_j part_y =
    (before, (behind load xs ys i j part.next.1 next_j.1 plain_i plain_j before origin).after) where
      front_x : IsFront load frees (before_overflow xs)
      front_x = part_before load frees xs (part_behind load frees i xs part)

      front_y : IsFront load frees (before_overflow (before_overflow ys))
      front_y = part_before load frees (before_overflow ys) part_y

      twice : is_after_overflow (before_overflow ys) ≡ false
      twice = at ys next_j.0 where
        at : (ys : List Item) → EachItem (IsNextItem load) ys →
            is_after_overflow (before_overflow ys) ≡ false
        at [] each = refl
        at (o ∷ earlier) each = by (is_overflow o.origin) refl where
          by : (b : Bool) → is_overflow o.origin ≡ b →
              is_after_overflow (cond b earlier (o ∷ earlier)) ≡ false
          by true e = no_overflow load earlier o e each.1
          by false e = e

      before : before_overflow xs ≡ before_overflow ys
      before =
          same_fronts load frees (origins_of ys) (before_overflow xs) (before_overflow ys) front_x
          (subst (IsFront load frees) (alone (before_overflow ys) twice) front_y)
          (origins-before_overflow xs ∙ origins) (origins-before_overflow ys)

-- what is told of the place where frees fall short, in a list of another journal
record IsPlace (load : Load) (frees : List ℕ) (all : List Item) (j : Item) (ys : List Item) :
    Type 0 where
  next : EachItem (IsNextItem load) (j ∷ ys)
  plain : is_overflow j.origin ≡ false
  part : IsPart load frees all
  more : List Origin
  told : origins_of all ≡ more ++ origins_of (j ∷ ys)

-- the item at that place in the other list
record IsMet (load : Load) (frees : List ℕ) (j : Item) (ys : List Item) : Type 0 where
  item : Item
  before : List Item
  origin : item.origin ≡ j.origin
  plain : is_overflow item.origin ≡ false
  part : IsPart load frees (item ∷ before)
  origins : origins_of before ≡ origins_of ys

met : (load : Load) (frees : List ℕ) (all : List Item) (j : Item) (ys : List Item) →
    IsPlace load frees all j ys → IsMet load frees j ys
met load frees all j ys p =
    at c.front c.ends c.told
    (part_front load frees c.later c.front (subst (IsPart load frees) c.whole p.part)) where
      c : IsCut all (origins_of (j ∷ ys))
      c = cut (origins_of (j ∷ ys)) all p.more p.told

      at : (front : List Item) → is_after_overflow front ≡ false →
          origins_of front ≡ origins_of (j ∷ ys) → IsPart load frees front → IsMet load frees j ys
      at [] ends told part = let none : [] ≡ j.origin ∷ origins_of ys =
          told ∙ origins_of-cons j ys p.plain in
          absurd (nothing j.origin (origins_of ys) none) where
            nothing : (o : Origin) (os : List Origin) → [] ≡ o ∷ os → ⊥
            nothing o os e = cc
      at (i ∷ xs) ends told part =
          let shape : i.origin ∷ origins_of xs ≡ j.origin ∷ origins_of ys =
          sym (origins_of-cons i xs ends) ∙ (told ∙ origins_of-cons j ys p.plain) in
          let first : i.origin ≡ j.origin = cc in
          let rest : origins_of xs ≡ origins_of ys = cc in
          record {
            item = i;
            before = xs;
            origin = first;
            plain = ends;
            part = part;
            origins = rest;
          }

-- the failing write is of an item that is no overflow
fails_plain : (load : Load) (frees left : List ℕ) (all : List Item) (j : Item) (ys : List Item) →
    IsPlace load frees all j ys → EachItem HasLatestFreed ys → is_written ys j ≡ true
    → frees_before ys ++ left ≡ frees → IsAmiss (stored_before load ys - written_freed ys) left → ⊥
fails_plain load frees left all j ys p settled written used amiss =
    sound load frees left m.part.left ys m.item next_i
    (written_is load ys m.item next_i.1.outcome
    ∙ (ap (writes load ys) m.origin ∙ (sym (written_is load ys j p.next.1.outcome) ∙ written)))
    (ap (λ zs. frees_before (m.item ∷ zs) ++ m.part.left) (sym same) ∙ m.part.used) used amiss where
      m : IsMet load frees j ys
      m = met load frees all j ys p

      part_y : IsPart load frees ys
      part_y = record { next = p.next.0; settled = settled; left = left; used = used }

      front_y : IsFront load frees (before_overflow ys)
      front_y = part_before load frees ys part_y

      both : (before_overflow m.before ≡ before_overflow ys) ×
          (is_after_overflow m.before ≡ is_after_overflow ys)
      both =
          same_behind load frees m.before ys m.item j m.plain p.plain m.origin m.origins m.part
          p.next (record {
            next = front_y.next;
            settled = front_y.settled;
            left = front_y.left;
            used = front_y.used;
          })

      here : IsBehind load m.before ys m.item j
      here = behind load m.before ys m.item j m.part.next.1 p.next.1 m.plain p.plain both.0 m.origin

      rest : IsPart load frees m.before
      rest = part_behind load frees m.item m.before m.part

      same : m.before ≡ ys
      same =
          same_earlier load m.before ys m.item j rest.left left both.0 here.after m.part.next p.next
          m.part.settled.0 settled (rest.used ∙ sym used) here.moment

      next_i : EachItem (IsNextItem load) (m.item ∷ ys)
      next_i = subst (λ zs. EachItem (IsNextItem load) (m.item ∷ zs)) same m.part.next

-- the failing write is of an overflow
fails_overflow :
    (load : Load) (frees left : List ℕ) (all : List Item) (j o : Item) (ys : List Item) →
    IsPlace load frees all j (o ∷ ys) → EachItem HasLatestFreed ys → is_overflow o.origin ≡ true
    → frees_before ys ++ left ≡ frees → IsAmiss (stored_before load ys - written_freed ys) left → ⊥
fails_overflow load frees left all j o ys p settled overflow used amiss =
    at m.before both.0 both.1 (part_behind load frees m.item m.before m.part) where
      m : IsMet load frees j (o ∷ ys)
      m = met load frees all j (o ∷ ys) p

      peeled : before_overflow (o ∷ ys) ≡ ys
      peeled = ap (λ b. cond b ys (o ∷ ys)) overflow

      both : (before_overflow m.before ≡ before_overflow (o ∷ ys)) ×
          (is_after_overflow m.before ≡ is_after_overflow (o ∷ ys))
      both =
          same_behind load frees m.before (o ∷ ys) m.item j m.plain p.plain m.origin m.origins
          m.part
          p.next
          (subst (IsPart load frees) (sym peeled) (record {
            next = p.next.0.0;
            settled = settled;
            left = left;
            used = used;
          }))

      at : (xs : List Item) → before_overflow xs ≡ before_overflow (o ∷ ys) →
          is_after_overflow xs ≡ is_after_overflow (o ∷ ys) → IsPart load frees xs → ⊥
      at [] before after part = true≢false (sym (after ∙ overflow))
      at (q ∷ xs) before after part =
          let f : is_overflow q.origin ≡ true = after ∙ overflow in
          let same : xs ≡ ys = sym (ap (λ b. cond b xs (q ∷ xs)) f) ∙ (before ∙ peeled) in
          sound load frees left part.left ys q
          (subst (λ zs. EachItem (IsNextItem load) (q ∷ zs)) same part.next)
          (overflow_written ys q f)
          (ap (λ zs. frees_before (q ∷ zs) ++ part.left) (sym same) ∙ part.used) used amiss

-- THE TURNS OF TWO JOURNALS

-- more turns give the same heads first
heads_more : (calls : List Origin) (ts us : List StepTurn) (cs : List Asked) →
    (more : List Origin) × (heads_by calls (ts ++ us) cs ≡ heads_by calls ts cs ++ more)
heads_more calls [] us cs = (heads_by calls us cs, refl)
heads_more calls (t ∷ ts) us cs =
    let rest =
    heads_more (next_call calls t.writer ∷ calls) ts us (cond t.command (drop 1 cs) cs) in (
      rest.0,
      ap (λ os. next_call calls t.writer ∷ os)
          (ap (λ os. cond t.command (first_head cs) [] ++ os) rest.1
          ∙ sym
          (append_assoc (cond t.command (first_head cs) [])
          (heads_by (next_call calls t.writer ∷ calls) ts (cond t.command (drop 1 cs) cs)) rest.0)),
    )

-- so the origins of the shorter journal are the first of the longer one
origins_more : (load : Load) (a b : List Item) (ts us : List StepTurn) → IsLegal load a →
    IsLegal load b → AreFirstCommands load a → AreFirstCommands load b
    → step_turns a ≡ ts → step_turns b ≡ ts ++ us →
    (more : List Origin) × (origins_of (latest_first b) ≡ more ++ origins_of (latest_first a))
origins_more load a b ts us legal_a legal_b commands_a commands_b turned_a turned_b =
    (reverse (flat_map (group_of load) heads.0), all) where
      heads : (more : List Origin) ×
          (heads_by [] (ts ++ us) load.commands ≡ heads_by [] ts load.commands ++ more)
      heads = heads_more [] ts us load.commands

      all : origins_of (latest_first b)
          ≡ reverse (flat_map (group_of load) heads.0) ++ origins_of (latest_first a)
      all =
          origins_told load b (ts ++ us) legal_b commands_b turned_b
          ∙ (ap (λ os. reverse (flat_map (group_of load) os)) heads.1
          ∙ (ap reverse (flat_map-append (group_of load) (heads_by [] ts load.commands) heads.0)
          ∙ (reverse-append (flat_map (group_of load) (heads_by [] ts load.commands))
          (flat_map (group_of load) heads.0)
          ∙ ap (λ os. reverse (flat_map (group_of load) heads.0) ++ os)
          (sym (origins_told load a ts legal_a commands_a turned_a)))))

-- THE LAST OF SOME

-- of some items the last
record IsLast (x : Item) (xs : List Item) : Type 0 where
  front : List Item
  last : Item
  whole : x ∷ xs ≡ front ++ last ∷ []

last_of : (x : Item) (xs : List Item) → IsLast x xs
last_of x [] = record { front = []; last = x; whole = refl }
last_of x (y ∷ ys) = let rest = last_of y ys in record {
  front = x ∷ rest.front;
  last = rest.last;
  whole = ap (λ is. x ∷ is) rest.whole;
}

-- FREES THAT FALL SHORT

-- a journal whose frees fall short, and one of at least its turns by these frees
pub falls : (load : Load) (frees left : List ℕ) (a b : List Item) (ts us : List StepTurn) →
    IsReplayedBy load ts a → FallsShort load frees (latest_first a)
    → IsLegal load b → AreFirstCommands load b → EachItem HasLatestFreed (latest_first b) →
    step_turns b ≡ ts ++ us → frees_before (latest_first b) ++ left ≡ frees → ⊥
falls load frees left a b ts us run short legal_b commands_b settled_b turned_b used_b =
    at (is_overflow short.item.origin) refl where
      all : List Item
      all = latest_first b

      part : IsPart load frees all
      part = record { next = legal_b.each; settled = settled_b; left = left; used = used_b }

      more : (os : List Origin) × (origins_of all ≡ os ++ origins_of (latest_first a))
      more =
          origins_more load a b ts us run.legal legal_b run.commands commands_b
          (ap (λ (t : Turns). t.steps) run.turned) turned_b

      -- by a place in the shorter journal
      told : (later here : List Item) → latest_first a ≡ later ++ here →
          (os : List Origin) × (origins_of all ≡ os ++ origins_of here)
      told later here whole = (
        more.0 ++ origins_of later,
        more.1
            ∙ (ap (λ is. more.0 ++ origins_of is) whole
            ∙ (ap (λ os. more.0 ++ os) (origins_of-append later here)
            ∙ sym (append_assoc more.0 (origins_of later) (origins_of here)))),
      )

      each : (later here : List Item) → latest_first a ≡ later ++ here →
          EachItem (IsNextItem load) here
      each later here whole =
          each-front (IsNextItem load) later here
          (subst (EachItem (IsNextItem load)) whole run.legal.each)

      settled : EachItem HasLatestFreed short.earlier
      settled = let here : EachItem HasLatestFreed (short.item ∷ short.earlier) =
          each-front HasLatestFreed short.later (short.item ∷ short.earlier)
          (subst (EachItem HasLatestFreed) short.place run.settled) in here.0

      at : (b : Bool) → is_overflow short.item.origin ≡ b → ⊥
      at false e =
          let os = told short.later (short.item ∷ short.earlier) short.place in
          fails_plain load frees short.left all short.item short.earlier
          (record {
            next = each short.later (short.item ∷ short.earlier) short.place;
            plain = e;
            part = part;
            more = os.0;
            told = os.1;
          }) settled short.written short.used short.amiss
      at true e = behind_it short.later short.place where
        behind_it : (later : List Item) → latest_first a ≡ later ++ short.item ∷ short.earlier → ⊥
        behind_it [] place =
            true≢false (sym e ∙ (sym (ap is_after_overflow place) ∙ run.legal.ends))
        behind_it (x ∷ xs) place =
            let l = last_of x xs in
            let moved : latest_first a ≡ l.front ++ (l.last ∷ short.item ∷ short.earlier) =
            place
            ∙ (ap (λ is. is ++ short.item ∷ short.earlier) l.whole
            ∙ append_assoc l.front (l.last ∷ []) (short.item ∷ short.earlier)) in
            let os = told l.front (l.last ∷ short.item ∷ short.earlier) moved in
            let next : EachItem (IsNextItem load) (l.last ∷ short.item ∷ short.earlier) =
            each l.front (l.last ∷ short.item ∷ short.earlier) moved in
            fails_overflow load frees short.left all l.last short.item short.earlier
            (record {
              next = next;
              plain = plain (is_overflow l.last.origin) refl next.1;
              part = part;
              more = os.0;
              told = os.1;
            }) settled e short.used short.amiss where
              plain : {j : Item} (b : Bool) → is_overflow j.origin ≡ b →
                  IsNextItem load (short.item ∷ short.earlier) j → is_overflow j.origin ≡ false
              plain true f next =
                  absurd
                  (true≢false (sym e ∙ no_overflow load (short.item ∷ short.earlier) _ f next))
              plain false f next = f

-- A TURN THAT CANNOT BE TAKEN

-- one turn more
pub take_one : {X : Type 0} (at : ℕ) (steps : List X) (t : X) → slice_get steps at ≡ Some t →
    take (suc at) steps ≡ take at steps ++ t ∷ []
take_one at [] t e = cc
take_one zero (s ∷ steps) t e = cc
take_one (suc at) (s ∷ steps) t e = ap (λ ts. s ∷ ts) (take_one at steps t e)

-- turns of which at least so many are taken
take_further : (number all : ℕ) (steps : List StepTurn) → number ≤ all →
    (us : List StepTurn) × (take all steps ≡ take number steps ++ us)
take_further number all steps h =
    let sum : number + (all - number) ≡ all = omega arith in (
      take (all - number) (drop number steps),
      ap (λ n. take n steps) (sym sum) ∙ take-add number (all - number) steps,
    )

-- no journal takes a turn that is at fault
fault :
    (load : Load) (turns : Turns) (at number : ℕ) (before items : List Item) (left rest : List ℕ)
    (t : StepTurn) → IsReplayedTo load turns at before left → slice_get turns.steps at ≡ Some t
    → IsFault load turns at before t → IsReplayedTo load turns number items rest → suc at ≤ number →
    ⊥
fault load turns at number before items left rest t to here why other further = by why where
  more : (us : List StepTurn) × (take number turns.steps ≡ take (suc at) turns.steps ++ us)
  more = take_further (suc at) number turns.steps further

  steps_before : step_turns before ≡ take at turns.steps
  steps_before = ap (λ (t : Turns). t.steps) to.run.turned

  steps : step_turns items ≡ (step_turns before ++ t ∷ []) ++ more.0
  steps =
      ap (λ (t : Turns). t.steps) other.run.turned
      ∙ (more.1
      ∙ ap (λ ts. ts ++ more.0)
      (take_one at turns.steps t here ∙ ap (λ ts. ts ++ t ∷ []) (sym steps_before)))

  -- how many turns pass
  counted : (p : StepTurn → Bool) → p t ≡ true →
      1 + count_by p (step_turns before) ≤ count_by p (step_turns items)
  counted p e =
      sum (count_by p (step_turns before)) (count_by p more.0)
      (ap (count_by p) steps ∙ count-append p (step_turns before ++ t ∷ []) more.0)
      (count-append p (step_turns before) (t ∷ []))
      (count-cons p t [] ∙ ap (λ b. cond b 1 0 + 0) e) where
        sum : {a b e : ℕ} (d c : ℕ) → a ≡ b + c → b ≡ d + e → e ≡ 1 + 0 → 1 + d ≤ a
        sum d c p q r = omega arith

  too_many : {most a b c d : ℕ} → most ≤ a → b ≤ most → b ≡ c → a ≡ d → 1 + d ≤ c → ⊥
  too_many p q r s u = omega arith

  by : IsFault load turns at before t → ⊥
  by (No_step through) =
      let most : count_by (λ (i : Item). is_call_of t.writer i.origin) (latest_first items)
      ≤ length (script_of load t.writer) =
      calls_within load t.writer (latest_first items) other.run.legal.each in
      let all : count_by (λ (i : Item). is_call_of t.writer i.origin) (latest_first items)
      ≡ count_by (λ (s : StepTurn). s.writer == t.writer) (step_turns items) =
      count-reverse (λ (i : Item). is_call_of t.writer i.origin) items
      ∙ calls_turned t.writer items in
      let grown = counted (λ (s : StepTurn). s.writer == t.writer) (same t.writer) in
      too_many through most all (calls_turned t.writer before) grown where
        same : (n : ℕ) → (n == n) ≡ true
        same n = search rules
  by (No_command command through) =
      too_many through other.run.legal.commands (commands_turned load items other.run.legal)
      (commands_turned load before to.run.legal) (counted (λ (s : StepTurn). s.command) command)
  by (No_frees longer run short) =
      falls load turns.frees rest longer items (take (suc at) turns.steps) more.0 run short
      other.run.legal other.run.commands other.run.settled
      (ap (λ (t : Turns). t.steps) other.run.turned ∙ more.1) other.frees

-- ONE END

-- a journal of all turns is as far as the turns go
pub replayed_to : (load : Load) (turns : Turns) (items : List Item) → IsReplayed load turns items →
    IsReplayedTo load turns (length turns.steps) items []
replayed_to load turns items of = record {
  run = record {
    legal = of.legal;
    turned =
        ap (λ ts. record { steps = ts; frees = frees_before (latest_first items) })
        (ap (λ (t : Turns). t.steps) of.turned
        ∙ sym (take_all (length turns.steps) turns.steps (omega arith)));
    commands = of.commands;
    settled = of.settled;
  };
  frees = append-nil (frees_before (latest_first items)) ∙ ap (λ (t : Turns). t.frees) of.turned;
}

-- and the other way round
pub replayed_from : (load : Load) (turns : Turns) (items : List Item) →
    IsReplayedTo load turns (length turns.steps) items [] → IsReplayed load turns items
replayed_from load turns items to = record {
  legal = to.run.legal;
  turned =
      ap (λ ts. record { steps = ts; frees = frees_before (latest_first items) })
      (ap (λ (t : Turns). t.steps) to.run.turned
      ∙ take_all (length turns.steps) turns.steps (omega arith))
      ∙ ap (λ ns. record { steps = turns.steps; frees = ns })
      (sym (append-nil (frees_before (latest_first items))) ∙ to.frees);
  commands = to.run.commands;
  settled = to.run.settled;
}

-- one number of turns gives one journal, and leaves the same
pub to_once : (load : Load) (turns : Turns) (number : ℕ) (a b : List Item) (m n : List ℕ) →
    IsReplayedTo load turns number a m → IsReplayedTo load turns number b n → (a ≡ b) × (m ≡ n)
to_once load turns number a b m n to_a to_b = (
  same,
  append_cancel_left (frees_before (latest_first a)) m n
      (to_a.frees ∙ sym (ap (λ is. frees_before (latest_first is) ++ n) same ∙ to_b.frees)),
) where
  same : a ≡ b
  same =
      once load turns.frees a b to_a.run.legal to_b.run.legal to_a.run.commands to_b.run.commands
      (ap (λ (t : Turns). t.steps) (to_a.run.turned)
      ∙ sym (ap (λ (t : Turns). t.steps) to_b.run.turned))
      (whole_front load a turns.frees m to_a.run.legal to_a.run.settled to_a.frees)
      (whole_front load b turns.frees n to_b.run.legal to_b.run.settled to_b.frees)

-- turns that fail at a place have no journal
pub not_both : (load : Load) (turns : Turns) (at : ℕ) (items : List Item) →
    IsBadTurns load turns at → IsReplayed load turns items → ⊥
not_both load turns at items bad of = by bad.ends where
  by : IsEnd load turns at bad.before bad.left → ⊥
  by (Left_over all some) =
      let to : IsReplayedTo load turns (length turns.steps) bad.before bad.left =
      subst (λ n. IsReplayedTo load turns n bad.before bad.left) all bad.replayed in
      let same =
      to_once load turns (length turns.steps) bad.before items bad.left [] to
      (replayed_to load turns items of) in
      none (ap length same.1) some where
        none : {n : ℕ} → n ≡ 0 → 0 < n → ⊥
        none e h = omega arith
  by (Faulty t here why) =
      let within : at < length turns.steps = slice_get_within turns.steps at t here in
      fault load turns at (length turns.steps) bad.before items bad.left [] t bad.replayed here why
      (replayed_to load turns items of) (omega (arith, within))

-- they fail at one place
pub one_place : (load : Load) (turns : Turns) (a b : ℕ) → IsBadTurns load turns a →
    IsBadTurns load turns b → a ≡ b
one_place load turns a b bad_a bad_b = by bad_a.ends bad_b.ends where
  later : (a b : ℕ) (bad_a : IsBadTurns load turns a) → IsBadTurns load turns b → (t : StepTurn) →
      slice_get turns.steps a ≡ Some t → IsFault load turns a bad_a.before t → suc a ≤ b → ⊥
  later a b bad_a bad_b t here why further =
      fault load turns a b bad_a.before bad_b.before bad_a.left bad_b.left t bad_a.replayed here why
      bad_b.replayed further

  order : (suc a ≤ b → ⊥) → (suc b ≤ a → ⊥) → a ≡ b
  order p q = omega (arith, p, q)

  by : IsEnd load turns a bad_a.before bad_a.left → IsEnd load turns b bad_b.before bad_b.left →
      a ≡ b
  by (Left_over all_a some_a) (Left_over all_b some_b) = all_a ∙ sym all_b
  by (Left_over all_a some_a) (Faulty t here why) =
      let within : b < length turns.steps = slice_get_within turns.steps b t here in
      absurd
      (fault load turns b a bad_b.before bad_a.before bad_b.left bad_a.left t bad_b.replayed
      here why bad_a.replayed (omega (arith, within, all_a)))
  by (Faulty t here why) (Left_over all_b some_b) =
      let within : a < length turns.steps = slice_get_within turns.steps a t here in
      absurd
      (fault load turns a b bad_a.before bad_b.before bad_a.left bad_b.left t bad_a.replayed
      here why bad_b.replayed (omega (arith, within, all_b)))
  by (Faulty s here_a why_a) (Faulty t here_b why_b) =
      order (later a b bad_a bad_b s here_a why_a) (later b a bad_b bad_a t here_b why_b)
