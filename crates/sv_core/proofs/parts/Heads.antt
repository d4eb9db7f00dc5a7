-- The heads of a journal's groups are told by its turns and the workload's commands.
use Rattle.std.proofs.Common.{◌≡◌, ℕ, ◌+◌, Bool, true, false, not, ◌||◌, cond, List, [], ◌∷◌, ◌++◌}
use Rattle.std.proofs.Common.{drop, reverse, filter, refl, sym, ap, ◌∙◌, subst}
use Rattle.std.specs.Prelude.{count_by, take_while, ◌==◌}
use Rattle.std.specs.List.{list_any}
use Rattle.std.proofs.lemmas.List.Sums.{take_while-cons}
use Rattle.std.proofs.lemmas.Bool.{true≢false}
use Rattle.sv_load.specs.declared.load.Command.{Command as Asked}
use Rattle.sv_load.specs.Load.{Load}
use Rattle.sv_journal.specs.declared.journal.Origin.{Origin}
use Rattle.sv_journal.specs.declared.journal.Origin.TheVariants.{Call, Sync, Reply, Overflow}
use Rattle.sv_journal.specs.declared.journal.Origin.TheVariants.{Command}
use Rattle.sv_journal.specs.declared.journal.Item.{Item}
use Rattle.sv_journal.specs.Items.{is_call, is_call_of, is_command, is_overflow}
use Rattle.sv_journal.specs.Legal.{IsNextItem, IsNextStep, IsCommandInPlace, EachItem}
use Rattle.sv_journal.specs.Legal.{is_after_call_group, is_head, origins_of, command_in}
use Rattle.sv_journal.specs.Legal.{commands_in}
use Rattle.sv_journal.proofs.Shared.{each-front, reverse_moved}
use Rattle.sv_core.specs.Turns.{StepTurn, has_command, turn_at, step_turns}
use Rattle.sv_core.proofs.parts.Counts.{count-cons, count-not}

-- what holds of each item from here on; `earlier` is the items before, the latest first
abbrev pub EachLater : (List Item → Item → Type 0) → List Item → List Item → Type 0
EachLater P earlier [] = Unit {0}
EachLater P earlier (i ∷ later) = P earlier i × EachLater P (i ∷ earlier) later

-- looked at from the front
pub each_later : (P : List Item → Item → Type 0) (later earlier : List Item)
    → EachItem P (reverse later ++ earlier) → EachLater P earlier later
each_later P [] earlier each = tt
each_later P (i ∷ later) earlier each =
    let moved : EachItem P (reverse later ++ (i ∷ earlier)) = subst (EachItem P)
    (reverse_moved i later earlier) each in
    let front : EachItem P (i ∷ earlier) = each-front P (reverse later) (i ∷ earlier) moved in
    (front.1, each_later P later (i ∷ earlier) moved)

-- COMMANDS IN PLACE

-- whether a command stands before the next call, with one item more ahead
pub has_command-cons : (i : Item) (later : List Item)
    → has_command (i ∷ later) ≡ cond (is_call i.origin) false
    (is_command i.origin || has_command later)
has_command-cons i later =
    ap (list_any (λ (j : Item). is_command j.origin))
    (take_while-cons (λ (j : Item). not (is_call j.origin)) i later) ∙ at (is_call i.origin)
  where
    at : (b : Bool) → list_any (λ (j : Item). is_command j.origin)
        (cond (not b) (i ∷ take_while (λ (j : Item). not (is_call j.origin)) later) []) ≡ cond b
        false (is_command i.origin || has_command later)
    at true = refl
    at false = refl

-- after a command no further one stands before the next call
pub not_again : (load : Load) (earlier later : List Item)
    → EachLater (IsNextItem load) earlier later → is_after_call_group earlier ≡ false
    → has_command later ≡ false
not_again load earlier [] each behind = refl
not_again load earlier (i ∷ later) each behind =
    has_command-cons i later ∙ at i.origin refl each.0.command
    (not_again load (i ∷ earlier) later each.1) where
      at : (o : Origin) → i.origin ≡ o → IsCommandInPlace earlier o →
          (is_after_call_group (i ∷ earlier) ≡ false → has_command later ≡ false) → cond (is_call o)
          false (is_command o || has_command later) ≡ false
      at (Call writer step) e place more = refl
      at (Command byte param) e place more = absurd (true≢false (sym place.0 ∙ behind))
      at Sync e place more = more (rw e behind)
      at (Reply kind index) e place more = more (rw e behind)
      at (Overflow count) e place more = more (rw e behind)

-- and a command stands after a call's group
pub not_twice : (load : Load) (earlier later : List Item) (i : Item)
    → EachLater (IsNextItem load) (i ∷ earlier) later → is_command i.origin ≡ true
    → has_command later ≡ false
not_twice load earlier later i each command =
    not_again load (i ∷ earlier) later each (at i.origin refl command) where
      at : (o : Origin) → i.origin ≡ o → is_command o ≡ true →
          is_after_call_group (i ∷ earlier) ≡ false
      at (Command byte param) e h = rw e refl
      at (Call writer step) e h = cc
      at Sync e h = cc
      at (Reply kind index) e h = cc
      at (Overflow count) e h = cc

-- HEADS BY TURNS

-- the next call of a writer after these calls
abbrev pub next_call : List Origin → ℕ → Origin
next_call calls writer = Call writer (count_by (is_call_of writer) calls)

-- the head of the first command, where there is one
abbrev pub first_head : List Asked → List Origin
first_head [] = []
first_head (c ∷ cs) = Command c.byte c.param ∷ []

-- the heads that these turns make of these commands after these calls
abbrev pub heads_by : List Origin → List StepTurn → List Asked → List Origin
heads_by calls [] cs = []
heads_by calls (t ∷ ts) cs =
    next_call calls t.writer ∷
    (cond t.command (first_head cs) [] ++ heads_by (next_call calls t.writer ∷ calls) ts
    (cond t.command (drop 1 cs) cs))

-- the same after a call that has a command or not
abbrev pub heads_after : Bool → List Origin → List StepTurn → List Asked → List Origin
heads_after b calls ts cs = cond b (first_head cs) [] ++ heads_by calls ts (cond b (drop 1 cs) cs)

-- these calls are those of the items
abbrev AreCalls : List Item → List Origin → Type 0
AreCalls earlier calls =
    (writer : ℕ) → count_by (λ i. is_call_of writer i.origin) earlier ≡ count_by (is_call_of writer)
    calls

-- the heads of the items from here on are those of their turns
abbrev pub AreHeadsBy : List Item → List Item → Type 0
AreHeadsBy earlier later =
    (calls : List Origin) (cs rest : List Asked) → AreCalls earlier calls → commands_in later ++
    rest ≡ cs
    → filter is_head (origins_of later) ≡ heads_after (has_command later) calls (step_turns later)
    cs

-- an item that is no call leaves the calls
calls_stay : (earlier : List Item) (calls : List Origin) (i : Item) → is_call i.origin ≡ false
    → AreCalls earlier calls → AreCalls (i ∷ earlier) calls
calls_stay earlier calls i other same = λ writer.
    count-not (λ (j : Item). is_call_of writer j.origin) i earlier (not_of writer i.origin other) ∙
    same writer where
      not_of : (writer : ℕ) (o : Origin) → is_call o ≡ false → is_call_of writer o ≡ false
      not_of writer (Call other step) h = cc
      not_of writer Sync h = refl
      not_of writer (Reply kind index) h = refl
      not_of writer (Overflow count) h = refl
      not_of writer (Command byte param) h = refl

-- a call is one more
calls_grow : (earlier : List Item) (calls : List Origin) (i : Item) (caller step : ℕ)
    → i.origin ≡ Call caller step → AreCalls earlier calls
    → AreCalls (i ∷ earlier) (next_call calls caller ∷ calls)
calls_grow earlier calls i caller step e same = λ writer.
    count-cons (λ (j : Item). is_call_of writer j.origin) i earlier
    ∙ (ap (λ o. cond (is_call_of writer o) 1 0 + count_by (λ (j : Item). is_call_of writer j.origin)
    earlier) e
    ∙ (ap (λ n. cond (caller == writer) 1 0 + n) (same writer) ∙ sym
    (count-cons (is_call_of writer) (next_call calls caller) calls)))

-- one item more ahead
heads_more : (load : Load) (earlier later : List Item) (i : Item) (o : Origin) → i.origin ≡ o
    → IsNextStep load earlier o → EachLater (IsNextItem load) (i ∷ earlier) later
    → AreHeadsBy (i ∷ earlier) later → (calls : List Origin) (cs rest : List Asked) → AreCalls
    earlier calls → (command_in o ++ commands_in later) ++ rest ≡ cs
    → filter is_head (cond (not (is_overflow o)) (o ∷ origins_of later) (origins_of later))
    ≡ heads_after (cond (is_call o) false (is_command o || has_command later)) calls
    (turn_at o later ++ step_turns later) cs
heads_more load earlier later i (Call writer step) e next each more calls cs rest same split =
    let here : Call writer step ≡ next_call calls writer = ap (λ n. Call writer n)
    (next.0 ∙ same writer) in
    ap (λ os. Call writer step ∷ os)
    (more (next_call calls writer ∷ calls) cs rest
    (calls_grow earlier calls i writer step e same) split)
    ∙ ap (λ o. o ∷ heads_after (has_command later) (next_call calls writer ∷ calls)
    (step_turns later) cs) here
heads_more load earlier later i (Command byte param) e next each more calls cs rest same split =
    let known : has_command later ≡ false = not_twice load earlier later i each (ap is_command e) in
    subst (λ ds. Command byte param ∷ filter is_head (origins_of later) ≡ heads_after true calls
    (step_turns later) ds) split
    (ap (λ os. Command byte param ∷ os)
    (more calls (commands_in later ++ rest) rest (calls_stay earlier calls i (ap is_call e) same)
    refl
    ∙ ap (λ b. heads_after b calls (step_turns later) (commands_in later ++ rest)) known))
heads_more load earlier later i Sync e next each more calls cs rest same split =
    more calls cs rest (calls_stay earlier calls i (ap is_call e) same) split
heads_more load earlier later i (Reply kind index) e next each more calls cs rest same split =
    more calls cs rest (calls_stay earlier calls i (ap is_call e) same) split
heads_more load earlier later i (Overflow count) e next each more calls cs rest same split =
    more calls cs rest (calls_stay earlier calls i (ap is_call e) same) split

-- the heads of any journal from here on
pub heads_are : (load : Load) (earlier later : List Item)
    → EachLater (IsNextItem load) earlier later → AreHeadsBy earlier later
heads_are load earlier [] each = λ calls cs rest same split. refl
heads_are load earlier (i ∷ later) each = λ calls cs rest same split.
    heads_more load earlier later i i.origin refl each.0.step each.1
    (heads_are load (i ∷ earlier) later each.1) calls cs rest same split
    ∙ ap (λ b. heads_after b calls (step_turns (i ∷ later)) cs) (sym (has_command-cons i later))

-- the heads of a journal whose commands are the first of these
pub heads_all : (load : Load) (items : List Item) (cs rest : List Asked)
    → EachLater (IsNextItem load) [] items → commands_in items ++ rest ≡ cs
    → filter is_head (origins_of items) ≡ heads_by [] (step_turns items) cs
heads_all load items cs rest each split =
    heads_are load [] items each [] cs rest (λ writer. refl) split
    ∙ ap (λ b. heads_after b [] (step_turns items) cs) (not_again load [] items each refl)
