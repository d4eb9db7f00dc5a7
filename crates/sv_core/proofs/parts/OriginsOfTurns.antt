-- The origins of a journal are told by its turns and the workload's commands.
use Rattle.std.proofs.Common.{◌≡◌, ℕ, ◌+◌, ◌<◌, Bool, true, false, not, cond, List, [], ◌∷◌, ◌++◌}
use Rattle.std.proofs.Common.{length, reverse, filter, drop, flat_map, refl, sym, ap, ◌∙◌, subst}
use Rattle.std.proofs.Common.{arith, append-nil, zero-add}
use Rattle.std.specs.Prelude.{count_by}
use Rattle.std.proofs.lemmas.List.{reverse-append, take-append-drop}
use Rattle.std.proofs.lemmas.Bool.{or_parts}
use Rattle.sv_load.specs.declared.load.Command.{Command as Asked}
use Rattle.sv_load.specs.Load.{Load}
use Rattle.sv_journal.specs.declared.journal.Origin.{Origin}
use Rattle.sv_journal.specs.declared.journal.Item.{Item}
use Rattle.sv_journal.specs.Items.{latest_first, is_call, is_command, is_overflow, before_overflow}
use Rattle.sv_journal.specs.Legal.{IsNextItem, EachItem, AreFirstCommands, is_head, group_of}
use Rattle.sv_journal.specs.Legal.{origins_of, commands_in}
use Rattle.sv_journal.proofs.Shared.{not_head, origins_of-append}
use Rattle.sv_core.specs.Turns.{StepTurn, step_turns}
use Rattle.sv_core.proofs.parts.Heads.{each_later, next_call, heads_by, heads_all}
use Rattle.sv_core.proofs.parts.Counts.{count-cons, calls_in, calls-cons}

-- THE ORIGINS

-- the origins of a journal are the groups of the heads that its turns make
pub origins_by : (load : Load) (items : List Item) → EachItem (IsNextItem load) (latest_first items)
    → AreFirstCommands load items
    → origins_of items ≡ flat_map (group_of load) (filter is_head (origins_of items))
    → origins_of items ≡ flat_map (group_of load) (heads_by [] (step_turns items) load.commands)
origins_by load items each commands groups =
    let n : ℕ = length (commands_in items) in
    let split : commands_in items ++ drop n load.commands ≡ load.commands = ap
    (λ (cs : List Asked). cs ++ drop n load.commands) commands ∙ take-append-drop n
    load.commands in
    groups ∙ ap (flat_map (group_of load))
    (heads_all load items load.commands (drop n load.commands)
    (each_later (IsNextItem load) items []
    (subst (EachItem (IsNextItem load)) (sym (append-nil (reverse items))) each)) split)

-- the last of these is a call
abbrev pub IsLastCall : List Origin → Type 0
IsLastCall [] = Unit {0}
IsLastCall (o ∷ []) = is_call o ≡ true
IsLastCall (o ∷ p ∷ os) = IsLastCall (p ∷ os)

-- a call at the end is the last
last_call-append : (os : List Origin) (c : Origin) → is_call c ≡ true → IsLastCall (os ++ c ∷ [])
last_call-append [] c h = h
last_call-append (o ∷ []) c h = h
last_call-append (o ∷ p ∷ os) c h = last_call-append (p ∷ os) c h

-- of fewer of them it is the last too
pub last_call-tail : (o : Origin) (os : List Origin) → IsLastCall (o ∷ os) → IsLastCall os
last_call-tail o [] h = tt
last_call-tail o (p ∷ os) h = h

-- so there is a call among them
pub last_call-some : (o : Origin) (os : List Origin) → IsLastCall (o ∷ os)
    → 0 < count_by is_call (o ∷ os)
last_call-some o [] h =
    let one : count_by is_call (o ∷ []) ≡ 1 + 0 = count-cons is_call o [] ∙ ap (λ b. cond b 1 0 + 0)
    h in omega (arith, one)
last_call-some o (p ∷ os) h = omega (arith, last_call-some p os h, count-cons is_call o (p ∷ os))

-- the first origin of a journal is a call
pub first_call : (load : Load) (turns : List StepTurn) (cs : List Asked)
    → IsLastCall (reverse (flat_map (group_of load) (heads_by [] turns cs)))
first_call load [] cs = tt
first_call load (t ∷ turns) cs =
    let more : List Origin = flat_map (group_of load) (heads_by [] (t ∷ turns) cs) in
    let rest : List Origin = drop 1 more in
    subst IsLastCall (sym (reverse-append (next_call [] t.writer ∷ []) rest))
    (last_call-append (reverse rest) (next_call [] t.writer) refl)

-- the origins of the reversed items
pub origins_of-reverse : (items : List Item)
    → origins_of (reverse items) ≡ reverse (origins_of items)
origins_of-reverse [] = refl
origins_of-reverse (i ∷ items) =
    ap origins_of (reverse-append (i ∷ []) items)
    ∙ (origins_of-append (reverse items) (i ∷ [])
    ∙ (ap (λ os. os ++ origins_of (i ∷ [])) (origins_of-reverse items) ∙ at (is_overflow i.origin)))
  where
    at : (b : Bool) → reverse (origins_of items) ++ cond (not b) (i.origin ∷ []) [] ≡ reverse
        (cond (not b) (i.origin ∷ origins_of items) (origins_of items))
    at true = append-nil (reverse (origins_of items))
    at false = sym (reverse-append (i.origin ∷ []) (origins_of items))

-- an overflow is no call
pub not_call : (o : Origin) → is_overflow o ≡ true → is_call o ≡ false
not_call o h = let other = or_parts (is_call o) (is_command o) (not_head o h) in other.0

-- the calls are among the origins
pub calls-origins : (items : List Item) → calls_in items ≡ count_by is_call (origins_of items)
calls-origins [] = refl
calls-origins (i ∷ items) =
    calls-cons i items ∙ (ap (λ n. cond (is_call i.origin) 1 0 + n) (calls-origins items) ∙ at
    (is_overflow i.origin) refl) where
      at : (b : Bool) → is_overflow i.origin ≡ b → cond (is_call i.origin) 1 0 + count_by is_call
          (origins_of items) ≡ count_by is_call
          (cond (not b) (i.origin ∷ origins_of items) (origins_of items))
      at true e = ap (λ b. cond b 1 0 + count_by is_call (origins_of items)) (not_call i.origin e) ∙
          zero-add (count_by is_call (origins_of items))
      at false e = sym (count-cons is_call i.origin (origins_of items))

-- an overflow directly before is none of these
pub origins-before_overflow : (earlier : List Item)
    → origins_of (before_overflow earlier) ≡ origins_of earlier
origins-before_overflow [] = refl
origins-before_overflow (o ∷ earlier) = at (is_overflow o.origin) refl where
  at : (b : Bool) → is_overflow o.origin ≡ b → origins_of (cond b earlier (o ∷ earlier)) ≡
      origins_of (o ∷ earlier)
  at true e = sym (ap (λ b. cond (not b) (o.origin ∷ origins_of earlier) (origins_of earlier)) e)
  at false e = refl
