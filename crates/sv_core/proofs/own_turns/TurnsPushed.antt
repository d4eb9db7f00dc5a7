-- The turns of a journal with one item more at its end.
use Rattle.std.proofs.Common.{◌≡◌, ℕ, ◌-◌, Bool, true, false, ◌||◌, cond, List, [], ◌∷◌, ◌++◌, refl}
use Rattle.std.proofs.Common.{sym, ap, ◌∙◌, append-nil}
use Rattle.sv_journal.specs.declared.journal.Origin.{Origin}
use Rattle.sv_journal.specs.declared.journal.Origin.TheVariants.{Call, Sync, Reply, Overflow}
use Rattle.sv_journal.specs.declared.journal.Origin.TheVariants.{Command}
use Rattle.sv_journal.specs.declared.journal.Item.{Item}
use Rattle.sv_journal.specs.Items.{latest_first, is_call, is_command, is_written}
use Rattle.sv_journal.specs.Frees.{written_freed, frees_before}
use Rattle.sv_journal.proofs.Shared.{latest_first-push}
use Rattle.sv_core.specs.Turns.{StepTurn, turn_at, has_command, step_turns}
use Rattle.sv_core.specs.Turned.{asked_last, turns_with}
use Rattle.sv_core.proofs.parts.Heads.{has_command-cons}

abbrev turn : ℕ → Bool → StepTurn
turn writer command = record { writer = writer; command = command }

-- an item that tells nothing stands before a call or nowhere
none_more : (items : List Item) (i : Item) → is_command i.origin ≡ false →
    has_command (items ++ i ∷ []) ≡ has_command items
none_more [] i e = has_command-cons i [] ∙ at (is_call i.origin) (is_command i.origin) e where
  at : (b c : Bool) → c ≡ false → cond b false (c || false) ≡ false
  at true c e = refl
  at false true e = cc
  at false false e = refl
none_more (j ∷ items) i e =
    has_command-cons j (items ++ i ∷ [])
    ∙ (ap (λ b. cond (is_call j.origin) false (is_command j.origin || b)) (none_more items i e)
    ∙ sym (has_command-cons j items))

-- a command behind the last call
last_command : (items : List Item) (i : Item) → is_command i.origin ≡ true →
    is_call i.origin ≡ false → step_turns items ≡ [] → has_command (items ++ i ∷ []) ≡ true
last_command [] i e other none =
    has_command-cons i []
    ∙ (ap (λ b. cond b false (is_command i.origin || false)) other ∙ ap (λ b. b || false) e)
last_command (j ∷ items) i e other none =
    has_command-cons j (items ++ i ∷ []) ∙ at j.origin none (last_command items i e other) where
      at : (o : Origin) → turn_at o items ++ step_turns items ≡ [] →
          (step_turns items ≡ [] → has_command (items ++ i ∷ []) ≡ true) →
          cond (is_call o) false (is_command o || has_command (items ++ i ∷ [])) ≡ true
      at (Call writer step) none rest = cc
      at Sync none rest = rest none
      at (Reply kind index) none rest = rest none
      at (Overflow count) none rest = rest none
      at (Command byte param) none rest = refl

-- a command behind further calls
early_command : (items : List Item) (i : Item) (t : StepTurn) (ts : List StepTurn) →
    step_turns items ≡ t ∷ ts → has_command (items ++ i ∷ []) ≡ has_command items
early_command [] i t ts some = cc
early_command (j ∷ items) i t ts some =
    has_command-cons j (items ++ i ∷ [])
    ∙ (at j.origin some (early_command items i t ts) ∙ sym (has_command-cons j items)) where
      at : (o : Origin) → turn_at o items ++ step_turns items ≡ t ∷ ts →
          (step_turns items ≡ t ∷ ts → has_command (items ++ i ∷ []) ≡ has_command items)
          → cond (is_call o) false (is_command o || has_command (items ++ i ∷ []))
          ≡ cond (is_call o) false (is_command o || has_command items)
      at (Call writer step) some rest = refl
      at Sync some rest = rest some
      at (Reply kind index) some rest = rest some
      at (Overflow count) some rest = rest some
      at (Command byte param) some rest = refl

-- by the origin of the new item
pub turns_push : (items : List Item) (i : Item) →
    step_turns (items ++ i ∷ []) ≡ turns_with i.origin (step_turns items)
turns_push [] i = append-nil (turn_at i.origin []) ∙ at i.origin where
  at : (o : Origin) → turn_at o [] ≡ turns_with o []
  at (Call writer step) = refl
  at Sync = refl
  at (Reply kind index) = refl
  at (Overflow count) = refl
  at (Command byte param) = refl
turns_push (j ∷ items) i =
    ap (λ ts. turn_at j.origin (items ++ i ∷ []) ++ ts) (turns_push items i)
    ∙ at j.origin i.origin refl where
      idle : (writer : ℕ) (o : Origin) → i.origin ≡ o → is_command o ≡ false →
          turn writer (has_command (items ++ i ∷ [])) ≡ turn writer (has_command items)
      idle writer o e other = ap (λ b. turn writer b) (none_more items i (ap is_command e ∙ other))

      asked : (writer : ℕ) (ts : List StepTurn) → step_turns items ≡ ts → i.origin ≡ i.origin →
          is_command i.origin ≡ true → is_call i.origin ≡ false
          → turn writer (has_command (items ++ i ∷ [])) ∷ asked_last ts
          ≡ asked_last (turn writer (has_command items) ∷ ts)
      asked writer [] same e command other =
          ap (λ b. turn writer b ∷ []) (last_command items i command other same)
      asked writer (t ∷ ts) same e command other =
          ap (λ b. turn writer b ∷ asked_last (t ∷ ts)) (early_command items i t ts same)

      at : (o q : Origin) → i.origin ≡ q →
          turn_at o (items ++ i ∷ []) ++ turns_with q (step_turns items)
          ≡ turns_with q (turn_at o items ++ step_turns items)
      at (Call writer step) (Call other place) e =
          ap (λ t. t ∷ (step_turns items ++ turn other false ∷ []))
          (idle writer (Call other place) e refl)
      at (Call writer step) Sync e = ap (λ t. t ∷ step_turns items) (idle writer Sync e refl)
      at (Call writer step) (Reply kind index) e =
          ap (λ t. t ∷ step_turns items) (idle writer (Reply kind index) e refl)
      at (Call writer step) (Overflow count) e =
          ap (λ t. t ∷ step_turns items) (idle writer (Overflow count) e refl)
      at (Call writer step) (Command byte param) e =
          asked writer (step_turns items) refl refl (ap is_command e) (ap is_call e)
      at Sync q e = refl
      at (Reply kind index) q e = refl
      at (Overflow count) q e = refl
      at (Command byte param) q e = refl

-- what is freed, too
pub frees_push : (items : List Item) (i : Item) →
    frees_before (latest_first (items ++ i ∷ []))
    ≡ frees_before (latest_first items)
    ++ cond (is_written (latest_first items) i)
    ((i.freed - written_freed (latest_first items)) ∷ []) []
frees_push items i = ap frees_before (latest_first-push items i)

pub freed_push : (items : List Item) (i : Item) →
    written_freed (latest_first (items ++ i ∷ []))
    ≡ cond (is_written (latest_first items) i) i.freed (written_freed (latest_first items))
freed_push items i = ap written_freed (latest_first-push items i)
