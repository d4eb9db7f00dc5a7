-- The turns of a journal in order are told by its order alone.
use Rattle.std.proofs.Common.{◌≡◌, ℕ, suc, ◌+◌, ◌<◌, ◌≤◌, Bool, true, false, ◌||◌, cond, List, []}
use Rattle.std.proofs.Common.{◌∷◌, ◌++◌, length, length-append, reverse, refl, sym, ap, ◌∙◌, subst}
use Rattle.std.proofs.Common.{arith, append_assoc, append-nil}
use Rattle.std.specs.Prelude.{count_by, nat_lt}
use Rattle.std.proofs.lemmas.Bool.{or_parts}
use Rattle.sv_load.specs.Load.{Load}
use Rattle.sv_journal.specs.declared.journal.Origin.{Origin}
use Rattle.sv_journal.specs.declared.journal.Origin.TheVariants.{Call, Sync, Reply, Overflow}
use Rattle.sv_journal.specs.declared.journal.Origin.TheVariants.{Command}
use Rattle.sv_journal.specs.declared.journal.Item.{Item}
use Rattle.sv_journal.specs.Items.{latest_first, is_call, is_command, is_overflow, before_overflow}
use Rattle.sv_journal.specs.Legal.{IsNextItem, EachItem}
use Rattle.sv_journal.proofs.Shared.{reverse_moved, not_head}
use Rattle.sv_core.specs.Order.{Turn, Takes_step, Reads, Reads_all, Sends, is_step, is_send}
use Rattle.sv_core.specs.Turns.{StepTurn, has_command, turn_at, step_turns}
use Rattle.sv_core.specs.Simulated.{before_number, before_section, ordered_turns}
use Rattle.sv_core.proofs.parts.Sections.{before_number-append}
use Rattle.sv_core.proofs.parts.Heads.{EachLater, each_later, has_command-cons, not_again}
use Rattle.sv_core.proofs.parts.Heads.{not_twice}
use Rattle.sv_core.proofs.parts.Counts.{count-cons, count-not, before_number-all}
use Rattle.sv_core.proofs.parts.Counts.{before_number-more, calls_in, calls-cons}

-- how many commands there are
abbrev commands_of : List Item → ℕ
commands_of items = count_by (λ i. is_command i.origin) items

-- the turns that have a command
abbrev with_command : List StepTurn → ℕ
with_command turns = count_by (λ t. t.command) turns

-- what stands before the call of this number
abbrev before_call : ℕ → List Item → List Item
before_call number items = before_number (λ i. is_call i.origin) number items

-- THE COMMANDS BEFORE A CALL

-- before the call after these turns stand the commands of these turns, and those ahead of the first
-- call
abbrev AreCounted : List Item → List Item → Type 0
AreCounted earlier later =
    (turns more : List StepTurn) (t : StepTurn) → step_turns later ≡ turns ++ (t ∷ more)
    → commands_of (before_call (calls_in earlier + length turns) (reverse later ++ earlier)) ≡
    (commands_of earlier + cond (has_command later) 1 0) + with_command turns

-- one item more
commands-cons : (i : Item) (earlier : List Item)
    → commands_of (i ∷ earlier) ≡ cond (is_command i.origin) 1 0 + commands_of earlier
commands-cons i earlier = count-cons (λ (j : Item). is_command j.origin) i earlier

-- an item more ahead that is no call
counted_other : (earlier later : List Item) (i : Item) → is_call i.origin ≡ false
    → cond (is_command i.origin) 1 0 + cond (has_command later) 1 0 ≡ cond
    (is_command i.origin || has_command later) 1 0
    → AreCounted (i ∷ earlier) later → (turns more : List StepTurn) (t : StepTurn) → step_turns
    later ≡ turns ++ (t ∷ more)
    → commands_of (before_call (calls_in earlier + length turns) (reverse later ++ (i ∷ earlier))) ≡
    (commands_of earlier + cond (is_command i.origin || has_command later) 1 0) + with_command
    turns
counted_other earlier later i call one more_counted turns more t e =
    let same : calls_in (i ∷ earlier) ≡ calls_in earlier = count-not
    (λ (j : Item). is_call j.origin) i earlier call in
    ap (λ n. commands_of (before_call (n + length turns) (reverse later ++ (i ∷ earlier))))
    (sym same)
    ∙ (more_counted turns more t e ∙ sum (commands_of earlier) (cond (is_command i.origin) 1 0)
    (cond (has_command later) 1 0) (with_command turns) (commands-cons i earlier) one) where
      sum : {all both : ℕ} (a b c d : ℕ) → all ≡ b + a → b + c ≡ both → (all + c) + d ≡ (a + both) +
          d
      sum a b c d p q = omega arith

-- a call more ahead
counted_call : (earlier later : List Item) (i : Item) (writer : ℕ) → is_call i.origin ≡ true
    → is_command i.origin ≡ false
    → AreCounted (i ∷ earlier) later → (turns more : List StepTurn) (t : StepTurn) → record
    { writer = writer; command = has_command later } ∷ step_turns later ≡ turns ++ (t ∷ more)
    → commands_of (before_call (calls_in earlier + length turns) (reverse later ++ (i ∷ earlier))) ≡
    (commands_of earlier + 0) + with_command turns
counted_call earlier later i writer call command more_counted [] more t e =
    let grown : calls_in (i ∷ earlier) ≡ 1 + calls_in earlier = calls-cons i earlier ∙ ap
    (λ b. cond b 1 0 + calls_in earlier) call in
    let here : calls_in earlier + 0 < calls_in (i ∷ earlier) = omega (arith, grown) in
    let all : calls_in earlier ≤ calls_in earlier + 0 = omega arith in
    ap commands_of
    (before_number-append (λ (j : Item). is_call j.origin) (calls_in earlier + 0) (reverse later)
    (i ∷ earlier) here
    ∙ (before_number-more (λ (j : Item). is_call j.origin) (calls_in earlier + 0) i earlier here
    ∙ before_number-all (λ (j : Item). is_call j.origin) (calls_in earlier + 0) earlier all))
    ∙ none (commands_of earlier) where
      none : (n : ℕ) → n ≡ (n + 0) + 0
      none n = omega arith
counted_call earlier later i writer call command more_counted (s ∷ turns) more t e =
    let grown : calls_in (i ∷ earlier) ≡ 1 + calls_in earlier = calls-cons i earlier ∙ ap
    (λ b. cond b 1 0 + calls_in earlier) call in
    let first : record { writer = writer; command = has_command later } ≡ s = cc in
    let rest : step_turns later ≡ turns ++ (t ∷ more) = cc in
    let number : calls_in earlier + length (s ∷ turns) ≡ calls_in (i ∷ earlier) + length turns =
    further (calls_in earlier) (length turns) grown in
    let same : commands_of (i ∷ earlier) ≡ commands_of earlier = count-not
    (λ (j : Item). is_command j.origin) i earlier command in
    let counted : with_command (s ∷ turns) ≡ cond (has_command later) 1 0 + with_command turns =
    count-cons (λ (u : StepTurn). u.command) s turns ∙ ap
    (λ (u : StepTurn). cond u.command 1 0 + with_command turns) (sym first) in
    ap (λ n. commands_of (before_call n (reverse later ++ (i ∷ earlier)))) number
    ∙ (more_counted turns more t rest ∙ sum (commands_of earlier) (cond (has_command later) 1 0)
    (with_command turns) same counted) where
      further : {n : ℕ} (a b : ℕ) → n ≡ 1 + a → a + suc b ≡ n + b
      further a b h = omega arith

      sum : {all both : ℕ} (a b c : ℕ) → all ≡ a → both ≡ b + c → (all + b) + c ≡ (a + 0) + both
      sum a b c p q = omega arith

-- an item more ahead that is no head
counted_idle : (earlier later : List Item) (i : Item) → is_call i.origin ≡ false
    → is_command i.origin ≡ false
    → AreCounted (i ∷ earlier) later → (turns more : List StepTurn) (t : StepTurn) → step_turns
    later ≡ turns ++ (t ∷ more)
    → commands_of (before_call (calls_in earlier + length turns) (reverse later ++ (i ∷ earlier))) ≡
    (commands_of earlier + cond (has_command later) 1 0) + with_command turns
counted_idle earlier later i call command counted turns more t split =
    counted_other earlier later i call (one (is_command i.origin) (has_command later) command)
    counted turns more t split
    ∙ ap (λ b. (commands_of earlier + cond (b || has_command later) 1 0) + with_command turns)
    command where
      one : (b c : Bool) → b ≡ false → cond b 1 0 + cond c 1 0 ≡ cond (b || c) 1 0
      one b true p = rw p refl
      one b false p = rw p refl

-- an item more ahead
counted_more : (load : Load) (earlier later : List Item) (i : Item) (o : Origin) → i.origin ≡ o
    → EachLater (IsNextItem load) (i ∷ earlier) later → AreCounted (i ∷ earlier) later
    → (turns more : List StepTurn) (t : StepTurn) → turn_at o later ++ step_turns later ≡ turns ++
    (t ∷ more)
    → commands_of (before_call (calls_in earlier + length turns) (reverse later ++ (i ∷ earlier))) ≡
    (commands_of earlier + cond (cond (is_call o) false (is_command o || has_command later)) 1
    0) + with_command turns
counted_more load earlier later i (Call writer step) e each counted turns more t split =
    counted_call earlier later i writer (ap is_call e) (ap is_command e) counted turns more t split
counted_more load earlier later i (Command byte param) e each counted turns more t split =
    let command : is_command i.origin ≡ true = ap is_command e in
    let behind : has_command later ≡ false = not_twice load earlier later i each command in
    counted_other earlier later i (ap is_call e)
    (one (is_command i.origin) (has_command later) command behind) counted turns more t split
    ∙ ap (λ b. (commands_of earlier + cond (b || has_command later) 1 0) + with_command turns)
    command where
      one : (b c : Bool) → b ≡ true → c ≡ false → cond b 1 0 + cond c 1 0 ≡ cond (b || c) 1 0
      one b c p q = rw (p, q) refl
counted_more load earlier later i Sync e each counted turns more t split =
    counted_idle earlier later i (ap is_call e) (ap is_command e) counted turns more t split
counted_more load earlier later i (Reply kind index) e each counted turns more t split =
    counted_idle earlier later i (ap is_call e) (ap is_command e) counted turns more t split
counted_more load earlier later i (Overflow count) e each counted turns more t split =
    counted_idle earlier later i (ap is_call e) (ap is_command e) counted turns more t split

-- the commands before a call of any journal from here on
counted : (load : Load) (earlier later : List Item) → EachLater (IsNextItem load) earlier later
    → AreCounted earlier later
counted load earlier [] each = λ turns more t e. absurd (at turns more t e) where
  at : (turns more : List StepTurn) (t : StepTurn) → [] ≡ turns ++ (t ∷ more) → ⊥
  at [] more t e = cc
  at (s ∷ turns) more t e = cc
counted load earlier (i ∷ later) each = λ turns more t e.
    ap (λ is. commands_of (before_call (calls_in earlier + length turns) is))
    (reverse_moved i later earlier)
    ∙ (counted_more load earlier later i i.origin refl each.1
    (counted load (i ∷ earlier) later each.1) turns more t e
    ∙ ap (λ b. (commands_of earlier + cond b 1 0) + with_command turns)
    (sym (has_command-cons i later)))

-- an overflow directly before is no command
commands-before_overflow : (items : List Item)
    → commands_of (before_overflow items) ≡ commands_of items
commands-before_overflow [] = refl
commands-before_overflow (i ∷ earlier) = at (is_overflow i.origin) refl where
  at : (b : Bool) → is_overflow i.origin ≡ b → commands_of (cond b earlier (i ∷ earlier)) ≡
      commands_of (i ∷ earlier)
  at true e =
      let other = or_parts (is_call i.origin) (is_command i.origin) (not_head i.origin e) in
      sym (count-not (λ (j : Item). is_command j.origin) i earlier other.1)
  at false e = refl

-- the commands before a section of a journal are those of the turns before it
commands_before : (load : Load) (items : List Item) (turns more : List StepTurn) (t : StepTurn)
    → EachItem (IsNextItem load) (latest_first items)
    → step_turns items ≡ turns ++ (t ∷ more) → commands_of (before_section items (length turns)) ≡
    with_command turns
commands_before load items turns more t each e =
    let whole : reverse items ++ [] ≡ latest_first items = append-nil (reverse items) in
    let later : EachLater (IsNextItem load) [] items = each_later (IsNextItem load) items []
    (subst (EachItem (IsNextItem load)) (sym whole) each) in
    let known : commands_of (before_call (0 + length turns) (reverse items ++ [])) ≡
    (0 + cond (has_command items) 1 0) + with_command turns = counted load [] items later turns
    more t e in
    let number : length turns ≡ 0 + length turns = omega arith in
    commands-before_overflow (before_call (length turns) (latest_first items))
    ∙ (ap (λ is. commands_of (before_call (length turns) is)) (sym whole)
    ∙ (ap (λ n. commands_of (before_call n (reverse items ++ []))) number
    ∙ (known ∙ (ap (λ b. (0 + cond b 1 0) + with_command turns) (not_again load [] items later refl)
    ∙ none (with_command turns))))) where
      none : (n : ℕ) → (0 + 0) + n ≡ n
      none n = omega arith

-- TURNS IN ORDER

-- the turns of a longer order go on
ordered-append : (load : Load) (items : List Item) (later earlier : List Turn)
    → (more : List StepTurn) ×
    (ordered_turns load items (later ++ earlier) ≡ ordered_turns load items earlier ++ more)
ordered-append load items [] earlier = ([], sym (append-nil (ordered_turns load items earlier)))
ordered-append load items (Takes_step writer ∷ later) earlier =
    let more = ordered-append load items later earlier in
    let t : StepTurn = record {
      writer = writer;
      command = nat_lt
          (commands_of (before_section items (count_by is_step (later ++ earlier))))
          (count_by is_send (later ++ earlier));
    } in (
      more.0 ++ t ∷ [],
      ap (λ ts. ts ++ t ∷ []) more.1 ∙ append_assoc
          (ordered_turns load items earlier) more.0 (t ∷ []),
    )
ordered-append load items (Reads most ∷ later) earlier = ordered-append load items later earlier
ordered-append load items (Reads_all ∷ later) earlier = ordered-append load items later earlier
ordered-append load items (Sends ∷ later) earlier = ordered-append load items later earlier

-- a turn for each step
pub ordered-length : (load : Load) (items : List Item) (turns : List Turn)
    → length (ordered_turns load items turns) ≡ count_by is_step turns
ordered-length load items [] = refl
ordered-length load items (Takes_step writer ∷ earlier) =
    let t : StepTurn = record {
      writer = writer;
      command = nat_lt
          (commands_of (before_section items (count_by is_step earlier)))
          (count_by is_send earlier);
    }
    in
    let longer : length (ordered_turns load items earlier ++ t ∷ []) ≡ length
    (ordered_turns load items earlier) + 1 = length-append (ordered_turns load items earlier)
    (t ∷ []) in
    longer ∙ (sum (ordered-length load items earlier) ∙ sym
    (count-cons is_step (Takes_step writer) earlier)) where
      sum : {m n : ℕ} → m ≡ n → m + 1 ≡ 1 + n
      sum h = omega arith
ordered-length load items (Reads most ∷ earlier) =
    ordered-length load items earlier ∙ sym (count-not is_step (Reads most) earlier refl)
ordered-length load items (Reads_all ∷ earlier) =
    ordered-length load items earlier ∙ sym (count-not is_step Reads_all earlier refl)
ordered-length load items (Sends ∷ earlier) =
    ordered-length load items earlier ∙ sym (count-not is_step Sends earlier refl)

-- the commands before a step's section are those of the turns before it
commands_ordered : (load : Load) (items : List Item) (later earlier : List Turn) (writer : ℕ)
    → EachItem (IsNextItem load) (latest_first items)
    → step_turns items ≡ ordered_turns load items (later ++ (Takes_step writer ∷ earlier))
    → commands_of (before_section items (count_by is_step earlier)) ≡ with_command
    (ordered_turns load items earlier)
commands_ordered load items later earlier writer each e =
    let turns : List StepTurn = ordered_turns load items earlier in
    let t : StepTurn = record {
      writer = writer;
      command = nat_lt
          (commands_of (before_section items (count_by is_step earlier)))
          (count_by is_send earlier);
    }
    in
    let more = ordered-append load items later (Takes_step writer ∷ earlier) in
    let split : step_turns items ≡ turns ++ (t ∷ more.0) = e ∙
    (more.1 ∙ append_assoc turns (t ∷ []) more.0) in
    ap (λ n. commands_of (before_section items n)) (sym (ordered-length load items earlier)) ∙
    commands_before load items turns more.0 t each split

-- two journals in one order have the same turns
same_ordered : (load : Load) (a b : List Item) (later earlier : List Turn)
    → EachItem (IsNextItem load) (latest_first a) → EachItem (IsNextItem load) (latest_first b)
    → step_turns a ≡ ordered_turns load a (later ++ earlier) → step_turns b ≡ ordered_turns load b
    (later ++ earlier) → ordered_turns load a earlier ≡ ordered_turns load b earlier
same_ordered load a b later [] each_a each_b e f = refl
same_ordered load a b later (Takes_step writer ∷ earlier) each_a each_b e f =
    let moved : later ++ (Takes_step writer ∷ earlier) ≡ (later ++ Takes_step writer ∷ []) ++
    earlier = sym (append_assoc later (Takes_step writer ∷ []) earlier) in
    let before : ordered_turns load a earlier ≡ ordered_turns load b earlier =
    same_ordered load a b (later ++ Takes_step writer ∷ []) earlier each_a each_b
    (e ∙ ap (ordered_turns load a) moved) (f ∙ ap (ordered_turns load b) moved) in
    let commands : commands_of (before_section a (count_by is_step earlier)) ≡ commands_of
    (before_section b (count_by is_step earlier)) =
    commands_ordered load a later earlier writer each_a e ∙
    (ap with_command before ∙ sym (commands_ordered load b later earlier writer each_b f)) in
    ap (λ ts. ts ++ record {
      writer = writer;
      command = nat_lt
          (commands_of (before_section a (count_by is_step earlier))) (count_by is_send earlier);
    } ∷
    []) before
    ∙ ap (λ n. ordered_turns load b earlier ++ record
    { writer = writer; command = nat_lt n (count_by is_send earlier) } ∷ []) commands
same_ordered load a b later (Reads most ∷ earlier) each_a each_b e f =
    let moved : later ++ (Reads most ∷ earlier) ≡ (later ++ Reads most ∷ []) ++ earlier = sym
    (append_assoc later (Reads most ∷ []) earlier) in
    same_ordered load a b (later ++ Reads most ∷ []) earlier each_a each_b
    (e ∙ ap (ordered_turns load a) moved) (f ∙ ap (ordered_turns load b) moved)
same_ordered load a b later (Reads_all ∷ earlier) each_a each_b e f =
    let moved : later ++ (Reads_all ∷ earlier) ≡ (later ++ Reads_all ∷ []) ++ earlier = sym
    (append_assoc later (Reads_all ∷ []) earlier) in
    same_ordered load a b (later ++ Reads_all ∷ []) earlier each_a each_b
    (e ∙ ap (ordered_turns load a) moved) (f ∙ ap (ordered_turns load b) moved)
same_ordered load a b later (Sends ∷ earlier) each_a each_b e f =
    let moved : later ++ (Sends ∷ earlier) ≡ (later ++ Sends ∷ []) ++ earlier = sym
    (append_assoc later (Sends ∷ []) earlier) in
    same_ordered load a b (later ++ Sends ∷ []) earlier each_a each_b
    (e ∙ ap (ordered_turns load a) moved) (f ∙ ap (ordered_turns load b) moved)

-- so their steps are the same, and the same ones have a command
pub same_turns : (load : Load) (a b : List Item) (turns : List Turn)
    → EachItem (IsNextItem load) (latest_first a) → EachItem (IsNextItem load) (latest_first b)
    → step_turns a ≡ ordered_turns load a (reverse turns) → step_turns b ≡ ordered_turns load b
    (reverse turns) → step_turns a ≡ step_turns b
same_turns load a b turns each_a each_b e f =
    e ∙ (same_ordered load a b [] (reverse turns) each_a each_b e f ∙ sym f)
