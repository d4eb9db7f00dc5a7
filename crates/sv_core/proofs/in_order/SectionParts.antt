-- What the items of a section are: its call, before which an overflow may stand, and its answers.
use Rattle.std.proofs.Common.{◌≡◌, ℕ, ◌+◌, ◌<◌, ◌≤◌, Bool, true, false, not, cond, ◌⊎◌, inl, inr}
use Rattle.std.proofs.Common.{List, [], ◌∷◌, ◌++◌, reverse, filter, All, flat_map, refl, sym, ap}
use Rattle.std.proofs.Common.{◌∙◌, subst, arith, append_assoc, append-nil}
use Rattle.std.proofs.lemmas.List.{reverse-append}
use Rattle.std.proofs.lemmas.List.Elements.{All-nil, All-cons}
use Rattle.std.proofs.lemmas.List.Concat.{flat_map-append}
use Rattle.std.proofs.lemmas.Bool.{cases_order, or_parts, true≢false}
use Rattle.std.specs.Prelude.{Option, Some, None}
use Rattle.sv_load.specs.declared.load.Command.{Command}
use Rattle.sv_load.specs.Load.{Load}
use Rattle.sv_journal.specs.declared.journal.Origin.{Origin}
use Rattle.sv_journal.specs.declared.journal.Origin.TheVariants.{Call}
use Rattle.sv_journal.specs.declared.journal.Item.{Item}
use Rattle.sv_journal.specs.Items.{latest_first, is_call, is_command, is_overflow, before_overflow}
use Rattle.sv_journal.specs.Items.{stored_before}
use Rattle.sv_journal.specs.Legal.{IsLegal, IsNextItem, EachItem, is_head, group_of, answers_of}
use Rattle.sv_journal.specs.Legal.{origins_of, command_in, commands_in}
use Rattle.sv_journal.specs.Section.{command_head}
use Rattle.sv_journal.proofs.Shared.{latest_first-push, alone, origins_of-cons, more_groups}
use Rattle.sv_journal.proofs.Shared.{next_is, not_two}
use Rattle.sv_core.specs.Turns.{has_command, step_turns}
use Rattle.sv_core.specs.Simulated.{before_number, before_section, stored_by}
use Rattle.sv_core.proofs.parts.Counts.{before_number-all, before_number-more, calls_in, calls-cons}
use Rattle.sv_core.proofs.parts.Sections.{before_number-append, before_section-append}
use Rattle.sv_core.proofs.parts.NoHeads.{plain_command, plain_turns, plain_commands}
use Rattle.sv_core.proofs.taking.Commands.{commands_of, is_found}
use Rattle.sv_core.proofs.parts.Heads.{first_head}
use Rattle.sv_core.proofs.parts.OriginsOfTurns.{not_call}
use Rattle.sv_core.proofs.once.OneJournal.{calls-before_overflow}
use Rattle.sv_core.proofs.failing.RunSections.{IsRow, row_of, turns-append}
use Rattle.sv_core.proofs.own_turns.Settling.{origins, told_command, told_turns, command_told}
use Rattle.sv_core.proofs.own_turns.Settling.{turns_told, told_commands}

-- an item that begins no section
abbrev pub IsLater : Item → Type 0
IsLater i = is_call i.origin ≡ false

-- a section's items after these: an overflow or nothing, a call, and no further call
pub record HasParts (items more : List Item) : Type 0 where
  pub front : List Item
  pub call : Item
  pub rest : List Item
  pub parts : more ≡ front ++ (call ∷ rest)
  pub overflows : All (λ i. is_overflow i.origin ≡ true) front
  pub left_out : before_overflow (latest_first (items ++ front)) ≡ latest_first items
  pub called : is_call call.origin ≡ true
  pub later : All IsLater rest

-- no call stands among items whose heads are none
all_later : (items : List Item) → filter is_call (filter is_head (origins_of items)) ≡ []
    → All IsLater items
all_later [] none = All-nil IsLater
all_later (i ∷ items) none =
    at (is_overflow i.origin) (is_head i.origin) (is_call i.origin) refl refl refl none
    (all_later items) where
      at : (b c d : Bool) → is_overflow i.origin ≡ b → is_head i.origin ≡ c
          → is_call i.origin ≡ d
          → filter is_call
          (filter is_head (cond (not b) (i.origin ∷ origins_of items) (origins_of items))) ≡ []
          → (filter is_call (filter is_head (origins_of items)) ≡ [] → All IsLater items)
          → All IsLater (i ∷ items)
      at true c d e f g none more =
          All-cons IsLater i items (not_call i.origin e) (more none)
      at false true true e f g none more =
          let shape : i.origin ∷ filter is_call (filter is_head (origins_of items)) ≡ [] = sym
          (ap (λ b. filter is_call (cond b (i.origin ∷ filter is_head (origins_of items))
          (filter is_head (origins_of items)))) f
          ∙ ap (λ b. cond b (i.origin ∷ filter is_call (filter is_head (origins_of items)))
          (filter is_call (filter is_head (origins_of items)))) g) ∙ none in
          cc
      at false true false e f g none more = All-cons IsLater i items g
          (more (sym
          (ap (λ b. filter is_call (cond b (i.origin ∷ filter is_head (origins_of items))
          (filter is_head (origins_of items)))) f
          ∙ ap (λ b. cond b (i.origin ∷ filter is_call (filter is_head (origins_of items)))
          (filter is_call (filter is_head (origins_of items)))) g) ∙ none))
      at false false d e f g none more = All-cons IsLater i items
          (or_parts (is_call i.origin) (is_command i.origin) f).0
          (more (sym (ap (λ b. filter is_call (cond b (i.origin ∷ filter is_head (origins_of items))
          (filter is_head (origins_of items)))) f) ∙ none))

-- a command's head is no call
no_call : (found : Option Command) → filter is_call (command_head found) ≡ []
no_call None = refl
no_call (Some command) = refl

-- the call and the rest, where the call is the first item
first_parts : (c : Item) (rest : List Item) (writer step : ℕ) (found : Option Command)
    (os : List Origin)
    → is_overflow c.origin ≡ false → origins_of (c ∷ rest) ≡ Call writer step ∷ os
    → filter is_head (origins_of (c ∷ rest)) ≡ Call writer step ∷ command_head found
    → (is_call c.origin ≡ true) × All IsLater rest
first_parts c rest writer step found os other group heads =
    let shape : origins_of (c ∷ rest) ≡ c.origin ∷ origins_of rest = origins_of-cons c rest other in
    let origin : c.origin ≡ Call writer step = heads_same c.origin (Call writer step)
    (origins_of rest) os (sym shape ∙ group) in
    let later : c.origin ∷ filter is_head (origins_of rest)
    ≡ Call writer step ∷ command_head found =
    sym (ap (filter is_head) shape ∙ ap
    (λ b. cond b (c.origin ∷ filter is_head (origins_of rest))
    (filter is_head (origins_of rest))) (ap is_head origin)) ∙ heads in (
      ap is_call origin,
      all_later rest
          (ap (filter is_call) (tails_same c.origin (Call writer step)
          (filter is_head (origins_of rest)) (command_head found) later) ∙ no_call found),
    )
  where
    heads_same : (a b : Origin) (os more : List Origin) → a ∷ os ≡ b ∷ more → a ≡ b
    heads_same a b os more e = cc

    tails_same : (a b : Origin) (os more : List Origin) → a ∷ os ≡ b ∷ more → os ≡ more
    tails_same a b os more e = cc

module _ (load : Load) (items : List Item) (writer step : ℕ) (found : Option Command)
    (old : IsLegal load items) where
  -- what follows the call
  abbrev rest_of : List Origin
  rest_of =
      answers_of load (Call writer step) ++ flat_map (group_of load) (command_head found)

  -- the origins of a section's items
  group_is : (more : List Item) → IsLegal load (items ++ more)
      → filter is_head (origins_of more) ≡ Call writer step ∷ command_head found
      → origins_of more ≡ Call writer step ∷ rest_of
  group_is more new heads =
      more_groups load items more old new ∙ ap (flat_map (group_of load)) heads

  pub parts_of : (more : List Item) → IsLegal load (items ++ more)
      → filter is_head (origins_of more) ≡ Call writer step ∷ command_head found
      → HasParts items more
  parts_of [] new heads = cc
  parts_of (c ∷ more) new heads = at (is_overflow c.origin) refl more new heads where
    first : (more : List Item) → is_overflow c.origin ≡ false → IsLegal load (items ++ (c ∷ more))
        → filter is_head (origins_of (c ∷ more)) ≡ Call writer step ∷ command_head found
        → HasParts items (c ∷ more)
    first more other new heads =
        let both = first_parts c more writer step found rest_of other
        (group_is (c ∷ more) new heads) heads in
        record {
          front = [];
          call = c;
          rest = more;
          parts = refl;
          overflows = All-nil (λ (i : Item). is_overflow i.origin ≡ true);
          left_out = ap (λ is. before_overflow (latest_first is)) (append-nil items)
              ∙ alone (latest_first items) old.ends;
          called = both.0;
          later = both.1;
        }

    second : (more : List Item) → is_overflow c.origin ≡ true → IsLegal load (items ++ (c ∷ more))
        → filter is_head (origins_of (c ∷ more)) ≡ Call writer step ∷ command_head found
        → HasParts items (c ∷ more)
    second [] over new heads =
        let none : [] ≡ Call writer step ∷ command_head found =
        sym (ap (λ b. filter is_head (cond (not b) (c.origin ∷ []) [])) over) ∙ heads in
        cc
    second (d ∷ rest) over new heads = by (is_overflow d.origin) refl where
      skip : origins_of (c ∷ (d ∷ rest)) ≡ origins_of (d ∷ rest)
      skip = ap (λ b. cond (not b) (c.origin ∷ origins_of (d ∷ rest)) (origins_of (d ∷ rest))) over

      by : (b : Bool) → is_overflow d.origin ≡ b → HasParts items (c ∷ (d ∷ rest))
      by true e =
          absurd
          (not_two load items c d over e
          (next_is load (items ++ c ∷ []) rest d
          (subst (λ is. EachItem (IsNextItem load) (latest_first is))
          (sym (append_assoc items (c ∷ []) (d ∷ rest))) new.each)))
      by false e =
          let both = first_parts d rest writer step found rest_of e
          (sym skip ∙ group_is (c ∷ (d ∷ rest)) new heads) (ap (filter is_head) (sym skip) ∙ heads)
          in
          record {
            front = c ∷ [];
            call = d;
            rest = rest;
            parts = refl;
            overflows = All-cons (λ (i : Item). is_overflow i.origin ≡ true) c [] over
                (All-nil (λ (i : Item). is_overflow i.origin ≡ true));
            left_out = ap before_overflow (latest_first-push items c)
                ∙ ap (λ b. cond b (latest_first items) (c ∷ latest_first items)) over;
            called = both.0;
            later = both.1;
          }

    at : (b : Bool) → is_overflow c.origin ≡ b → (more : List Item)
        → IsLegal load (items ++ (c ∷ more))
        → filter is_head (origins_of (c ∷ more)) ≡ Call writer step ∷ command_head found
        → HasParts items (c ∷ more)
    at true e more new heads = second more e new heads
    at false e more new heads = first more e new heads

  -- what the origins of a section tell
  row : IsRow load (Call writer step ∷ rest_of)
      (record { writer = writer; command = is_found found }) (commands_of found)
  row =
      subst
      (λ os. IsRow load
      (Call writer step ∷ (answers_of load (Call writer step) ++ flat_map (group_of load) os))
      (record { writer = writer; command = is_found found }) (commands_of found))
      (sym (heads found))
      (row_of load step (record { writer = writer; command = is_found found })
      (commands_of found) (none found) (some found)) where
        heads : (o : Option Command) → command_head o ≡ first_head (commands_of o)
        heads None = refl
        heads (Some c) = refl

        none : (o : Option Command) → is_found o ≡ false → commands_of o ≡ []
        none None e = refl
        none (Some c) e = absurd (true≢false e)

        some : (o : Option Command) → is_found o ≡ true
            → (c : Command) × (commands_of o ≡ c ∷ [])
        some None e = absurd (true≢false (sym e))
        some (Some c) e = (c, refl)

  -- the turn of a section
  pub turn_of : (more : List Item) → IsLegal load (items ++ more)
      → filter is_head (origins_of more) ≡ Call writer step ∷ command_head found
      → step_turns (items ++ more)
      ≡ step_turns items ++ record { writer = writer; command = is_found found } ∷ []
  turn_of more new heads =
      let group = group_is more new heads in
      let begins : has_command more ≡ false =
      command_told more ∙ (plain_command (origins more) ∙ (ap told_command group ∙ row.begins)) in
      let turned : step_turns more ≡ record { writer = writer; command = is_found found } ∷ [] =
      turns_told more ∙ (plain_turns (origins more) ∙ (ap told_turns group ∙ row.told)) in
      turns-append items more begins ∙ ap (λ ts. step_turns items ++ ts) turned

  -- and its command
  pub commands_more : (more : List Item) → IsLegal load (items ++ more)
      → filter is_head (origins_of more) ≡ Call writer step ∷ command_head found
      → commands_in (items ++ more) ≡ commands_in items ++ commands_of found
  commands_more more new heads =
      flat_map-append (λ (i : Item). command_in i.origin) items more
      ∙ ap (λ cs. commands_in items ++ cs)
      (told_commands more
      ∙ (plain_commands (origins more)
      ∙ (ap (flat_map command_in) (group_is more new heads) ∙ row.commands)))

-- WHAT STANDS BEFORE THE SECTION

-- the calls before it
pub calls_in-front : (items more : List Item) (p : HasParts items more)
    → calls_in (latest_first (items ++ p.front)) ≡ calls_in (latest_first items)
calls_in-front items more p =
    sym (calls-before_overflow (latest_first (items ++ p.front))) ∙ ap calls_in p.left_out

-- the items with the section, the latest first
latest_parts : (items more : List Item) (p : HasParts items more)
    → latest_first (items ++ more)
    ≡ reverse p.rest ++ (p.call ∷ latest_first (items ++ p.front))
latest_parts items more p =
    ap (λ is. latest_first (items ++ is)) p.parts
    ∙ (ap latest_first (sym (append_assoc items p.front (p.call ∷ p.rest)))
    ∙ (reverse-append (items ++ p.front) (p.call ∷ p.rest)
    ∙ (ap (λ is. is ++ latest_first (items ++ p.front)) (reverse-append (p.call ∷ []) p.rest)
    ∙ append_assoc (reverse p.rest) (p.call ∷ []) (latest_first (items ++ p.front)))))

-- before the section stand the items without it
pub before_this : (load : Load) (items more : List Item) → IsLegal load items → HasParts items more
    → before_section (items ++ more) (calls_in (latest_first items)) ≡ latest_first items
before_this load items more old p =
    let n : ℕ = calls_in (latest_first items) in
    let X : List Item = latest_first (items ++ p.front) in
    let same : calls_in X ≡ n = calls_in-front items more p in
    let grown : calls_in (p.call ∷ X) ≡ 1 + calls_in X =
    calls-cons p.call X ∙ ap (λ b. cond b 1 0 + calls_in X) p.called in
    let below : n < calls_in (p.call ∷ X) = omega (arith, same, grown) in
    let few : calls_in X ≤ n = omega (arith, same) in
    ap (λ is. before_overflow (before_number (λ (i : Item). is_call i.origin) n is))
    (latest_parts items more p)
    ∙ (ap before_overflow
    (before_number-append (λ (i : Item). is_call i.origin) n (reverse p.rest) (p.call ∷ X) below
    ∙ (before_number-more (λ (i : Item). is_call i.origin) n p.call X below
    ∙ before_number-all (λ (i : Item). is_call i.origin) n X few)) ∙ p.left_out)

-- and so they stood before any call that would come
pub before_next : (load : Load) (items : List Item) → IsLegal load items
    → before_section items (calls_in (latest_first items)) ≡ latest_first items
before_next load items old =
    ap before_overflow
    (before_number-all (λ (i : Item). is_call i.origin) (calls_in (latest_first items))
    (latest_first items) (omega arith))
    ∙ alone (latest_first items) old.ends

-- what stood before a call does not change by a section more
pub before_section-same : (load : Load) (items more : List Item) (number : ℕ) → IsLegal load items
    → HasParts items more → number ≤ calls_in (latest_first items)
    → before_section (items ++ more) number ≡ before_section items number
before_section-same load items more number old p few =
    at (cases_order number (calls_in (latest_first items))) few where
      at : (number ≡ calls_in (latest_first items))
          ⊎ ((number < calls_in (latest_first items)) ⊎ (calls_in (latest_first items) < number))
          → number ≤ calls_in (latest_first items)
          → before_section (items ++ more) number ≡ before_section items number
      at (inl same) few =
          ap (before_section (items ++ more)) same
          ∙ (before_this load items more old p
          ∙ sym (ap (before_section items) same ∙ before_next load items old))
      at (inr (inl below)) few = before_section-append items more number below
      at (inr (inr above)) few = absurd (omega (arith, few, above))

-- nor do the bytes of the sections so far
pub stored_by-same : (load : Load) (items more : List Item) (number : ℕ) → IsLegal load items
    → HasParts items more → number ≤ calls_in (latest_first items)
    → stored_by load (items ++ more) number ≡ stored_by load items number
stored_by-same load items more number old p few =
    ap (stored_before load) (before_section-same load items more number old p few)
