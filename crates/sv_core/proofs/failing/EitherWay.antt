-- Any turns have a journal or a place where they fail.
use Rattle.std.proofs.Common.{◌≡◌, ℕ, zero, suc, ◌<◌, ◌≤◌, Bool, true, false, ◌⊎◌, inl, inr, Some}
use Rattle.std.proofs.Common.{None, List, [], ◌∷◌, length, refl, sym, ◌∙◌, subst, arith, rules}
use Rattle.std.specs.Prelude.{nat_lt, count_by, slice_get}
use Rattle.std.proofs.Math.ListN.{get_or}
use Rattle.std.proofs.lemmas.Option.{slice_get_cases, get_or_from_slice_get}
use Rattle.std.proofs.lemmas.Bool.{true≢false}
use Rattle.sv_ring.specs.Ring.{Plan}
use Rattle.sv_load.specs.declared.load.Command.{Command as Asked}
use Rattle.sv_load.specs.Load.{Load, script_of}
use Rattle.sv_journal.specs.declared.journal.Item.{Item}
use Rattle.sv_journal.specs.Items.{latest_first, is_call_of}
use Rattle.sv_journal.specs.Legal.{commands_in}
use Rattle.sv_core.specs.Turns.{StepTurn, Turns, IsReplayed}
use Rattle.sv_core.specs.BadTurns.{IsReplayedTo, FallsShort, IsFault, No_step, No_command, No_frees}
use Rattle.sv_core.specs.BadTurns.{Left_over, Faulty, IsBadTurns, AreAskable}
use Rattle.sv_core.proofs.failing.ByPlan.{GoesOn}
use Rattle.sv_core.proofs.parts.TurnCounts.{count-reverse}
use Rattle.sv_core.proofs.failing.BadTurns.{replayed_from}
use Rattle.sv_core.proofs.failing.RunSections.{IsLonger, section, commands_number}

-- so many step turns are taken, by the first of the frees
record Reaches (load : Load) (turns : Turns) (number : ℕ) : Type 0 where
  items : List Item
  left : List ℕ
  to : IsReplayedTo load turns number items left

record Fails (load : Load) (turns : Turns) : Type 0 where
  place : ℕ
  bad : IsBadTurns load turns place

-- none are always taken
pub to_none : (load : Load) (turns : Turns) → IsReplayedTo load turns 0 [] turns.frees
to_none load turns = record {
  run = record {
    legal = record { groups = refl; commands = omega arith; ends = refl; each = tt };
    turned = refl;
    commands = refl;
    settled = tt;
  };
  frees = refl;
}

-- one more, or it fails there
reaches_more : (load : Load) (turns : Turns) → AreAskable load → (number : ℕ) →
    number < length turns.steps → Reaches load turns number →
    Fails load turns ⊎ Reaches load turns (suc number)
reaches_more load turns askable number below r = turn (slice_get_cases turns.steps number).1 where
  fails : (t : StepTurn) → slice_get turns.steps number ≡ Some t →
      IsFault load turns number r.items t → Fails load turns ⊎ Reaches load turns (suc number)
  fails t here why = inl (record {
    place = number;
    bad = record { before = r.items; left = r.left; replayed = r.to; ends = Faulty t here why };
  })

  taken : (t : StepTurn) → slice_get turns.steps number ≡ Some t → IsLonger load turns number →
      Fails load turns ⊎ Reaches load turns (suc number)
  taken t here l = by l.extends.goes where
    by : GoesOn turns.frees (latest_first l.items) (Plan l.left) ⊎
        FallsShort load turns.frees (latest_first l.items) →
        Fails load turns ⊎ Reaches load turns (suc number)
    by (inl on) = inr (record {
      items = l.items;
      left = on.left;
      to = record { run = l.extends.run; frees = on.used };
    })
    by (inr short) = fails t here (No_frees l.items l.extends.run short)

  counted : (writer : ℕ) →
      count_by (λ (i : Item). is_call_of writer i.origin) (latest_first r.items)
      ≡ count_by (λ (i : Item). is_call_of writer i.origin) r.items
  counted writer = count-reverse (λ (i : Item). is_call_of writer i.origin) r.items

  -- the command of the turn, or none is left
  asked : (t : StepTurn) → slice_get turns.steps number ≡ Some t →
      count_by (λ (i : Item). is_call_of t.writer i.origin) r.items
      < length (script_of load t.writer) → Fails load turns ⊎ Reaches load turns (suc number)
  asked t here within =
      by t.command refl (slice_get_cases load.commands (length (commands_in r.items))).1 where
        inside : count_by (λ (i : Item). is_call_of t.writer i.origin) (latest_first r.items)
            < length (script_of load t.writer)
        inside = subst (λ n. n < length (script_of load t.writer)) (sym (counted t.writer)) within

        by : (b : Bool) → t.command ≡ b →
            ((c : Asked) × (length (commands_in r.items) < length load.commands) ×
            (slice_get load.commands (length (commands_in r.items)) ≡ Some c) ×
            (get_or load.commands (length (commands_in r.items)) c ≡ c)) ⊎
            ((length load.commands ≤ length (commands_in r.items)) ×
            (slice_get load.commands (length (commands_in r.items)) ≡ None)) →
            Fails load turns ⊎ Reaches load turns (suc number)
        by false e c =
            taken t here
            (section load turns number r.items r.left t r.to here inside
            (λ f. absurd (true≢false (sym f ∙ e))))
        by true e (inl c) =
            taken t here
            (section load turns number r.items r.left t r.to here inside
            (λ f. (c.0, c.2, plain c.0 c.1 c.2))) where
              plain : (c : Asked) → length (commands_in r.items) < length load.commands →
                  slice_get load.commands (length (commands_in r.items)) ≡ Some c → c.byte < 128 →
                  c.param ≡ 0
              plain c below got =
                  subst (λ (d : Asked). d.byte < 128 → d.param ≡ 0)
                  (get_or_from_slice_get load.commands (length (commands_in r.items)) c c got)
                  (askable (length (commands_in r.items)) c below)
        by true e (inr past) =
            fails t here
            (No_command e
            (subst (λ n. length load.commands ≤ n) (sym (commands_number r.items)) past.0))

  turn :
      ((t : StepTurn) × (number < length turns.steps) × (slice_get turns.steps number ≡ Some t) ×
      (get_or turns.steps number t ≡ t)) ⊎
      ((length turns.steps ≤ number) × (slice_get turns.steps number ≡ None)) →
      Fails load turns ⊎ Reaches load turns (suc number)
  turn (inr past) = absurd (never past.0 below) where
    never : {a b : ℕ} → a ≤ b → b < a → ⊥
    never p q = omega arith
  turn (inl t) =
      by
      (nat_lt (count_by (λ (i : Item). is_call_of t.0.writer i.origin) r.items)
      (length (script_of load t.0.writer))) refl where
        by : (b : Bool) →
            nat_lt (count_by (λ (i : Item). is_call_of t.0.writer i.origin) r.items)
            (length (script_of load t.0.writer)) ≡ b →
            Fails load turns ⊎ Reaches load turns (suc number)
        by true e = asked t.0 t.2 (search (rules, e))
        by false e = fails t.0 t.2 (No_step (search (rules, e)))

reaches : (load : Load) (turns : Turns) → AreAskable load → (number : ℕ) →
    number ≤ length turns.steps → Fails load turns ⊎ Reaches load turns number
reaches load turns askable zero within =
    inr (record { items = []; left = turns.frees; to = to_none load turns })
reaches load turns askable (suc number) within =
    by (reaches load turns askable number (omega (arith, within))) where
      by : Fails load turns ⊎ Reaches load turns number →
          Fails load turns ⊎ Reaches load turns (suc number)
      by (inl fails) = inl fails
      by (inr r) = reaches_more load turns askable number within r

-- a journal, or a place where they fail
pub either : (load : Load) (turns : Turns) → AreAskable load →
    ((at : ℕ) × IsBadTurns load turns at) ⊎ ((items : List Item) × IsReplayed load turns items)
either load turns askable = by (reaches load turns askable (length turns.steps) (omega arith)) where
  by : Fails load turns ⊎ Reaches load turns (length turns.steps) →
      ((at : ℕ) × IsBadTurns load turns at) ⊎ ((items : List Item) × IsReplayed load turns items)
  by (inl fails) = inl (fails.place, fails.bad)
  by (inr r) = over r.left r.to where
    over : (left : List ℕ) → IsReplayedTo load turns (length turns.steps) r.items left →
        ((at : ℕ) × IsBadTurns load turns at) ⊎ ((items : List Item) × IsReplayed load turns items)
    over [] to = inr (r.items, replayed_from load turns r.items to)
    over (n ∷ left) to = inl (
      length turns.steps,
      record {
        before = r.items;
        left = n ∷ left;
        replayed = to;
        ends = Left_over refl (omega arith);
      },
    )
