-- Turns that a recorder takes, one by one, over a ring that frees by their plan.
use Rattle.std.proofs.Common.{◌≡◌, ℕ, suc, ◌+◌, ◌<◌, ◌≤◌, true, false, ◌⊎◌, inl, inr, Some, None}
use Rattle.std.proofs.Common.{List, [], ◌∷◌, ◌++◌, length, take, drop, refl, sym, ap, ◌∙◌, subst}
use Rattle.std.proofs.Common.{arith, append-nil, cond}
use Rattle.std.specs.Prelude.{slice_get, slice_index_or, count_by, Bool, Option, IfSome}
use Rattle.std.proofs.lemmas.List.{take-append-drop, length-append, length-take-le, get_or_past}
use Rattle.std.proofs.lemmas.Option.{slice_get-get_or}
use Rattle.sv_ring.specs.Down.{IsFront}
use Rattle.sv_ring.specs.Ring.{Way, Plan}
use Rattle.sv_load.specs.declared.load.Command.{Command}
use Rattle.sv_load.specs.Load.{Load, script_of}
use Rattle.sv_journal.specs.declared.journal.Item.{Item}
use Rattle.sv_journal.specs.Items.{latest_first, is_call_of, is_command}
use Rattle.sv_journal.specs.Legal.{IsLegal, commands_in}
use Rattle.sv_journal.specs.Stream.{stream_of}
use Rattle.sv_journal.specs.Section.{IsSection}
use Rattle.sv_journal.specs.Frees.{written_freed, frees_before}
use Rattle.sv_recorder.specs.Asked.{HasAsked as Asks}
use Rattle.sv_recorder.specs.Commands.{MayWait}
use Rattle.sv_recorder.specs.Freed.{AreFreed}
use Rattle.sv_recorder.specs.Recording.{Recording}
use Rattle.sv_core.specs.Turns.{StepTurn, Turns, IsReplayed}
use Rattle.sv_core.specs.BadTurns.{IsReplayedTo, FallsShort, IsFault, No_step, No_command, No_frees}
use Rattle.sv_core.specs.BadTurns.{Left_over, Faulty, IsBadTurns}
use Rattle.sv_core.specs.Played.{HasSent}
use Rattle.sv_core.specs.Used.{turns_by, IsUsing, IsUsingOthers}
use Rattle.sv_core.proofs.taking.Commands.{commands_of, HasTaken, sent-taken}
use Rattle.sv_core.proofs.in_order.SectionParts.{commands_more}
use Rattle.sv_core.proofs.failing.BadTurns.{falls, replayed_from}
use Rattle.sv_core.proofs.failing.ByPlan.{GoesOn}
use Rattle.sv_core.proofs.failing.RunSections.{Extends, turn_taken}
use Rattle.sv_core.proofs.failing.EitherWay.{to_none}

-- so many turns are taken, and the rest of the frees is the plan
pub record Holds (load : Load) (turns : Turns) (at : ℕ) (items : List Item) (way : Way)
    (freed : ℕ) : Type 0 where
  pub left : List ℕ
  pub to : IsReplayedTo load turns at items left
  pub way_is : way ≡ Plan left
  pub freed_is : freed ≡ written_freed (latest_first items)

pub holds-none : (load : Load) (turns : Turns) → Holds load turns 0 [] (Plan turns.frees) 0
holds-none load turns =
    record { left = turns.frees; to = to_none load turns; way_is = refl; freed_is = refl }

-- a turn that cannot be taken
pub bad-turn :
    (load : Load) (turns : Turns) (at : ℕ) (items : List Item) (way : Way) (freed : ℕ)
    (t : StepTurn) → Holds load turns at items way freed → slice_get turns.steps at ≡ Some t →
    IsFault load turns at items t → IsBadTurns load turns at
bad-turn load turns at items way freed t h here why =
    record { before = items; left = h.left; replayed = h.to; ends = Faulty t here why }

pub bad-through :
    (load : Load) (turns : Turns) (at : ℕ) (items : List Item) (way : Way) (freed : ℕ)
    (t : StepTurn) → Holds load turns at items way freed → slice_get turns.steps at ≡ Some t
    → count_by (λ i. is_call_of t.writer i.origin) items ≡ length (script_of load t.writer) →
    IsBadTurns load turns at
bad-through load turns at items way freed t h here through =
    bad-turn load turns at items way freed t h here (No_step (least through)) where
      least : {a b : ℕ} → a ≡ b → b ≤ a
      least e = omega arith

pub bad-command :
    (load : Load) (turns : Turns) (at : ℕ) (items : List Item) (way : Way) (freed : ℕ)
    (t : StepTurn) → Holds load turns at items way freed → slice_get turns.steps at ≡ Some t
    → length load.commands ≤ count_by (λ i. is_command i.origin) items → t.command ≡ true
    → IsBadTurns load turns at
bad-command load turns at items way freed t h here none command =
    bad-turn load turns at items way freed t h here (No_command command none)

-- a command was found exactly where the turn has one, the next of the workload
pub record IsFoundFor (load : Load) (items : List Item) (t : StepTurn) (found : Option Command)
    : Type 0 where
  pub none : t.command ≡ false → found ≡ None
  pub some : t.command ≡ true → (c : Command) × (found ≡ Some c)
      × (slice_get load.commands (length (commands_in items)) ≡ Some c)

-- a section
pub turn :
    (load : Load) (turns : Turns) (at : ℕ) (items after : List Item) (way way_now : Way)
    (freed freed_now : ℕ) (t : StepTurn) (found : Option Command) →
    Holds load turns at items way freed → slice_get turns.steps at ≡ Some t
    → IsFoundFor load items t found → IsLegal load after
    → (s : IsSection items after t.writer found) →
    AreFreed load (latest_first items) s.more way freed way_now freed_now →
    Extends load turns at after way_now freed_now
turn load turns at items after way way_now freed freed_now t found h here asks legal s moved =
    turn_taken load turns at items after h.left t found way_now freed_now h.to here asks.none
    asks.some legal s
    (subst
    (λ w.
    AreFreed load (latest_first items) s.more w (written_freed (latest_first items)) way_now
    freed_now) h.way_is
    (subst (λ f. AreFreed load (latest_first items) s.more way f way_now freed_now)
    h.freed_is moved))

-- whose frees are not the next ones
pub bad-frees :
    (load : Load) (turns : Turns) (at : ℕ) (items after : List Item) (way way_now : Way)
    (freed freed_now : ℕ) (t : StepTurn) → Holds load turns at items way freed →
    slice_get turns.steps at ≡ Some t
    → Extends load turns at after way_now freed_now → IsUsingOthers after turns.frees →
    IsBadTurns load turns at
bad-frees load turns at items after way way_now freed freed_now t h here e others = by e.goes where
  by : GoesOn turns.frees (latest_first after) way_now ⊎
      FallsShort load turns.frees (latest_first after) → IsBadTurns load turns at
  by (inl on) = absurd (others on.left on.used)
  by (inr short) = bad-turn load turns at items way freed t h here (No_frees after e.run short)

-- the frees that items use, and the rest
using_all : (items : List Item) (frees : List ℕ) (count : ℕ) → IsUsing items frees count →
    frees_before (latest_first items) ++ drop count frees ≡ frees
using_all items frees count u = ap (λ ns. ns ++ drop count frees) u.0 ∙ take-append-drop count frees

-- or are
pub holds-more :
    (load : Load) (turns : Turns) (at : ℕ) (after : List Item) (way : Way) (freed count : ℕ) →
    Extends load turns at after way freed → IsUsing after turns.frees count →
    Holds load turns (at + 1) after way freed
holds-more load turns at after way freed count e u = by e.goes where
  next : at + 1 ≡ suc at
  next = omega arith

  by : GoesOn turns.frees (latest_first after) way ⊎
      FallsShort load turns.frees (latest_first after) → Holds load turns (at + 1) after way freed
  by (inl on) = subst (λ n. Holds load turns n after way freed) (sym next) (record {
    left = on.left;
    to = record { run = e.run; frees = on.used };
    way_is = on.rest;
    freed_is = e.freed_is;
  })
  by (inr short) =
      absurd
      (falls load turns.frees (drop count turns.frees) after after (take (suc at) turns.steps)
      [] e.run short e.run.legal e.run.commands e.run.settled
      (ap (λ (t : Turns). t.steps) e.run.turned ∙ sym (append-nil (take (suc at) turns.steps)))
      (using_all after turns.frees count u))

-- THE END

same_length : (items : List Item) (frees : List ℕ) (count : ℕ) → IsUsing items frees count →
    length (frees_before (latest_first items)) ≡ count
same_length items frees count u = ap length u.0 ∙ length-take-le count frees u.1

pub ends-well :
    (load : Load) (turns : Turns) (at : ℕ) (items : List Item) (way : Way) (freed count : ℕ) →
    Holds load turns at items way freed → at ≡ length turns.steps →
    IsUsing items turns.frees count → count ≡ length turns.frees →
    IsReplayed load turns items
ends-well load turns at items way freed count h whole u all =
    replayed_from load turns items
    (subst (λ n. IsReplayedTo load turns n items []) whole
    (subst (λ ns. IsReplayedTo load turns at items ns) (none h.left left) h.to)) where
      left : length h.left ≡ 0
      left =
          rest
          (sym (length-append (frees_before (latest_first items)) h.left)
          ∙ ap length h.to.frees)
          (same_length items turns.frees count u) all where
            rest : {a b c d : ℕ} → a + b ≡ c → a ≡ d → d ≡ c → b ≡ 0
            rest p q r = omega arith

      none : (ns : List ℕ) → length ns ≡ 0 → ns ≡ []
      none [] e = refl
      none (n ∷ ns) e = cc

pub ends-badly :
    (load : Load) (turns : Turns) (at : ℕ) (items : List Item) (way : Way) (freed count : ℕ) →
    Holds load turns at items way freed → at ≡ length turns.steps →
    IsUsing items turns.frees count → (count ≡ length turns.frees → ⊥) →
    IsBadTurns load turns at
ends-badly load turns at items way freed count h whole u few =
    record { before = items; left = h.left; replayed = h.to; ends = Left_over whole left } where
      left : 0 < length h.left
      left =
          rest
          (sym (length-append (frees_before (latest_first items)) h.left)
          ∙ ap length h.to.frees)
          (same_length items turns.frees count u) few where
            rest : {a b c d : ℕ} → a + b ≡ c → a ≡ d → (d ≡ c → ⊥) → 0 < b
            rest p q r = omega (arith, p, q, r)

pub uses : (load : Load) (turns : Turns) (at : ℕ) (items : List Item) (way : Way) (freed : ℕ) →
    Holds load turns at items way freed → IsUsingOthers items turns.frees → ⊥
uses load turns at items way freed h others = others h.left h.to.frees

-- a recorder that took so many turns
pub record IsTaking (load : Load) (steps : List StepTurn) (frees : List ℕ) (at : ℕ)
    (load_now : Load) (items : List Item) (sent : List ℕ) (way : Way) (freed : ℕ) : Type 0 where
  pub load_is : load_now ≡ load
  pub stream : sent ≡ stream_of load items
  pub holds : Holds load (turns_by steps frees) at items way freed

pub taking-none :
    (load load_now : Load) (steps : List StepTurn) (frees : List ℕ) (items : List Item)
    (sent : List ℕ) (way : Way) (freed : ℕ) → load_now ≡ load → items ≡ [] → freed ≡ 0 →
    way ≡ Plan frees → sent ≡ stream_of load_now items
    → IsTaking load steps frees 0 load_now items sent way freed
taking-none load load_now steps frees items sent way freed same none nothing plan stream = record {
  load_is = same;
  stream = stream ∙ ap (λ l. stream_of l items) same;
  holds = subst (λ is. Holds load (turns_by steps frees) 0 is way freed) (sym none)
      (subst (λ f. Holds load (turns_by steps frees) 0 [] way f) (sym nothing)
      (subst (λ w. Holds load (turns_by steps frees) 0 [] w 0) (sym plan)
      (holds-none load (turns_by steps frees))));
}

-- the turn at a place
here : (steps : List StepTurn) (at : ℕ) (d : StepTurn) → at < length steps →
    slice_get steps at ≡ Some (slice_index_or steps at d)
here steps at d below = slice_get-get_or steps at d below

-- a writer that does not exist has no script
no_script : (load : Load) (writer : ℕ) → length load.scripts ≤ writer → script_of load writer ≡ []
no_script load writer past = get_or_past load.scripts writer [] past

pub fails-writer :
    (load : Load) (steps : List StepTurn) (frees : List ℕ) (at : ℕ) (d : StepTurn) (load_now : Load)
    (items : List Item) (sent : List ℕ) (way : Way) (freed : ℕ) →
    IsTaking load steps frees at load_now items sent way freed → at < length steps
    → length load.scripts ≤ (slice_index_or steps at d).writer →
    IsBadTurns load (turns_by steps frees) at
fails-writer load steps frees at d load_now items sent way freed t below past =
    bad-turn load (turns_by steps frees) at items way freed (slice_index_or steps at d) t.holds
    (here steps at d below)
    (No_step
    (least (ap length (no_script load (slice_index_or steps at d).writer past)))) where
      least : {a b : ℕ} → a ≡ 0 → a ≤ b
      least e = omega arith

pub fails-command :
    (load : Load) (steps : List StepTurn) (frees : List ℕ) (at : ℕ) (d : StepTurn) (load_now : Load)
    (items : List Item) (sent : List ℕ) (way : Way) (freed : ℕ) →
    IsTaking load steps frees at load_now items sent way freed → at < length steps
    → length load.commands ≤ count_by (λ i. is_command i.origin) items
    → (slice_index_or steps at d).command ≡ true →
    IsBadTurns load (turns_by steps frees) at
fails-command load steps frees at d load_now items sent way freed t below none command =
    bad-command load (turns_by steps frees) at items way freed (slice_index_or steps at d) t.holds
    (here steps at d below) none command

pub fails-through :
    (load : Load) (steps : List StepTurn) (frees : List ℕ) (at : ℕ) (d : StepTurn) (load_now : Load)
    (items : List Item) (sent : List ℕ) (way : Way) (freed : ℕ) →
    IsTaking load steps frees at load_now items sent way freed → at < length steps
    → count_by (λ i. is_call_of (slice_index_or steps at d).writer i.origin) items
    ≡ length (script_of load_now (slice_index_or steps at d).writer) →
    IsBadTurns load (turns_by steps frees) at
fails-through load steps frees at d load_now items sent way freed t below through =
    bad-through load (turns_by steps frees) at items way freed (slice_index_or steps at d) t.holds
    (here steps at d below)
    (through ∙ ap (λ l. length (script_of l (slice_index_or steps at d).writer)) t.load_is)

-- a section that was taken
pub taken :
    (load : Load) (steps : List StepTurn) (frees : List ℕ) (at : ℕ) (d : StepTurn) (load_now : Load)
    (items after : List Item) (sent : List ℕ) (way way_now : Way) (freed freed_now : ℕ)
    (found : Option Command) →
    IsTaking load steps frees at load_now items sent way freed
    → at < length steps → IsFoundFor load items (slice_index_or steps at d) found
    → IsLegal load_now after
    → (s : IsSection items after (slice_index_or steps at d).writer found) →
    AreFreed load_now (latest_first items) s.more way freed way_now freed_now
    → Extends load (turns_by steps frees) at after way_now freed_now
taken load steps frees at d load_now items after sent way way_now freed freed_now found t below asks
    legal s moved =
    turn load (turns_by steps frees) at items after way way_now freed freed_now
    (slice_index_or steps at d) found t.holds (here steps at d below) asks
    (subst (λ l. IsLegal l after) t.load_is legal) s
    (subst (λ l. AreFreed l (latest_first items) s.more way freed way_now freed_now) t.load_is
    moved)

-- a recorder that took so many turns, and whose host sent as many commands as they have
pub record HasTurned (load : Load) (steps : List StepTurn) (frees : List ℕ) (at : ℕ)
    (recorder : Recording) (sent : ℕ) : Type 0 where
  pub taking : IsTaking load steps frees at recorder.load recorder.items recorder.sent recorder.way
      recorder.freed
  pub host : HasSent load recorder sent
  pub through : sent ≡ count_by (λ i. is_command i.origin) recorder.items

-- and which sent the next one where the next turn has one
pub record IsToTurn (load : Load) (steps : List StepTurn) (frees : List ℕ) (at : ℕ)
    (recorder : Recording) (sent : ℕ) (command : Bool) : Type 0 where
  pub taking : IsTaking load steps frees at recorder.load recorder.items recorder.sent recorder.way
      recorder.freed
  pub host : HasSent load recorder sent
  pub due : sent ≡ count_by (λ i. is_command i.origin) recorder.items + cond command 1 0

pub to-turn : (load : Load) (steps : List StepTurn) (frees : List ℕ) (at : ℕ)
    (before after : Recording) (sent now : ℕ) (command : Bool) (asked : Option (List ℕ))
    → HasTurned load steps frees at before sent
    → after ≡ record before { asked = asked } → HasSent load after now
    → now ≡ sent + cond command 1 0 → IsToTurn load steps frees at after now command
to-turn load steps frees at before after sent now command asked h same host more = record {
  taking = subst (λ (r : Recording). IsTaking load steps frees at r.load r.items r.sent r.way
      r.freed) (sym same) h.taking;
  host = host;
  due = subst (λ (r : Recording). now ≡ count_by (λ i. is_command i.origin) r.items
      + cond command 1 0) (sym same)
      (more ∙ ap (λ n. n + cond command 1 0) h.through);
}

-- what the section of the turn found
pub found-for : (load : Load) (steps : List StepTurn) (frees : List ℕ) (at : ℕ)
    (before after : Recording) (sent : ℕ) (t : StepTurn) (found : Option Command)
    → IsToTurn load steps frees at before sent t.command
    → after.load ≡ before.load → IsLegal before.load after.items
    → IsSection before.items after.items t.writer found
    → after.asked ≡ before.asked → IfSome after.asked (IsFront after.answered)
    → MayWait after.kept → Asks before after found
    → HasTaken load before after sent found t.command
found-for load steps frees at before after sent t found h same legal s asked_same front waits asks =
    sent-taken load before after sent found t.command h.host h.taking.load_is h.due gained
    asked_same
    front waits asks where
      old : IsLegal load before.items
      old = h.taking.holds.to.run.legal

      new : IsLegal load (before.items ++ s.more)
      new = subst (IsLegal load) s.longer
          (subst (λ (l : Load). IsLegal l after.items) h.taking.load_is legal)

      gained : commands_in after.items ≡ commands_in before.items ++ commands_of found
      gained =
          ap (λ (is : List Item). commands_in is) s.longer
          ∙ commands_more load before.items t.writer
          (count_by (λ i. is_call_of t.writer i.origin) before.items) found old s.more new s.heads

pub fails-frees :
    (load : Load) (steps : List StepTurn) (frees : List ℕ) (at : ℕ) (d : StepTurn) (load_now : Load)
    (items after : List Item) (sent : List ℕ) (way way_now : Way) (freed freed_now : ℕ) →
    IsTaking load steps frees at load_now items sent way freed
    → at < length steps → Extends load (turns_by steps frees) at after way_now freed_now →
    IsUsingOthers after frees → IsBadTurns load (turns_by steps frees) at
fails-frees load steps frees at d load_now items after sent way way_now freed freed_now t below e
    others =
    bad-frees load (turns_by steps frees) at items after way way_now freed freed_now
    (slice_index_or steps at d) t.holds (here steps at d below) e others

pub taking-more :
    (load : Load) (steps : List StepTurn) (frees : List ℕ) (at : ℕ) (load_now load_after : Load)
    (items after : List Item) (sent sent_after : List ℕ) (way way_now : Way)
    (freed freed_now count : ℕ) → IsTaking load steps frees at load_now items sent way freed
    → load_after ≡ load_now → sent_after ≡ stream_of load_after after →
    Extends load (turns_by steps frees) at after way_now freed_now → IsUsing after frees count →
    IsTaking load steps frees (at + 1) load_after after sent_after way_now freed_now
taking-more load steps frees at load_now load_after items after sent sent_after way way_now freed
    freed_now count t same stream e u = record {
      load_is = same ∙ t.load_is;
      stream = stream ∙ ap (λ l. stream_of l after) (same ∙ t.load_is);
      holds = holds-more load (turns_by steps frees) at after way_now freed_now count e u;
    }

-- the end
pub taking-ends :
    (load : Load) (steps : List StepTurn) (frees : List ℕ) (at : ℕ) (load_now : Load)
    (items : List Item) (sent : List ℕ) (way : Way) (freed count : ℕ) →
    IsTaking load steps frees at load_now items sent way freed → at ≡ length steps
    → IsUsing items frees count → count ≡ length frees →
    IsReplayed load (turns_by steps frees) items
taking-ends load steps frees at load_now items sent way freed count t e u all =
    ends-well load (turns_by steps frees) at items way freed count t.holds e u all

pub fails-left :
    (load : Load) (steps : List StepTurn) (frees : List ℕ) (at : ℕ) (load_now : Load)
    (items : List Item) (sent : List ℕ) (way : Way) (freed count : ℕ) →
    IsTaking load steps frees at load_now items sent way freed → at ≡ length steps
    → IsUsing items frees count → (count ≡ length frees → ⊥) →
    IsBadTurns load (turns_by steps frees) at
fails-left load steps frees at load_now items sent way freed count t e u few =
    ends-badly load (turns_by steps frees) at items way freed count t.holds e u few

pub never :
    (load : Load) (steps : List StepTurn) (frees : List ℕ) (at : ℕ) (load_now : Load)
    (items : List Item) (sent : List ℕ) (way : Way) (freed : ℕ) →
    IsTaking load steps frees at load_now items sent way freed → IsUsingOthers items frees →
    ⊥
never load steps frees at load_now items sent way freed t others =
    uses load (turns_by steps frees) at items way freed t.holds others

-- the same turns
pub seen_as : (load : Load) (steps steps_now : List StepTurn) (frees frees_now : List ℕ) (at : ℕ) →
    steps_now ≡ steps → frees_now ≡ frees → IsBadTurns load (turns_by steps_now frees_now) at →
    IsBadTurns load (turns_by steps frees) at
seen_as load steps steps_now frees frees_now at e f bad =
    subst (λ xs. IsBadTurns load (turns_by xs frees) at) e
    (subst (λ ns. IsBadTurns load (turns_by steps_now ns) at) f bad)
