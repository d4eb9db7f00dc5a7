-- The turns that lines of the schedule give away are of their ranges, and so are the steps of a
-- script.
use Rattle.std.proofs.Common.{◌≡◌, ℕ, ◌≤◌, true, false, ◌&&◌, List, [], ◌∷◌, length, map, take}
use Rattle.std.proofs.Common.{Option, Some, None, sym, ap, subst, ◌∙◌, nat_le, All, arith}
use Rattle.std.specs.Prelude.{slice_index, slice_index_or, unwrap_or}
use Rattle.std.specs.Option.{option_map_or}
use Rattle.std.proofs.lemmas.Bool.{and_parts, leb-true}
use Rattle.std.proofs.lemmas.List.Elements.{All-weaker}
use Rattle.sv_load.specs.declared.load.Action.{Action}
use Rattle.sv_load.specs.declared.load.Action.TheVariants as actions
use Rattle.sv_workload.specs.declared.keyword.TurnWord.{TurnWord}
use Rattle.sv_workload.specs.declared.keyword.TurnWord.TheVariants as turn
use Rattle.sv_workload.specs.declared.keyword.Keyword.{Keyword}
use Rattle.sv_workload.specs.declared.keyword.Keyword.TheVariants as keyword
use Rattle.sv_workload.specs.Forms.{between, any}
use Rattle.sv_text.specs.Words.{number_of}
use Rattle.sv_workload.specs.Line.{Line, numbers_of}
use Rattle.sv_workload.specs.Meaning.{count, number, action_by, action_of}
use Rattle.sv_load.specs.Need.{IsTurn}
use Rattle.sv_workload.specs.Fit.{FitsForm}
use Rattle.sv_workload.specs.Checks.{is_within, are_within}
use Rattle.sv_workload.specs.Draft.{Draft, Stands}
use Rattle.sv_workload.proofs.fit_lines.Capping.{number_or_0, numbers_behind, in_ranges}
use Rattle.sv_workload.proofs.first_check.Passed.{Passes}
use Rattle.sv_workload.proofs.lines_told.Rooms.{less_than_writers, read_inside}

-- more writers take the same turns
pub turns_stay : (m n : ℕ) (turns : List Action) → m ≤ n → All (IsTurn m) turns
    → All (IsTurn n) turns
turns_stay m n turns more are = All-weaker (IsTurn m) (IsTurn n) stay turns are
  where
    stay : (action : Action) → IsTurn m action → IsTurn n action
    stay (actions.Step writer count) (there, least, most) =
        (omega (arith, there, more), least, most)
    stay (actions.Read most) is = is
    stay actions.Send is = tt

-- a number of a range is within it
inside : (least most n : ℕ) → (nat_le least n && nat_le n most) ≡ true → (least ≤ n) × (n ≤ most)
inside least most n e =
    let both = and_parts (nat_le least n) (nat_le n most) e in
    (leb-true least n both.0, leb-true n most both.1)

within : (least most : ℕ) (number : Option ℕ)
    → option_map_or (λ n. nat_le least n && nat_le n most) number false ≡ true
    → (least ≤ unwrap_or number 0) × (unwrap_or number 0 ≤ most)
within least most None e = absurd cc
within least most (Some n) e = inside least most n e

-- the count of a turn, which is 1 where none is said
count_in : (words : List (List ℕ)) → are_within (any ∷ between 1 1048576 ∷ []) words ≡ true
    → (1 ≤ slice_index_or (map number_or_0 (take 2 words)) 1 1) ×
    (slice_index_or (map number_or_0 (take 2 words)) 1 1 ≤ 1048576)
count_in [] e = (omega arith, omega arith)
count_in (writer ∷ []) e = (omega arith, omega arith)
count_in (writer ∷ word ∷ words) e =
    let both = and_parts (is_within any writer) (are_within (between 1 1048576 ∷ []) (word ∷ words))
    e in
    let this = and_parts (is_within (between 1 1048576) word) (are_within [] words) both.1 in
    within 1 1048576 (number_of word) this.0

module _ (draft : Draft) (lines : List Line) (line : Line) (stands : Stands draft lines)
    (passed : Passes lines line) (fit : FitsForm line) where
  step_turn : (action : Action) → line.keyword ≡ keyword.Turn turn.Step → Some action ≡ action_of
      line → IsTurn (length draft.scripts) action
  step_turn action e made =
      let by : Some action ≡ Some
      (actions.Step (slice_index (numbers_of line) 0) (slice_index_or (numbers_of line) 1 1)) =
      made ∙ ap (λ (k : Keyword). action_by k (numbers_of line)) e in
      let is : action ≡ actions.Step (slice_index (numbers_of line) 0)
      (slice_index_or (numbers_of line) 1 1) = cc in
      let many : (1 ≤ slice_index_or (numbers_behind line.keyword line.words) 1 1) ×
      (slice_index_or (numbers_behind line.keyword line.words) 1 1 ≤ 1048576) =
      subst (λ (k : Keyword). (1 ≤ slice_index_or (numbers_behind k line.words) 1 1) ×
      (slice_index_or (numbers_behind k line.words) 1 1 ≤ 1048576)) (sym e)
      (count_in line.words (in_ranges line (keyword.Turn turn.Step) e fit)) in
      subst (IsTurn (length draft.scripts)) (sym is)
      (less_than_writers draft lines line stands passed e, many.0, many.1)

  read_turn : (action : Action) → line.keyword ≡ keyword.Turn turn.Read → Some action ≡ action_of
      line → IsTurn (length draft.scripts) action
  read_turn action e made =
      let by : Some action ≡ Some (actions.Read (slice_index (numbers_of line) 0)) = made ∙ ap
      (λ (k : Keyword). action_by k (numbers_of line)) e in
      let is : action ≡ actions.Read (slice_index (numbers_of line) 0) = cc in
      subst (IsTurn (length draft.scripts)) (sym is)
      (inside 1 65536 (number line 0) (read_inside line fit e))

  send_turn : (action : Action) → line.keyword ≡ keyword.Turn turn.Send → Some action ≡ action_of
      line → IsTurn (length draft.scripts) action
  send_turn action e made =
      let by : Some action ≡ Some actions.Send = made ∙ ap
      (λ (k : Keyword). action_by k (numbers_of line)) e in
      let is : action ≡ actions.Send = cc in
      subst (IsTurn (length draft.scripts)) (sym is) tt

  -- the turn of a line without a fault
  pub turn_is : (word : TurnWord) (action : Action) → line.keyword ≡ keyword.Turn word → Some action
      ≡ action_of line → IsTurn (length draft.scripts) action
  turn_is turn.Step action e made = step_turn action e made
  turn_is turn.Read action e made = read_turn action e made
  turn_is turn.Send action e made = send_turn action e made
