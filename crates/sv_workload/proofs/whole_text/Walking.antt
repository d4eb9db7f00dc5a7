-- A text, line by line: a draft stands for the lines so far, and none of them has a fault.
use Rattle.std.proofs.Common.{◌≡◌, ℕ, ◌+◌, ◌≤◌, true, false, not, List, [], ◌∷◌, ◌++◌}
use Rattle.std.proofs.Common.{length, map, Option, Some, None, refl, sym, ap, ◌∙◌, append_assoc}
use Rattle.std.proofs.Common.{arith}
use Rattle.std.specs.Prelude.{filter, option_map}
use Rattle.std.specs.Option.{option_or}
use Rattle.std.proofs.lemmas.List.{append-nil, length-append, map-append}
use Rattle.std.proofs.lemmas.List.Elements.{filter-append}
use Rattle.sv_workload.specs.declared.fault.LineFault.{LineFault}
use Rattle.sv_text.specs.Lines.{lines_of, is_remark, IsFirstLine}
use Rattle.sv_workload.specs.Line.{Line, line_from}
use Rattle.sv_workload.specs.Settings.{nothing_told, ring_told, clock_told, cpu_told, base_told}
use Rattle.sv_workload.specs.Settings.{shift_told}
use Rattle.sv_workload.specs.Meaning.{workload_of}
use Rattle.sv_workload.specs.Checks.{fault_of}
use Rattle.sv_workload.specs.Draft.{Draft, Stands, load_by}
use Rattle.sv_workload.specs.Grammar.{said, fault_at, first_fault, first_fault_after}
use Rattle.sv_workload.proofs.whole_text.FirstFault.{one_good}

-- what one more line adds to what is said

said_more : (before : List (List ℕ)) (line : List ℕ) (left : List Line)
    → map line_from (filter (λ l. not (is_remark l)) (line ∷ [])) ≡ left
    → said (before ++ line ∷ []) ≡ said before ++ left
said_more before line left e =
    ap (map line_from) (filter-append (λ l. not (is_remark l)) before (line ∷ []))
    ∙ map-append line_from (filter (λ l. not (is_remark l)) before)
    (filter (λ l. not (is_remark l)) (line ∷ [])) ∙ ap (λ (l : List Line). said before ++ l) e

pub remark_said : (before : List (List ℕ)) (line : List ℕ) → is_remark line ≡ true
    → (fault_at before line ≡ None) × (said (before ++ line ∷ []) ≡ said before)
remark_said before line e =
    (rw e refl, said_more before line [] (rw e refl) ∙ append-nil (said before))

pub line_said : (before : List (List ℕ)) (line : List ℕ) → is_remark line ≡ false
    → said (before ++ line ∷ []) ≡ said before ++ line_from line ∷ []
line_said before line e = said_more before line (line_from line ∷ []) (rw e refl)

pub fault_said : (before : List (List ℕ)) (line : List ℕ) → is_remark line ≡ false
    → fault_at before line ≡ fault_of (said before) (line_from line)
fault_said before line e = rw e refl

-- the text, as far as it was read
pub record Walk (text rest : List ℕ) (draft : Draft) (number : ℕ) : Type 0 where
  pub before : List (List ℕ)
  pub lines : lines_of text ≡ before ++ lines_of rest
  pub first : first_fault text ≡ first_fault_after before (lines_of rest)
  pub counted : number ≡ length before
  pub within : number + length rest ≤ length text
  pub stands : Stands draft (said before)

pub walk_begins : (text : List ℕ)
    → Walk text text
    (record {
      settings = nothing_told;
      timed = false;
      lines = [];
      tasks = [];
      modules = [];
      commands = [];
      scripts = [];
      scheduled = false;
      schedule = [];
    }) 0
walk_begins text = record {
  before = [];
  lines = refl;
  first = refl;
  counted = refl;
  within = omega arith;
  stands = record {
    settings = refl;
    timed = refl;
    texts = refl;
    tasks = refl;
    modules = refl;
    commands = refl;
    scripts = refl;
    steps = refl;
    starts = refl;
    scheduled = refl;
    schedule = refl;
  };
}

module _ (text old line rest : List ℕ) (draft : Draft) (number : ℕ)
    (walk : Walk text old draft number) (next : IsFirstLine old line rest) where
  pub walk_goes_on : (new : Draft) → fault_at walk.before line ≡ None → Stands new
      (said (walk.before ++ line ∷ [])) → Walk text rest new (number + 1)
  walk_goes_on new good stands = record {
    before = walk.before ++ line ∷ [];
    lines = walk.lines ∙ ap (λ (l : List (List ℕ)). walk.before ++ l) next.lines ∙ sym
        (append_assoc walk.before (line ∷ []) (lines_of rest));
    first = walk.first ∙ ap (first_fault_after walk.before) next.lines ∙ one_good walk.before line
        (lines_of rest) good;
    counted = omega (arith, walk.counted, length-append walk.before (line ∷ []));
    within = omega (arith, walk.within, next.left);
    stands = stands;
  }

  pub walk_stops : (fault : LineFault) → fault_at walk.before line ≡ Some fault → first_fault text ≡
      Some (number + 1, fault)
  walk_stops fault e =
      walk.first ∙ ap (first_fault_after walk.before) next.lines
      ∙ ap (λ (o : Option LineFault). option_or
      (option_map (λ fault. (length walk.before + 1, fault)) o)
      (first_fault_after (walk.before ++ line ∷ []) (lines_of rest))) e
      ∙ ap (λ (n : ℕ). Some (n + 1, fault)) (sym walk.counted)

pub load_is : (draft : Draft) (lines : List Line) → Stands draft lines
    → load_by draft ≡ workload_of lines
load_is draft lines s =
    let ring = ap ring_told s.settings in
    let clock = ap clock_told s.settings in
    let cpu = ap cpu_told s.settings in
    let base = ap base_told s.settings in
    let shift = ap shift_told s.settings in
    let timed = s.timed in
    let texts = s.texts in
    let modules = s.modules in
    let commands = s.commands in
    let tasks = s.tasks in
    let scripts = s.scripts in
    let scheduled = s.scheduled in
    let schedule = s.schedule in
    cc

pub walk_ends : (text rest : List ℕ) (draft : Draft) (number : ℕ) → Walk text rest draft number
    → rest ≡ [] → (first_fault text ≡ None) × (load_by draft ≡ workload_of (said (lines_of text)))
walk_ends text rest draft number walk none =
    let lines : lines_of text ≡ walk.before = walk.lines ∙ ap
    (λ (r : List ℕ). walk.before ++ lines_of r) none ∙ append-nil walk.before in (
      walk.first ∙ ap (λ (r : List ℕ). first_fault_after walk.before (lines_of r)) none,
      load_is draft (said walk.before) walk.stands
          ∙ ap (λ (l : List (List ℕ)). workload_of (said l))
          (sym lines),
    )
