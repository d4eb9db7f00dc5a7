-- What is known of a line that has no fault after good lines.
use Rattle.std.proofs.Common.{◌≡◌, Bool, true, false, cond, drop, List, ◌∷◌, Option, Some, None}
use Rattle.std.proofs.Common.{refl, ◌∙◌}
use Rattle.std.specs.Prelude.{find, option_map}
use Rattle.sv_workload.specs.declared.fault.LineFault.{LineFault}
use Rattle.sv_workload.specs.declared.fault.LineFault.TheVariants.{UnknownWord, Shape, Number}
use Rattle.sv_workload.specs.declared.fault.LineFault.TheVariants.{Repeated, TooMany, Unaligned}
use Rattle.sv_workload.specs.declared.fault.LineFault.TheVariants.{Misplaced, BadText, NoSuchWriter}
use Rattle.sv_workload.specs.declared.fault.LineFault.TheVariants.{ModuleFull}
use Rattle.sv_workload.specs.Line.{Line}
use Rattle.sv_workload.specs.Checks.{Check, checks, fault_of, lacks_keyword, is_misplaced}
use Rattle.sv_workload.specs.Checks.{is_misshapen, has_bad_number, has_bad_text, is_unaligned}
use Rattle.sv_workload.specs.Checks.{is_repeated, is_too_many, has_no_writer, has_no_room}
use Rattle.sv_workload.proofs.first_check.Faulted.{passed}

-- no check finds anything wrong
pub record Passes (before : List Line) (line : Line) : Type 0 where
  pub known : lacks_keyword before line ≡ false
  pub placed : is_misplaced before line ≡ false
  pub shaped : is_misshapen before line ≡ false
  pub numbers : has_bad_number before line ≡ false
  pub text : has_bad_text before line ≡ false
  pub aligned : is_unaligned before line ≡ false
  pub single : is_repeated before line ≡ false
  pub few : is_too_many before line ≡ false
  pub writer : has_no_writer before line ≡ false
  pub room : has_no_room before line ≡ false

module _ (before : List Line) (line : Line) where
  abbrev found_by : List (Check × LineFault) → Option LineFault
  found_by rest = option_map (λ (check : Check × LineFault). check.1)
      (find (λ (check : Check × LineFault). check.0 before line) rest)

  -- where nothing is found, the first of the checks found nothing, and nor did the others
  first_passed : (check : Check) (fault : LineFault) (rest : List (Check × LineFault)) → found_by
      ((check, fault) ∷ rest) ≡ None → (check before line ≡ false) × (found_by rest ≡ None)
  first_passed check fault rest e = by (check before line)
      (find (λ (c : Check × LineFault). c.0 before line) rest) e
    where
      by : (b : Bool) (more : Option (Check × LineFault)) → option_map
          (λ (c : Check × LineFault). c.1) (cond b (Some (check, fault)) more) ≡ None → (b ≡ false)
          × (option_map (λ (c : Check × LineFault). c.1) more ≡ None)
      by true more e = absurd (let found : Some fault ≡ None = e in cc)
      by false more e = (refl, e)

  pub passes : fault_of before line ≡ None → Passes before line
  passes e =
      let a = first_passed lacks_keyword UnknownWord (drop 1 checks) e in
      let b = first_passed is_misplaced Misplaced (drop 2 checks) a.1 in
      let c = first_passed is_misshapen Shape (drop 3 checks) b.1 in
      let d = first_passed has_bad_number Number (drop 4 checks) c.1 in
      let f = first_passed has_bad_text BadText (drop 5 checks) d.1 in
      let g = first_passed is_unaligned Unaligned (drop 6 checks) f.1 in
      let h = first_passed is_repeated Repeated (drop 7 checks) g.1 in
      let i = first_passed is_too_many TooMany (drop 8 checks) h.1 in
      let j = first_passed has_no_writer NoSuchWriter (drop 9 checks) i.1 in
      let k = first_passed has_no_room ModuleFull (drop 10 checks) j.1 in
      record {
        known = a.0;
        placed = b.0;
        shaped = c.0;
        numbers = d.0;
        text = f.0;
        aligned = g.0;
        single = h.0;
        few = i.0;
        writer = j.0;
        room = k.0;
      }

-- and a line that passes each check has no fault
pub faultless : (before : List Line) (line : Line) → Passes before line
    → fault_of before line ≡ None
faultless before line passes =
    passed lacks_keyword UnknownWord (drop 1 checks) before line passes.known
    ∙ passed is_misplaced Misplaced (drop 2 checks) before line passes.placed
    ∙ passed is_misshapen Shape (drop 3 checks) before line passes.shaped
    ∙ passed has_bad_number Number (drop 4 checks) before line passes.numbers
    ∙ passed has_bad_text BadText (drop 5 checks) before line passes.text
    ∙ passed is_unaligned Unaligned (drop 6 checks) before line passes.aligned
    ∙ passed is_repeated Repeated (drop 7 checks) before line passes.single
    ∙ passed is_too_many TooMany (drop 8 checks) before line passes.few
    ∙ passed has_no_writer NoSuchWriter (drop 9 checks) before line passes.writer
    ∙ passed has_no_room ModuleFull (drop 10 checks) before line passes.room
