-- The first check that a line fails.
use Rattle.std.proofs.Common.{◌≡◌, Bool, true, false, cond, List, ◌∷◌, Option, Some, None}
use Rattle.std.proofs.Common.{refl, sym, ap, ◌∙◌}
use Rattle.std.specs.Prelude.{find, option_map}
use Rattle.std.specs.Option.{option_or}
use Rattle.std.proofs.lemmas.Bool.{false≢true}
use Rattle.std.proofs.lemmas.List.Folds.{find-append}
use Rattle.sv_workload.specs.declared.fault.LineFault.{LineFault}
use Rattle.sv_workload.specs.declared.keyword.SetupWord.TheVariants.{Ring, Command}
use Rattle.sv_workload.specs.declared.keyword.ActWord.TheVariants.{Start}
use Rattle.sv_workload.specs.declared.keyword.TurnWord.TheVariants.{Step}
use Rattle.sv_workload.specs.declared.keyword.Keyword.{Keyword}
use Rattle.sv_workload.specs.declared.keyword.Keyword.TheVariants.{Setup, Writer, Act, Schedule}
use Rattle.sv_workload.specs.declared.keyword.Keyword.TheVariants.{Turn, Unknown}
use Rattle.sv_workload.specs.Keywords.{is_same}
use Rattle.sv_workload.specs.Line.{Line}
use Rattle.sv_workload.specs.Checks.{Check, fault_of}
use Rattle.sv_workload.specs.Checking.{first_failed, form_checks, later_checks, is_no_keyword}
use Rattle.sv_workload.specs.Checking.{is_command_word}

pub no_keyword : (k : Keyword) → is_no_keyword k ≡ is_same Unknown k
no_keyword Unknown = refl
no_keyword (Setup Ring) = refl
no_keyword (Setup other) = refl
no_keyword Writer = refl
no_keyword (Act Start) = refl
no_keyword (Act other) = refl
no_keyword Schedule = refl
no_keyword (Turn Step) = refl
no_keyword (Turn other) = refl

pub command_keyword : (k : Keyword) → is_command_word k ≡ is_same (Setup Command) k
command_keyword (Setup Command) = refl
command_keyword (Setup Ring) = refl
command_keyword (Setup other) = refl
command_keyword Unknown = refl
command_keyword Writer = refl
command_keyword (Act Start) = refl
command_keyword (Act other) = refl
command_keyword Schedule = refl
command_keyword (Turn Step) = refl
command_keyword (Turn other) = refl

module _ (check : Check) (fault : LineFault) (more : List (Check × LineFault)) (lines : List Line)
    (line : Line) where
  found_by : (b : Bool) (rest : Option (Check × LineFault)) → b ≡ true → option_map
      (λ (c : Check × LineFault). c.1) (cond b (Some (check, fault)) rest) ≡ Some fault
  found_by true rest e = refl
  found_by false rest e = absurd (false≢true e)

  passed_by : (b : Bool) (rest : Option (Check × LineFault)) → b ≡ false → option_map
      (λ (c : Check × LineFault). c.1) (cond b (Some (check, fault)) rest) ≡ option_map
      (λ (c : Check × LineFault). c.1) rest
  passed_by false rest e = refl
  passed_by true rest e = absurd (false≢true (sym e))

  -- the check is the first that the line fails
  pub failed : check lines line ≡ true
      → first_failed ((check, fault) ∷ more) lines line ≡ Some fault
  failed e = found_by (check lines line) (find (λ (c : Check × LineFault). c.0 lines line) more) e

  -- the line passes it, so that the later ones decide
  pub passed : check lines line ≡ false
      → first_failed ((check, fault) ∷ more) lines line ≡ first_failed more lines line
  passed e = passed_by (check lines line) (find (λ (c : Check × LineFault). c.0 lines line) more) e

either : (a b : Option (Check × LineFault))
    → option_map (λ (c : Check × LineFault). c.1) (option_or a b) ≡ option_or
    (option_map (λ (c : Check × LineFault). c.1) a)
    (option_map (λ (c : Check × LineFault). c.1) b)
either (Some c) b = refl
either None b = refl

-- both parts of the checks, one after the other
pub both : (lines : List Line) (line : Line)
    → fault_of lines line ≡ option_or (first_failed form_checks lines line)
    (first_failed later_checks lines line)
both lines line =
    ap (option_map (λ (c : Check × LineFault). c.1))
    (find-append (λ (c : Check × LineFault). c.0 lines line) form_checks later_checks)
    ∙ either (find (λ (c : Check × LineFault). c.0 lines line) form_checks)
    (find (λ (c : Check × LineFault). c.0 lines line) later_checks)
