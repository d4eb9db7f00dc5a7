use Rattle.std.proofs.Common.{◌≡◌, ℕ, ◌+◌, [], Some, ap, ◌∙◌, arith}
use Rattle.sv_text.specs.Lines.{lines_of}
use Rattle.sv_workload.proofs.whole_text.FirstFault.{first_at, all_good}
use Rattle.sv_workload.proofs.laws.the_first_fault.Goals as goal

pub returns-clause-some : goal.returns-clause-some
returns-clause-some c = λ text place fault first.
    let n : 0 + place + 1 ≡ place + 1 = omega arith in
    first_at [] (lines_of text) place fault first.within first.here first.earlier ∙ ap
    (λ (m : ℕ). Some (m, fault)) n

pub returns-clause-none : goal.returns-clause-none
returns-clause-none c = λ text good. all_good [] (lines_of text) good
