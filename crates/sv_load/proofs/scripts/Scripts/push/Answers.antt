use Rattle.std.proofs.Common.{◌≤◌, List, length, sym, subst, arith}
use Rattle.std.specs.Prelude.{map}
use Rattle.sv_load.specs.declared.load.Step.{Step}
use Rattle.sv_load.specs.Scripts.{onto_last}
use Rattle.sv_load.proofs.Scripted.{counted_onto, length_onto}
use Rattle.sv_load.proofs.scripts.Scripts.push.Goals as goal

pub invariant_of-self-2 : goal.invariant_of-self-2
invariant_of-self-2 c =
    let scripts = map (λ script. script.items) c.self.inside.writers.items in
    let more = counted_onto scripts c.args.step c.self.inside.steps c.self.inside.starts
    c.self.inside.bytes c.start_count.result c.act_bytes.result c.self.invariant
    (rw (← c.self.view_is) at c.requires.some) (rw (← c.self.view_is) at c.requires.few)
    (λ starts. rw (← c.self.view_is) at (c.requires.few_starts starts))
    c.requires.advance c.requires.act c.start_count.ensures c.act_bytes.ensures.bytes
    c.act_bytes.ensures.most in
    rw c.in_ok-add_to_last.ensures.ok more

pub returns-clause-all : goal.returns-clause-all
returns-clause-all c =
    let scripts = map (λ script. script.items) c.self.inside.writers.items in
    let few : length (onto_last c.args.step scripts) ≤ 16 = omega
    (arith, length_onto c.args.step scripts, c.self.invariant.few_scripts) in
    subst (λ (l : List (List Step)). length l ≤ 16) (sym c.in_ok-add_to_last.ensures.ok) few

pub returns-clause-grown : goal.returns-clause-grown
returns-clause-grown c =
    let scripts = map (λ script. script.items) c.self.inside.writers.items in
    let same : length scripts ≤ length (onto_last c.args.step scripts) = omega
    (arith, length_onto c.args.step scripts) in
    rw (← c.self.view_is) (subst (λ (l : List (List Step)). length scripts ≤ length l)
    (sym c.in_ok-add_to_last.ensures.ok) same)
