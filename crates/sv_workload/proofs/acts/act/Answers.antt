use Rattle.std.proofs.Common.{◌≡◌, ℕ, ◌≤◌, [], ◌∷◌, slice_index, sym, subst}
use Rattle.sv_workload.specs.declared.keyword.ActWord.{ActWord}
use Rattle.sv_workload.specs.declared.keyword.Keyword.TheVariants as keyword
use Rattle.sv_workload.specs.Forms.{form_of}
use Rattle.sv_workload.specs.Meaning.{with_shrunk}
use Rattle.sv_workload.proofs.acts.act.Goals as goal

pub act_by-requires-in-len1-up-clause-event : goal.act_by-requires-in-len1-up-clause-event
act_by-requires-in-len1-up-clause-event c = λ e.
    let first = slice_index c.args.numbers.now 0 in
    let one : c.sent.result ∷ [] ≡ first ∷ [] = subst
    (λ (w : ActWord). c.sent.result ∷ [] ≡ with_shrunk (form_of (keyword.Act w)).identifier
    c.args.base c.args.shift (first ∷ [])) e (c.sent.ensures []) in
    let same : c.sent.result ≡ first = cc in
    subst (λ (n : ℕ). n ≤ 16383) (sym same) (c.requires.event e)
