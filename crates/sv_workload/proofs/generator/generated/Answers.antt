use Rattle.std.proofs.Common.{◌≡◌, ◌+◌, ◌*◌, ◌≤◌, ◌∙◌, sym, ap, subst, rules}
use Rattle.sv_load.specs.Load.{Load}
use Rattle.sv_load.specs.Need.{need_bytes, need_items}
use Rattle.sv_workload.specs.Generated.{generated_load}
use Rattle.sv_workload.proofs.generated_loads.Generating.{bytes_needed, items_needed}
use Rattle.sv_workload.proofs.generator.generated.Goals as goal

pub returns-clause-items : goal.returns-clause-items
returns-clause-items c =
    let is : c.build.result ≡ generated_load c.args.n = search rules in
    ap need_items is ∙ items_needed c.args.n

pub returns-clause-bytes : goal.returns-clause-bytes
returns-clause-bytes c =
    let is : c.build.result ≡ generated_load c.args.n = search rules in
    subst (λ (load : Load). need_bytes load ≤ 18 * c.args.n + 1291) (sym is)
    (bytes_needed c.args.n)
