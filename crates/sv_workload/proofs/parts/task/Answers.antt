use Rattle.std.proofs.Common.{◌≡◌, ℕ, List, ap, subst, ◌∙◌, slice_index, IfOk}
use Rattle.sv_load.specs.declared.load.Task.{Task}
use Rattle.sv_workload.specs.Line.{numbers_of}
use Rattle.sv_workload.specs.Meaning.{task_in}
use Rattle.sv_workload.proofs.fit_lines.Capping.{task_numbers}
use Rattle.sv_workload.proofs.parts.task.Goals as goal

-- a task of these numbers and this name
abbrev task_from : List ℕ → List ℕ → Task
task_from ns name =
    record {
      id = slice_index ns 0;
      priority = slice_index ns 1;
      stack_base = slice_index ns 2;
      stack_size = slice_index ns 3;
      extra = slice_index ns 4;
      name = name;
    }

pub returns : goal.returns
returns c = λ word fit.
    let line = c.args.line.now in
    let numbers = c.numbers.ensures in
    let same : task_from c.numbers.result.now c.text.result.now ≡ task_in line =
    ap (λ (ns : List ℕ). task_from ns c.text.result.now) (numbers ∙ task_numbers line word fit) ∙ ap
    (λ (t : List ℕ). task_from (numbers_of line) t) c.text.ensures in
    subst (λ (made : Task). IfOk c.named_task.result (λ t. t ≡ made)) same c.named_task.ensures
