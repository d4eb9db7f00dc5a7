-- The line of a run of ticks: its first tick, the tick after its last, and the label of its context.
use Rattle.std.specs.Prelude.{ℕ, List, ◌++◌, codes}
use Rattle.std.specs.Fmt.{decimal}
use Rattle.sv_context.specs.declared.context.Context.{Context}
use Rattle.sv_context.specs.declared.context.Context.TheVariants.{Gap, Unknown, Scheduler, Idle}
use Rattle.sv_context.specs.declared.context.Context.TheVariants.{Task, Timer, Isr}
use Rattle.sv_timeline.specs.declared.span.Span.{Span}

-- the words that name a context
abbrev pub label_of : Context → List ℕ
label_of Gap = codes "gap"
label_of Unknown = codes "unknown"
label_of Scheduler = codes "scheduler"
label_of Idle = codes "idle"
label_of (Task task) = codes "task " ++ decimal task
label_of (Timer timer) = codes "timer " ++ decimal timer
label_of (Isr isr) = codes "isr " ++ decimal isr

abbrev pub span_line : Span → List ℕ
span_line span =
    decimal span.start
    ++ (codes " " ++ (decimal span.end ++ (codes " " ++ (label_of span.context ++ codes "\n"))))
