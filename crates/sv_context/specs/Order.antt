-- The order of contexts: by kind, and then by number.
use Rattle.std.specs.Prelude.{ℕ, Bool, ◌&&◌, ◌||◌, ◌==◌, nat_lt}
use Rattle.sv_context.specs.declared.context.Context.{Context}
use Rattle.sv_context.specs.declared.context.Context.TheVariants.{Gap, Unknown, Scheduler, Idle}
use Rattle.sv_context.specs.declared.context.Context.TheVariants.{Task, Timer, Isr}

-- the place of its kind, and its number
abbrev pub rank_of : Context → ℕ × ℕ
rank_of Gap = (0, 0)
rank_of Unknown = (1, 0)
rank_of Scheduler = (2, 0)
rank_of Idle = (3, 0)
rank_of (Task task) = (4, task)
rank_of (Timer timer) = (5, timer)
rank_of (Isr isr) = (6, isr)

abbrev pub is_same_context : Context → Context → Bool
is_same_context a b = ((rank_of a).0 == (rank_of b).0) && ((rank_of a).1 == (rank_of b).1)

abbrev pub is_context_before : Context → Context → Bool
is_context_before a b = nat_lt (rank_of a).0 (rank_of b).0 || (((rank_of a).0 == (rank_of b).0) &&
    nat_lt (rank_of a).1 (rank_of b).1)
