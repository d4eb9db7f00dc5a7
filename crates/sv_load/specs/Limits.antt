-- The most of what a workload holds.
use Rattle.std.specs.Prelude.{ℕ}

-- steps of all scripts together, turns of a schedule, and steps of one turn
abbrev pub most_steps : ℕ
most_steps = 1048576

-- starts of the recorder
abbrev pub most_starts : ℕ
most_starts = 256

-- writers
abbrev pub most_writers : ℕ
most_writers = 16

-- ticks before a step: 2 ^ 33
abbrev pub most_ticks : ℕ
most_ticks = 8589934592
