use Rattle.std.proofs.Common.{◌≡◌, ℕ, ◌<◌, true, length}
use Rattle.std.specs.Prelude.{count_by}
use Rattle.sv_load.specs.Load.{script_of}
use Rattle.sv_journal.specs.Items.{is_call_of}
use Rattle.sv_run.proofs.rest.round.Given as goal

abbrev pub invariant-loop-writer : goal.invariant-loop-writer
invariant-loop-writer g l =
    (l.recorder.load ≡ l.initial.recorder.load)
    × (l.recorder.ring ≡ l.initial.recorder.ring)
    × (l.recorder.down ≡ l.initial.recorder.down)
    × (l.recorder.size ≡ l.initial.recorder.size)
    × (l.through ≡ true → (writer : ℕ) → writer < l.writer
    → count_by (λ i. is_call_of writer i.origin) l.recorder.items
    ≡ length (script_of l.recorder.load writer))
