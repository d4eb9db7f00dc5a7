-- The timeline as a list that the ticks give.
use Rattle.std.specs.Prelude.{ℕ, ◌+◌, ◌-◌, List, [], ◌∷◌, length, take, if◌then◌else◌}
use Rattle.sv_packet.specs.declared.event.TimedEvent.{TimedEvent}
use Rattle.sv_context.specs.declared.context.Context.{Context}
use Rattle.sv_context.specs.Order.{is_same_context}
use Rattle.sv_timeline.specs.declared.span.Span.{Span}
use Rattle.sv_timeline.specs.Ticks.{ticks_of}

-- a run before others: one with the first of them where both have one context
abbrev pub joined_runs : Span → List Span → List Span
joined_runs run [] = run ∷ []
joined_runs run (next ∷ runs) =
    if is_same_context run.context next.context
    then record { start = run.start; end = next.end; context = run.context } ∷ runs
    else run ∷ next ∷ runs

-- the longest runs of equal contexts, from a tick on
abbrev pub runs_from : ℕ → List Context → List Span
runs_from start [] = []
runs_from start (context ∷ contexts) =
    joined_runs (record { start = start; end = start + 1; context = context })
    (runs_from (start + 1) contexts)

-- the longest runs of all ticks before the last event
abbrev pub timeline_of : List TimedEvent → List Span
timeline_of events = runs_from 0 (ticks_of events)

-- the runs that have ended: all but the last, which may still grow
abbrev pub ended_runs : List TimedEvent → List Span
ended_runs events = take (length (timeline_of events) - 1) (timeline_of events)
