-- What runs after events is known, or is said to be unknown: it is no gap.
use Rattle.std.proofs.Common.{◌≢◌, List, [], ◌∷◌, ◌++◌, map}
use Rattle.std.specs.Prelude.{Bool, true, false, Option, Some, None, unwrap_or, option_to_list}
use Rattle.std.specs.Prelude.{filter_map, if◌then◌else◌}
use Rattle.std.specs.List.{last_or, after_last, cons_option}
use Rattle.sv_packet.specs.declared.event.Event.{Event}
use Rattle.sv_packet.specs.declared.event.Event.TheVariants as events
use Rattle.sv_packet.specs.Events.{is_break}
use Rattle.sv_packet.specs.Lists.{last_of}
use Rattle.sv_context.specs.declared.context.Context.{Context}
use Rattle.sv_context.specs.declared.context.Context.TheVariants.{Gap, Unknown}
use Rattle.sv_context.specs.Role.{role_of, base_of, frame_of}
use Rattle.sv_context.specs.Context.{open_frames, is_open_after, context_after}

frame_known : (event : Event) → frame_of (role_of event) ≢ Some Gap
frame_known events.Nop e = absurd cc
frame_known (events.Overflow a) e = absurd cc
frame_known (events.IsrEnter a) e = absurd cc
frame_known events.IsrExit e = absurd cc
frame_known (events.TaskStart a) e = absurd cc
frame_known events.TaskStop e = absurd cc
frame_known (events.TaskReady a) e = absurd cc
frame_known (events.TaskUnready a b) e = absurd cc
frame_known (events.TaskCreate a) e = absurd cc
frame_known (events.TaskInfo a b c) e = absurd cc
frame_known events.TraceStart e = absurd cc
frame_known events.TraceStop e = absurd cc
frame_known (events.SystimeCycles a) e = absurd cc
frame_known (events.SystimeUs a b) e = absurd cc
frame_known (events.SysDesc a) e = absurd cc
frame_known (events.MarkStart a) e = absurd cc
frame_known (events.MarkStop a) e = absurd cc
frame_known events.Idle e = absurd cc
frame_known events.ToScheduler e = absurd cc
frame_known (events.TimerEnter a) e = absurd cc
frame_known events.TimerExit e = absurd cc
frame_known (events.StackInfo a b c d) e = absurd cc
frame_known (events.ModuleDesc a b c) e = absurd cc
frame_known (events.Init a b c d) e = absurd cc
frame_known (events.NameResource a b) e = absurd cc
frame_known (events.Print a b c) e = absurd cc
frame_known (events.NumModules a) e = absurd cc
frame_known (events.EndCall a b) e = absurd cc
frame_known (events.TaskTerminate a) e = absurd cc
frame_known (events.Opaque a b) e = absurd cc

base_known : (event : Event) → base_of (role_of event) ≢ Some Gap
base_known events.Nop e = absurd cc
base_known (events.Overflow a) e = absurd cc
base_known (events.IsrEnter a) e = absurd cc
base_known events.IsrExit e = absurd cc
base_known (events.TaskStart a) e = absurd cc
base_known events.TaskStop e = absurd cc
base_known (events.TaskReady a) e = absurd cc
base_known (events.TaskUnready a b) e = absurd cc
base_known (events.TaskCreate a) e = absurd cc
base_known (events.TaskInfo a b c) e = absurd cc
base_known events.TraceStart e = absurd cc
base_known events.TraceStop e = absurd cc
base_known (events.SystimeCycles a) e = absurd cc
base_known (events.SystimeUs a b) e = absurd cc
base_known (events.SysDesc a) e = absurd cc
base_known (events.MarkStart a) e = absurd cc
base_known (events.MarkStop a) e = absurd cc
base_known events.Idle e = absurd cc
base_known events.ToScheduler e = absurd cc
base_known (events.TimerEnter a) e = absurd cc
base_known events.TimerExit e = absurd cc
base_known (events.StackInfo a b c d) e = absurd cc
base_known (events.ModuleDesc a b c) e = absurd cc
base_known (events.Init a b c d) e = absurd cc
base_known (events.NameResource a b) e = absurd cc
base_known (events.Print a b c) e = absurd cc
base_known (events.NumModules a) e = absurd cc
base_known (events.EndCall a b) e = absurd cc
base_known (events.TaskTerminate a) e = absurd cc
base_known (events.Opaque a b) e = absurd cc

one_more : (frame : Option Context) (rest : List Context) (before : Option Context)
    → frame ≢ Some Gap
    → ((o : Option Context) → o ≢ Some Gap → last_or o rest ≢ Some Gap)
    → before ≢ Some Gap → last_or before (option_to_list frame ++ rest) ≢ Some Gap
one_more None rest before known more first = more before first
one_more (Some context) rest before known more first = more (Some context) known

one_open : (is_open : Bool) (frame : Option Context) (rest : List Context) (before : Option Context)
    → frame ≢ Some Gap
    → ((o : Option Context) → o ≢ Some Gap → last_or o rest ≢ Some Gap)
    → before ≢ Some Gap
    → last_or before ((if is_open then option_to_list frame else []) ++ rest) ≢ Some Gap
one_open true frame rest before known more first = one_more frame rest before known more first
one_open false frame rest before known more first = more before first

frames_known : (es : List Event) (before : Option Context) → before ≢ Some Gap
    → last_or before (open_frames (map role_of es)) ≢ Some Gap
frames_known [] before first = first
frames_known (event ∷ es) before first =
    one_open (is_open_after (map role_of es)) (frame_of (role_of event))
    (open_frames (map role_of es)) before (frame_known event) (frames_known es) first

one_base : (base : Option Context) (rest : List Context) (before : Option Context)
    → base ≢ Some Gap
    → ((o : Option Context) → o ≢ Some Gap → last_or o rest ≢ Some Gap)
    → before ≢ Some Gap → last_or before (cons_option base rest) ≢ Some Gap
one_base None rest before known more first = more before first
one_base (Some context) rest before known more first = more (Some context) known

bases_known : (es : List Event) (before : Option Context) → before ≢ Some Gap
    → last_or before (filter_map base_of (map role_of es)) ≢ Some Gap
bases_known [] before first = first
bases_known (event ∷ es) before first =
    one_base (base_of (role_of event)) (filter_map base_of (map role_of es)) before
    (base_known event) (bases_known es) first

chosen_known : (o : Option Context) → o ≢ Some Gap → unwrap_or o Unknown ≢ Gap
chosen_known None known e = absurd cc
chosen_known (Some context) known e = known cc

pub never_gap : (es : List Event) → context_after es ≢ Gap
never_gap es =
    chosen_known (last_or (last_of (filter_map base_of (map role_of (after_last is_break es))))
    (open_frames (map role_of (after_last is_break es))))
    (frames_known (after_last is_break es)
    (last_of (filter_map base_of (map role_of (after_last is_break es))))
    (bases_known (after_last is_break es) None (λ e. absurd cc)))
