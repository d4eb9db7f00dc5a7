-- What an event does to the context.
use Rattle.std.specs.Prelude.{Bool, true, false, Option, Some, None}
use Rattle.sv_packet.specs.declared.event.Event.{Event}
use Rattle.sv_packet.specs.declared.event.Event.TheVariants.{IsrEnter, IsrExit, TaskStart, TaskStop}
use Rattle.sv_packet.specs.declared.event.Event.TheVariants.{Idle as IdleEvent, ToScheduler}
use Rattle.sv_packet.specs.declared.event.Event.TheVariants.{TimerEnter, TimerExit}
use Rattle.sv_context.specs.declared.context.Context.{Context}
use Rattle.sv_context.specs.declared.context.Context.TheVariants.{Scheduler, Idle, Task, Timer, Isr}

-- it sets the base below all frames, opens a frame, closes one, or does nothing
pub data Role : Type 0 where
  base : Context → Role
  enter : Context → Role
  exit : Role
  nothing : Role

abbrev pub role_of : Event → Role
role_of (TaskStart task) = base (Task task)
role_of TaskStop = base Scheduler
role_of IdleEvent = base Idle
role_of ToScheduler = base Scheduler
role_of (IsrEnter isr) = enter (Isr isr)
role_of (TimerEnter timer) = enter (Timer timer)
role_of IsrExit = exit
role_of TimerExit = exit
role_of event = nothing

abbrev pub base_of : Role → Option Context
base_of (base context) = Some context
base_of (enter context) = None
base_of exit = None
base_of nothing = None

abbrev pub frame_of : Role → Option Context
frame_of (base context) = None
frame_of (enter context) = Some context
frame_of exit = None
frame_of nothing = None

abbrev pub is_base : Role → Bool
is_base (base context) = true
is_base (enter context) = false
is_base exit = false
is_base nothing = false

abbrev pub is_enter : Role → Bool
is_enter (base context) = false
is_enter (enter context) = true
is_enter exit = false
is_enter nothing = false

abbrev pub is_exit : Role → Bool
is_exit (base context) = false
is_exit (enter context) = false
is_exit exit = true
is_exit nothing = false
