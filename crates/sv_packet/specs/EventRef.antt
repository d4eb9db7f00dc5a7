-- Events as they stand in the bytes of their packets, and the events that they are.
use Rattle.std.specs.Prelude.{ℕ}
use Rattle.sv_prim.specs.declared.got.Got.{Got}
use Rattle.sv_prim.specs.declared.got.Got.TheVariants.{Value, Short, Bad}
use Rattle.sv_packet.specs.declared.event.Event.{Event}
use Rattle.sv_packet.specs.declared.event.Event.TheVariants as owned
use Rattle.sv_packet.specs.declared.event.Packet.{Packet}
use Rattle.sv_packet.specs.declared.event.TimedEvent.{TimedEvent}
use Rattle.sv_packet.specs.declared.event_ref.EventRef.{EventRef}
use Rattle.sv_packet.specs.declared.event_ref.EventRef.TheVariants.{Nop, Overflow, IsrEnter}
use Rattle.sv_packet.specs.declared.event_ref.EventRef.TheVariants.{IsrExit, TaskStart, TaskStop}
use Rattle.sv_packet.specs.declared.event_ref.EventRef.TheVariants.{TaskReady, TaskUnready}
use Rattle.sv_packet.specs.declared.event_ref.EventRef.TheVariants.{TaskCreate, TaskInfo}
use Rattle.sv_packet.specs.declared.event_ref.EventRef.TheVariants.{TraceStart, TraceStop}
use Rattle.sv_packet.specs.declared.event_ref.EventRef.TheVariants.{SystimeCycles, SystimeUs}
use Rattle.sv_packet.specs.declared.event_ref.EventRef.TheVariants.{SysDesc, MarkStart, MarkStop}
use Rattle.sv_packet.specs.declared.event_ref.EventRef.TheVariants.{Idle, ToScheduler, TimerEnter}
use Rattle.sv_packet.specs.declared.event_ref.EventRef.TheVariants.{TimerExit, StackInfo}
use Rattle.sv_packet.specs.declared.event_ref.EventRef.TheVariants.{ModuleDesc, Init, NameResource}
use Rattle.sv_packet.specs.declared.event_ref.EventRef.TheVariants.{Print, NumModules, EndCall}
use Rattle.sv_packet.specs.declared.event_ref.EventRef.TheVariants.{TaskTerminate, Opaque}
use Rattle.sv_packet.specs.declared.event_ref.PacketRef.{PacketRef}

-- the event that is seen
abbrev pub seen : EventRef → Event
seen Nop = owned.Nop
seen (Overflow count) = owned.Overflow count
seen (IsrEnter isr) = owned.IsrEnter isr
seen IsrExit = owned.IsrExit
seen (TaskStart task) = owned.TaskStart task
seen TaskStop = owned.TaskStop
seen (TaskReady task) = owned.TaskReady task
seen (TaskUnready task cause) = owned.TaskUnready task cause
seen (TaskCreate task) = owned.TaskCreate task
seen (TaskInfo task priority name) = owned.TaskInfo task priority name.now
seen TraceStart = owned.TraceStart
seen TraceStop = owned.TraceStop
seen (SystimeCycles value) = owned.SystimeCycles value
seen (SystimeUs low high) = owned.SystimeUs low high
seen (SysDesc text) = owned.SysDesc text.now
seen (MarkStart id) = owned.MarkStart id
seen (MarkStop id) = owned.MarkStop id
seen Idle = owned.Idle
seen ToScheduler = owned.ToScheduler
seen (TimerEnter timer) = owned.TimerEnter timer
seen TimerExit = owned.TimerExit
seen (StackInfo task stack_base stack_size extra) = owned.StackInfo task stack_base stack_size extra
seen (ModuleDesc number offset text) = owned.ModuleDesc number offset text.now
seen (Init sys_freq cpu_freq ram_base shift) = owned.Init sys_freq cpu_freq ram_base shift
seen (NameResource resource text) = owned.NameResource resource text.now
seen (Print text options args) = owned.Print text.now options args
seen (NumModules count) = owned.NumModules count
seen (EndCall event value) = owned.EndCall event value
seen (TaskTerminate task) = owned.TaskTerminate task
seen (Opaque id payload) = owned.Opaque id payload.now

-- that event at a time in ticks
abbrev pub seen_at : ℕ → EventRef → TimedEvent
seen_at time event = record { time = time; event = seen event }

abbrev pub packet_seen : PacketRef → Packet
packet_seen packet = record { event = seen packet.event; delta = packet.delta }

abbrev pub got_seen : Got PacketRef → Got Packet
got_seen (Value packet used) = Value (packet_seen packet) used
got_seen Short = Short
got_seen (Bad place reason) = Bad place reason
