-- The table of packets (UM08027, event identifiers): one line for each event, twice.
use Rattle.std.specs.Prelude.{ℕ, List, [], ◌∷◌, map, length, Some, None}
use Rattle.sv_packet.specs.declared.event.Event.{Event}
use Rattle.sv_packet.specs.declared.event.Event.TheVariants.{Nop, Overflow, IsrEnter, IsrExit}
use Rattle.sv_packet.specs.declared.event.Event.TheVariants.{TaskStart, TaskStop, TaskReady}
use Rattle.sv_packet.specs.declared.event.Event.TheVariants.{TaskUnready, TaskCreate, TaskInfo}
use Rattle.sv_packet.specs.declared.event.Event.TheVariants.{TraceStart, TraceStop, SystimeCycles}
use Rattle.sv_packet.specs.declared.event.Event.TheVariants.{SystimeUs, SysDesc, MarkStart}
use Rattle.sv_packet.specs.declared.event.Event.TheVariants.{MarkStop, Idle, ToScheduler}
use Rattle.sv_packet.specs.declared.event.Event.TheVariants.{TimerEnter, TimerExit, StackInfo}
use Rattle.sv_packet.specs.declared.event.Event.TheVariants.{ModuleDesc, Init, NameResource, Print}
use Rattle.sv_packet.specs.declared.event.Event.TheVariants.{NumModules, EndCall, TaskTerminate}
use Rattle.sv_packet.specs.declared.event.Event.TheVariants.{Opaque}

-- the identifier that begins an event's packet
abbrev pub identifier : Event → ℕ
identifier Nop = 0
identifier (Overflow count) = 1
identifier (IsrEnter isr) = 2
identifier IsrExit = 3
identifier (TaskStart task) = 4
identifier TaskStop = 5
identifier (TaskReady task) = 6
identifier (TaskUnready task cause) = 7
identifier (TaskCreate task) = 8
identifier (TaskInfo task priority name) = 9
identifier TraceStart = 10
identifier TraceStop = 11
identifier (SystimeCycles value) = 12
identifier (SystimeUs low high) = 13
identifier (SysDesc text) = 14
identifier (MarkStart id) = 15
identifier (MarkStop id) = 16
identifier Idle = 17
identifier ToScheduler = 18
identifier (TimerEnter timer) = 19
identifier TimerExit = 20
identifier (StackInfo task stack_base stack_size extra) = 21
identifier (ModuleDesc number offset text) = 22
identifier (Init sys_freq cpu_freq ram_base shift) = 24
identifier (NameResource resource text) = 25
identifier (Print text options args) = 26
identifier (NumModules count) = 27
identifier (EndCall event value) = 28
identifier (TaskTerminate task) = 29
identifier (Opaque id payload) = id

-- what a payload is made of: numbers, texts, and the bytes of a payload that is not read further
pub data Field : Type 0 where
  Number : (value : ℕ) → Field
  Text : (text : List ℕ) → Field
  Raw : (bytes : List ℕ) → Field

-- the fields of a print: the text, the options, how many arguments there are, and the arguments
abbrev pub print_fields : List ℕ → ℕ → List ℕ → List Field
print_fields text options args = Text text ∷ Number options ∷ Number (length args) ∷ map Number args

-- the fields of an event's payload, in their order
abbrev pub fields : Event → List Field
fields Nop = []
fields (Overflow count) = Number count ∷ []
fields (IsrEnter isr) = Number isr ∷ []
fields IsrExit = []
fields (TaskStart task) = Number task ∷ []
fields TaskStop = []
fields (TaskReady task) = Number task ∷ []
fields (TaskUnready task cause) = Number task ∷ Number cause ∷ []
fields (TaskCreate task) = Number task ∷ []
fields (TaskInfo task priority name) = Number task ∷ Number priority ∷ Text name ∷ []
fields TraceStart = []
fields TraceStop = []
fields (SystimeCycles value) = Number value ∷ []
fields (SystimeUs low high) = Number low ∷ Number high ∷ []
fields (SysDesc text) = Text text ∷ []
fields (MarkStart id) = Number id ∷ []
fields (MarkStop id) = Number id ∷ []
fields Idle = []
fields ToScheduler = []
fields (TimerEnter timer) = Number timer ∷ []
fields TimerExit = []
fields (StackInfo task stack_base stack_size extra) =
    Number task ∷ Number stack_base ∷ Number stack_size ∷ Number extra ∷ []
fields (ModuleDesc number offset text) = Number number ∷ Number offset ∷ Text text ∷ []
fields (Init sys_freq cpu_freq ram_base shift) =
    Number sys_freq ∷ Number cpu_freq ∷ Number ram_base ∷ Number shift ∷ []
fields (NameResource resource text) = Number resource ∷ Text text ∷ []
fields (Print text options args) = print_fields text options args
fields (NumModules count) = Number count ∷ []
fields (EndCall event None) = Number event ∷ []
fields (EndCall event (Some value)) = Number event ∷ Number value ∷ []
fields (TaskTerminate task) = Number task ∷ []
fields (Opaque id payload) = Raw payload ∷ []
