-- What an item tells, beside the event that a call makes.
use Rattle.std.proofs.Common.{◌≡◌, ℕ, Bool, true, false, ◌||◌, cond, Option, Some, None, refl, sym}
use Rattle.std.proofs.Common.{ap, ◌∙◌, rules}
use Rattle.std.specs.Prelude.{◌%◌, ◌/◌, ◌^◌, slice_get, option_and_then}
use Rattle.std.specs.Option.{option_map_or}
use Rattle.sv_packet.specs.declared.event.Event.{Event}
use Rattle.sv_packet.specs.declared.event.Event.TheVariants as events
use Rattle.sv_packet.specs.Events.{is_break}
use Rattle.sv_load.specs.declared.load.Act.{Act}
use Rattle.sv_load.specs.declared.load.Act.TheVariants as acts
use Rattle.sv_load.specs.declared.load.Task.{Task}
use Rattle.sv_load.specs.Load.{Load, act_of, period}
use Rattle.sv_load.specs.Need.{is_start_act, is_stop_act, IsWithinLimits}
use Rattle.sv_desc.specs.Modules.{ModuleRow}
use Rattle.sv_desc.specs.Says.{micros_at}
use Rattle.sv_journal.specs.declared.journal.Kind.{Kind}
use Rattle.sv_journal.specs.declared.journal.Kind.TheVariants as kinds
use Rattle.sv_journal.specs.declared.journal.Origin.{Origin}
use Rattle.sv_journal.specs.declared.journal.Origin.TheVariants.{Call, Sync, Reply, Overflow}
use Rattle.sv_journal.specs.declared.journal.Origin.TheVariants.{Command}
use Rattle.sv_journal.specs.declared.journal.Outcome.TheVariants.{Refused}
use Rattle.sv_journal.specs.declared.journal.Item.{Item}
use Rattle.sv_journal.specs.Items.{is_overflow, is_stop_reply, holds_packet, is_packet, act_event}
use Rattle.sv_journal.specs.Items.{event_at, reply_event, system_time, task_info, stack_info}
use Rattle.sv_journal.specs.Items.{module_desc}
use Rattle.sv_journal.specs.Legal.{is_control}
use Rattle.sv_sent.proofs.Shared.{act_spoken, clash}
use Rattle.sv_truth.specs.Truth.{call_event, recorded_by}
use Rattle.sv_truth.proofs.Agreeing.{IsIdle}

-- no step records a break: an overflow, or that recording begins or ends
abbrev pub HasNoBreaks : Load → Type 0
HasNoBreaks load =
    (origin : Origin) (event : Event) → call_event load origin ≡ Some event →
    is_break event ≡ false

-- a call's event, a break, or what neither contexts nor classes tell apart
pub data Telling (told : Option Event) (event : Event) (overflow : Bool) : Type 0 where
  making : told ≡ Some event → overflow ≡ false → Telling told event overflow
  breaking : told ≡ None → is_break event ≡ true → Telling told event overflow
  idling : told ≡ None → IsIdle event → overflow ≡ false → Telling told event overflow

pub idle_nop : IsIdle events.Nop
idle_nop = record { goes_on = refl; no_role = refl; no_task = refl }

telling-act : (act : Option Act) →
    Telling (option_and_then recorded_by act) (option_map_or act_event act events.Nop) false
telling-act None = idling refl idle_nop refl
telling-act (Some (acts.Event event)) = making refl refl
telling-act (Some acts.Start) = idling refl idle_nop refl
telling-act (Some acts.Stop) = idling refl idle_nop refl

idle_time : (load : Load) (moment : ℕ) → IsIdle (system_time load moment)
idle_time load moment =
    elim load.timed as
    (λ b. IsIdle
    (cond b (events.SystimeUs (micros_at load.clock moment % 2 ^ 32)
    (micros_at load.clock moment / 2 ^ 32))
    (events.SystimeCycles (moment % period load)))) [
      | true ↦ record { goes_on = refl; no_role = refl; no_task = refl }
      | false ↦ record { goes_on = refl; no_role = refl; no_task = refl }
    ]

idle_task : (load : Load) (task : Option Task) →
    IsIdle (option_map_or (task_info load) task events.Nop)
idle_task load None = idle_nop
idle_task load (Some task) = record { goes_on = refl; no_role = refl; no_task = refl }

idle_stack : (load : Load) (task : Option Task) →
    IsIdle (option_map_or (stack_info load) task events.Nop)
idle_stack load None = idle_nop
idle_stack load (Some task) = record { goes_on = refl; no_role = refl; no_task = refl }

idle_module : (load : Load) (index : ℕ) (row : Option ModuleRow) →
    IsIdle (option_map_or (module_desc load index) row events.Nop)
idle_module load index None = idle_nop
idle_module load index (Some row) = record { goes_on = refl; no_role = refl; no_task = refl }

telling-reply : (load : Load) (moment : ℕ) (kind : Kind) (index : ℕ) →
    Telling None (reply_event load moment kind index) false
telling-reply load moment kinds.TraceStart index = breaking refl refl
telling-reply load moment kinds.Init index =
    idling refl (record { goes_on = refl; no_role = refl; no_task = refl }) refl
telling-reply load moment kinds.Line index =
    idling refl (record { goes_on = refl; no_role = refl; no_task = refl }) refl
telling-reply load moment kinds.Systime index = idling refl (idle_time load moment) refl
telling-reply load moment kinds.Task index =
    idling refl (idle_task load (slice_get load.tasks index)) refl
telling-reply load moment kinds.Stack index =
    idling refl (idle_stack load (slice_get load.tasks index)) refl
telling-reply load moment kinds.ModuleCount index =
    idling refl (record { goes_on = refl; no_role = refl; no_task = refl }) refl
telling-reply load moment kinds.Module index =
    idling refl (idle_module load index (slice_get load.modules index)) refl
telling-reply load moment kinds.TraceStop index = breaking refl refl

pub telling : (load : Load) (moment : ℕ) (origin : Origin) →
    Telling (call_event load origin) (event_at load moment origin) (is_overflow origin)
telling load moment (Call writer step) = telling-act (act_of load writer step)
telling load moment Sync = idling refl idle_nop refl
telling load moment (Reply kind index) = telling-reply load moment kind index
telling load moment (Overflow count) = breaking refl refl
telling load moment (Command byte param) = idling refl idle_nop refl

-- the end of a recording is a break
pub stop_breaks : (load : Load) (moment : ℕ) (origin : Origin) → is_stop_reply origin ≡ true →
    is_break (event_at load moment origin) ≡ true
stop_breaks = search rules

-- a start or a stop makes no event
pub call_not_control : (load : Load) (origin : Origin) (event : Event) →
    call_event load origin ≡ Some event → is_control load origin ≡ false
call_not_control load (Call writer step) event is = by (act_of load writer step) is
  where
    by : (act : Option Act) → option_and_then recorded_by act ≡ Some event →
        ((option_map_or is_start_act act false || option_map_or is_stop_act act false) || false) ≡
        false
    by None e = absurd cc
    by (Some (acts.Event other)) e = refl
    by (Some acts.Start) e = absurd cc
    by (Some acts.Stop) e = absurd cc
call_not_control load Sync event is = absurd cc
call_not_control load (Reply kind index) event is = absurd cc
call_not_control load (Overflow count) event is = absurd cc
call_not_control load (Command byte param) event is = absurd cc

-- of what was refused only syncs and overflows are no packets, and they make no event
pub no_packet_no_call : (load : Load) (item : Item) → item.outcome ≡ Refused →
    is_packet item ≡ false → call_event load item.origin ≡ None
no_packet_no_call load item refused none =
    by item.origin (sym (ap (holds_packet item.origin) refused) ∙ none)
  where
    by : (origin : Origin) → holds_packet origin Refused ≡ false → call_event load origin ≡ None
    by (Call writer step) e = absurd cc
    by Sync e = refl
    by (Reply kind index) e = refl
    by (Overflow count) e = refl
    by (Command byte param) e = refl

pub control_no_call : (load : Load) (origin : Origin) → is_control load origin ≡ true →
    call_event load origin ≡ None
control_no_call load origin control =
    elim (call_event load origin) as
    (λ o. call_event load origin ≡ o → call_event load origin ≡ None) [
      | None ↦ λ e. e
      | Some event ↦
          λ e. absurd
          (clash (is_control load origin) control (call_not_control load origin event e))
    ] refl

pub overflow_breaks : (load : Load) (moment : ℕ) (origin : Origin) → is_overflow origin ≡ true →
    is_break (event_at load moment origin) ≡ true
overflow_breaks = search rules

pub no_breaks : (load : Load) → IsWithinLimits load → HasNoBreaks load
no_breaks load s (Call writer step) event is = by (act_of load writer step) refl is
  where
    by : (o : Option Act) → act_of load writer step ≡ o →
        option_and_then recorded_by o ≡ Some event → is_break event ≡ false
    by None at e = absurd cc
    by (Some acts.Start) at e = absurd cc
    by (Some acts.Stop) at e = absurd cc
    by (Some (acts.Event other)) at e = let same : other ≡ event = cc in
        ap is_break (sym same) ∙ (act_spoken load writer step other s at).3
no_breaks load s Sync event is = absurd cc
no_breaks load s (Reply kind index) event is = absurd cc
no_breaks load s (Overflow count) event is = absurd cc
no_breaks load s (Command byte param) event is = absurd cc

pub call_no_overflow : (load : Load) (origin : Origin) (event : Event) →
    call_event load origin ≡ Some event → is_overflow origin ≡ false
call_no_overflow = search rules
