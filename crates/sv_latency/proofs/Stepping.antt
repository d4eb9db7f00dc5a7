-- What a state stands for, when one more event comes.
use Rattle.std.proofs.Common.{◌≡◌, ◌≢◌, ℕ, ◌+◌, ◌<◌, List, [], ◌∷◌, ◌++◌, length, map, refl, sym}
use Rattle.std.proofs.Common.{ap, subst, ◌∙◌, arith, inl, inr}
use Rattle.std.specs.Prelude.{Bool, true, false, ◌==◌, nat_eq, nat_lt, insert, slice_get}
use Rattle.std.specs.Prelude.{filter_map, Option, Some, None, option_map}
use Rattle.std.specs.Option.{option_map_or}
use Rattle.std.specs.List.{list_any}
use Rattle.std.proofs.lemmas.Bool.Decides.{nat_tests}
use Rattle.std.proofs.lemmas.List.{length-append, append-nil}
use Rattle.std.proofs.lemmas.List.Elements.{filter_map-append}
use Rattle.sv_packet.specs.declared.event.TimedEvent.{TimedEvent}
use Rattle.sv_packet.specs.Lists.{insert_once, in_order}
use Rattle.sv_packet.specs.Events.{is_break, last_time}
use Rattle.sv_packet.proofs.Shared.{in_order-more, last_of-more}
use Rattle.sv_latency.specs.declared.class.Class.{Class}
use Rattle.sv_latency.specs.declared.class.TaskTimes.{TaskTimes}
use Rattle.sv_latency.specs.declared.seen.Seen.{Seen}
use Rattle.sv_latency.specs.declared.effect.Effect.TheVariants.{Nothing, Break, Start, Ready}
use Rattle.sv_latency.specs.Class.{task_of, started_task, is_about, last_about, class_from}
use Rattle.sv_latency.specs.Class.{class_of}
use Rattle.sv_latency.specs.Times.{is_start_of, classes_of, times_from, times_of, tasks_of}
use Rattle.sv_latency.specs.Times.{all_times}
use Rattle.sv_latency.specs.Effect.{IsEffect}
use Rattle.sv_latency.specs.State.{State, remembered, kept_since, IsAbsent, Holds, StandsFor, IsRising}
use Rattle.sv_latency.specs.State.{IsPlace, AreFit, counted, class_kept, placed, passed, cut, noted}
use Rattle.sv_latency.specs.State.{started, HasRow}
use Rattle.sv_latency.proofs.Growing.{last_about-break, last_about-kept, last_about-stays}
use Rattle.sv_latency.proofs.Growing.{classes-start, classes-other}
use Rattle.sv_latency.proofs.Rows.{missing, once_is, once_again, get_inserted, rising_inserted}
use Rattle.sv_latency.proofs.Rows.{place_within, within_at, present, any_inserted}
use Rattle.sv_latency.proofs.Holding.{IsAside, counted_more, rows_times, rows_inserted, rows_same}
use Rattle.sv_latency.proofs.Holding.{rows_set, rows_noted, rows_cut}

pub last_time-more : (events : List TimedEvent) (event : TimedEvent) →
    last_time (events ++ event ∷ []) ≡ event.time
last_time-more events event = ap (λ o. option_map_or (λ (e : TimedEvent). e.time) o 0)
    (last_of-more events event)

one_more : (events : List TimedEvent) (event : TimedEvent) (n : ℕ) → n ≡ length events →
    n + 1 ≡ length (events ++ event ∷ [])
one_more events event n is = omega (arith, is, length-append events (event ∷ []))

-- ---- which tasks an event is about

about_none : (n : ℕ) (event : TimedEvent) → task_of event.event ≡ None → is_about n event ≡ false
about_none n event none = ap (λ o. option_map_or (λ (other : ℕ). other == n) o false) none

start_none : (n : ℕ) (event : TimedEvent) → started_task event.event ≡ None →
    is_start_of n event ≡ false
start_none n event none = ap (λ o. option_map_or (λ (other : ℕ). other == n) o false) none

apart : (n task : ℕ) → n ≢ task → (task == n) ≡ false
apart n task differ = by (task == n) refl
  where
    by : (b : Bool) → (task == n) ≡ b → (task == n) ≡ false
    by false e = e
    by true e = let same : n ≡ task = grind (arith, nat_tests) in absurd (differ same)

itself : (n : ℕ) → (n == n) ≡ true
itself n = grind (arith, nat_tests)

about_other : (n task : ℕ) (event : TimedEvent) → task_of event.event ≡ Some task → n ≢ task →
    is_about n event ≡ false
about_other n task event is differ = ap (λ o. option_map_or (λ (other : ℕ). other == n) o false) is
    ∙ apart n task differ

about_it : (task : ℕ) (event : TimedEvent) → task_of event.event ≡ Some task →
    is_about task event ≡ true
about_it task event is = ap (λ o. option_map_or (λ (other : ℕ). other == task) o false) is
    ∙ itself task

start_other : (n task : ℕ) (event : TimedEvent) → started_task event.event ≡ Some task → n ≢ task →
    is_start_of n event ≡ false
start_other n task event is differ = ap (λ o. option_map_or (λ (other : ℕ). other == n) o false) is
    ∙ apart n task differ

start_it : (task : ℕ) (event : TimedEvent) → started_task event.event ≡ Some task →
    is_start_of task event ≡ true
start_it task event is = ap (λ o. option_map_or (λ (other : ℕ). other == task) o false) is
    ∙ itself task

aside_by : (n : ℕ) (events : List TimedEvent) (event : TimedEvent) → is_break event.event ≡ false →
    is_about n event ≡ false → is_start_of n event ≡ false → IsAside n events (events ++ event ∷ [])
aside_by n events event goes_on about starts =
    let same = classes-other n events event starts in
    record {
      times = ap (times_from n) same;
      classes = same;
      last =
          last_about-stays n events event goes_on about;
    }

absent_aside : (n : ℕ) (old new : List TimedEvent) → IsAside n old new → IsAbsent n old →
    IsAbsent n new
absent_aside n old new aside none =
    record { classes = aside.classes ∙ none.classes; last = aside.last ∙ none.last }

-- ---- the tasks

tasks_none : (events : List TimedEvent) (event : TimedEvent) → task_of event.event ≡ None →
    tasks_of (events ++ event ∷ []) ≡ tasks_of events
tasks_none events event none =
    let one : filter_map (λ (e : TimedEvent). task_of e.event) (event ∷ []) ≡ [] = rw none refl in
    ap (in_order nat_lt) (filter_map-append (λ (e : TimedEvent). task_of e.event) events
    (event ∷ []) ∙ ap (λ rest. filter_map (λ (e : TimedEvent). task_of e.event) events ++ rest)
    one ∙ append-nil (filter_map (λ (e : TimedEvent). task_of e.event) events))

tasks_some : (task : ℕ) (events : List TimedEvent) (event : TimedEvent) →
    task_of event.event ≡ Some task → tasks_of (events ++ event ∷ [])
    ≡ insert_once nat_lt task (tasks_of events)
tasks_some task events event is =
    let one : filter_map (λ (e : TimedEvent). task_of e.event) (event ∷ []) ≡ task ∷ [] =
    rw is refl in
    ap (in_order nat_lt) (filter_map-append (λ (e : TimedEvent). task_of e.event) events
    (event ∷ []) ∙ ap (λ rest. filter_map (λ (e : TimedEvent). task_of e.event) events ++ rest)
    one)
    ∙ in_order-more nat_lt (filter_map (λ (e : TimedEvent). task_of e.event) events) task

-- ---- steps

-- an event that is about no task
pub stands_passed : (state : State) (events : List TimedEvent) (event : TimedEvent) →
    IsEffect Nothing event.event → StandsFor state events →
    StandsFor (passed state event.time) (events ++ event ∷ [])
stands_passed state events event says s =
    let aside = λ (n : ℕ). aside_by n events event says.0 (about_none n event says.1)
    (start_none n event says.2) in
    record {
      holds = record {
        rows = rows_same state.segment events (events ++ event ∷ []) state.names state.times
            state.seen aside s.holds.rows;
        absent = λ n none. absent_aside n events (events ++ event ∷ []) (aside n)
            (s.holds.absent n none);
        applied = one_more events event state.applied s.holds.applied;
        last = sym (last_time-more events event);
      };
      names = s.names ∙ sym (tasks_none events event says.1);
    }

-- a break
pub stands_cut : (state : State) (events : List TimedEvent) (event : TimedEvent) →
    IsEffect Break event.event → AreFit state.segment state.applied state.last state.names
    state.times state.seen → StandsFor state events →
    StandsFor (cut state event.time) (events ++ event ∷ [])
stands_cut state events event says fit s =
    let same = λ (n : ℕ). classes-other n events event (start_none n event says.2) in
    let none = λ (n : ℕ). last_about-break n events event says.0 in
    record {
      holds = record {
        rows = rows_cut state.segment state.applied state.last events (events ++ event ∷ [])
            state.names state.times state.seen (λ n. ap (times_from n) (same n)) none fit
            s.holds.rows;
        absent = λ n missing_. record {
          classes = same n ∙ (s.holds.absent n missing_).classes;
          last = none n;
        };
        applied = one_more events event state.applied s.holds.applied;
        last = sym (last_time-more events event);
      };
      names = s.names ∙ sym (tasks_none events event says.1);
    }

-- with a row for the task
pub record IsReady (state : State) (events : List TimedEvent) (row task : ℕ) (names : List ℕ) : Type
    0 where
  pub holds : Holds state events
  pub at : slice_get state.names row ≡ Some task
  pub rising : IsRising state.names
  pub names_are : state.names ≡ insert_once nat_lt task names

holds_placed : (state : State) (events : List TimedEvent) (row task : ℕ) →
    IsPlace task state.names row → 0 < state.segment → Holds state events →
    Holds (placed state row task) events
holds_placed state events row task place begun holds = record {
  rows = rows_inserted state.segment task events state.names state.times state.seen row
      (place_within task state.names row place) begun
      (holds.absent task (missing task state.names row place)) holds.rows;
  absent = λ n none. holds.absent n
      (any_inserted n task state.names row (place_within task state.names row place) none);
  applied = holds.applied;
  last = holds.last;
}

pub ready_by : (old new : State) (events : List TimedEvent) (row task : ℕ) →
    HasRow old new row task → IsRising old.names → 0 < old.segment → Holds old events →
    IsReady new events row task old.names
ready_by old new events row task (inl (same, at)) rising begun holds =
    subst (λ (s : State). IsReady s events row task old.names) (sym same)
    (record {
      holds = holds;
      at = at;
      rising = rising;
      names_are =
          sym (once_again task old.names row rising at);
    })
ready_by old new events row task (inr (is, place)) rising begun holds =
    subst (λ (s : State). IsReady s events row task old.names) (sym is) (record {
      holds = holds_placed old events row task place begun holds;
      at = get_inserted task old.names row place;
      rising = rising_inserted task old.names row rising place;
      names_are = once_is task old.names row place;
    })

pub row_within : (old new : State) (row task : ℕ) → HasRow old new row task → row < length new.names
row_within old new row task (inl (same, at)) =
    subst (λ (s : State). row < length s.names) (sym same) (within_at old.names row task at)
row_within old new row task (inr (is, place)) =
    subst (λ (s : State). row < length s.names) (sym is)
    (within_at (insert old.names row task) row task (get_inserted task old.names row place))

-- the other tasks
differs : (n task : ℕ) (ns : List ℕ) (row : ℕ) → slice_get ns row ≡ Some task →
    list_any (nat_eq n) ns ≡ false → n ≢ task
differs n task ns row at none same =
    let here : list_any (nat_eq n) ns ≡ true = ap (λ (m : ℕ). list_any (nat_eq m) ns) same
    ∙ present task ns row at in
    absurd cc

holds_kept : (segment time : ℕ) (ready : Bool) →
    kept_since segment (record { segment = segment; time = time; is_ready = ready }) ≡ Some (time, ready)
holds_kept segment time ready = rw (itself segment) refl

pub stands_noted : (state : State) (events : List TimedEvent) (event : TimedEvent) (row task : ℕ)
    (is_ready : Bool) (names : List ℕ) → IsEffect (Ready task is_ready) event.event →
    names ≡ tasks_of events → IsReady state events row task names →
    StandsFor (noted state row event.time is_ready) (events ++ event ∷ [])
stands_noted state events event row task is_ready names says tasks r =
    let aside = λ (n : ℕ) (differ : n ≢ task). aside_by n events event says.0
    (about_other n task event says.1 differ) (start_none n event says.2) in
    let same : times_of task (events ++ event ∷ []) ≡ times_of task events =
    ap (times_from task) (classes-other task events event (start_none task event says.2)) in
    let last : last_about task (events ++ event ∷ []) ≡ Some event =
    last_about-kept task events event says.0 (about_it task event says.1) in
    let what : kept_since state.segment (record {
      segment = state.segment;
      time = event.time;
      is_ready =
          is_ready;
    }) ≡ remembered (last_about task (events ++ event ∷ []))
    = holds_kept state.segment event.time is_ready ∙ ap (λ (b : Bool). Some (event.time, b))
    (sym says.3) ∙ ap remembered (sym last) in
    record {
      holds = record {
        rows = rows_noted state.segment task events (events ++ event ∷ []) state.names state.times
            state.seen row _ aside r.rising r.at same what r.holds.rows;
        absent = λ n none. absent_aside n events (events ++ event ∷ [])
            (aside n (differs n task state.names row r.at none)) (r.holds.absent n none);
        applied = one_more events event state.applied r.holds.applied;
        last = sym (last_time-more events event);
      };
      names = r.names_are ∙ ap (insert_once nat_lt task) tasks
          ∙ sym (tasks_some task events event says.1);
    }

class_is : (last : Option TimedEvent) (time : ℕ) → class_from last time
    ≡ class_kept (remembered last) time
class_is None time = refl
class_is (Some last) time = refl

pub stands_started : (state : State) (events : List TimedEvent) (event : TimedEvent) (row task : ℕ)
    (names : List ℕ) (t : TaskTimes) (s : Seen) → IsEffect (Start task) event.event →
    names ≡ tasks_of events → IsReady state events row task names
    → t ≡ times_of task events → kept_since state.segment s ≡ remembered (last_about task events) →
    StandsFor (started state row event.time t s) (events ++ event ∷ [])
stands_started state events event row task names t s says tasks r time_is what_is =
    let aside = λ (n : ℕ) (differ : n ≢ task). aside_by n events event says.0
    (about_other n task event says.1 differ) (start_other n task event says.2 differ) in
    let class : Class = class_from (last_about task events) event.time in
    let classed : class_of events event ≡ Some class =
    ap (option_map (λ (other : ℕ). class_from (last_about other events) event.time)) says.2 in
    let more : times_of task (events ++ event ∷ []) ≡ counted (times_of task events) class =
    ap (times_from task) (classes-start task events event class (start_it task event says.2)
    classed) ∙ counted_more task (classes_of task events) class in
    let kept_class : class_kept (kept_since state.segment s) event.time ≡ class =
    ap (λ o. class_kept o event.time) what_is
    ∙ sym (class_is (last_about task events) event.time) in
    let times : counted t (class_kept (kept_since state.segment s) event.time)
    ≡ times_of task (events ++ event ∷ []) =
    ap (λ (x : TaskTimes). counted x (class_kept (kept_since state.segment s) event.time)) time_is
    ∙ ap (counted (times_of task events)) kept_class ∙ sym more in
    let last : last_about task (events ++ event ∷ []) ≡ Some event =
    last_about-kept task events event says.0 (about_it task event says.1) in
    let what : kept_since state.segment (record {
      segment = state.segment;
      time = event.time;
      is_ready =
          false;
    }) ≡ remembered (last_about task (events ++ event ∷ []))
    = holds_kept state.segment event.time false ∙ ap (λ (b : Bool). Some (event.time, b))
    (sym says.3) ∙ ap remembered (sym last) in
    record {
      holds = record {
        rows = rows_set state.segment task events (events ++ event ∷ []) state.names state.times
            state.seen row _ _ aside r.rising r.at times what r.holds.rows;
        absent = λ n none. absent_aside n events (events ++ event ∷ [])
            (aside n (differs n task state.names row r.at none)) (r.holds.absent n none);
        applied = one_more events event state.applied r.holds.applied;
        last = sym (last_time-more events event);
      };
      names = r.names_are ∙ ap (insert_once nat_lt task) tasks
          ∙ sym (tasks_some task events event says.1);
    }

-- the times are those of each task
pub times_are : (state : State) (events : List TimedEvent) → StandsFor state events →
    state.times ≡ all_times events
times_are state events s = rows_times state.segment events state.names state.times state.seen
    s.holds.rows ∙ ap (map (λ n. times_of n events)) s.names
