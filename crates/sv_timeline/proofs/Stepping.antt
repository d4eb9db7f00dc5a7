-- A timeline's state, when one more event comes.
use Rattle.std.proofs.Common.{◌≡◌, ℕ, ◌+◌, ◌-◌, ◌*◌, ◌≤◌, List, [], ◌∷◌, ◌++◌, map, refl, sym, ap}
use Rattle.std.proofs.Common.{subst, ◌∙◌, arith}
use Rattle.std.specs.Prelude.{Bool, true, false, cond, ◌&&◌, nat_le, nat_lt, replicate}
use Rattle.std.specs.Prelude.{if◌then◌else◌}
use Rattle.std.specs.Option.{option_map_or}
use Rattle.std.specs.List.{list_all}
use Rattle.std.proofs.lemmas.Bool.Decides.{nat_tests}
use Rattle.std.proofs.lemmas.List.{map-append}
use Rattle.std.proofs.lemmas.List.Folds.{list_all-append}
use Rattle.sv_packet.specs.declared.event.Event.{Event}
use Rattle.sv_packet.specs.declared.event.TimedEvent.{TimedEvent}
use Rattle.sv_packet.proofs.Shared.{last_of-more, last_time-more}
use Rattle.sv_context.specs.declared.context.Context.{Context}
use Rattle.sv_context.specs.declared.context.Context.TheVariants.{Gap}
use Rattle.sv_context.specs.Context.{context_after}
use Rattle.sv_context.specs.Order.{is_same_context}
use Rattle.sv_context.specs.State.{State as ContextsState, StandsFor as ContextsStandFor}
use Rattle.sv_timeline.specs.declared.span.Span.{Span}
use Rattle.sv_packet.specs.Events.{last_time}
use Rattle.sv_timeline.specs.Ticks.{is_gap_from, is_gap_to, ticks_of}
use Rattle.sv_timeline.specs.Timeline.{IsTimeline}
use Rattle.sv_timeline.specs.Totals.{total_in}
use Rattle.sv_timeline.specs.State.{State, StandsFor, context_after_all, moves, ends_run, ended_by}
use Rattle.sv_timeline.specs.State.{next_context, tail_list, GoesOn, IsSound, IsSame}
use Rattle.sv_timeline.proofs.Growing.{AreUpTo, up_to_more}
use Rattle.sv_timeline.proofs.Same.{same_is}
use Rattle.sv_timeline.proofs.Loads.{load_arith}
use Rattle.sv_timeline.proofs.Standing.{next_of, ticks_step, timeline_step, tail_from, load_by}
use Rattle.sv_timeline.proofs.Standing.{not_later}

abbrev pub events_of : List TimedEvent → List Event
events_of events = map (λ e. e.event) events

pub events_more : (events : List TimedEvent) (event : TimedEvent) → events_of (events ++ event ∷ [])
    ≡ events_of events ++ event.event ∷ []
events_more events event = map-append (λ e. e.event) events (event ∷ [])

pub rising_more : (events : List TimedEvent) (event : TimedEvent) → AreUpTo (last_time events) events
    → last_time events ≤ event.time → AreUpTo (last_time (events ++ event ∷ [])) (events ++ event ∷
    [])
rising_more events event up le =
    let last : last_time (events ++ event ∷ []) ≡ event.time = last_time-more events event in
    let old : list_all (λ e. nat_le e.time event.time) events ≡ true = up_to_more (last_time events)
    event.time events le up in
    let self : nat_le event.time event.time ≡ true = grind (arith, nat_tests) in
    subst (λ (n : ℕ). AreUpTo n (events ++ event ∷ [])) (sym last) (list_all-append (λ e. nat_le
    e.time event.time) events (event ∷ []) ∙ rw (old, self) refl)

behind_more : (events : List TimedEvent) (event : TimedEvent)
    → context_after_all (events ++ event ∷ []) ≡ (if is_gap_from event.event then Gap
    else context_after (events_of (events ++ event ∷ [])))
behind_more events event = ap (λ o. option_map_or (λ (last : TimedEvent). if is_gap_from last.event
    then Gap else context_after (events_of (events ++ event ∷ []))) o Gap) (last_of-more events
    event)

-- the contexts of a state with these frames, at the same context
alike : (context run next : Context) → is_same_context run next ≡ true → is_same_context context run
    ≡ is_same_context context next
alike context run next same = ap (is_same_context context) (same_is run next same)

choose : (b : Bool) (context run next : Context) → is_same_context context (if b then next else run)
    ≡ (if b then is_same_context context next else is_same_context context run)
choose true context run next = refl
choose false context run next = refl

pub stands_step : (old new : State) (events : List TimedEvent) (given : List Span) (event :
    TimedEvent)
    → StandsFor old events given → old.start ≤ old.last → old.last ≤ event.time
    → ContextsStandFor new.contexts (events_of events ++ event.event ∷ [])
    → new.last ≡ event.time
    → new.start ≡ (if moves old event then old.last else old.start)
    → new.context ≡ (if moves old event then next_context old event.event else old.context)
    → new.ahead ≡ (if is_gap_from event.event then Gap else context_after (events_of events ++
    event.event ∷ []))
    → ((context : Context) → total_in new.totals context ≡ total_in old.totals context +
    (if ends_run old event && is_same_context context old.context then old.last - old.start
    else 0))
    → StandsFor new (events ++ event ∷ []) (given ++ ended_by old event)
stands_step old new events given event s within le contexts last start run ahead totals =
    let more : events_of (events ++ event ∷ []) ≡ events_of events ++ event.event ∷ [] =
    events_more events event in
    let time : last_time (events ++ event ∷ []) ≡ event.time = last_time-more events event in
    let order : last_time events ≤ event.time = omega (arith, s.last) in
    let next : next_context old event.event ≡ next_of events event =
    ap (λ (c : Context). if is_gap_to event.event then Gap else c) s.ahead in
    let ticks : ticks_of (events ++ event ∷ []) ≡ ticks_of events ++ replicate (event.time -
    old.last) (next_context old event.event)
    = ticks_step events event s.rising order ∙ ap (λ (n : ℕ). ticks_of events ++ replicate
    (event.time - n) (next_of events event)) (sym s.last) ∙ ap (λ (c : Context). ticks_of events
    ++ replicate (event.time - old.last) c) (sym next) in
    let begins : ℕ = if moves old event then old.last else old.start in
    let context_ : Context = if moves old event then next_context old event.event else old.context
    in
    let tails : tail_from begins event.time context_ ≡ tail_list new =
    ap (λ (n : ℕ). tail_from begins n context_) (sym last) ∙ ap (λ (n : ℕ). tail_from n new.last
    context_) (sym start) ∙ ap (λ (c : Context). tail_from new.start new.last c) (sym run) in
    record {
      contexts = subst (ContextsStandFor new.contexts) (sym more) contexts;
      last = last ∙ sym time;
      rising = rising_more events event s.rising order;
      ahead = ahead ∙ ap (λ es. if is_gap_from event.event then Gap else context_after es)
          (sym more) ∙ sym (behind_more events event);
      timeline = subst (λ (tail : List Span). IsTimeline (events ++ event ∷ []) ((given ++ ended_by
          old event) ++ tail)) tails
          (timeline_step events (events ++ event ∷ []) given old.start old.last event.time
          old.context (next_context old event.event) within le (sym s.last) time ticks
          s.timeline);
      loads = λ context.
          let sr : Bool = is_same_context context old.context in
          let sn : Bool = is_same_context context (next_context old event.event) in
          ap (λ (b : Bool). total_in new.totals context + (if b then new.last - new.start else 0))
          (ap (is_same_context context) run ∙ choose (moves old event) context old.context
          (next_context old event.event))
          ∙ ap (λ (n : ℕ). total_in new.totals context + (if (if moves old event then sn else sr)
          then n - new.start else 0)) last
          ∙ ap (λ (n : ℕ). total_in new.totals context + (if (if moves old event then sn else sr)
          then event.time - n else 0)) start
          ∙ load_arith (nat_lt old.last event.time) (is_same_context old.context (next_context old
          event.event)) (nat_lt old.start old.last) sr sn (total_in old.totals context)
          (total_in new.totals context) old.start old.last event.time
          (alike context old.context (next_context old event.event)) (not_later old.last event.time)
          (not_later old.start old.last) within le (totals context)
          ∙ ap (λ (n : ℕ). n + (event.time - old.last) * cond sn 1 0) (s.loads context)
          ∙ sym (load_by context events (events ++ event ∷ []) (event.time - old.last) (next_context
          old event.event) ticks);
    }

no_more : (ends b : Bool) (total n : ℕ) → ends ≡ false
    → total ≡ total + (if ends && b then n else 0)
no_more true b total n e = absurd cc
no_more false b total n e = omega arith

-- the event ends no run
pub stands_plain : (old : State) (k : ContextsState) (new : State) (events : List TimedEvent)
    (given : List Span) (event : TimedEvent)
    → StandsFor old events given → old.start ≤ old.last → old.last ≤ event.time
    → ends_run old event ≡ false
    → ContextsStandFor k (events_of events ++ event.event ∷ [])
    → GoesOn (record old { contexts = k }) new event
    → ((es : List Event) → ContextsStandFor k es → new.ahead ≡ (if is_gap_from event.event then Gap
    else context_after es))
    → StandsFor new (events ++ event ∷ []) (given ++ ended_by old event)
stands_plain old k new events given event s within le ends contexts on ahead =
    stands_step old new events given event s within le (subst (λ (c : ContextsState).
    ContextsStandFor c (events_of events ++ event.event ∷ [])) (sym on.contexts) contexts)
    on.last on.start on.context (ahead (events_of events ++ event.event ∷ []) contexts)
    (λ context. ap (λ (ts : List (Context × ℕ)). total_in ts context) on.totals
    ∙ no_more (ends_run old event) (is_same_context context old.context) (total_in old.totals
    context) (old.last - old.start) ends)

more_of : (ends b : Bool) (had total n : ℕ) → ends ≡ true → (b ≡ true → had ≡ total)
    → (if b then had + n else total) ≡ total + (if ends && b then n else 0)
more_of false b had total n e same = absurd cc
more_of true true had total n e same = ap (λ (m : ℕ). m + n) (same refl)
more_of true false had total n e same = omega arith

moves_of : (m b : Bool) → (m && b) ≡ true → m ≡ true
moves_of true b e = refl
moves_of false b e = absurd cc

pick_last : (m : Bool) (last start : ℕ) → m ≡ true → (if m then last else last) ≡ (if m then last
    else start)
pick_last true last start e = refl
pick_last false last start e = absurd cc

-- the event ends the run, which is counted
pub stands_ended : (old : State) (k : ContextsState) (mid ts : List (Context × ℕ)) (new : State)
    (events : List TimedEvent) (given : List Span) (event : TimedEvent)
    → StandsFor old events given → old.start ≤ old.last → old.last ≤ event.time
    → ends_run old event ≡ true
    → ContextsStandFor k (events_of events ++ event.event ∷ [])
    → ((c : Context) → total_in mid c ≡ total_in old.totals c)
    → ((c : Context) → total_in ts c ≡ (if is_same_context c old.context then total_in old.totals
    old.context + (old.last - old.start) else total_in mid c))
    → GoesOn (record {
      contexts = k;
      totals = ts;
      last = old.last;
      start = old.last;
      context =
          old.context;
      ahead = old.ahead;
    }) new event
    → ((es : List Event) → ContextsStandFor k es → new.ahead ≡ (if is_gap_from event.event then Gap
    else context_after es))
    → StandsFor new (events ++ event ∷ []) (given ++ ended_by old event)
stands_ended old k mid ts new events given event s within le ends contexts same added on ahead =
    stands_step old new events given event s within le (subst (λ (c : ContextsState).
    ContextsStandFor c (events_of events ++ event.event ∷ [])) (sym on.contexts) contexts)
    on.last (on.start ∙ pick_last (moves old event) old.last old.start (moves_of (moves old event)
    (nat_lt old.start old.last) ends)) on.context (ahead (events_of events ++ event.event ∷ [])
    contexts)
    (λ context. ap (λ (t : List (Context × ℕ)). total_in t context) on.totals ∙ added context
    ∙ ap (λ (n : ℕ). if is_same_context context old.context then total_in old.totals old.context +
    (old.last - old.start) else n) (same context)
    ∙ more_of (ends_run old event) (is_same_context context old.context) (total_in old.totals
    old.context) (total_in old.totals context) (old.last - old.start) ends
    (λ e. ap (total_in old.totals) (sym (same_is context old.context e))))

chosen_within : (b : Bool) (had n total start last : ℕ) → had ≤ start → total ≤ start → start ≤ last
    → n ≡ last - start → (if b then had + n else total) ≤ last
chosen_within true had n total start last few less within is = omega arith
chosen_within false had n total start last few less within is = omega arith

-- the totals of ended runs are sound again
pub sound_ended : (totals mid ts : List (Context × ℕ)) (run : Context) (start last : ℕ)
    → IsSound totals start last
    → ((c : Context) → total_in mid c ≡ total_in totals c)
    → ((c : Context) → total_in ts c ≡ (if is_same_context c run then total_in totals run + (last -
    start) else total_in mid c))
    → IsSound ts last last
sound_ended totals mid ts run start last sound same added = record {
  within = omega arith;
  few = λ c. subst (λ (n : ℕ). n ≤ last) (sym (added c)) (chosen_within (is_same_context c run)
      (total_in totals run) (last - start) (total_in mid c) start last (sound.few run) (omega
      (arith, same c, sound.few c)) sound.within refl);
}

-- what has not changed stands for the same
pub same_stands : (old new : State) (events : List TimedEvent) (given : List Span) → IsSame old new
    → StandsFor old events given → StandsFor new events given
same_stands old new events given same s =
    let tails : tail_list old ≡ tail_list new = ap (λ (n : ℕ). tail_from old.start n old.context)
    (sym same.last) ∙ ap (λ (n : ℕ). tail_from n new.last old.context) (sym same.start)
    ∙ ap (λ (c : Context). tail_from new.start new.last c) (sym same.context) in
    record {
      contexts = subst (λ (k : ContextsState). ContextsStandFor k (events_of events))
          (sym same.contexts) s.contexts;
      last = same.last ∙ s.last;
      rising = s.rising;
      ahead = same.ahead ∙ s.ahead;
      timeline = subst (λ (tail : List Span). IsTimeline events (given ++ tail)) tails s.timeline;
      loads = λ context.
          ap (λ (n : ℕ). n + (if is_same_context context new.context then new.last - new.start
          else 0)) (same.totals context)
          ∙ ap (λ (c : Context). total_in old.totals context + (if is_same_context context c
          then new.last - new.start else 0)) same.context
          ∙ ap (λ (n : ℕ). total_in old.totals context + (if is_same_context context old.context
          then n - new.start else 0)) same.last
          ∙ ap (λ (n : ℕ). total_in old.totals context + (if is_same_context context old.context
          then old.last - n else 0)) same.start
          ∙ s.loads context;
    }
