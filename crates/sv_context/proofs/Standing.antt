-- What the state has to become for one more event.
use Rattle.std.proofs.Common.{◌≡◌, ℕ, suc, ◌+◌, ◌-◌, ◌<◌, ◌≤◌, ◌^◌, List, [], ◌∷◌, ◌++◌, length}
use Rattle.std.proofs.Common.{take, refl, sym, ap, ◌∙◌, arith}
use Rattle.std.specs.Prelude.{true, false, Option, Some, None, is_none, is_some, MatchOption}
use Rattle.std.specs.Prelude.{slice_get}
use Rattle.std.specs.List.{last_or}
use Rattle.std.proofs.lemmas.List.Sums.{count_by-le-length}
use Rattle.sv_packet.specs.declared.event.Event.{Event}
use Rattle.sv_packet.specs.Lists.{last_of}
use Rattle.sv_packet.specs.Time.{with_before, with_before_from}
use Rattle.sv_packet.specs.Events.{is_break}
use Rattle.sv_context.specs.declared.context.Context.{Context}
use Rattle.sv_context.specs.Role.{Role, base, enter, exit, nothing, role_of, is_exit}
use Rattle.sv_context.specs.Context.{segment_of, open_frames, is_anomaly, anomalies}
use Rattle.sv_context.specs.State.{State, StandsFor, HasRoom}
use Rattle.sv_context.proofs.Frames.{frames-nothing, frames-enter, frames-base, frames-exit}
use Rattle.sv_context.proofs.Frames.{without_last}
use Rattle.sv_context.proofs.Steps.{segment-more, base_in, base-new, base-stays, anomalies-more}

-- the event goes on with the segment
goes_on : (events : List Event) (event : Event) (role : Role) → is_break event ≡ false
    → role_of event ≡ role → segment_of (events ++ event ∷ []) ≡ segment_of events ++ role ∷ []
goes_on events event role test is = segment-more events event ∙ rw (test, is) refl

-- no anomaly but at an exit
no_anomaly : (events : List Event) (event : Event) (role : Role) → role_of event ≡ role
    → is_exit role ≡ false → anomalies (events ++ event ∷ []) ≡ anomalies events
no_anomaly events event role is plain =
    let none : is_anomaly events event ≡ false = rw (is, plain) refl in
    anomalies-more events event ∙ rw none (omega arith)

pub stands-break : (old new : State) (events : List Event) (event : Event) → is_break event ≡ true
    → role_of event ≡ nothing → StandsFor old events
    → new.base ≡ None → new.frames ≡ [] → new.anomalies ≡ old.anomalies
    → StandsFor new (events ++ event ∷ [])
stands-break old new events event test is s base_ frames count =
    let empty : segment_of (events ++ event ∷ []) ≡ [] = segment-more events event ∙ rw test refl in
    record {
      base_is = base_ ∙ ap base_in (sym empty);
      frames_are = frames ∙ ap open_frames (sym empty);
      anomalies_are = count ∙ s.anomalies_are ∙ sym (no_anomaly events event nothing is refl);
    }

pub stands-base : (old new : State) (events : List Event) (event : Event) (context : Context)
    → is_break event ≡ false → role_of event ≡ base context → StandsFor old events
    → new.base ≡ Some context → new.frames ≡ [] → new.anomalies ≡ old.anomalies
    → StandsFor new (events ++ event ∷ [])
stands-base old new events event context test is s base_ frames count =
    let on = goes_on events event (base context) test is in
    record {
      base_is = base_ ∙ sym (ap base_in on ∙ base-new (segment_of events) context);
      frames_are = frames ∙ sym (ap open_frames on ∙ frames-base (segment_of events) context);
      anomalies_are = count ∙ s.anomalies_are ∙ sym (no_anomaly events event (base context) is
          refl);
    }

pub stands-enter : (old new : State) (events : List Event) (event : Event) (context : Context)
    → is_break event ≡ false → role_of event ≡ enter context → StandsFor old events
    → new.base ≡ old.base → new.frames ≡ old.frames ++ context ∷ [] → new.anomalies ≡ old.anomalies
    → StandsFor new (events ++ event ∷ [])
stands-enter old new events event context test is s base_ frames count =
    let on = goes_on events event (enter context) test is in
    record {
      base_is = base_ ∙ s.base_is ∙ sym (ap base_in on ∙ base-stays (segment_of events) (enter
          context) refl);
      frames_are = frames ∙ ap (λ fs. fs ++ context ∷ []) s.frames_are ∙ sym (ap open_frames on
          ∙ frames-enter (segment_of events) context);
      anomalies_are = count ∙ s.anomalies_are ∙ sym (no_anomaly events event (enter context) is
          refl);
    }

pub stands-nothing : (old : State) (events : List Event) (event : Event) → is_break event ≡ false
    → role_of event ≡ nothing → StandsFor old events → StandsFor old (events ++ event ∷ [])
stands-nothing old events event test is s =
    let on = goes_on events event nothing test is in
    record {
      base_is = s.base_is ∙ sym (ap base_in on ∙ base-stays (segment_of events) nothing refl);
      frames_are = s.frames_are ∙ sym (ap open_frames on ∙ frames-nothing (segment_of events));
      anomalies_are = s.anomalies_are ∙ sym (no_anomaly events event nothing is refl);
    }

last_some : (x : Context) (xs : List Context) → is_none (last_or (Some x) xs) ≡ false
last_some x [] = refl
last_some x (y ∷ xs) = last_some y xs

some_last : (xs : List Context) → 0 < length xs → is_none (last_of xs) ≡ false
some_last [] some = absurd (omega arith)
some_last (x ∷ xs) some = last_some x xs

-- an exit with a frame open
pub stands-exit : (old new : State) (events : List Event) (event : Event) → is_break event ≡ false
    → role_of event ≡ exit → StandsFor old events
    → 0 < length old.frames → new.base ≡ old.base → new.frames ≡ take (length old.frames - 1)
    old.frames → new.anomalies ≡ old.anomalies → StandsFor new (events ++ event ∷ [])
stands-exit old new events event test is s some base_ frames count =
    let on = goes_on events event exit test is in
    let open_ : is_none (last_of (open_frames (segment_of events))) ≡ false =
    some_last (open_frames (segment_of events)) (omega (arith, ap length s.frames_are)) in
    let none : is_anomaly events event ≡ false = rw (is, open_) refl in
    record {
      base_is = base_ ∙ s.base_is ∙ sym (ap base_in on ∙ base-stays (segment_of events) exit refl);
      frames_are = frames ∙ ap without_last s.frames_are ∙ sym (ap open_frames on
          ∙ frames-exit (segment_of events));
      anomalies_are = count ∙ s.anomalies_are ∙ sym (anomalies-more events event
          ∙ rw none (omega arith));
    }

-- an exit with none
pub stands-anomaly : (old new : State) (events : List Event) (event : Event)
    → is_break event ≡ false → role_of event ≡ exit → StandsFor old events
    → old.frames ≡ [] → new.base ≡ old.base → new.frames ≡ [] → new.anomalies ≡ old.anomalies + 1
    → StandsFor new (events ++ event ∷ [])
stands-anomaly old new events event test is s empty base_ frames count =
    let on = goes_on events event exit test is in
    let none : open_frames (segment_of events) ≡ [] = sym s.frames_are ∙ empty in
    let wrong : is_anomaly events event ≡ true = rw (is, none) refl in
    record {
      base_is = base_ ∙ s.base_is ∙ sym (ap base_in on ∙ base-stays (segment_of events) exit refl);
      frames_are = frames ∙ sym (ap open_frames on ∙ frames-exit (segment_of events)
          ∙ ap without_last none);
      anomalies_are = count ∙ ap (λ (n : ℕ). n + 1) s.anomalies_are
          ∙ sym (anomalies-more events event ∙ rw wrong refl);
    }

length-with_before_from : {A : Type 0} (before xs : List A) → length (with_before_from before xs)
    ≡ length xs
length-with_before_from before [] = refl
length-with_before_from before (x ∷ xs) = let more = length-with_before_from (before ++ x ∷ []) xs
    in omega (arith, more)

-- there are at most as many anomalies as events
pub few_anomalies : (events : List Event) → anomalies events ≤ length events
few_anomalies events = omega (
  arith,
  count_by-le-length (λ at. is_anomaly at.0 at.1) (with_before
      events),
  length-with_before_from [] events,
)

pub few_in : (state : State) → HasRoom state → state.anomalies < 2 ^ 40
few_in state (events, s, few) = omega (arith, s.anomalies_are, few_anomalies events, few)

no_items : (xs : List Context) → length xs ≡ 0 → xs ≡ []
no_items [] e = refl
no_items (x ∷ xs) e = absurd (omega arith)

-- after a pop that gave nothing there was and is nothing; m and n are the lengths
pub none_left : (result : Option Context) (old new : List Context) (m n : ℕ) → length old ≡ m
    → length new ≡ n → is_some result ≡ false → MatchOption result ((m ≡ 0) × (n ≡ 0)) (λ _. n + 1
    ≡ m) → (old ≡ []) × (new ≡ [])
none_left None old new m n is_m is_n none cases = (
  no_items old (is_m ∙ cases.0),
  no_items new (is_n
      ∙ cases.1),
)
none_left (Some x) old new m n is_m is_n none cases = absurd cc

pub some_left : (result : Option Context) (m n : ℕ) → is_some result ≡ true
    → MatchOption result ((m ≡ 0) × (n ≡ 0)) (λ _. n + 1 ≡ m) → 0 < m
some_left None m n some cases = absurd cc
some_left (Some x) m n some cases = omega arith

-- the last of some frames
pub last_is : (frames : List Context) (other : Option Context) (x : Context)
    → slice_get frames (length frames - 1) ≡ Some x → last_or other frames ≡ Some x
last_is [] other x e = absurd cc
last_is (a ∷ []) other x e = e
last_is (a ∷ b ∷ frames) other x e =
    let at : length (a ∷ b ∷ frames) - 1 ≡ suc (length (b ∷ frames) - 1) = omega arith in
    last_is (b ∷ frames) (Some a) x (sym (ap (λ (n : ℕ). slice_get (a ∷ b ∷ frames) n) at) ∙ e)
