-- Two rows of events that grow together: what the first names since its last break, the second
-- names too.
use Rattle.std.proofs.Common.{◌≡◌, ◌≢◌, ℕ, suc, ◌+◌, ◌-◌, List, [], ◌∷◌, ◌++◌, length, map, refl}
use Rattle.std.proofs.Common.{sym, ap, ◌∙◌, append_assoc, append-nil, arith, ◌⊎◌, inl, inr}
use Rattle.std.specs.Prelude.{Bool, true, false, ◌==◌, Option, Some, None, unwrap_or, option_map}
use Rattle.std.specs.Option.{option_map_or}
use Rattle.std.specs.List.{last_or}
use Rattle.std.proofs.lemmas.List.{map-append}
use Rattle.sv_packet.specs.declared.event.Event.{Event}
use Rattle.sv_packet.specs.declared.event.TimedEvent.{TimedEvent}
use Rattle.sv_packet.specs.Events.{is_break}
use Rattle.sv_context.specs.declared.context.Context.{Context}
use Rattle.sv_context.specs.declared.context.Context.TheVariants.{Unknown}
use Rattle.sv_context.specs.Role.{Role, base, enter, exit, nothing, role_of}
use Rattle.sv_context.specs.Context.{segment_of, open_frames, context_in, context_after}
use Rattle.sv_context.proofs.Shared.{base-new, base-stays, base_in, frames-base, frames-enter}
use Rattle.sv_context.proofs.Shared.{frames-exit, frames-nothing, segment-more, without_last}
use Rattle.sv_latency.specs.declared.class.Class.{Class}
use Rattle.sv_latency.specs.declared.class.Class.TheVariants.{Unknown as UnknownClass}
use Rattle.sv_latency.specs.Class.{task_of, is_about, last_about, class_from, class_of}
use Rattle.sv_latency.proofs.Shared.{last_about-break, last_about-kept, last_about-stays}

abbrev pub events_of : List TimedEvent → List Event
events_of events = map (λ e. e.event) events

abbrev pub roles_now : List TimedEvent → List Role
roles_now events = segment_of (events_of events)

-- no base is known, or the bases are the same; and the first's frames are the last of the second's
abbrev pub AgreeRoles : List Role → List Role → Type 0
AgreeRoles sent calls =
    ((base_in sent ≡ None) × (lower : List Context) ×
    (open_frames calls ≡ lower ++ open_frames sent))
    ⊎ ((base_in sent ≡ base_in calls) × (open_frames sent ≡ open_frames calls))

abbrev pub AgreeOn : ℕ → List TimedEvent → List TimedEvent → Type 0
AgreeOn task sent calls =
    (last_about task sent ≡ None) ⊎ (last_about task sent ≡ last_about task calls)

pub record Agree (sent calls : List TimedEvent) : Type 0 where
  pub roles : AgreeRoles (roles_now sent) (roles_now calls)
  pub about : (task : ℕ) → AgreeOn task sent calls

-- nothing is told since the last break
pub record IsBlank (events : List TimedEvent) : Type 0 where
  pub base_none : base_in (roles_now events) ≡ None
  pub frames_none : open_frames (roles_now events) ≡ []
  pub about : (task : ℕ) → last_about task events ≡ None

-- an event that neither contexts nor classes tell apart
pub record IsIdle (event : Event) : Type 0 where
  pub goes_on : is_break event ≡ false
  pub no_role : role_of event ≡ nothing
  pub no_task : task_of event ≡ None

-- ONE ROLE MORE

keep_first : (c : Context) (m : ℕ) (frames : List Context) → length frames ≡ suc m →
    without_last (c ∷ frames) ≡ c ∷ without_last frames
keep_first c m frames e =
    let a : length frames - 1 ≡ m = omega arith in
    let b : length (c ∷ frames) - 1 ≡ suc m = omega arith in
    rw (a, b) refl

without_upper : (lower : List Context) (f : Context) (fs : List Context) →
    without_last (lower ++ f ∷ fs) ≡ lower ++ without_last (f ∷ fs)
without_upper [] f fs = refl
without_upper (c ∷ lower) f fs =
    keep_first c (length lower + length fs) (lower ++ f ∷ fs) (omega (arith, length_two lower f fs))
    ∙ ap (λ rest. c ∷ rest) (without_upper lower f fs)
  where
    length_two : (lower : List Context) (f : Context) (fs : List Context) →
        length (lower ++ f ∷ fs) ≡ suc (length lower + length fs)
    length_two [] f fs = omega arith
    length_two (c ∷ lower) f fs = omega (arith, length_two lower f fs)

closed : (lower frames : List Context) →
    (left : List Context) × (without_last (lower ++ frames) ≡ left ++ without_last frames)
closed lower [] =
    (without_last lower, ap without_last (append-nil lower) ∙ sym (append-nil (without_last lower)))
closed lower (f ∷ fs) = (lower, without_upper lower f fs)

roles-both : (role : Role) (sent calls : List Role) → AgreeRoles sent calls →
    AgreeRoles (sent ++ role ∷ []) (calls ++ role ∷ [])
roles-both (base c) sent calls agree =
    inr (base-new sent c ∙ sym (base-new calls c), frames-base sent c ∙ sym (frames-base calls c))
roles-both (enter c) sent calls (inl (none, lower, is)) = inl (
  base-stays sent (enter c) refl ∙ none,
  lower,
  frames-enter calls c ∙ ap (λ fs. fs ++ c ∷ []) is ∙ append_assoc lower (open_frames sent) (c ∷ [])
      ∙ ap (λ fs. lower ++ fs) (sym (frames-enter sent c)),
)
roles-both (enter c) sent calls (inr (same, frames)) = inr (
  base-stays sent (enter c) refl ∙ same ∙ sym (base-stays calls (enter c) refl),
  frames-enter sent c ∙ ap (λ fs. fs ++ c ∷ []) frames ∙ sym (frames-enter calls c),
)
roles-both exit sent calls (inl (none, lower, is)) =
    let (left, rest) = closed lower (open_frames sent) in
    inl (
      base-stays sent exit refl ∙ none,
      left,
      frames-exit calls ∙ ap without_last is ∙ rest
          ∙ ap (λ fs. left ++ fs) (sym (frames-exit sent)),
    )
roles-both exit sent calls (inr (same, frames)) = inr (
  base-stays sent exit refl ∙ same ∙ sym (base-stays calls exit refl),
  frames-exit sent ∙ ap without_last frames ∙ sym (frames-exit calls),
)
roles-both nothing sent calls (inl (none, lower, is)) = inl (
  base-stays sent nothing refl ∙ none,
  lower,
  frames-nothing calls ∙ is ∙ ap (λ fs. lower ++ fs) (sym (frames-nothing sent)),
)
roles-both nothing sent calls (inr (same, frames)) = inr (
  base-stays sent nothing refl ∙ same ∙ sym (base-stays calls nothing refl),
  frames-nothing sent ∙ frames ∙ sym (frames-nothing calls),
)

roles-idle : (sent calls : List Role) → AgreeRoles sent calls →
    AgreeRoles (sent ++ nothing ∷ []) calls
roles-idle sent calls (inl (none, lower, is)) =
    inl (
      base-stays sent nothing refl ∙ none,
      lower,
      is
          ∙ ap (λ fs. lower ++ fs) (sym (frames-nothing sent)),
    )
roles-idle sent calls (inr (same, frames)) =
    inr (base-stays sent nothing refl ∙ same, frames-nothing sent ∙ frames)

-- ONE EVENT MORE

pub events-push : (events : List TimedEvent) (e : TimedEvent) →
    events_of (events ++ e ∷ []) ≡ events_of events ++ e.event ∷ []
events-push events e = map-append (λ (x : TimedEvent). x.event) events (e ∷ [])

goes-on : (events : List TimedEvent) (e : TimedEvent) → is_break e.event ≡ false →
    roles_now (events ++ e ∷ []) ≡ roles_now events ++ role_of e.event ∷ []
goes-on events e test =
    ap segment_of (events-push events e) ∙ segment-more (events_of events) e.event ∙ rw test refl

begins : (events : List TimedEvent) (e : TimedEvent) → is_break e.event ≡ true →
    roles_now (events ++ e ∷ []) ≡ []
begins events e test =
    ap segment_of (events-push events e) ∙ segment-more (events_of events) e.event ∙ rw test refl

goes-idle : (events : List TimedEvent) (e : TimedEvent) → IsIdle e.event →
    roles_now (events ++ e ∷ []) ≡ roles_now events ++ nothing ∷ []
goes-idle events e idle =
    goes-on events e idle.goes_on ∙ ap (λ role. roles_now events ++ role ∷ []) idle.no_role

not-about : (task : ℕ) (e : TimedEvent) → task_of e.event ≡ None → is_about task e ≡ false
not-about task e none = ap (λ o. option_map_or (λ other. other == task) o false) none

about-by : (t : Bool) (task : ℕ) (sent calls : List TimedEvent) (e : TimedEvent) →
    is_about task e ≡ t → is_break e.event ≡ false → AgreeOn task sent calls →
    AgreeOn task (sent ++ e ∷ []) (calls ++ e ∷ [])
about-by true task sent calls e is test agree =
    inr (last_about-kept task sent e test is ∙ sym (last_about-kept task calls e test is))
about-by false task sent calls e is test (inl none) =
    inl (last_about-stays task sent e test is ∙ none)
about-by false task sent calls e is test (inr same) =
    inr (last_about-stays task sent e test is ∙ same ∙ sym (last_about-stays task calls e test is))

about-idle : (task : ℕ) (sent calls : List TimedEvent) (e : TimedEvent) → IsIdle e.event →
    AgreeOn task sent calls → AgreeOn task (sent ++ e ∷ []) calls
about-idle task sent calls e idle (inl none) =
    inl (last_about-stays task sent e idle.goes_on (not-about task e idle.no_task) ∙ none)
about-idle task sent calls e idle (inr same) =
    inr (last_about-stays task sent e idle.goes_on (not-about task e idle.no_task) ∙ same)

-- the same event in both
pub agree-both : (sent calls : List TimedEvent) (e : TimedEvent) → is_break e.event ≡ false →
    Agree sent calls → Agree (sent ++ e ∷ []) (calls ++ e ∷ [])
agree-both sent calls e test agree = record {
  roles = rw (goes-on sent e test, goes-on calls e test)
      (roles-both (role_of e.event) (roles_now sent) (roles_now calls) agree.roles);
  about = λ task. about-by (is_about task e) task sent calls e refl test (agree.about task);
}

-- an idle event in the first
pub agree-idle : (sent calls : List TimedEvent) (e : TimedEvent) → IsIdle e.event →
    Agree sent calls → Agree (sent ++ e ∷ []) calls
agree-idle sent calls e idle agree = record {
  roles = rw (goes-idle sent e idle) (roles-idle (roles_now sent) (roles_now calls) agree.roles);
  about = λ task. about-idle task sent calls e idle (agree.about task);
}

-- a row that tells nothing agrees with any
pub agree-blank : (sent calls : List TimedEvent) → IsBlank sent → Agree sent calls
agree-blank sent calls blank = record {
  roles = inl (
    blank.base_none,
    open_frames (roles_now calls),
    sym (ap (λ fs. open_frames (roles_now calls) ++ fs) blank.frames_none
        ∙ append-nil (open_frames (roles_now calls))),
  );
  about = λ task. inl (blank.about task);
}

pub blank-none : IsBlank []
blank-none = record { base_none = refl; frames_none = refl; about = λ task. refl }

pub blank-break : (events : List TimedEvent) (e : TimedEvent) → is_break e.event ≡ true →
    IsBlank (events ++ e ∷ [])
blank-break events e test = record {
  base_none = ap base_in (begins events e test);
  frames_none = ap open_frames (begins events e test);
  about = λ task. last_about-break task events e test;
}

pub blank-idle : (events : List TimedEvent) (e : TimedEvent) → IsIdle e.event → IsBlank events →
    IsBlank (events ++ e ∷ [])
blank-idle events e idle blank = record {
  base_none =
      ap base_in (goes-idle events e idle) ∙ base-stays (roles_now events) nothing refl
      ∙ blank.base_none;
  frames_none =
      ap open_frames (goes-idle events e idle) ∙ frames-nothing (roles_now events)
      ∙ blank.frames_none;
  about = λ task. last_about-stays task events e idle.goes_on (not-about task e idle.no_task)
      ∙ blank.about task;
}

-- WHAT AGREES NAMES ALIKE

abbrev shown : Option Context → List Context → Context
shown below frames = unwrap_or (last_or below frames) Unknown

last_of-upper : (below : Option Context) (lower : List Context) (f : Context) (fs : List Context) →
    last_or below (lower ++ f ∷ fs) ≡ last_or (Some f) fs
last_of-upper below [] f fs = refl
last_of-upper below (c ∷ lower) f fs = last_of-upper (Some c) lower f fs

shown-upper : (below : Option Context) (lower frames : List Context) → shown None frames ≢ Unknown →
    shown None frames ≡ shown below (lower ++ frames)
shown-upper below lower [] named = absurd (named refl)
shown-upper below lower (f ∷ fs) named =
    ap (λ o. unwrap_or o Unknown) (sym (last_of-upper below lower f fs))

context-same : (sent calls : List Role) → AgreeRoles sent calls → context_in sent ≢ Unknown →
    context_in sent ≡ context_in calls
context-same sent calls (inr (same, frames)) named = rw (same, frames) refl
context-same sent calls (inl (none, lower, is)) named =
    let first : context_in sent ≡ shown None (open_frames sent) =
    ap (λ b. shown b (open_frames sent)) none in
    let second : context_in calls ≡ shown (base_in calls) (lower ++ open_frames sent) =
    ap (shown (base_in calls)) is in
    first ∙ shown-upper (base_in calls) lower (open_frames sent) (λ e. named (first ∙ e))
    ∙ sym second

pub agree-context : (sent calls : List TimedEvent) → Agree sent calls →
    context_after (events_of sent) ≢ Unknown →
    context_after (events_of sent) ≡ context_after (events_of calls)
agree-context sent calls agree named =
    context-same (roles_now sent) (roles_now calls) agree.roles named

abbrev class_by : Option ℕ → List TimedEvent → ℕ → Option Class
class_by task before time = option_map (λ x. class_from (last_about x before) time) task

class-same : (task : ℕ) (sent calls : List TimedEvent) (time : ℕ) (class : Class) →
    AgreeOn task sent calls → class_from (last_about task sent) time ≡ class →
    class ≢ UnknownClass → class_from (last_about task calls) time ≡ class
class-same task sent calls time class (inl none) is known =
    absurd (known (sym is ∙ ap (λ o. class_from o time) none))
class-same task sent calls time class (inr same) is known =
    ap (λ o. class_from o time) (sym same) ∙ is

class-by : (task : Option ℕ) (sent calls : List TimedEvent) (time : ℕ) (class : Class) →
    ((x : ℕ) → AgreeOn x sent calls) → class_by task sent time ≡ Some class → class ≢ UnknownClass →
    class_by task calls time ≡ Some class
class-by None sent calls time class agree is known = absurd cc
class-by (Some x) sent calls time class agree is known =
    let one : class_from (last_about x sent) time ≡ class = cc in
    ap (λ c. Some c) (class-same x sent calls time class (agree x) one known)

pub agree-class : (sent calls : List TimedEvent) (e : TimedEvent) (class : Class) →
    Agree sent calls → class_of sent e ≡ Some class → class ≢ UnknownClass →
    class_of calls e ≡ Some class
agree-class sent calls e class agree is known =
    class-by _ sent calls e.time class agree.about is known
