-- Events whose payload has the same kinds of fields for each identifier: all but prints, ends of
-- calls and opaque ones.
use Rattle.std.proofs.Common.{◌≡◌, ℕ, List, [], ◌∷◌, ◌++◌, get_or, refl, sym, ap, subst, ◌∙◌}
use Rattle.std.specs.Prelude.{◌==◌, if◌then◌else◌}
use Rattle.sv_packet.specs.declared.event.Event.{Event}
use Rattle.sv_packet.specs.declared.event.Event.TheVariants.{Nop, Overflow, IsrEnter, IsrExit}
use Rattle.sv_packet.specs.declared.event.Event.TheVariants.{TaskStart, TaskStop, TaskReady}
use Rattle.sv_packet.specs.declared.event.Event.TheVariants.{TaskUnready, TaskCreate, TaskInfo}
use Rattle.sv_packet.specs.declared.event.Event.TheVariants.{TraceStart, TraceStop, SystimeCycles}
use Rattle.sv_packet.specs.declared.event.Event.TheVariants.{SystimeUs, SysDesc, MarkStart}
use Rattle.sv_packet.specs.declared.event.Event.TheVariants.{MarkStop, Idle, ToScheduler}
use Rattle.sv_packet.specs.declared.event.Event.TheVariants.{TimerEnter, TimerExit, StackInfo}
use Rattle.sv_packet.specs.declared.event.Event.TheVariants.{ModuleDesc, Init, NameResource}
use Rattle.sv_packet.specs.declared.event.Event.TheVariants.{NumModules, TaskTerminate, Print}
use Rattle.sv_packet.specs.declared.event.Event.TheVariants.{EndCall, Opaque}
use Rattle.sv_packet.specs.Table.{identifier, fields, Field, Number, Text, Raw}
use Rattle.sv_packet.specs.Packet.{AreFields}
use Rattle.sv_packet.proofs.one_spelling.Fields.{IsLike, AreLike, fields_free}

abbrev pub IsRegular : Event → Type 0
IsRegular (Print text options args) = ⊥
IsRegular (EndCall event value) = ⊥
IsRegular (Opaque id payload) = ⊥
IsRegular other = Unit {0}

abbrev pub value_of : Field → ℕ
value_of (Number value) = value
value_of other = 0

abbrev pub text_of : Field → List ℕ
text_of (Text text) = text
text_of other = []

-- ---- the kinds of an identifier's fields

abbrev pattern : ℕ → List Field
pattern id =
    if id == 1 then Number 0 ∷ []
    else if id == 2 then Number 0 ∷ []
    else if id == 4 then Number 0 ∷ []
    else if id == 6 then Number 0 ∷ []
    else if id == 7 then Number 0 ∷ Number 0 ∷ []
    else if id == 8 then Number 0 ∷ []
    else if id == 9 then Number 0 ∷ Number 0 ∷ Text [] ∷ []
    else if id == 12 then Number 0 ∷ []
    else if id == 13 then Number 0 ∷ Number 0 ∷ []
    else if id == 14 then Text [] ∷ []
    else if id == 15 then Number 0 ∷ []
    else if id == 16 then Number 0 ∷ []
    else if id == 19 then Number 0 ∷ []
    else if id == 21 then Number 0 ∷ Number 0 ∷ Number 0 ∷ Number 0 ∷ []
    else if id == 22 then Number 0 ∷ Number 0 ∷ Text [] ∷ []
    else if id == 24 then Number 0 ∷ Number 0 ∷ Number 0 ∷ Number 0 ∷ []
    else if id == 25 then Number 0 ∷ Text [] ∷ []
    else if id == 27 then Number 0 ∷ []
    else if id == 29 then Number 0 ∷ []
    else []

like_pattern : (event : Event) → IsRegular event →
    AreLike (fields event) (pattern (identifier event))
like_pattern Nop regular = tt
like_pattern (Overflow count) regular = (tt, tt)
like_pattern (IsrEnter isr) regular = (tt, tt)
like_pattern IsrExit regular = tt
like_pattern (TaskStart task) regular = (tt, tt)
like_pattern TaskStop regular = tt
like_pattern (TaskReady task) regular = (tt, tt)
like_pattern (TaskUnready task cause) regular = (tt, (tt, tt))
like_pattern (TaskCreate task) regular = (tt, tt)
like_pattern (TaskInfo task priority name) regular = (tt, (tt, (tt, tt)))
like_pattern TraceStart regular = tt
like_pattern TraceStop regular = tt
like_pattern (SystimeCycles value) regular = (tt, tt)
like_pattern (SystimeUs low high) regular = (tt, (tt, tt))
like_pattern (SysDesc text) regular = (tt, tt)
like_pattern (MarkStart id) regular = (tt, tt)
like_pattern (MarkStop id) regular = (tt, tt)
like_pattern Idle regular = tt
like_pattern ToScheduler regular = tt
like_pattern (TimerEnter timer) regular = (tt, tt)
like_pattern TimerExit regular = tt
like_pattern (StackInfo task stack_base stack_size extra) regular = (tt, (tt, (tt, (tt, tt))))
like_pattern (ModuleDesc number offset text) regular = (tt, (tt, (tt, tt)))
like_pattern (Init sys_freq cpu_freq ram_base shift) regular = (tt, (tt, (tt, (tt, tt))))
like_pattern (NameResource resource text) regular = (tt, (tt, tt))
like_pattern (NumModules count) regular = (tt, tt)
like_pattern (TaskTerminate task) regular = (tt, tt)
like_pattern (Print text options args) regular = absurd regular
like_pattern (EndCall event value) regular = absurd regular
like_pattern (Opaque id payload) regular = absurd regular

both_like_one : (f g h : Field) → IsLike f h → IsLike g h → IsLike f g
both_like_one (Number a) (Number b) h p q = tt
both_like_one (Text a) (Text b) h p q = tt
both_like_one (Number a) (Text b) (Number c) p q = absurd q
both_like_one (Number a) (Text b) (Text c) p q = absurd p
both_like_one (Number a) (Text b) (Raw c) p q = absurd p
both_like_one (Text a) (Number b) (Number c) p q = absurd p
both_like_one (Text a) (Number b) (Text c) p q = absurd q
both_like_one (Text a) (Number b) (Raw c) p q = absurd p
both_like_one (Raw a) g h p q = absurd p
both_like_one f (Raw b) h p q = absurd q

both_like : (fs gs hs : List Field) → AreLike fs hs → AreLike gs hs → AreLike fs gs
both_like [] [] hs p q = tt
both_like (f ∷ fs) (g ∷ gs) (h ∷ hs) p q = (both_like_one f g h p.0 q.0, both_like fs gs hs p.1 q.1)
both_like (f ∷ fs) gs [] p q = absurd p
both_like [] (g ∷ gs) (h ∷ hs) p q = absurd p
both_like [] (g ∷ gs) [] p q = absurd q
both_like (f ∷ fs) [] (h ∷ hs) p q = absurd q

-- ---- the event of an identifier and its fields

abbrev build : ℕ → List Field → Event
build id fs =
    let n = value_of (get_or fs 0 (Number 0)) in
    let m = value_of (get_or fs 1 (Number 0)) in
    let k = value_of (get_or fs 2 (Number 0)) in
    let l = value_of (get_or fs 3 (Number 0)) in
    if id == 1 then Overflow n
    else if id == 2 then IsrEnter n
    else if id == 3 then IsrExit
    else if id == 4 then TaskStart n
    else if id == 5 then TaskStop
    else if id == 6 then TaskReady n
    else if id == 7 then TaskUnready n m
    else if id == 8 then TaskCreate n
    else if id == 9 then TaskInfo n m (text_of (get_or fs 2 (Number 0)))
    else if id == 10 then TraceStart
    else if id == 11 then TraceStop
    else if id == 12 then SystimeCycles n
    else if id == 13 then SystimeUs n m
    else if id == 14 then SysDesc (text_of (get_or fs 0 (Number 0)))
    else if id == 15 then MarkStart n
    else if id == 16 then MarkStop n
    else if id == 17 then Idle
    else if id == 18 then ToScheduler
    else if id == 19 then TimerEnter n
    else if id == 20 then TimerExit
    else if id == 21 then StackInfo n m k l
    else if id == 22 then ModuleDesc n m (text_of (get_or fs 2 (Number 0)))
    else if id == 24 then Init n m k l
    else if id == 25 then NameResource n (text_of (get_or fs 1 (Number 0)))
    else if id == 27 then NumModules n
    else if id == 29 then TaskTerminate n
    else Nop

built : (event : Event) → IsRegular event → build (identifier event) (fields event) ≡ event
built Nop regular = refl
built (Overflow count) regular = refl
built (IsrEnter isr) regular = refl
built IsrExit regular = refl
built (TaskStart task) regular = refl
built TaskStop regular = refl
built (TaskReady task) regular = refl
built (TaskUnready task cause) regular = refl
built (TaskCreate task) regular = refl
built (TaskInfo task priority name) regular = refl
built TraceStart regular = refl
built TraceStop regular = refl
built (SystimeCycles value) regular = refl
built (SystimeUs low high) regular = refl
built (SysDesc text) regular = refl
built (MarkStart id) regular = refl
built (MarkStop id) regular = refl
built Idle regular = refl
built ToScheduler regular = refl
built (TimerEnter timer) regular = refl
built TimerExit regular = refl
built (StackInfo task stack_base stack_size extra) regular = refl
built (ModuleDesc number offset text) regular = refl
built (Init sys_freq cpu_freq ram_base shift) regular = refl
built (NameResource resource text) regular = refl
built (NumModules count) regular = refl
built (TaskTerminate task) regular = refl
built (Print text options args) regular = absurd regular
built (EndCall event value) regular = absurd regular
built (Opaque id payload) regular = absurd regular

-- two such events with one identifier are told from their payloads' fronts
pub regular_free : (u v : Event) → IsRegular u → IsRegular v → identifier u ≡ identifier v →
    (a b x y : List ℕ) → AreFields (fields u) a → AreFields (fields v) b → a ++ x ≡ b ++ y →
    (a ≡ b) × (u ≡ v)
regular_free u v p q same a b x y s t e =
    let like =
    both_like (fields u) (fields v) (pattern (identifier v))
    (subst (λ (k : ℕ). AreLike (fields u) (pattern k)) same (like_pattern u p))
    (like_pattern v q) in
    let r = fields_free (fields u) (fields v) like a b x y s t e in (
      r.0,
      sym (built u p) ∙ ap (λ (k : ℕ). build k (fields u)) same ∙ ap (build (identifier v)) r.1
          ∙ built v q,
    )
