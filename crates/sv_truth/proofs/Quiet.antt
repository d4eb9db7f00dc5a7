-- While the recorder is on, not about to begin, and nothing is pending, no call came after the last
-- stored packet.
use Rattle.std.proofs.Common.{◌≡◌, ℕ, ◌≤◌, Bool, true, false, not, ◌&&◌, ◌||◌, Option, Some, None}
use Rattle.std.proofs.Common.{List, [], ◌∷◌, ◌++◌, refl, sym, ap, subst, ◌∙◌, arith, ◌⊎◌, inl, inr}
use Rattle.std.specs.Prelude.{nat_le}
use Rattle.std.specs.List.{list_all}
use Rattle.std.specs.Option.{option_map_or}
use Rattle.std.proofs.lemmas.Bool.Decides.{nat_tests}
use Rattle.std.proofs.lemmas.List.Folds.{list_all-append}
use Rattle.sv_packet.specs.declared.event.TimedEvent.{TimedEvent}
use Rattle.sv_load.specs.Load.{Load}
use Rattle.sv_journal.specs.declared.journal.Kind.TheVariants as kinds
use Rattle.sv_journal.specs.declared.journal.Origin.{Origin}
use Rattle.sv_journal.specs.declared.journal.Origin.TheVariants.{Sync, Reply}
use Rattle.sv_journal.specs.declared.journal.Item.{Item}
use Rattle.sv_journal.specs.Items.{is_sync, is_overflow, is_start, is_stored, is_refused, is_packet}
use Rattle.sv_journal.specs.Items.{is_on, pending_at, last_moment}
use Rattle.sv_journal.specs.Legal.{EachItem, is_control}
use Rattle.sv_journal.proofs.Shared.{pending_at-refused, pending_at-other, is_on-off, is_on-other}
use Rattle.sv_journal.proofs.Shared.{last_moment-stored, last_moment-other, no_ticks, ticks-cons}
use Rattle.sv_journal.proofs.Shared.{ticks_in}
use Rattle.sv_sent.proofs.Shared.{Fate, IsLater, IsPlaced, and_no, fate, handling, ignoring}
use Rattle.sv_sent.proofs.Shared.{at_time, or_last, previous, previous-other, previous-over}
use Rattle.sv_sent.proofs.Shared.{refusing, start_off_control, storing, sync_is}
use Rattle.sv_timeline.proofs.Shared.{AreUpTo, up_to_more}
use Rattle.sv_truth.specs.Truth.{call_event, calls_before}
use Rattle.sv_truth.proofs.Intact.{calls-kept, calls-more}
use Rattle.sv_truth.proofs.Telling.{call_no_overflow, control_no_call, no_packet_no_call}
use Rattle.sv_truth.proofs.Facts.{control_no_overflow, no_packet_over, packet_no_overflow}
use Rattle.sv_truth.proofs.Facts.{stop_not_control}

pub up_to-append : (tick : ℕ) (xs ys : List TimedEvent) → AreUpTo tick xs → AreUpTo tick ys →
    AreUpTo tick (xs ++ ys)
up_to-append tick xs ys p q =
    list_all-append (λ (e : TimedEvent). nat_le e.time tick) xs ys
    ∙ (ap (λ b. b && list_all (λ (e : TimedEvent). nat_le e.time tick) ys) p ∙ q)

pub up_to-one : (tick : ℕ) (event : TimedEvent) → event.time ≤ tick → AreUpTo tick (event ∷ [])
up_to-one tick event le =
    let here : nat_le event.time tick ≡ true = grind (arith, nat_tests) in
    ap (λ b. b && true) here

calls-step : (load : Load) (earlier : List Item) (i : Item) → IsLater load earlier i →
    AreUpTo (ticks_in load earlier) (calls_before load earlier) →
    AreUpTo (ticks_in load (i ∷ earlier)) (calls_before load (i ∷ earlier))
calls-step load earlier i later up =
    elim (call_event load i.origin) as
    (λ o. call_event load i.origin ≡ o →
    AreUpTo (ticks_in load (i ∷ earlier)) (calls_before load (i ∷ earlier))) [
      | None ↦ λ none. subst (AreUpTo (ticks_in load (i ∷ earlier)))
          (sym (calls-kept load earlier i none)) before
      | Some event ↦ λ some.
          let now : i.moment ≡ ticks_in load (i ∷ earlier) =
          later.told (call_no_overflow load i.origin event some) in
          subst (AreUpTo (ticks_in load (i ∷ earlier))) (sym (calls-more load earlier i event some))
          (up_to-append (ticks_in load (i ∷ earlier)) (calls_before load earlier)
          (at_time i.moment event ∷ []) before
          (up_to-one (ticks_in load (i ∷ earlier)) (at_time i.moment event) (omega (arith, now))))
    ] refl
  where
    before : AreUpTo (ticks_in load (i ∷ earlier)) (calls_before load earlier)
    before =
        up_to_more (ticks_in load earlier) (ticks_in load (i ∷ earlier)) (calls_before load earlier)
        (omega (arith, ticks-cons load i earlier)) up

-- no call comes after the clock
pub calls_in_clock : (load : Load) (earlier : List Item) → EachItem (IsPlaced load) earlier →
    AreUpTo (ticks_in load earlier) (calls_before load earlier)
calls_in_clock load [] each = refl
calls_in_clock load (i ∷ earlier) each =
    calls-step load earlier i each.1.later (calls_in_clock load earlier each.0)

clock_here : (load : Load) (earlier : List Item) (item : Item) → IsLater load earlier item →
    ticks_in load (item ∷ earlier) ≤ item.moment
clock_here load earlier item later = by (is_overflow item.origin) refl
  where
    by : (t : Bool) → is_overflow item.origin ≡ t → ticks_in load (item ∷ earlier) ≤ item.moment
    by true over =
        omega (arith, ticks-cons load item earlier, no_ticks load item.origin over, later.clock)
    by false other = omega (arith, later.told other)

-- the latest origin is a start or a sync: a recording is about to begin
abbrev pub is_restarting : Load → List Item → Bool
is_restarting load earlier =
    option_map_or (λ p. is_start load p || is_sync p) (previous earlier) false

pub restarts-by : (load : Load) (earlier : List Item) (item : Item) →
    is_overflow item.origin ≡ false → is_restarting load (item ∷ earlier) ≡
    (is_start load item.origin || is_sync item.origin)
restarts-by load earlier item other =
    ap (λ o. option_map_or (λ p. is_start load p || is_sync p) o false)
    (previous-other earlier item other)

pub restarts-sync : (load : Load) (earlier : List Item) (item : Item) → is_sync item.origin ≡ true →
    is_restarting load (item ∷ earlier) ≡ true
restarts-sync load earlier item sync =
    restarts-by load earlier item (ap is_overflow (sync_is item.origin sync))
    ∙ ap (λ b. is_start load item.origin || b) sync ∙ or_last (is_start load item.origin)

-- what comes while a recording is about to begin
abbrev pub Begins : Origin → Type 0
Begins o = (o ≡ Sync) ⊎ (o ≡ Reply kinds.TraceStart 0)

pub begins : (load : Load) (earlier : List Item) (item : Item) → IsPlaced load earlier item →
    is_overflow item.origin ≡ false → is_restarting load earlier ≡ true → Begins item.origin
begins load earlier item here other restarting = by (previous earlier) refl restarting
  where
    one : (p : Origin) (a b : Bool) → previous earlier ≡ Some p → is_start load p ≡ a →
        is_sync p ≡ b → (a || b) ≡ true → Begins item.origin
    one p true b is start sync e = inl ((here.follows other).start p is start)
    one p false true is start sync e = inr ((here.follows other).sync p is sync)
    one p false false is start sync e = absurd cc

    by : (before : Option Origin) → previous earlier ≡ before →
        option_map_or (λ p. is_start load p || is_sync p) before false ≡ true → Begins item.origin
    by None is e = absurd cc
    by (Some p) is e = one p (is_start load p) (is_sync p) is refl refl e

pub begins-plain : (load : Load) (o : Origin) → Begins o → is_control load o ≡ false
begins-plain load o (inl sync) = ap (is_control load) sync
begins-plain load o (inr start) = ap (is_control load) start

abbrev pub IsQuiet : Load → List Item → Type 0
IsQuiet load earlier =
    pending_at earlier ≡ 0 → is_on load earlier ≡ true → is_restarting load earlier ≡ false →
    AreUpTo (last_moment earlier) (calls_before load earlier)

quiet-same : (load : Load) (earlier : List Item) (item : Item) → is_stored item.outcome ≡ false →
    call_event load item.origin ≡ None → AreUpTo (last_moment earlier) (calls_before load earlier) →
    AreUpTo (last_moment (item ∷ earlier)) (calls_before load (item ∷ earlier))
quiet-same load earlier item kept none up =
    let last : last_moment (item ∷ earlier) ≡ last_moment earlier =
    last_moment-other earlier item (ap (λ b. b && not (is_sync item.origin)) kept) in
    rw (last, calls-kept load earlier item none) up

quiet-step : (load : Load) (earlier : List Item) (item : Item) →
    EachItem (IsPlaced load) (item ∷ earlier) → Fate load earlier item → IsQuiet load earlier →
    IsQuiet load (item ∷ earlier)
quiet-step load earlier item each (storing control on lost out) before =
    λ empty now calm. by (is_sync item.origin) refl calm
  where
    by : (t : Bool) → is_sync item.origin ≡ t → is_restarting load (item ∷ earlier) ≡ false →
        AreUpTo (last_moment (item ∷ earlier)) (calls_before load (item ∷ earlier))
    by true sync calm = let wrong : is_restarting load (item ∷ earlier) ≡ true =
        restarts-sync load earlier item sync in absurd cc
    by false other calm =
        let last : last_moment (item ∷ earlier) ≡ item.moment =
        last_moment-stored earlier item (ap is_stored out) other in
        up_to_more (ticks_in load (item ∷ earlier)) (last_moment (item ∷ earlier))
        (calls_before load (item ∷ earlier))
        (omega (arith, clock_here load earlier item each.1.later, last))
        (calls_in_clock load (item ∷ earlier) each)
quiet-step load earlier item each (ignoring control off out) before = λ empty now calm.
    let wrong : is_on load (item ∷ earlier) ≡ false =
    is_on-off load earlier item (start_off_control load item.origin control) off in absurd cc
quiet-step load earlier item each (refusing control on out) before =
    λ empty now calm. by (is_packet item) (is_sync item.origin) refl refl empty calm
  where
    by : (p s : Bool) → is_packet item ≡ p → is_sync item.origin ≡ s →
        pending_at (item ∷ earlier) ≡ 0 → is_restarting load (item ∷ earlier) ≡ false →
        AreUpTo (last_moment (item ∷ earlier)) (calls_before load (item ∷ earlier))
    by true s packet sync empty calm =
        absurd (omega (
          arith,
          empty,
          pending_at-refused earlier item (packet_no_overflow item packet) packet
              (ap is_refused out),
        ))
    by false true packet sync empty calm = let wrong : is_restarting load (item ∷ earlier) ≡ true =
        restarts-sync load earlier item sync in absurd cc
    by false false packet sync empty calm =
        let over : is_overflow item.origin ≡ true =
        no_packet_over load item control out packet sync in
        let kept : is_stored item.outcome ≡ false = ap is_stored out in
        let same : pending_at (item ∷ earlier) ≡ pending_at earlier =
        pending_at-other earlier item
        (ap (λ b. is_overflow item.origin && b) kept ∙ and_no (is_overflow item.origin))
        (ap (λ b. b && is_refused item.outcome) packet) in
        let calm_before : is_restarting load earlier ≡ false =
        ap (λ o. option_map_or (λ p. is_start load p || is_sync p) o false)
        (sym (previous-over earlier item over)) ∙ calm in
        quiet-same load earlier item kept (no_packet_no_call load item out packet)
        (before (sym same ∙ empty) on calm_before)
quiet-step load earlier item each (handling control out) before =
    λ empty now calm. by (is_start load item.origin)
    (is_restarting load earlier) refl refl empty now calm
  where
    other : is_overflow item.origin ≡ false
    other = control_no_overflow load item.origin control

    by : (s r : Bool) → is_start load item.origin ≡ s → is_restarting load earlier ≡ r →
        pending_at (item ∷ earlier) ≡ 0 → is_on load (item ∷ earlier) ≡ true →
        is_restarting load (item ∷ earlier) ≡ false →
        AreUpTo (last_moment (item ∷ earlier)) (calls_before load (item ∷ earlier))
    by true r start was empty now calm =
        let wrong : is_restarting load (item ∷ earlier) ≡ true =
        restarts-by load earlier item other ∙ ap (λ b. b || is_sync item.origin) start in
        absurd cc
    by false true start was empty now calm =
        let plain : is_control load item.origin ≡ false =
        begins-plain load item.origin (begins load earlier item each.1 other was) in
        absurd cc
    by false false start was empty now calm =
        let kept : is_stored item.outcome ≡ false = ap is_stored out in
        let same : pending_at (item ∷ earlier) ≡ pending_at earlier =
        pending_at-other earlier item
        (ap (λ b. is_overflow item.origin && b) kept ∙ and_no (is_overflow item.origin))
        (ap (λ o. is_packet item && is_refused o) out ∙ and_no (is_packet item)) in
        let on : is_on load earlier ≡ true =
        sym (is_on-other load earlier item start (stop_not_control load item.origin control))
        ∙ now in
        quiet-same load earlier item kept (control_no_call load item.origin control)
        (before (sym same ∙ empty) on was)

pub quiet : (load : Load) (earlier : List Item) → EachItem (IsPlaced load) earlier →
    IsQuiet load earlier
quiet load [] each = λ empty on calm. refl
quiet load (i ∷ earlier) each =
    quiet-step load earlier i each (fate load earlier i each.1.next.outcome)
    (quiet load earlier each.0)
