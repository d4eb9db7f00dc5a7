-- A segment holds every call: from the break before it up to each of its packets, and up to the
-- TRACE_STOP that ends it.
use Rattle.std.proofs.Common.{◌≡◌, ℕ, Bool, true, false, ◌&&◌, ◌||◌, Some, None, List, [], ◌∷◌}
use Rattle.std.proofs.Common.{◌++◌, refl, sym, ap, subst, ◌∙◌, arith, ◌⊎◌, inl, inr}
use Rattle.std.specs.Option.{option_map_or}
use Rattle.sv_packet.specs.declared.event.Event.{Event}
use Rattle.sv_packet.specs.Events.{is_break}
use Rattle.sv_load.specs.Load.{Load}
use Rattle.sv_journal.specs.declared.journal.Kind.TheVariants as kinds
use Rattle.sv_journal.specs.declared.journal.Origin.{Origin}
use Rattle.sv_journal.specs.declared.journal.Origin.TheVariants.{Reply}
use Rattle.sv_journal.specs.declared.journal.Item.{Item}
use Rattle.sv_journal.specs.Items.{latest_first, is_sync, is_overflow, is_start, is_stop_reply}
use Rattle.sv_journal.specs.Items.{is_stored, is_refused, is_packet, holds_packet, is_on}
use Rattle.sv_journal.specs.Items.{pending_at, event_of, event_at}
use Rattle.sv_journal.specs.Legal.{EachItem, IsLegal, is_control}
use Rattle.sv_journal.proofs.Shared.{pending_at-refused, pending_at-other, is_on-other, is_on-off}
use Rattle.sv_sent.proofs.Shared.{Fate, IsPlaced, and_no, by_test, clash, fate, handling, ignoring}
use Rattle.sv_sent.proofs.Shared.{overflow_plain, placed, previous-over, refusing}
use Rattle.sv_sent.proofs.Shared.{start_off_control, storing}
use Rattle.sv_truth.specs.Segment.{HoldsCalls, HoldsNoBreak, IsOfSegment}
use Rattle.sv_truth.specs.Truth.{call_event}
use Rattle.sv_truth.proofs.Clear.{IsClear, IsTold, clear}
use Rattle.sv_truth.proofs.Quiet.{Begins, begins, begins-plain, is_restarting, restarts-by}
use Rattle.sv_truth.proofs.Quiet.{restarts-sync}
use Rattle.sv_truth.proofs.Telling.{control_no_call, no_packet_no_call, overflow_breaks}
use Rattle.sv_truth.proofs.Facts.{control_no_overflow, each_after, no_packet_over}
use Rattle.sv_truth.proofs.Facts.{packet_no_overflow, stop_not_control, stored_packet}

-- the recorder is on, past the first packet of its recording, and nothing is pending
pub record IsMidway (load : Load) (earlier : List Item) : Type 0 where
  pub none : pending_at earlier ≡ 0
  pub on : is_on load earlier ≡ true
  pub calm : is_restarting load earlier ≡ false

restart-breaks : (load : Load) (moment : ℕ) (o : Origin) → Begins o → is_sync o ≡ false →
    is_break (event_at load moment o) ≡ true
restart-breaks load moment o (inl sync) other = absurd (clash (is_sync o) (ap is_sync sync) other)
restart-breaks load moment o (inr start) other = ap (λ p. is_break (event_at load moment p)) start

start-not-stop : (o : Origin) → o ≡ Reply kinds.TraceStart 0 → is_stop_reply o ≡ false
start-not-stop o is = ap is_stop_reply is

control-plain : (load : Load) (item : Item) → is_control load item.origin ≡ true →
    Begins item.origin → ⊥
control-plain load item control begun =
    clash (is_control load item.origin) control (begins-plain load item.origin begun)

-- one item back
record IsBack (load : Load) (earlier : List Item) (item : Item) : Type 0 where
  before : IsMidway load earlier
  held : (event : Event) → call_event load item.origin ≡ Some event → is_stored item.outcome ≡ true

no-call : (load : Load) (item : Item) → call_event load item.origin ≡ None → (event : Event) →
    call_event load item.origin ≡ Some event → is_stored item.outcome ≡ true
no-call load item none event some = absurd cc

back : (load : Load) (earlier : List Item) (item : Item) → IsPlaced load earlier item →
    (is_stored item.outcome ≡ true → is_break (event_of load item) ≡ false) →
    Fate load earlier item → IsMidway load (item ∷ earlier) → IsBack load earlier item
back load earlier item here goes (ignoring control off out) mid =
    absurd (clash (is_on load (item ∷ earlier)) mid.on
    (is_on-off load earlier item (start_off_control load item.origin control) off))
back load earlier item here goes (handling control out) mid =
    let other : is_overflow item.origin ≡ false = control_no_overflow load item.origin control in
    let start : is_start load item.origin ≡ false =
    by_test (is_start load item.origin)
    (λ s. clash (is_restarting load (item ∷ earlier))
    (restarts-by load earlier item other ∙ ap (λ b. b || is_sync item.origin) s) mid.calm) in
    record {
      before = record {
        none = sym
            (pending_at-other earlier item
            (ap (λ b. is_overflow item.origin && b) (ap is_stored out)
            ∙ and_no (is_overflow item.origin))
            (ap (λ o. is_packet item && is_refused o) out ∙ and_no (is_packet item))) ∙ mid.none;
        on = sym (is_on-other load earlier item start (stop_not_control load item.origin control))
            ∙ mid.on;
        calm = by_test (is_restarting load earlier)
            (λ r. control-plain load item control (begins load earlier item here other r));
      };
      held = no-call load item (control_no_call load item.origin control);
    }
back load earlier item here goes (refusing control on out) mid =
    by (is_packet item) (is_sync item.origin) refl refl
  where
    kept : is_stored item.outcome ≡ false
    kept = ap is_stored out

    by : (p s : Bool) → is_packet item ≡ p → is_sync item.origin ≡ s → IsBack load earlier item
    by true s packet sync =
        absurd (omega (
          arith,
          mid.none,
          pending_at-refused earlier item (packet_no_overflow item packet) packet
              (ap is_refused out),
        ))
    by false true packet sync =
        absurd (clash (is_restarting load (item ∷ earlier))
        (restarts-sync load earlier item sync) mid.calm)
    by false false packet sync =
        let over : is_overflow item.origin ≡ true =
        no_packet_over load item control out packet sync in
        record {
          before = record {
            none = sym
                (pending_at-other earlier item
                (ap (λ b. is_overflow item.origin && b) kept ∙ and_no (is_overflow item.origin))
                (ap (λ b. b && is_refused item.outcome) packet)) ∙ mid.none;
            on = on;
            calm = ap (λ o. option_map_or (λ p. is_start load p || is_sync p) o false)
                (sym (previous-over earlier item over)) ∙ mid.calm;
          };
          held = no-call load item (no_packet_no_call load item out packet);
        }
back load earlier item here goes (storing control on free out) mid =
    let test : is_break (event_of load item) ≡ false = goes (ap is_stored out) in
    let other : is_overflow item.origin ≡ false =
    by_test (is_overflow item.origin)
    (λ over. clash (is_break (event_of load item))
    (overflow_breaks load item.moment item.origin over) test) in
    let sync : is_sync item.origin ≡ false =
    by_test (is_sync item.origin)
    (λ s. clash (is_restarting load (item ∷ earlier))
    (restarts-sync load earlier item s) mid.calm) in
    record {
      before = record {
        none = sym
            (pending_at-other earlier item (ap (λ b. b && is_stored item.outcome) other)
            (ap (λ o. is_packet item && is_refused o) out ∙ and_no (is_packet item))) ∙ mid.none;
        on = on;
        calm = by_test (is_restarting load earlier)
            (λ r. clash (is_break (event_of load item))
            (restart-breaks load item.moment item.origin
            (begins load earlier item here other r) sync) test);
      };
      held = λ event some. ap is_stored out;
    }

-- back to the break before
held-back : (load : Load) (middle before : List Item) →
    EachItem (IsPlaced load) (middle ++ before) → HoldsNoBreak load middle →
    IsMidway load (middle ++ before) → HoldsCalls load middle
held-back load [] before each goes mid = tt
held-back load (i ∷ middle) before each goes mid =
    let b = back load (middle ++ before) i each.1 goes.0
    (fate load (middle ++ before) i each.1.next.outcome) mid in
    (b.held, held-back load middle before each.0 goes.1 b.before)

-- directly before a packet of a segment
midway : (load : Load) (earlier : List Item) (item : Item) →
    EachItem (IsPlaced load) (item ∷ earlier) → IsOfSegment load item →
    (IsTold load earlier item → ⊥) → IsMidway load earlier
midway load earlier item each of untold = by (fate load earlier item each.1.next.outcome)
  where
    not_over : is_overflow item.origin ≡ false
    not_over = by_test (is_overflow item.origin) (λ over. breaks over of.goes_on)
      where
        breaks : is_overflow item.origin ≡ true →
            ((is_break (event_of load item) ≡ false) ⊎ (is_stop_reply item.origin ≡ true)) → ⊥
        breaks over (inl test) =
            clash (is_break (event_of load item))
            (overflow_breaks load item.moment item.origin over) test
        breaks over (inr stop) =
            clash (is_stop_reply item.origin) stop (overflow_plain load item.origin over).2

    begun : is_restarting load earlier ≡ true →
        ((is_break (event_of load item) ≡ false) ⊎ (is_stop_reply item.origin ≡ true)) → ⊥
    begun r (inl test) =
        clash (is_break (event_of load item))
        (restart-breaks load item.moment item.origin
        (begins load earlier item each.1 not_over r) of.packet) test
    begun r (inr stop) = not_stop (begins load earlier item each.1 not_over r)
      where
        not_stop : Begins item.origin → ⊥
        not_stop (inl sync) = clash (is_sync item.origin) (ap is_sync sync) of.packet
        not_stop (inr start) =
            clash (is_stop_reply item.origin) stop (start-not-stop item.origin start)

    by : Fate load earlier item → IsMidway load earlier
    by (handling control out) = absurd (clash (is_stored item.outcome) of.stored (ap is_stored out))
    by (ignoring control off out) =
        absurd (clash (is_stored item.outcome) of.stored (ap is_stored out))
    by (refusing control on out) =
        absurd (clash (is_stored item.outcome) of.stored (ap is_stored out))
    by (storing control on free out) = record {
      none = empty (clear load earlier item each.0 each.1 packet on free);
      on = on;
      calm = by_test (is_restarting load earlier) (λ r. begun r of.goes_on);
    }
      where
        packet : is_packet item ≡ true
        packet =
            ap (holds_packet item.origin) out
            ∙ stored_packet load item.origin control of.packet not_over

        empty : IsClear load earlier item → pending_at earlier ≡ 0
        empty (inl (none, last)) = none
        empty (inr t) = absurd (untold t)

-- no stored break stands before a packet of a segment, but the one that begins it
told-first : (load : Load) (o : Item) (middle : List Item) (before : List Item) (item : Item) →
    HoldsNoBreak load (o ∷ middle) → IsTold load ((o ∷ middle) ++ before) item → ⊥
told-first load o middle before item goes t =
    let same : o ≡ t.overflow = first t.whole in
    clash (is_break (event_of load o))
    (overflow_breaks load o.moment o.origin
    (subst (λ (x : Item). is_overflow x.origin ≡ true) (sym same) t.over))
    (goes.0 (subst (λ (x : Item). is_stored x.outcome ≡ true) (sym same) t.stored))
  where
    first : {a b : Item} {xs ys : List Item} → a ∷ xs ≡ b ∷ ys → a ≡ b
    first e = cc

held : (load : Load) (middle before : List Item) (item : Item) →
    EachItem (IsPlaced load) (item ∷ (middle ++ before)) → IsOfSegment load item →
    HoldsNoBreak load middle → HoldsCalls load middle
held load [] before item each of goes = tt
held load (o ∷ middle) before item each of goes =
    held-back load (o ∷ middle) before each.0 goes
    (midway load ((o ∷ middle) ++ before) item each of (told-first load o middle before item goes))

-- the items of a legal journal, the latest first: those before a packet of a segment, back to the
-- last break
pub segment_held : (load : Load) (items : List Item) (after middle before : List Item)
    (item : Item) → IsLegal load items → latest_first items ≡ after ++ item ∷ (middle ++ before) →
    IsOfSegment load item → HoldsNoBreak load middle → HoldsCalls load middle
segment_held load items after middle before item legal whole of goes =
    held load middle before item
    (each_after (IsPlaced load) after (item ∷ (middle ++ before))
    (subst (EachItem (IsPlaced load)) whole (placed load items legal))) of goes
