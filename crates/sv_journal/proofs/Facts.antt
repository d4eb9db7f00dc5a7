-- What an item is told by, of those that follow the same items.
use Rattle.std.proofs.Common.{◌≡◌, ℕ, ◌+◌, ◌-◌, ◌≤◌, Bool, true, false, not, ◌&&◌, ◌||◌, cond, List}
use Rattle.std.proofs.Common.{[], ◌∷◌, ◌++◌, length, refl, sym, ap, ◌∙◌, arith, zero-add}
use Rattle.std.specs.Prelude.{sum_by, nat_lt}
use Rattle.std.proofs.lemmas.List.Sums.{sum_by-cons}
use Rattle.sv_load.specs.Load.{Load}
use Rattle.sv_journal.specs.declared.journal.Origin.{Origin}
use Rattle.sv_journal.specs.declared.journal.Origin.TheVariants.{Call, Sync, Reply, Overflow}
use Rattle.sv_journal.specs.declared.journal.Origin.TheVariants.{Command}
use Rattle.sv_journal.specs.declared.journal.Outcome.TheVariants.{Stored, Refused, Ignored, Handled}
use Rattle.sv_journal.specs.declared.journal.Item.{Item}
use Rattle.sv_journal.specs.Items.{is_sync, is_overflow, is_stored, is_refused, is_packet}
use Rattle.sv_journal.specs.Items.{holds_packet, is_on, is_written, pending_at, is_after_overflow}
use Rattle.sv_journal.specs.Items.{is_after_refused_overflow, before_overflow, room_at, block_of}
use Rattle.sv_journal.specs.Items.{item_of}
use Rattle.sv_journal.specs.Legal.{IsNextItem, IsMoment, IsCount, EachItem, step_ticks, is_control}
use Rattle.sv_journal.specs.Legal.{outcome_at, freed_before}
use Rattle.sv_journal.specs.Frees.{written_freed, frees_before}
use Rattle.sv_journal.proofs.Parts.{no_packet}

-- no overflow stands directly before an overflow
pub no_overflow : (load : Load) (earlier : List Item) (o : Item) → is_overflow o.origin ≡ true →
    IsNextItem load earlier o → is_after_overflow earlier ≡ false
no_overflow load earlier o overflow next =
    next.overflow
    ∙ ap
    (λ b. (b && is_on load (before_overflow earlier)) &&
    nat_lt 0 (pending_at (before_overflow earlier))) (no_packet o.origin o.outcome overflow)

-- the moment of an item that is no overflow
abbrev pub ticks_in : Load → List Item → ℕ
ticks_in load items = sum_by (λ i. step_ticks load i.origin) items

pub moment_is : (load : Load) (earlier : List Item) (i : Item) (o : Origin) →
    is_overflow o ≡ false → IsMoment load earlier i o → i.moment ≡ ticks_in load (i ∷ earlier)
moment_is load earlier i (Call writer step) other h = h
moment_is load earlier i Sync other h = h
moment_is load earlier i (Reply kind index) other h = h
moment_is load earlier i (Overflow count) other h = cc
moment_is load earlier i (Command byte param) other h = h

-- one item more
pub ticks-cons : (load : Load) (i : Item) (earlier : List Item) →
    ticks_in load (i ∷ earlier) ≡ step_ticks load i.origin + ticks_in load earlier
ticks-cons load i earlier = sum_by-cons (λ (j : Item). step_ticks load j.origin) i earlier

pub no_ticks : (load : Load) (o : Origin) → is_overflow o ≡ true → step_ticks load o ≡ 0
no_ticks load (Call writer step) h = cc
no_ticks load Sync h = refl
no_ticks load (Reply kind index) h = refl
no_ticks load (Overflow count) h = refl
no_ticks load (Command byte param) h = refl

-- an overflow directly before takes no ticks
pub ticks-before_overflow : (load : Load) (earlier : List Item) →
    ticks_in load (before_overflow earlier) ≡ ticks_in load earlier
ticks-before_overflow load [] = refl
ticks-before_overflow load (o ∷ earlier) = at (is_overflow o.origin) refl where
  at : (b : Bool) → is_overflow o.origin ≡ b →
      ticks_in load (cond b earlier (o ∷ earlier)) ≡ ticks_in load (o ∷ earlier)
  at true e =
      sym
      (ticks-cons load o earlier
      ∙ (ap (λ n. n + ticks_in load earlier) (no_ticks load o.origin e)
      ∙ zero-add (ticks_in load earlier)))
  at false e = refl

-- what an origin is a packet for: a call that is no start and no stop, and a reply
abbrev pub forms_packet : Load → Origin → Bool
forms_packet load (Call writer step) = not (is_control load (Call writer step))
forms_packet load (Reply kind index) = true
forms_packet load other = false

-- an item is a packet by its origin
pub packet_is : (load : Load) (earlier : List Item) (i : Item) →
    i.outcome ≡ outcome_at load earlier i → is_packet i ≡ forms_packet load i.origin
packet_is load earlier i outcome = ap (holds_packet i.origin) outcome ∙ at i.origin where
  becomes : (writer step : ℕ) (control on behind below : Bool)
      → holds_packet (Call writer step)
      (cond control Handled
      (cond (not on) Ignored (cond behind Refused (cond below Refused Stored)))) ≡ not control
  becomes writer step true on behind below = refl
  becomes writer step false true true below = refl
  becomes writer step false true false true = refl
  becomes writer step false true false false = refl
  becomes writer step false false behind below = refl

  at : (o : Origin)
      → holds_packet o
      (cond (is_control load o) Handled
      (cond (not (is_on load earlier)) Ignored
      (cond (is_after_refused_overflow earlier) Refused
      (cond (nat_lt (room_at load earlier i) (length (block_of load earlier i))) Refused Stored))))
      ≡ forms_packet load o
  at (Call writer step) =
      becomes writer step (is_control load (Call writer step)) (is_on load earlier)
      (is_after_refused_overflow earlier)
      (nat_lt (room_at load earlier i) (length (block_of load earlier i)))
  at Sync = refl
  at (Reply kind index) = refl
  at (Overflow count) = refl
  at (Command byte param) = refl

-- an item by its fields
pub same_item : (i j : Item) → i.origin ≡ j.origin → i.moment ≡ j.moment → i.freed ≡ j.freed →
    i.outcome ≡ j.outcome → i ≡ j
same_item i j origin moment freed outcome =
    ap (λ o. item_of o i.moment i.freed i.outcome) origin
    ∙ (ap (λ m. item_of j.origin m i.freed i.outcome) moment
    ∙ (ap (λ n. item_of j.origin j.moment n i.outcome) freed
    ∙ ap (λ r. item_of j.origin j.moment j.freed r) outcome))

same_becomes : (load : Load) (earlier : List Item) (i j : Item) → i.origin ≡ j.origin →
    i.moment ≡ j.moment → i.freed ≡ j.freed → outcome_at load earlier i ≡ outcome_at load earlier j
same_becomes load earlier i j origin moment freed =
    ap (λ o. outcome_at load earlier (item_of o i.moment i.freed Handled)) origin
    ∙ (ap (λ m. outcome_at load earlier (item_of j.origin m i.freed Handled)) moment
    ∙ ap (λ n. outcome_at load earlier (item_of j.origin j.moment n Handled)) freed)

-- two items that follow the same items, of one origin, moment and freed
pub same_next : (load : Load) (earlier : List Item) (i j : Item) → IsNextItem load earlier i →
    IsNextItem load earlier j → i.origin ≡ j.origin → i.moment ≡ j.moment → i.freed ≡ j.freed →
    i ≡ j
same_next load earlier i j next_i next_j origin moment freed =
    same_item i j origin moment freed
    (next_i.outcome ∙ (same_becomes load earlier i j origin moment freed ∙ sym next_j.outcome))

-- an overflow counts what is pending, so there is only one
pub overflow_is : (earlier : List Item) (o : Origin) → is_overflow o ≡ true → IsCount earlier o →
    o ≡ Overflow (pending_at earlier)
overflow_is earlier (Call writer step) h count = cc
overflow_is earlier Sync h count = cc
overflow_is earlier (Reply kind index) h count = cc
overflow_is earlier (Overflow count) h counted = ap (λ n. Overflow n) counted
overflow_is earlier (Command byte param) h count = cc

-- WHAT IS WRITTEN

-- what is written, by its origin: a sync, an overflow, and a packet while on that no refused
-- overflow stands directly before
abbrev pub writes : Load → List Item → Origin → Bool
writes load earlier o =
    is_sync o || is_overflow o ||
    (forms_packet load o && is_on load earlier && not (is_after_refused_overflow earlier))

-- an item is written by its origin
pub written_is : (load : Load) (earlier : List Item) (i : Item) →
    i.outcome ≡ outcome_at load earlier i → is_written earlier i ≡ writes load earlier i.origin
written_is load earlier i outcome =
    ap
    (λ r. is_sync i.origin || is_overflow i.origin ||
    (holds_packet i.origin r && (is_stored r || is_refused r) &&
    not (is_after_refused_overflow earlier))) outcome
    ∙ at i.origin (is_on load earlier) (is_after_refused_overflow earlier)
    (nat_lt (room_at load earlier i) (length (block_of load earlier i))) where
      becomes : (writer step : ℕ) (control on behind below : Bool)
          → (holds_packet (Call writer step)
          (cond control Handled
          (cond (not on) Ignored (cond behind Refused (cond below Refused Stored))))
          && (is_stored
          (cond control Handled
          (cond (not on) Ignored (cond behind Refused (cond below Refused Stored)))) ||
          is_refused
          (cond control Handled
          (cond (not on) Ignored (cond behind Refused (cond below Refused Stored))))) && not behind)
          ≡ (not control && on && not behind)
      becomes writer step true on behind below = refl
      becomes writer step false true true below = refl
      becomes writer step false true false true = refl
      becomes writer step false true false false = refl
      becomes writer step false false behind below = refl

      told : (on behind below : Bool)
          → ((is_stored (cond (not on) Ignored (cond behind Refused (cond below Refused Stored))) ||
          is_refused (cond (not on) Ignored (cond behind Refused (cond below Refused Stored)))) &&
          not behind)
          ≡ (on && not behind)
      told true true below = refl
      told true false true = refl
      told true false false = refl
      told false behind below = refl

      at : (o : Origin) (on behind below : Bool)
          → (is_sync o || is_overflow o ||
          (holds_packet o
          (cond (is_control load o) Handled
          (cond (not on) Ignored (cond behind Refused (cond below Refused Stored))))
          && (is_stored
          (cond (is_control load o) Handled
          (cond (not on) Ignored (cond behind Refused (cond below Refused Stored)))) ||
          is_refused
          (cond (is_control load o) Handled
          (cond (not on) Ignored (cond behind Refused (cond below Refused Stored))))) &&
          not behind))
          ≡ (is_sync o || is_overflow o || (forms_packet load o && on && not behind))
      at (Call writer step) on behind below =
          becomes writer step (is_control load (Call writer step)) on behind below
      at Sync on behind below = refl
      at (Reply kind index) on behind below = told on behind below
      at (Overflow count) on behind below = refl
      at (Command byte param) on behind below = refl

-- WHAT IS FREED

-- freed never falls
pub freed_kept : (load : Load) (earlier : List Item) → EachItem (IsNextItem load) earlier →
    written_freed earlier ≤ freed_before earlier
freed_kept load [] each = omega arith
freed_kept load (i ∷ earlier) each =
    at (is_written earlier i) (freed_kept load earlier each.0) each.1.freed_rises where
      at : (b : Bool) → written_freed earlier ≤ freed_before earlier →
          freed_before earlier ≤ i.freed →
          cond b i.freed (written_freed earlier) ≤ i.freed
      at true kept rises = omega arith
      at false kept rises = omega (arith, kept, rises)

pub freed_rises : (load : Load) (earlier : List Item) (i : Item) →
    EachItem (IsNextItem load) (i ∷ earlier) → written_freed earlier ≤ i.freed
freed_rises load earlier i each = through (freed_kept load earlier each.0) each.1.freed_rises where
  through : {a b c : ℕ} → a ≤ b → b ≤ c → a ≤ c
  through p q = omega arith

-- of a written item one number is freed more
pub frees-written : (earlier : List Item) (i : Item) → is_written earlier i ≡ true →
    frees_before (i ∷ earlier) ≡ frees_before earlier ++ (i.freed - written_freed earlier) ∷ []
frees-written earlier i e =
    ap (λ b. frees_before earlier ++ cond b ((i.freed - written_freed earlier) ∷ []) []) e

pub freed-written : (earlier : List Item) (i : Item) → is_written earlier i ≡ true →
    written_freed (i ∷ earlier) ≡ i.freed
freed-written earlier i e = ap (λ b. cond b i.freed (written_freed earlier)) e

-- an overflow is written
pub overflow_written : (earlier : List Item) (i : Item) → is_overflow i.origin ≡ true →
    is_written earlier i ≡ true
overflow_written earlier i e =
    ap
    (λ b. is_sync i.origin || b ||
    (is_packet i && (is_stored i.outcome || is_refused i.outcome) &&
    not (is_after_refused_overflow earlier))) e ∙ at (is_sync i.origin) where
      at : (b : Bool) →
          (b || true ||
          (is_packet i && (is_stored i.outcome || is_refused i.outcome) &&
          not (is_after_refused_overflow earlier))) ≡ true
      at true = refl
      at false = refl
