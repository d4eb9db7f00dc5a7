-- In a legal journal freed rises from one written item to the next by no more than the ring holds.
use Rattle.std.proofs.Common.{◌≡◌, ℕ, ◌+◌, ◌-◌, ◌<◌, ◌≤◌, ◌^◌, Bool, true, false, not, ◌&&◌, ◌||◌}
use Rattle.std.proofs.Common.{cond, List, [], ◌∷◌, ◌++◌, length, length-append, All, append-nil}
use Rattle.std.proofs.Common.{refl, sym, ap, ◌∙◌, subst, arith, rules}
use Rattle.std.specs.Prelude.{nat_lt, ◌==◌}
use Rattle.std.proofs.lemmas.Bool.{true≢false}
use Rattle.std.proofs.lemmas.List.Elements.{All-nil, All-cons, All-append}
use Rattle.sv_load.specs.Load.{Load}
use Rattle.sv_journal.specs.declared.journal.Origin.{Origin}
use Rattle.sv_journal.specs.declared.journal.Origin.TheVariants.{Call, Sync, Reply, Overflow}
use Rattle.sv_journal.specs.declared.journal.Origin.TheVariants.{Command}
use Rattle.sv_journal.specs.declared.journal.Outcome.TheVariants.{Stored, Refused, Ignored, Handled}
use Rattle.sv_journal.specs.declared.journal.Item.{Item}
use Rattle.sv_journal.specs.Items.{latest_first, is_sync, is_overflow, is_stored, is_on, is_written}
use Rattle.sv_journal.specs.Items.{is_after_refused_overflow, block_of, stream_before}
use Rattle.sv_journal.specs.Items.{stored_before, room_at}
use Rattle.sv_journal.specs.Legal.{IsLegal, IsNextItem, EachItem, is_control, outcome_at}
use Rattle.sv_journal.specs.Frees.{written_freed, frees_before}
use Rattle.sv_journal.proofs.Shared.{forms_packet, written_is, freed_rises}
use Rattle.sv_core.specs.Rises.{IsRise}
use Rattle.sv_core.specs.Turned.{RisesLittle}

-- a stored item has room, and an item that is not stored is none
fits : (load : Load) (earlier : List Item) (i : Item) → i.outcome ≡ outcome_at load earlier i →
    is_stored i.outcome ≡ true → length (block_of load earlier i) ≤ room_at load earlier i
fits load earlier i outcome stored =
    at (is_control load i.origin) (is_on load earlier) (is_after_refused_overflow earlier)
    (nat_lt (room_at load earlier i) (length (block_of load earlier i))) refl
    (sym (ap is_stored outcome) ∙ stored) where
      at : (control on behind below : Bool) →
          nat_lt (room_at load earlier i) (length (block_of load earlier i)) ≡ below
          → is_stored
          (cond control Handled
          (cond (not on) Ignored (cond behind Refused (cond below Refused Stored)))) ≡ true →
          length (block_of load earlier i) ≤ room_at load earlier i
      at true on behind below e h = cc
      at false false behind below e h = cc
      at false true true below e h = cc
      at false true false true e h = cc
      at false true false false e h = search (rules, e)

-- what is stored was written
stored_written : (load : Load) (earlier : List Item) (i : Item) →
    i.outcome ≡ outcome_at load earlier i → is_stored i.outcome ≡ true → is_written earlier i ≡ true
stored_written load earlier i outcome stored =
    written_is load earlier i outcome
    ∙ at i.origin (is_on load earlier) (is_after_refused_overflow earlier)
    (nat_lt (room_at load earlier i) (length (block_of load earlier i)))
    (sym (ap is_stored outcome) ∙ stored) where
      packet : (on behind below : Bool) →
          is_stored (cond (not on) Ignored (cond behind Refused (cond below Refused Stored)))
          ≡ true → (on && not behind) ≡ true
      packet true true below h = cc
      packet true false below h = refl
      packet false behind below h = cc

      call : (control on behind below : Bool) →
          is_stored
          (cond control Handled
          (cond (not on) Ignored (cond behind Refused (cond below Refused Stored)))) ≡ true →
          (not control && on && not behind) ≡ true
      call true on behind below h = cc
      call false on behind below h = packet on behind below h

      command : (a b on behind below : Bool) →
          is_stored
          (cond (a || b || true) Handled
          (cond (not on) Ignored (cond behind Refused (cond below Refused Stored)))) ≡ true →
          false ≡ true
      command true b on behind below h = cc
      command false true on behind below h = cc
      command false false on behind below h = cc

      at : (o : Origin) (on behind below : Bool) →
          is_stored
          (cond (is_control load o) Handled
          (cond (not on) Ignored (cond behind Refused (cond below Refused Stored)))) ≡ true
          → (is_sync o || is_overflow o || (forms_packet load o && on && not behind)) ≡ true
      at (Call writer step) on behind below h =
          call (is_control load (Call writer step)) on behind below h
      at Sync on behind below h = refl
      at (Reply kind index) on behind below h = packet on behind below h
      at (Overflow count) on behind below h = refl
      at (Command byte param) on behind below h = command (byte == 1) (byte == 2) on behind below h

-- no more is stored and not freed than the ring holds
pub held : (load : Load) (earlier : List Item) → EachItem (IsNextItem load) earlier →
    stored_before load earlier - written_freed earlier ≤ load.ring - 1
held load [] each = omega arith
held load (i ∷ earlier) each =
    at (is_written earlier i) (is_stored i.outcome) refl refl (held load earlier each.0) where
      rises : written_freed earlier ≤ i.freed
      rises = freed_rises load earlier i each

      room : is_stored i.outcome ≡ true →
          length (block_of load earlier i)
          ≤ (load.ring - 1) - (stored_before load earlier - i.freed)
      room e = fits load earlier i each.1.outcome e

      more : length (stream_before load earlier ++ block_of load earlier i)
          ≡ stored_before load earlier + length (block_of load earlier i)
      more = length-append (stream_before load earlier) (block_of load earlier i)

      same : length (stream_before load earlier ++ []) ≡ stored_before load earlier
      same = length-append (stream_before load earlier) [] ∙ omega arith

      none : is_stored i.outcome ≡ true → is_written earlier i ≡ false → ⊥
      none e f = true≢false (sym (stored_written load earlier i each.1.outcome e) ∙ f)

      at : (b s : Bool) → is_written earlier i ≡ b → is_stored i.outcome ≡ s →
          stored_before load earlier - written_freed earlier ≤ load.ring - 1
          → length (stream_before load earlier ++ cond s (block_of load earlier i) [])
          - cond b i.freed (written_freed earlier) ≤ load.ring - 1
      at true true f e before =
          subst (λ n. n - i.freed ≤ load.ring - 1) (sym more)
          (stored_more (stored_before load earlier) (length (block_of load earlier i))
          (written_freed earlier) i.freed (load.ring - 1) rises before (room e)) where
            stored_more : (s l w f c : ℕ) → w ≤ f → s - w ≤ c → l ≤ c - (s - f) → (s + l) - f ≤ c
            stored_more s l w f c p q r = omega arith
      at true false f e before =
          subst (λ n. n - i.freed ≤ load.ring - 1) (sym same) (omega (arith, rises, before))
      at false true f e before = absurd (none e f)
      at false false f e before =
          subst (λ n. n - written_freed earlier ≤ load.ring - 1) (sym same) before

-- FROM ONE WRITTEN ITEM TO THE NEXT

-- each rise is within the ring
pub each_rise : (load : Load) (items : List Item) → EachItem (IsNextItem load) items →
    EachItem (IsRise (load.ring - 1)) items
each_rise load [] each = tt
each_rise load (i ∷ earlier) each = (
  each_rise load earlier each.0,
  record {
    rises = λ written. freed_rises load earlier i each;
    bounded =
        λ written.
        below (stored_before load earlier) (written_freed earlier) i.freed (load.ring - 1)
        each.1.freed_stored (held load earlier each.0);
  },
) where
  below : (s w f c : ℕ) → f ≤ s → s - w ≤ c → f - w ≤ c
  below s w f c p q = omega arith

-- so are the numbers
pub frees_bounded : (most : ℕ) (items : List Item) → EachItem (IsRise most) items →
    All (λ n. n ≤ most) (frees_before items)
frees_bounded most [] each = All-nil (λ (n : ℕ). n ≤ most)
frees_bounded most (i ∷ earlier) each =
    at (is_written earlier i) refl (frees_bounded most earlier each.0) where
      at : (b : Bool) → is_written earlier i ≡ b →
          All (λ (n : ℕ). n ≤ most) (frees_before earlier) →
          All (λ (n : ℕ). n ≤ most)
          (frees_before earlier ++ cond b ((i.freed - written_freed earlier) ∷ []) [])
      at true e before =
          All-append (λ (n : ℕ). n ≤ most) (frees_before earlier)
          ((i.freed - written_freed earlier) ∷ []) before
          (All-cons (λ (n : ℕ). n ≤ most) (i.freed - written_freed earlier) []
          (each.1.bounded e) (All-nil (λ (n : ℕ). n ≤ most)))
      at false e before =
          subst (All (λ (n : ℕ). n ≤ most)) (sym (append-nil (frees_before earlier))) before

pub rising : (load : Load) (items : List Item) → IsLegal load items →
    EachItem (IsRise (load.ring - 1)) (latest_first items)
rising load items legal = each_rise load (latest_first items) legal.each

pub frees_small : (load : Load) (items : List Item) → IsLegal load items →
    All (λ n. n ≤ load.ring - 1) (frees_before (latest_first items))
frees_small load items legal =
    frees_bounded (load.ring - 1) (latest_first items) (rising load items legal)

-- so in a legal journal freed rises little
pub rises_little : (load : Load) (items : List Item) → load.ring ≤ 2 ^ 32 →
    EachItem (IsRise (load.ring - 1)) items → EachItem RisesLittle items
rises_little load [] ring each = tt
rises_little load (i ∷ earlier) ring each = (
  rises_little load earlier ring each.0,
  λ written. (
    each.1.rises written,
    below (written_freed earlier) i.freed load.ring (2 ^ 32) (each.1.rises written)
        (each.1.bounded written) ring refl,
  ),
) where
  below : (w f r n : ℕ) → w ≤ f → f - w ≤ r - 1 → r ≤ n → n ≡ 2 ^ 32 → f < w + n
  below w f r n p q s e = omega (arith, p, q, s, e)

pub little : (load : Load) (items : List Item) → IsLegal load items → load.ring ≤ 2 ^ 32 →
    EachItem RisesLittle (latest_first items)
little load items legal ring = rises_little load (latest_first items) ring (rising load items legal)
