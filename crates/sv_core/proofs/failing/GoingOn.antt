-- A legal front goes on with any origins that may follow, by any plan.
use Rattle.std.proofs.Common.{◌≡◌, ℕ, ◌+◌, ◌-◌, ◌≤◌, min, Bool, true, false, not, ◌&&◌, cond, List}
use Rattle.std.proofs.Common.{[], ◌∷◌, ◌++◌, drop, reverse, refl, sym, ap, ◌∙◌, subst, arith}
use Rattle.std.proofs.Common.{append_assoc, zero-add}
use Rattle.std.specs.Prelude.{nat_lt}
use Rattle.std.proofs.lemmas.List.{reverse-append}
use Rattle.std.proofs.lemmas.Bool.{true≢false}
use Rattle.sv_ring.specs.Ring.{Way, Plan, first_of}
use Rattle.sv_load.specs.Load.{Load}
use Rattle.sv_journal.specs.declared.journal.Origin.{Origin}
use Rattle.sv_journal.specs.declared.journal.Origin.TheVariants.{Call, Sync, Reply, Overflow}
use Rattle.sv_journal.specs.declared.journal.Origin.TheVariants.{Command}
use Rattle.sv_journal.specs.declared.journal.Outcome.{Outcome}
use Rattle.sv_journal.specs.declared.journal.Outcome.TheVariants.{Handled}
use Rattle.sv_journal.specs.declared.journal.Item.{Item}
use Rattle.sv_journal.specs.Items.{is_call_of, is_overflow, is_on, is_written, pending_at}
use Rattle.sv_journal.specs.Items.{is_after_overflow, stored_before, item_of}
use Rattle.sv_journal.specs.Legal.{IsNextItem, IsCommandInPlace, IsNextStep, EachItem}
use Rattle.sv_journal.specs.Legal.{owes_overflow, outcome_at, freed_before, origins_of, step_ticks}
use Rattle.sv_journal.proofs.Shared.{Stands, next-plain, next-overflow, next-after}
use Rattle.sv_journal.proofs.Shared.{after_refused-fresh, outcome_at-write, stored_before-le}
use Rattle.sv_journal.proofs.Shared.{reverse_moved, forms_packet, packet_is, writes, written_is}
use Rattle.sv_journal.proofs.Shared.{ticks_in, ticks-cons, origins_of-append}
use Rattle.sv_recorder.specs.Freed.{IsFreed, AreFreed, way_left}
use Rattle.sv_core.proofs.parts.NoHeads.{AreAnswers, is_answer}
use Rattle.sv_core.proofs.parts.Counts.{count-not}

-- ONE ITEM BY A PLAN

-- what is freed by the first number where the item is written
abbrev freed_by : Load → List Item → Origin → List ℕ → ℕ → ℕ
freed_by load earlier o left freed =
    cond (writes load earlier o) (freed + min (first_of left) (stored_before load earlier - freed))
    freed

abbrev left_by : Load → List Item → Origin → List ℕ → List ℕ
left_by load earlier o left = cond (writes load earlier o) (drop 1 left) left

-- the item of an origin
abbrev made_item : Load → List Item → Origin → ℕ → ℕ → Item
made_item load earlier o moment freed =
    item_of o moment freed (outcome_at load earlier (item_of o moment freed Handled))

record IsMade (load : Load) (earlier : List Item) (i : Item) (left : List ℕ) (freed : ℕ)
    (left_now : List ℕ) : Type 0 where
  moved : IsFreed load earlier (Plan left) freed i
  way : way_left earlier i (Plan left) ≡ Plan left_now
  rises : freed ≤ i.freed
  stored : i.freed ≤ stored_before load earlier

is_made :
    (load : Load) (earlier : List Item) (o : Origin) (moment : ℕ) (left : List ℕ) (freed : ℕ) →
    freed ≤ stored_before load earlier
    → IsMade load earlier (made_item load earlier o moment (freed_by load earlier o left freed))
    left freed (left_by load earlier o left)
is_made load earlier o moment left freed within = record {
  moved = (
    λ w. ap (λ b. cond b risen freed) (sym written ∙ w),
    λ idle. ap (λ b. cond b risen freed) (sym written ∙ idle),
  );
  way = ap (λ b. cond b (Plan (drop 1 left)) (Plan left)) written ∙ way (writes load earlier o);
  rises = rises (writes load earlier o);
  stored = stored (writes load earlier o);
} where
  i : Item
  i = made_item load earlier o moment (freed_by load earlier o left freed)

  written : is_written earlier i ≡ writes load earlier o
  written = written_is load earlier i refl

  risen : ℕ
  risen = freed + min (first_of left) (stored_before load earlier - freed)

  way : (b : Bool) → cond b (Plan (drop 1 left)) (Plan left) ≡ Plan (cond b (drop 1 left) left)
  way true = refl
  way false = refl

  rises : (b : Bool) → freed ≤ cond b risen freed
  rises true = omega arith
  rises false = omega arith

  stored : (b : Bool) → cond b risen freed ≤ stored_before load earlier
  stored true = most (first_of left) (stored_before load earlier) freed within where
    most : (n s f : ℕ) → f ≤ s → f + min n (s - f) ≤ s
    most n s f h = omega arith
  stored false = within

-- FRONTS THAT GO ON

-- a front, and what is freed behind it
pub record CanGoOn (load : Load) (start : List Item) (freed : ℕ) : Type 0 where
  pub each : EachItem (IsNextItem load) start
  pub ends : is_after_overflow start ≡ false
  pub rises : freed_before start ≤ freed
  pub stored : freed ≤ stored_before load start

-- what goes on with these origins
pub record Runs (load : Load) (start : List Item) (left : List ℕ) (freed : ℕ) (os : List Origin) :
    Type 0 where
  pub more : List Item
  pub left_now : List ℕ
  pub freed_now : ℕ
  pub moved : AreFreed load start more (Plan left) freed (Plan left_now) freed_now
  pub told : origins_of more ≡ os
  pub on : CanGoOn load (reverse more ++ start) freed_now

pub run_none : (load : Load) (start : List Item) (left : List ℕ) (freed : ℕ) →
    CanGoOn load start freed → Runs load start left freed []
run_none load start left freed on = record {
  more = [];
  left_now = left;
  freed_now = freed;
  moved = (refl, refl);
  told = refl;
  on = on;
}

moved-append :
    (load : Load) (start xs ys : List Item) (way mid last : Way) (freed between now : ℕ) →
    AreFreed load start xs way freed mid between →
    AreFreed load (reverse xs ++ start) ys mid between last now
    → AreFreed load start (xs ++ ys) way freed last now
moved-append load start [] ys way mid last freed between now p q = rw (sym p.0, sym p.1) q
moved-append load start (i ∷ xs) ys way mid last freed between now p q = (
  p.0,
  moved-append load (i ∷ start) xs ys (way_left start i way) mid last i.freed between now p.1
      (subst (λ is. AreFreed load is ys mid between last now) (reverse_moved i xs start) q),
)

reversed : (xs ys start : List Item) →
    reverse ys ++ (reverse xs ++ start) ≡ reverse (xs ++ ys) ++ start
reversed xs ys start =
    sym (append_assoc (reverse ys) (reverse xs) start)
    ∙ ap (λ is. is ++ start) (sym (reverse-append xs ys))

-- further origins
pub run_more :
    (load : Load) (start : List Item) (left : List ℕ) (freed : ℕ) (os qs : List Origin)
    (r : Runs load start left freed os) →
    Runs load (reverse r.more ++ start) r.left_now r.freed_now qs
    → Runs load start left freed (os ++ qs)
run_more load start left freed os qs r s = record {
  more = r.more ++ s.more;
  left_now = s.left_now;
  freed_now = s.freed_now;
  moved =
      moved-append load start r.more s.more (Plan left) (Plan r.left_now) (Plan s.left_now) freed
      r.freed_now s.freed_now r.moved s.moved;
  told =
      origins_of-append r.more s.more
      ∙ (ap (λ os. os ++ origins_of s.more) r.told ∙ ap (λ qs. os ++ qs) s.told);
  on = subst (λ is. CanGoOn load is s.freed_now) (reversed r.more s.more start) s.on;
}

-- ONE ORIGIN MORE

-- an origin that forms a packet is no command, and takes the same step behind an overflow
behind_command : (load : Load) (earlier : List Item) (o : Origin) → forms_packet load o ≡ true →
    IsCommandInPlace earlier o
behind_command load earlier (Call writer step) h = tt
behind_command load earlier Sync h = tt
behind_command load earlier (Reply kind index) h = tt
behind_command load earlier (Overflow count) h = tt
behind_command load earlier (Command byte param) h = absurd (true≢false (sym h))

behind_step : (load : Load) (v : Item) (earlier : List Item) (o : Origin) →
    is_overflow v.origin ≡ true → IsNextStep load earlier o → IsNextStep load (v ∷ earlier) o
behind_step load v earlier (Call writer step) e h = (
  h.0 ∙ sym (count-not (λ (j : Item). is_call_of writer j.origin) v earlier (none v.origin e)),
  h.1,
) where
  none : (o : Origin) → is_overflow o ≡ true → is_call_of writer o ≡ false
  none (Call other step) f = cc
  none Sync f = refl
  none (Reply kind index) f = refl
  none (Overflow count) f = refl
  none (Command byte param) f = refl
behind_step load v earlier Sync e h = h
behind_step load v earlier (Reply kind index) e h = h
behind_step load v earlier (Overflow count) e h = h
behind_step load v earlier (Command byte param) e h = h

pub run_one : (load : Load) (start : List Item) (left : List ℕ) (freed : ℕ) (o : Origin) →
    CanGoOn load start freed → is_overflow o ≡ false → IsCommandInPlace start o →
    IsNextStep load start o
    → Runs load start left freed (o ∷ [])
run_one load start left freed o on other command step =
    at (forms_packet load o && is_on load start && nat_lt 0 (pending_at start)) refl where
      moment : ℕ
      moment = step_ticks load o + ticks_in load start

      owed : (earlier : List Item) (i : Item) → i.origin ≡ o →
          i.outcome ≡ outcome_at load earlier i →
          owes_overflow load start i
          ≡ (forms_packet load o && is_on load start && nat_lt 0 (pending_at start))
      owed earlier i origin outcome =
          ap (λ b. b && is_on load start && nat_lt 0 (pending_at start))
          (packet_is load earlier i outcome ∙ ap (forms_packet load) origin)

      told : (n : ℕ) (outcome : Outcome) → origins_of (item_of o moment n outcome ∷ []) ≡ o ∷ []
      told n outcome = ap (λ b. cond (not b) (o ∷ []) []) other

      at : (b : Bool) →
          (forms_packet load o && is_on load start && nat_lt 0 (pending_at start)) ≡ b →
          Runs load start left freed (o ∷ [])
      at false e =
          let i : Item = made_item load start o moment (freed_by load start o left freed) in
          let m : IsMade load start i left freed (left_by load start o left) =
          is_made load start o moment left freed on.stored in
          let stands : Stands load start i = record {
            other = other;
            command = command;
            step = step;
            moment = sym (ticks-cons load i start);
            freed_rises = omega (arith, on.rises, m.rises);
            freed_stored = m.stored;
            outcome = refl;
          } in
          record {
            more = i ∷ [];
            left_now = left_by load start o left;
            freed_now = i.freed;
            moved = (m.moved, (sym m.way, refl));
            told = told i.freed i.outcome;
            on = record {
              each = (on.each, next-plain load start i stands on.ends (owed start i refl refl ∙ e));
              ends = other;
              rises = omega arith;
              stored = omega (arith, m.stored, stored_before-le load start i);
            };
          }
      at true e =
          let parts =
          and_parts (forms_packet load o) (is_on load start) (nat_lt 0 (pending_at start)) e in
          let v_origin : Origin = Overflow (pending_at start) in
          let v : Item =
          made_item load start v_origin moment (freed_by load start v_origin left freed) in
          let mv : IsMade load start v left freed (left_by load start v_origin left) =
          is_made load start v_origin moment left freed on.stored in
          let next_v : IsNextItem load start v =
          next-overflow load start (pending_at start) moment v.freed v.outcome refl on.ends parts.1
          (omega (arith, on.rises, mv.rises)) mv.stored
          (outcome_at-write load start v refl parts.1
          (after_refused-fresh start on.ends)) in
          let within : v.freed ≤ stored_before load (v ∷ start) =
          omega (arith, mv.stored, stored_before-le load start v) in
          let i : Item =
          made_item load (v ∷ start) o moment
          (freed_by load (v ∷ start) o (left_by load start v_origin left) v.freed) in
          let mi :
          IsMade load (v ∷ start) i (left_by load start v_origin left) v.freed
          (left_by load (v ∷ start) o (left_by load start v_origin left)) =
          is_made load (v ∷ start) o moment (left_by load start v_origin left) v.freed
          within in
          let ticks : ticks_in load (v ∷ start) ≡ ticks_in load start =
          ticks-cons load v start ∙ zero-add (ticks_in load start) in
          let stands : Stands load (v ∷ start) i = record {
            other = other;
            command = behind_command load (v ∷ start) o parts.0;
            step = behind_step load v start o refl step;
            moment = sym (ticks-cons load i (v ∷ start) ∙ ap (λ n. step_ticks load o + n) ticks);
            freed_rises = mi.rises;
            freed_stored = mi.stored;
            outcome = refl;
          } in
          record {
            more = v ∷ i ∷ [];
            left_now = left_by load (v ∷ start) o (left_by load start v_origin left);
            freed_now = i.freed;
            moved = (
              mv.moved,
              subst
                  (λ w.
                  AreFreed load (v ∷ start) (i ∷ []) w v.freed
                  (Plan (left_by load (v ∷ start) o (left_by load start v_origin left)))
                  i.freed) (sym mv.way) (mi.moved, (sym mi.way, refl)),
            );
            told = told i.freed i.outcome;
            on = record {
              each = (
                (on.each, next_v),
                next-after load start v i refl stands refl (owed (v ∷ start) i refl refl ∙ e),
              );
              ends = other;
              rises = omega arith;
              stored = omega (arith, mi.stored, stored_before-le load (v ∷ start) i);
            };
          } where
            and_parts : (a b c : Bool) → (a && b && c) ≡ true → (a ≡ true) × (b ≡ true)
            and_parts true true c h = (refl, refl)
            and_parts true false c h = cc
            and_parts false b c h = cc

-- a row of answers
pub run_answers : (load : Load) (os : List Origin) (start : List Item) (left : List ℕ) (freed : ℕ) →
    AreAnswers os → CanGoOn load start freed → Runs load start left freed os
run_answers load [] start left freed answers on = run_none load start left freed on
run_answers load (o ∷ os) start left freed answers on =
    let first : Runs load start left freed (o ∷ []) =
    run_one load start left freed o on (plain o answers.0) (command o answers.0)
    (step o answers.0) in
    run_more load start left freed (o ∷ []) os first
    (run_answers load os (reverse first.more ++ start) first.left_now first.freed_now answers.1
    first.on) where
      plain : (o : Origin) → is_answer o ≡ true → is_overflow o ≡ false
      plain (Reply kind index) h = refl
      plain Sync h = refl
      plain (Call writer place) h = refl
      plain (Overflow number) h = absurd (true≢false (sym h))
      plain (Command byte param) h = refl

      command : (o : Origin) → is_answer o ≡ true → IsCommandInPlace start o
      command (Reply kind index) h = tt
      command Sync h = tt
      command (Call writer place) h = tt
      command (Overflow number) h = tt
      command (Command byte param) h = absurd (true≢false (sym h))

      step : (o : Origin) → is_answer o ≡ true → IsNextStep load start o
      step (Reply kind index) h = tt
      step Sync h = tt
      step (Call writer place) h = absurd (true≢false (sym h))
      step (Overflow number) h = tt
      step (Command byte param) h = tt
