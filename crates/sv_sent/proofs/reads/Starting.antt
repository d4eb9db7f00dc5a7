-- Whether a journal has a start, looked at from its end.
use Rattle.std.proofs.Common.{◌≡◌, Bool, true, false, ◌||◌, Some, List, [], ◌∷◌, refl, sym, ap, ◌∙◌}
use Rattle.std.proofs.Common.{reverse}
use Rattle.std.specs.List.{list_any}
use Rattle.std.proofs.lemmas.List.{reverse-append}
use Rattle.std.proofs.lemmas.List.Folds.{list_any-append}
use Rattle.sv_load.specs.Load.{Load}
use Rattle.sv_journal.specs.declared.journal.Origin.{Origin}
use Rattle.sv_journal.specs.declared.journal.Item.{Item}
use Rattle.sv_journal.specs.Items.{latest_first, is_overflow, is_start, is_stop_reply, is_on}
use Rattle.sv_journal.proofs.Shared.{is_on-start, is_on-stop, is_on-other}
use Rattle.sv_sent.specs.Start.{has_start}
use Rattle.sv_sent.proofs.places.Fates.{overflow_plain, start_off_control}
use Rattle.sv_sent.proofs.places.Placed.{previous-other, previous-over}
use Rattle.sv_sent.proofs.places.Tests.{clash, or_last}
use Rattle.sv_sent.proofs.places.Following.{previous}

abbrev pub was_started : Load → List Item → Bool
was_started load earlier = list_any (λ i. is_start load i.origin) earlier

swapped : (a b : Bool) → (a || (b || false)) ≡ (b || a)
swapped true true = refl
swapped true false = refl
swapped false true = refl
swapped false false = refl

any-reverse : {X : Type 0} (p : X → Bool) (xs : List X) → list_any p (reverse xs) ≡ list_any p xs
any-reverse p [] = refl
any-reverse p (x ∷ xs) =
    ap (list_any p) (reverse-append (x ∷ []) xs)
    ∙ (list_any-append p (reverse xs) (x ∷ [])
    ∙ (ap (λ b. b || (p x || false)) (any-reverse p xs) ∙ swapped (list_any p xs) (p x)))

pub started_was : (load : Load) (items : List Item) →
    was_started load (latest_first items) ≡ has_start load items
started_was load items = any-reverse (λ i. is_start load i.origin) items

-- the previous origin is a start, so the recorder is on
pub on-previous : (load : Load) (earlier : List Item) (p : Origin) → previous earlier ≡ Some p →
    is_start load p ≡ true → is_on load earlier ≡ true
on-previous load [] p is start = absurd cc
on-previous load (i ∷ earlier) p is start = elim (is_overflow i.origin) as
    (λ b. is_overflow i.origin ≡ b → is_on load (i ∷ earlier) ≡ true) [
      | true ↦ λ over.
          is_on-other load earlier i
          (start_off_control load i.origin (overflow_plain load i.origin over).0)
          (overflow_plain load i.origin over).2
          ∙ on-previous load earlier p (sym (previous-over earlier i over) ∙ is) start
      | false ↦ λ other.
          is_on-start load earlier i
          (let same : i.origin ≡ p = here (sym (previous-other earlier i other) ∙ is) in
          ap (is_start load) same ∙ start)
    ] refl
  where
    here : {q r : Origin} → Some q ≡ Some r → q ≡ r
    here e = cc

pub started-previous : (load : Load) (earlier : List Item) (p : Origin) →
    previous earlier ≡ Some p → is_start load p ≡ true → was_started load earlier ≡ true
started-previous load [] p is start = absurd cc
started-previous load (i ∷ earlier) p is start = elim (is_overflow i.origin) as
    (λ b. is_overflow i.origin ≡ b → was_started load (i ∷ earlier) ≡ true) [
      | true ↦ λ over.
          ap (λ b. is_start load i.origin || b)
          (started-previous load earlier p (sym (previous-over earlier i over) ∙ is) start)
          ∙ or_last (is_start load i.origin)
      | false ↦ λ other.
          ap (λ b. b || was_started load earlier)
          (let same : i.origin ≡ p = here (sym (previous-other earlier i other) ∙ is) in
          ap (is_start load) same ∙ start)
    ] refl
  where
    here : {q r : Origin} → Some q ≡ Some r → q ≡ r
    here e = cc

-- a recorder that is on was started
pub started-on : (load : Load) (earlier : List Item) → is_on load earlier ≡ true →
    was_started load earlier ≡ true
started-on load [] on = absurd cc
started-on load (i ∷ earlier) on = elim (is_start load i.origin) as
    (λ b. is_start load i.origin ≡ b → was_started load (i ∷ earlier) ≡ true) [
      | true ↦ λ start. ap (λ b. b || was_started load earlier) start
      | false ↦ λ start.
          ap (λ b. b || was_started load earlier) start
          ∙ started-on load earlier (was-on load earlier i start on)
    ] refl
  where
    was-on : (load : Load) (earlier : List Item) (i : Item) → is_start load i.origin ≡ false →
        is_on load (i ∷ earlier) ≡ true → is_on load earlier ≡ true
    was-on load earlier i start on = elim (is_stop_reply i.origin) as
        (λ b. is_stop_reply i.origin ≡ b → is_on load earlier ≡ true) [
          | true ↦ λ stop.
              absurd (clash (is_on load (i ∷ earlier)) on (is_on-stop load earlier i start stop))
          | false ↦ λ other. sym (is_on-other load earlier i start other) ∙ on
        ] refl
