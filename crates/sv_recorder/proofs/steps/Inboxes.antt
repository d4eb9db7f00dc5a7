-- A command that waits for its parameter.
use Rattle.std.proofs.Common.{◌≡◌, ℕ, ◌≤◌, List, ◌∷◌, ◌++◌}
use Rattle.std.proofs.Common.{refl, sym, ap, ◌∙◌, subst, arith, append-nil, append_assoc}
use Rattle.std.specs.Prelude.{Option, Some, None, IfSome, IsNone, ◌↔◌}
use Rattle.sv_ring.specs.declared.down_reader.DownReader.{Ghosts}
use Rattle.sv_ring.specs.Down.{given, empties_after, IsFront}
use Rattle.sv_prim.specs.Counts.{Rose}
use Rattle.sv_load.specs.declared.load.Command.{Command}
use Rattle.sv_recorder.specs.declared.inbox.Inbox.{Inbox}
use Rattle.sv_recorder.specs.Commands.{TakesFirstByte, TakesCommand}
use Rattle.sv_recorder.specs.Commands.{MayWait}

abbrev no_number : Option ℕ
no_number = None

-- a ring that gives no byte has none left
pub none_left : (result : Option ℕ) (answered now : List ℕ) (asked asked_now : Option (List ℕ))
    (empties empties_now : ℕ) → now ≡ answered ++ given result → asked_now ≡ asked
    → empties_now ≡ empties_after result empties
    → IfSome asked (λ bytes. IsNone result ↔ (answered ≡ bytes)) → result ≡ None
    → Rose empties empties_now × IfSome asked_now (λ bytes. now ≡ bytes)
none_left (Some byte) answered now asked asked_now empties empties_now gained same rose all none =
    absurd (there none)
  where
    there : {b : ℕ} → Some b ≡ None → ⊥
    there e = cc
none_left None answered now asked asked_now empties empties_now gained same rose all none = (
  subst (λ (n : ℕ). Rose empties n) (sym rose) (least (empties_after None empties)),
  subst (λ (a : Option (List ℕ)). IfSome a (λ bytes. now ≡ bytes)) (sym same) (by asked all),
)
  where
    least : (n : ℕ) → n ≤ n
    least n = omega arith

    by : (a : Option (List ℕ)) → IfSome a (λ bytes. IsNone no_number ↔ (answered ≡ bytes))
        → IfSome a (λ bytes. now ≡ bytes)
    by None h = tt
    by (Some bytes) h = gained ∙ append-nil answered ∙ h.0 refl

module _ {D : Type 0} (d : Ghosts D) where
  abbrev pub Beginning : Inbox D → Inbox D → Option ℕ → Type 0
  Beginning old new found = TakesFirstByte d.ring d.answered d.empties d.asked old new found

  abbrev pub Taking : Inbox D → Inbox D → Option Command → Type 0
  Taking old new found = TakesCommand d.ring d.answered d.empties d.asked old new found

  -- what one call of the ring does
  pub record Nexts (old new : D) (result : Option ℕ) : Type 0 where
    pub ring : d.ring new ≡ d.ring old
    pub answered : d.answered new ≡ d.answered old ++ given result
    pub empties : d.empties new ≡ empties_after result (d.empties old)
    pub asked : d.asked new ≡ d.asked old
    pub front : IfSome (d.asked new) (IsFront (d.answered new))
    pub all : IfSome (d.asked old) (λ bytes. IsNone result ↔ (d.answered old ≡ bytes))

  pub no_byte : (old new : D) (result : Option ℕ) → Nexts old new result → result ≡ None
      → Rose (d.empties old) (d.empties new) × IfSome (d.asked new) (λ bytes. d.answered new
      ≡ bytes)
  no_byte old new result n none = none_left result (d.answered old) (d.answered new) (d.asked old)
      (d.asked new) (d.empties old) (d.empties new) n.answered n.asked n.empties n.all none

  -- what waited and was taken, after one byte more
  after_next : (old mid new : Inbox D) (first result : Option ℕ) (byte : ℕ)
      (b : Beginning old mid first) → first ≡ Some byte → Nexts mid.down new.down result
      → (d.answered new.down ≡ d.answered old.down ++ (b.taken ++ given result))
      × (given old.kept ++ (b.taken ++ given result) ≡ byte ∷ given result)
  after_next old mid new first result byte b some n = (
    n.answered ∙ ap (λ (bs : List ℕ). bs ++ given result) b.gained
        ∙ append_assoc (d.answered old.down) b.taken (given result),
    sym (append_assoc (given old.kept) b.taken (given result))
        ∙ ap (λ (bs : List ℕ). bs ++ given result) (b.bytes ∙ ap given some),
  )

  -- a command whose parameter is not there yet
  pub takes_later : (old mid new : Inbox D) (first result : Option ℕ) (byte : ℕ)
      → Beginning old mid first → first ≡ Some byte → 128 ≤ byte
      → Nexts mid.down new.down result → result ≡ None → new.kept ≡ Some byte
      → Taking old new None
  takes_later old mid new first result byte b some long n none kept =
      let both = after_next old mid new first result byte b some n in
      record {
        ring_same = n.ring ∙ b.ring_same;
        asked_same = n.asked ∙ b.asked_same;
        taken = b.taken ++ given result;
        gained = both.0;
        bytes = both.1 ∙ ap (λ (r : Option ℕ). byte ∷ given r) none ∙ sym (ap given kept);
        param = tt;
        alone = tt;
        front = λ h. n.front;
        waits = subst (λ (k : Option ℕ). MayWait (given k)) (sym kept) (long, refl);
        none = λ e. subst (λ (k : ℕ). Rose k (d.empties new.down)
            × IfSome (d.asked new.down) (λ bytes. d.answered new.down ≡ bytes)) (b.some byte some)
            (no_byte mid.down new.down result n none);
      }
