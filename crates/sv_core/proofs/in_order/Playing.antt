-- A recorder that takes the turns of a simulation, one after another.
use Rattle.std.proofs.Common.{◌≡◌, ℕ, ◌+◌, ◌<◌, ◌≤◌, min, true, false, cond, List, [], ◌∷◌, ◌++◌}
use Rattle.std.proofs.Common.{length, reverse, All, refl, sym, ap, ◌∙◌, subst, arith, append-nil}
use Rattle.std.specs.Prelude.{count_by, nat_lt, Option, IfSome}
use Rattle.std.specs.Option.{option_map}
use Rattle.sv_ring.specs.Down.{IsFront}
use Rattle.sv_ring.specs.Ring.{Still}
use Rattle.sv_load.specs.declared.load.Command.{Command}
use Rattle.sv_load.specs.Load.{Load, script_of}
use Rattle.sv_load.specs.Need.{steps_in}
use Rattle.sv_journal.specs.declared.journal.Item.{Item}
use Rattle.sv_journal.specs.Items.{latest_first, is_call_of, is_command}
use Rattle.sv_journal.specs.Legal.{IsLegal, commands_in}
use Rattle.sv_journal.specs.Section.{IsSection}
use Rattle.sv_journal.specs.Stream.{stream_of}
use Rattle.sv_journal.proofs.Shared.{calls_within}
use Rattle.sv_recorder.specs.Asked.{HasAsked}
use Rattle.sv_recorder.specs.Commands.{command_bytes, MayWait}
use Rattle.sv_recorder.specs.Freed.{AreFreed}
use Rattle.sv_recorder.specs.Recording.{Recording}
use Rattle.sv_recorder.proofs.Shared.{still-freed}
use Rattle.sv_core.specs.Order.{Turn, Takes_step, Reads, Reads_all, Sends, is_step, is_step_of}
use Rattle.sv_core.specs.Order.{is_send, is_possible}
use Rattle.sv_core.specs.Played.{HasSent, IsSending, IsPlayed, with_step, sent_first, played_rounds}
use Rattle.sv_core.specs.Simulated.{IsSimulated, IsInOrder, stored_by, taken_in}
use Rattle.sv_core.proofs.parts.Counts.{lt_true, lt_false, count-cons}
use Rattle.sv_core.proofs.parts.TurnCounts.{count-append, count-reverse}
use Rattle.sv_core.proofs.taking.Commands.{commands_of, is_found, sent-first, sent-read}
use Rattle.sv_core.proofs.taking.Commands.{sent-section, sent-send}
use Rattle.sv_core.proofs.in_order.Rounds.{AreEnough, order_played, count_first, count_whole}
use Rattle.sv_core.proofs.in_order.SectionParts.{commands_more}
use Rattle.sv_core.proofs.in_order.StepCounts.{own-steps}
use Rattle.sv_core.proofs.in_order.SectionMore.{turn_more, idle_more, stored_now, order_more}

-- the calls of a writer so far
abbrev pub own_calls : ℕ → List Item → ℕ
own_calls writer items = count_by (λ i. is_call_of writer i.origin) items

-- A STEP

-- no writer has more calls than steps, so that one that is not through has a step left
pub possible-left : (load : Load) (turns : List Turn) (before : Recording) (writer : ℕ)
    → IsPlayed load turns before
    → (own_calls writer before.items ≡ length (script_of before.load writer) → ⊥)
    → is_possible load (reverse turns) (Takes_step writer) ≡ true
possible-left load turns before writer p left =
    lt_true (count_by (is_step_of writer) (reverse turns)) (length (script_of load writer))
    (omega (
      arith,
      count-reverse (is_step_of writer) turns,
      own-steps load turns before.items writer p.ordered,
      most,
      apart,
    )) where
      most : own_calls writer before.items ≤ length (script_of load writer)
      most =
          subst (λ n. n ≤ length (script_of load writer))
          (count-reverse (λ (i : Item). is_call_of writer i.origin) before.items)
          (calls_within load writer (latest_first before.items) p.legal.each)

      apart : own_calls writer before.items ≡ length (script_of load writer) → ⊥
      apart e = left (e ∙ ap (λ (l : Load). length (script_of l writer)) (sym p.same))

pub possible-through : (load : Load) (turns : List Turn) (before : Recording) (writer : ℕ)
    → IsPlayed load turns before
    → own_calls writer before.items ≡ length (script_of before.load writer)
    → is_possible load (reverse turns) (Takes_step writer) ≡ false
possible-through load turns before writer p through =
    lt_false (count_by (is_step_of writer) (reverse turns)) (length (script_of load writer))
    (omega (
      arith,
      count-reverse (is_step_of writer) turns,
      own-steps load turns before.items writer p.ordered,
      through ∙ ap (λ (l : Load). length (script_of l writer)) p.same,
    ))

-- a writer that is through changes nothing
pub played-through : (load : Load) (turns : List Turn) (before after : Recording) (writer : ℕ)
    → IsPlayed load turns before
    → own_calls writer before.items ≡ length (script_of before.load writer) → after ≡ before
    → IsPlayed load (with_step load turns writer) after
played-through load turns before after writer p through same =
    subst (λ ts. IsPlayed load ts after)
    (sym
    (ap (λ b. turns ++ cond b (Takes_step writer ∷ []) [])
    (possible-through load turns before writer p through) ∙ append-nil turns))
    (subst (IsPlayed load turns) (sym same) p)

-- a turn that sends nothing
sends-more : (turns : List Turn) (t : Turn) → is_send t ≡ false
    → count_by is_send (turns ++ t ∷ []) ≡ count_by is_send turns
sends-more turns t unsent =
    count-append is_send turns (t ∷ [])
    ∙ omega (arith, count-cons is_send t [] ∙ ap (λ b. cond b 1 0 + 0) unsent)

-- a section of one that has steps left
pub played-section : (load : Load) (turns : List Turn) (before after : Recording) (writer : ℕ)
    (found : Option Command) → IsPlayed load turns before
    → (own_calls writer before.items ≡ length (script_of before.load writer) → ⊥)
    → after.load ≡ before.load → IsLegal after.load after.items
    → after.sent ≡ stream_of after.load after.items
    → (s : IsSection before.items after.items writer found)
    → AreFreed before.load (latest_first before.items) s.more before.way before.freed after.way
    after.freed
    → after.asked ≡ before.asked → IfSome after.asked (IsFront after.answered)
    → MayWait after.kept → HasAsked before after found
    → IsPlayed load (with_step load turns writer) after
played-section load turns before after writer found p left same legal stream s moved asked_same
    front waits asked =
    subst (λ ts. IsPlayed load ts after)
    (sym
    (ap (λ b. turns ++ cond b (Takes_step writer ∷ []) [])
    (possible-left load turns before writer p left)))
    (record {
      same = load_is;
      sent = subst (HasSent load after) (sym (sends-more turns (Takes_step writer) refl)) host.0;
      legal = legal_now;
      stream = stream ∙ ap (λ (l : Load). stream_of l after.items) load_is;
      still = rest.0;
      ordered = subst (IsInOrder load next) (sym s.longer) done.0;
      taken =
          rest.1
          ∙ (p.taken
          ∙ sym (ap (λ is. taken_in load is (reverse next)) s.longer ∙ done.1));
    }) where
      next : List Turn
      next = turns ++ Takes_step writer ∷ []

      load_is : after.load ≡ load
      load_is = same ∙ p.same

      legal_now : IsLegal load after.items
      legal_now = subst (λ (l : Load). IsLegal l after.items) load_is legal

      rest : (after.way ≡ Still) × (after.freed ≡ before.freed)
          × All (λ (i : Item). i.freed ≡ before.freed) s.more
      rest =
          still-freed before.load (latest_first before.items) s.more before.way after.way
          before.freed after.freed p.still moved

      gained : commands_in after.items ≡ commands_in before.items ++ commands_of found
      gained =
          ap (λ (is : List Item). commands_in is) s.longer
          ∙ commands_more load before.items writer (own_calls writer before.items) found p.legal
          s.more (subst (IsLegal load) s.longer legal_now) s.heads

      host : HasSent load after (count_by is_send turns)
          × (is_found found
          ≡ nat_lt (count_by (λ i. is_command i.origin) before.items) (count_by is_send turns))
      host =
          let h = sent-section load before after (count_by is_send turns) found p.sent p.same
          gained asked_same front waits asked in (h.0, h.1)

      done : IsInOrder load next (before.items ++ s.more)
          × (taken_in load (before.items ++ s.more) (reverse next)
          ≡ taken_in load before.items (reverse turns))
      done =
          order_more load turns before.items s.more writer (own_calls writer before.items) found
          (sent-first load before (count_by is_send turns) p.sent) p.legal
          (subst (IsLegal load) s.longer legal_now) p.ordered s.heads host.1
          (subst (λ n. All (λ (i : Item). i.freed ≡ n) s.more) p.taken rest.2)

-- A READ

-- what the host may have taken by then
module _ (load : Load) (turns : List Turn) (before after : Recording) (t : Turn) (freed : ℕ)
    (p : IsPlayed load turns before) (read : after ≡ record before { freed = freed }) where
  played-idle : is_step t ≡ false → is_send t ≡ false
      → IsInOrder load (turns ++ t ∷ []) before.items
      → freed ≡ taken_in load before.items (t ∷ reverse turns)
      → IsPlayed load (turns ++ t ∷ []) after
  played-idle idle unsent order taken =
      subst (IsPlayed load (turns ++ t ∷ [])) (sym read)
      (record {
        same = p.same;
        sent =
            subst (HasSent load (record before { freed = freed }))
            (sym (sends-more turns t unsent))
            (sent-read load before (record before { freed = freed }) (count_by is_send turns) freed
            p.sent refl);
        legal = p.legal;
        stream = p.stream;
        still = p.still;
        ordered = order;
        taken = taken ∙ sym (ap (taken_in load before.items) (turn_more turns t));
      })

-- all that is stored
stored-all : (load : Load) (turns : List Turn) (before : Recording) → IsPlayed load turns before
    → length before.sent ≡ stored_by load before.items (count_by is_step (reverse turns))
stored-all load turns before p =
    ap length p.stream ∙ sym (stored_now load turns before.items p.legal p.ordered)

pub played-read : (load : Load) (turns : List Turn) (before after : Recording) (most : ℕ)
    → IsPlayed load turns before
    → after ≡ record before { freed = min (before.freed + most) (length before.sent) }
    → IsPlayed load (turns ++ Reads most ∷ []) after
played-read load turns before after most p read =
    played-idle load turns before after (Reads most)
    (min (before.freed + most) (length before.sent)) p read refl refl
    (idle_more load turns before.items (Reads most)
    (sent-first load before (count_by is_send turns) p.sent) p.legal refl refl p.ordered)
    (ap (λ n. min (n + most) (length before.sent)) p.taken
    ∙ ap (λ n. min (taken_in load before.items (reverse turns) + most) n)
    (stored-all load turns before p))

pub played-read_all : (load : Load) (turns : List Turn) (before after : Recording)
    → IsPlayed load turns before → after ≡ record before { freed = length before.sent }
    → IsPlayed load (turns ++ Reads_all ∷ []) after
played-read_all load turns before after p read =
    played-idle load turns before after Reads_all (length before.sent) p read refl refl
    (idle_more load turns before.items Reads_all
    (sent-first load before (count_by is_send turns) p.sent) p.legal refl refl p.ordered)
    (stored-all load turns before p)

-- A SEND

-- of the next command
pub played-send : (load : Load) (turns : List Turn) (before after : Recording)
    → IsPlayed load turns before → IsSending load before after (count_by is_send turns)
    → IsPlayed load (turns ++ Sends ∷ []) after
played-send load turns before after p s =
    subst (IsPlayed load (turns ++ Sends ∷ [])) (sym s.now)
    (record {
      same = p.same;
      sent =
          subst (HasSent load sent_now) (sym more)
          (sent-send load before sent_now (count_by is_send turns) p.sent
          (record { command = s.command; is = s.is; now = refl }));
      legal = p.legal;
      stream = p.stream;
      still = p.still;
      ordered =
          idle_more load turns before.items Sends
          (sent-first load before (count_by is_send turns) p.sent) p.legal refl refl p.ordered;
      taken = p.taken ∙ sym (ap (taken_in load before.items) (turn_more turns Sends));
    }) where
      sent_now : Recording
      sent_now = record before
          { asked = option_map (λ bytes. bytes ++ command_bytes s.command) before.asked }

      more : count_by is_send (turns ++ Sends ∷ []) ≡ count_by is_send turns + 1
      more =
          count-append is_send turns (Sends ∷ []) ∙ omega (arith, count-cons is_send Sends [])

-- THE END

-- after all turns of the order the journal is that of the simulation
pub played-all : (load : Load) (recorder : Recording) (rounds : ℕ) → AreEnough load rounds
    → IsPlayed load (played_rounds load rounds ++ Reads_all ∷ []) recorder
    → IsSimulated load recorder.items
played-all load recorder rounds are p = record {
  legal = p.legal;
  whole = record {
    scripts = λ writer below.
        own-steps load (played_rounds load rounds ++ Reads_all ∷ []) recorder.items writer
        p.ordered
        ∙ count_whole load rounds writer are below;
    commands =
        sent-first load recorder
        (count_by is_send (played_rounds load rounds ++ Reads_all ∷ [])) p.sent;
  };
  ordered =
      subst (λ ts. IsInOrder load ts recorder.items)
      (sym (order_played load rounds are)) p.ordered;
}

-- the most steps that any writer has left are rounds enough
pub are-enough : (load : Load) (recorder : Recording) (rounds : ℕ)
    → IsPlayed load (sent_first load) recorder
    → ((writer : ℕ) → writer < length load.scripts
    → length (script_of load writer) ≤ own_calls writer recorder.items + rounds)
    → rounds ≤ steps_in load → AreEnough load rounds
are-enough load recorder rounds p enough within = record {
  enough = λ writer below.
      omega (
        arith,
        enough writer below,
        own-steps load (sent_first load) recorder.items writer p.ordered,
        count_first load writer,
      );
  most = within;
}
