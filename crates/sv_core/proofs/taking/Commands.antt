-- What a host sent, and what a section finds of it: whole commands, one at most.
use Rattle.std.proofs.Common.{◌≡◌, ℕ, zero, suc, ◌+◌, ◌<◌, ◌≤◌, Bool, true, false, cond, List, []}
use Rattle.std.proofs.Common.{◌∷◌, ◌++◌, length, take, drop, All, refl, sym, ap, ◌∙◌, subst, arith}
use Rattle.std.proofs.Common.{rules, append-nil, append_assoc, length-append, add-one, ◌⊎◌, inl}
use Rattle.std.proofs.Common.{inr, ◌*◌}
use Rattle.std.specs.Prelude.{flat_map, count_by, nat_lt, slice_get, Option, Some, None, IfSome}
use Rattle.std.specs.Prelude.{if◌then◌else◌}
use Rattle.std.specs.Option.{option_map}
use Rattle.std.proofs.lemmas.List.{append_cancel_left, take-append-drop, length-take-le}
use Rattle.std.proofs.lemmas.List.{nil_from_length}
use Rattle.std.proofs.lemmas.Option.{slice_get_within}
use Rattle.std.proofs.Math.Seq.{take-append_seam, drop-append_seam}
use Rattle.std.proofs.lemmas.List.Concat.{flat_map-append}
use Rattle.std.proofs.lemmas.List.Elements.{All-head, All-take, All-drop}
use Rattle.std.proofs.lemmas.Bool.{cases_lt, true≢false}
use Rattle.sv_ring.specs.Down.{IsFront}
use Rattle.sv_load.specs.declared.load.Command.{Command}
use Rattle.sv_load.specs.Load.{Load}
use Rattle.sv_journal.specs.declared.journal.Item.{Item}
use Rattle.sv_journal.specs.Items.{is_command}
use Rattle.sv_journal.specs.Legal.{commands_in, AreFirstCommands}
use Rattle.sv_recorder.specs.Asked.{HasAsked}
use Rattle.sv_recorder.specs.Commands.{command_bytes, found_bytes, command_bytes_in, HasParam}
use Rattle.sv_recorder.specs.Commands.{MayWait}
use Rattle.sv_recorder.specs.Recording.{Recording}
use Rattle.sv_core.specs.BadTurns.{AreAskable}
use Rattle.sv_core.specs.Played.{HasSent, IsSending, sent_bytes}
use Rattle.sv_core.proofs.failing.BadTurns.{take_one}
use Rattle.sv_core.proofs.parts.Counts.{lt_true, lt_false}
use Rattle.sv_core.proofs.failing.RunSections.{commands_number}

-- COMMANDS AS BYTES

-- the command that was found, if one was
abbrev pub commands_of : Option Command → List Command
commands_of None = []
commands_of (Some command) = command ∷ []

abbrev pub is_found : Option Command → Bool
is_found None = false
is_found (Some command) = true

abbrev command_at : ℕ → ℕ → Command
command_at byte param = record { byte = byte; param = param }

same_command : (a b p q : ℕ) → a ≡ b → p ≡ q → command_at a p ≡ command_at b q
same_command a b p q e f = cc

-- bytes that begin with those of two commands begin with one
pub same_first : (c d : Command) (xs ys : List ℕ) → HasParam c → HasParam d
    → command_bytes c ++ xs ≡ command_bytes d ++ ys → c ≡ d
same_first c d xs ys p q e = at (nat_lt c.byte 128) (nat_lt d.byte 128) refl refl e where
  heads : (a b : ℕ) (xs ys : List ℕ) → a ∷ xs ≡ b ∷ ys → a ≡ b
  heads a b xs ys e = cc

  seconds : (a b m n : ℕ) (xs ys : List ℕ) → a ∷ (m ∷ xs) ≡ b ∷ (n ∷ ys) → m ≡ n
  seconds a b m n xs ys e = cc

  at : (a b : Bool) → nat_lt c.byte 128 ≡ a → nat_lt d.byte 128 ≡ b
      → (if a then c.byte ∷ [] else c.byte ∷ c.param ∷ []) ++ xs
      ≡ (if b then d.byte ∷ [] else d.byte ∷ d.param ∷ []) ++ ys → c ≡ d
  at true true f g e =
      same_command c.byte d.byte c.param d.param (heads c.byte d.byte xs ys e)
      (p (search (rules, f)) ∙ sym (q (search (rules, g))))
  at true false f g e =
      let same : c.byte ≡ d.byte = heads c.byte d.byte xs (d.param ∷ ys) e in
      let low : c.byte < 128 = search (rules, f) in
      let high : 128 ≤ d.byte = search (rules, g) in
      absurd (omega (arith, same, low, high))
  at false true f g e =
      let same : c.byte ≡ d.byte = heads c.byte d.byte (c.param ∷ xs) ys e in
      let high : 128 ≤ c.byte = search (rules, f) in
      let low : d.byte < 128 = search (rules, g) in
      absurd (omega (arith, same, low, high))
  at false false f g e =
      same_command c.byte d.byte c.param d.param
      (heads c.byte d.byte (c.param ∷ xs) (d.param ∷ ys) e)
      (seconds c.byte d.byte c.param d.param xs ys e)

-- a byte that waits is no whole command
none_waits : (d : Command) (bytes kept : List ℕ) → command_bytes d ++ bytes ≡ kept
    → MayWait kept → ⊥
none_waits d bytes kept e waits = at (nat_lt d.byte 128) refl kept e waits where
  heads : (a b : ℕ) (xs ys : List ℕ) → a ∷ xs ≡ b ∷ ys → a ≡ b
  heads a b xs ys e = cc

  at : (a : Bool) → nat_lt d.byte 128 ≡ a → (kept : List ℕ)
      → (if a then d.byte ∷ [] else d.byte ∷ d.param ∷ []) ++ bytes ≡ kept → MayWait kept → ⊥
  at true f [] e w = cc
  at false f [] e w = cc
  at true f (b ∷ more) e w =
      let same : d.byte ≡ b = heads d.byte b bytes more e in
      let low : d.byte < 128 = search (rules, f) in
      omega (arith, same, low, w.0)
  at false f (b ∷ more) e w =
      let none : more ≡ [] = w.1 in
      let long : d.byte ∷ (d.param ∷ bytes) ≡ b ∷ [] = e ∙ ap (λ ms. b ∷ ms) none in
      cc

-- some bytes are those of no commands
pub some_bytes : (c : Command) (xs : List ℕ) → command_bytes c ++ xs ≡ [] → ⊥
some_bytes c xs e = at (nat_lt c.byte 128) e where
  at : (a : Bool) → (if a then c.byte ∷ [] else c.byte ∷ c.param ∷ []) ++ xs ≡ [] → ⊥
  at true e = cc
  at false e = cc

-- no command is left where no byte is, or one that waits for its parameter
none_left : (waiting : List Command) (kept : List ℕ) → flat_map command_bytes waiting ≡ kept
    → MayWait kept → waiting ≡ []
none_left [] kept e waits = refl
none_left (d ∷ ds) kept e waits =
    absurd (none_waits d (flat_map command_bytes ds) kept e waits)

-- a whole command that was taken is the first that waited
first_left : (waiting : List Command) (c : Command) (rest : List ℕ) → All HasParam waiting
    → HasParam c → command_bytes c ++ rest ≡ flat_map command_bytes waiting
    → (left : List Command) × (waiting ≡ c ∷ left)
first_left [] c rest all param e = absurd (some_bytes c rest e)
first_left (d ∷ ds) c rest all param e = (
  ds,
  ap (λ x. x ∷ ds)
      (sym
      (same_first c d rest (flat_map command_bytes ds) param (All-head HasParam d ds all) e)),
)

-- the first of the first
take_take : {X : Type 0} (n m : ℕ) (xs : List X) → n ≤ m → take n (take m xs) ≡ take n xs
take_take zero m xs h = refl
take_take (suc n) zero xs h = absurd (omega (arith, h))
take_take (suc n) (suc m) [] h = refl
take_take (suc n) (suc m) (x ∷ xs) h = ap (λ ys. x ∷ ys) (take_take n m xs (omega (arith, h)))

slice_get-front : {X : Type 0} (xs : List X) (x : X) (ys : List X)
    → slice_get (xs ++ x ∷ ys) (length xs) ≡ Some x
slice_get-front [] x ys = refl
slice_get-front (z ∷ xs) x ys = slice_get-front xs x ys

-- two bytes a command at most
pub bytes_few : (cs : List Command) → length (flat_map command_bytes cs) ≤ 2 * length cs
bytes_few [] = omega arith
bytes_few (c ∷ cs) =
    omega (
      arith,
      length-append (command_bytes c) (flat_map command_bytes cs),
      bytes_few cs,
      at (nat_lt c.byte 128),
    ) where
      at : (a : Bool) → length (if a then c.byte ∷ [] else c.byte ∷ c.param ∷ []) ≤ 2
      at true = omega arith
      at false = omega arith

-- one command more
pub bytes_more : (load : Load) (sends : ℕ) (c : Command) → slice_get load.commands sends ≡ Some c
    → sent_bytes load (suc sends) ≡ sent_bytes load sends ++ command_bytes c
bytes_more load sends c is =
    ap (flat_map command_bytes) (take_one sends load.commands c is)
    ∙ (flat_map-append command_bytes (take sends load.commands) (c ∷ [])
    ∙ ap (λ bs. sent_bytes load sends ++ bs) (append-nil (command_bytes c)))

-- there is room for another in a ring of 512 bytes
pub bytes_room : (load : Load) (sends : ℕ) → sends < length load.commands
    → length load.commands ≤ 256 → length (sent_bytes load sends) ≤ 510
bytes_room load sends below few =
    let within : sends ≤ length load.commands = omega (arith, below) in
    omega (
      arith,
      bytes_few (take sends load.commands),
      length-take-le sends load.commands within,
      below,
      few,
    )

-- WHAT A SECTION FINDS

-- a section found the first command that waited, and took no more; it found none where none waited
pub record IsServed (waiting : List Command) (found : Option Command) (old new : Recording) : Type 0
  where
    pub left : List Command
    pub split : waiting ≡ commands_of found ++ left
    pub all : found ≡ None → waiting ≡ []
    pub kept : new.kept ≡ []
    pub answered : new.answered ≡ old.answered ++ found_bytes found

module _ (load : Load) (waiting : List Command) (old new : Recording) (same : old.load ≡ load)
    (params : All HasParam waiting)
    (few : count_by (λ i. is_command i.origin) old.items + length waiting
    ≤ length load.commands)
    (asked : old.asked ≡ Some (command_bytes_in old.items ++ flat_map command_bytes waiting))
    (answered : old.answered ≡ command_bytes_in old.items) (kept : old.kept ≡ [])
    (asked_same : new.asked ≡ old.asked) (front : IfSome new.asked (IsFront new.answered))
    (waits : MayWait new.kept) where
  -- what the host sent
  sent_now : new.asked ≡ Some (command_bytes_in old.items ++ flat_map command_bytes waiting)
  sent_now = asked_same ∙ asked

  pub served : (found : Option Command) → HasAsked old new found → IsServed waiting found old new
  served None a =
      at (cases_lt (count_by (λ i. is_command i.origin) old.items) (length old.load.commands))
    where
      taken : a.taken ≡ new.kept
      taken = ap (λ ks. ks ++ a.taken) (sym kept) ∙ a.bytes

      at : (count_by (λ i. is_command i.origin) old.items < length old.load.commands)
          ⊎ (length old.load.commands ≤ count_by (λ i. is_command i.origin) old.items)
          → IsServed waiting None old new
      at (inl below) =
          let all : new.answered ≡ command_bytes_in old.items ++ flat_map command_bytes waiting =
          subst (λ s. IfSome s (λ bytes. new.answered ≡ bytes)) sent_now (a.none below refl).all in
          let left : flat_map command_bytes waiting ≡ new.kept =
          append_cancel_left (command_bytes_in old.items) (flat_map command_bytes waiting) new.kept
          (sym all ∙ (a.answered
          ∙ (ap (λ bs. bs ++ a.taken) answered
          ∙ ap (λ bs. command_bytes_in old.items ++ bs) taken))) in
          let none : waiting ≡ [] = none_left waiting new.kept left waits in
          let kept_now : new.kept ≡ [] = sym left ∙ ap (flat_map command_bytes) none in
          record {
            left = [];
            split = none;
            all = λ e. none;
            kept = kept_now;
            answered = a.answered ∙ ap (λ bs. old.answered ++ bs) (taken ∙ kept_now);
          }
      at (inr past) =
          let unasked = (a.through past).1 in
          let none : waiting ≡ [] =
          nil_from_length waiting
          (omega (arith, few, past, ap (λ (l : Load). length l.commands) same)) in
          record {
            left = [];
            split = none;
            all = λ e. none;
            kept = unasked.kept ∙ kept;
            answered = unasked.answered ∙ sym (append-nil old.answered);
          }
  served (Some c) a =
      let bytes : List ℕ = command_bytes_in old.items in
      let taken : a.taken ≡ command_bytes c =
      ap (λ ks. ks ++ a.taken) (sym kept)
      ∙ (a.bytes ∙ (ap (λ ks. command_bytes c ++ ks) a.alone ∙ append-nil (command_bytes c))) in
      let is : new.answered ≡ bytes ++ command_bytes c =
      a.answered ∙ (ap (λ bs. bs ++ a.taken) answered ∙ ap (λ bs. bytes ++ bs) taken) in
      let all : List ℕ = bytes ++ flat_map command_bytes waiting in
      let here : new.answered ≡ take (length new.answered) all =
      subst (λ s. IfSome s (IsFront new.answered)) sent_now front in
      let rest : List ℕ = drop (length new.answered) all in
      let whole : (bytes ++ command_bytes c) ++ rest ≡ all =
      ap (λ bs. bs ++ rest) (sym is ∙ here) ∙ take-append-drop (length new.answered) all in
      let first = first_left waiting c rest params a.param
      (append_cancel_left bytes (command_bytes c ++ rest) (flat_map command_bytes waiting)
      (sym (append_assoc bytes (command_bytes c) rest) ∙ whole)) in
      record {
        left = first.0;
        split = first.1;
        all = λ e. absurd (there e);
        kept = a.alone;
        answered = a.answered ∙ ap (λ bs. old.answered ++ bs) taken;
      }
    where
      there : {d : Command} → Some d ≡ None → ⊥
      there e = cc

-- A HOST THAT SENDS

-- how many commands it sent
pub sent-count : (load : Load) (r : Recording) (sends : ℕ) → (h : HasSent load r sends)
    → count_by (λ i. is_command i.origin) r.items + length h.waiting ≡ sends
sent-count load r sends h =
    omega (
      arith,
      commands_number r.items,
      length-append (commands_in r.items) h.waiting,
      ap length h.sent,
      length-take-le sends load.commands h.few,
    )

pub sent-none : (load : Load) (r : Recording) → AreAskable load → r.items ≡ [] → r.asked ≡ Some []
    → r.answered ≡ [] → r.kept ≡ [] → HasSent load r 0
sent-none load r askable items asked answered kept = record {
  askable = askable;
  few = omega arith;
  waiting = [];
  sent = ap (λ (is : List Item). commands_in is ++ []) items;
  asked = asked;
  answered = answered ∙ sym (ap (λ (is : List Item). command_bytes_in is) items);
  kept = kept;
}

-- another command
pub sent-send : (load : Load) (old new : Recording) (sends : ℕ) → HasSent load old sends
    → IsSending load old new sends → HasSent load new (sends + 1)
sent-send load old new sends h s =
    subst (λ n. HasSent load new n) (sym (add-one sends))
    (subst (λ r. HasSent load r (suc sends)) (sym s.now)
    (record {
      askable = h.askable;
      few = omega (arith, slice_get_within load.commands sends c s.is);
      waiting = h.waiting ++ c ∷ [];
      sent = sym (append_assoc (commands_in old.items) h.waiting (c ∷ []))
          ∙ (ap (λ cs. cs ++ c ∷ []) h.sent ∙ sym (take_one sends load.commands c s.is));
      asked = ap (option_map (λ bytes. bytes ++ command_bytes c)) h.asked
          ∙ ap (λ b. Some b) (sym (bytes_more load sends c s.is));
      answered = h.answered;
      kept = h.kept;
    })) where
      c : Command
      c = s.command

-- there is room for another
pub sent-room : (load : Load) (r : Recording) (sends : ℕ) → HasSent load r sends
    → sends < length load.commands → length load.commands ≤ 256
    → IfSome r.asked (λ bytes. length bytes ≤ 510)
sent-room load r sends h below few =
    subst (λ a. IfSome a (λ bytes. length bytes ≤ 510)) (sym h.asked)
    (bytes_room load sends below few)

-- a read changes nothing of it
pub sent-read : (load : Load) (old new : Recording) (sends freed : ℕ) → HasSent load old sends
    → new ≡ record old { freed = freed } → HasSent load new sends
sent-read load old new sends freed h now =
    subst (λ r. HasSent load r sends) (sym now) (record {
      askable = h.askable;
      few = h.few;
      waiting = h.waiting;
      sent = h.sent;
      asked = h.asked;
      answered = h.answered;
      kept = h.kept;
    })

-- the commands that were handled are the first of the workload
pub sent-first : (load : Load) (r : Recording) (sends : ℕ) → HasSent load r sends
    → AreFirstCommands load r.items
sent-first load r sends h =
    let n : ℕ = length (commands_in r.items) in
    let few : n ≤ sends = omega (arith, sent-count load r sends h, commands_number r.items) in
    sym (take-append_seam (commands_in r.items) h.waiting)
    ∙ (ap (take n) h.sent ∙ take_take n sends load.commands few)

-- a section, which found the next command exactly where one waited
pub sent-section : (load : Load) (old new : Recording) (sends : ℕ) (found : Option Command)
    → HasSent load old sends → old.load ≡ load
    → commands_in new.items ≡ commands_in old.items ++ commands_of found
    → new.asked ≡ old.asked → IfSome new.asked (IsFront new.answered) → MayWait new.kept
    → HasAsked old new found
    → HasSent load new sends
    × (is_found found ≡ nat_lt (count_by (λ i. is_command i.origin) old.items) sends)
    × ((c : Command) → found ≡ Some c
    → slice_get load.commands (length (commands_in old.items)) ≡ Some c)
sent-section load old new sends found h same gained asked_same front waits a = (
  record {
    askable = h.askable;
    few = h.few;
    waiting = s.left;
    sent = ap (λ cs. cs ++ s.left) gained
        ∙ (append_assoc (commands_in old.items) (commands_of found) s.left
        ∙ (ap (λ cs. commands_in old.items ++ cs) (sym s.split) ∙ h.sent));
    asked = asked_same ∙ h.asked;
    answered = s.answered
        ∙ (ap (λ bs. bs ++ found_bytes found) h.answered
        ∙ sym
        (ap (flat_map command_bytes) gained
        ∙ (flat_map-append command_bytes (commands_in old.items) (commands_of found)
        ∙ ap (λ bs. command_bytes_in old.items ++ bs) (bytes_of found))));
    kept = s.kept;
  },
  flag found s,
  λ c is. next c (sym (ap (λ o. commands_of o ++ s.left) is) ∙ sym s.split),
) where
  count : count_by (λ i. is_command i.origin) old.items + length h.waiting ≡ sends
  count = sent-count load old sends h

  params : All HasParam h.waiting
  params =
      subst (All HasParam) (drop-append_seam (commands_in old.items) h.waiting)
      (All-drop HasParam (length (commands_in old.items)) (commands_in old.items ++ h.waiting)
      (subst (All HasParam) (sym h.sent) (All-take HasParam sends load.commands h.askable)))

  s : IsServed h.waiting found old new
  s =
      served load h.waiting old new same params (omega (arith, count, h.few))
      (h.asked
      ∙ ap (λ b. Some b)
      (ap (flat_map command_bytes) (sym h.sent)
      ∙ flat_map-append command_bytes (commands_in old.items) h.waiting)) h.answered h.kept
      asked_same front waits found a

  next : (c : Command) → c ∷ s.left ≡ h.waiting
      → slice_get load.commands (length (commands_in old.items)) ≡ Some c
  next c is =
      subst (λ cs. slice_get cs (length (commands_in old.items)) ≡ Some c)
      (ap (λ cs. cs ++ drop sends load.commands)
      (ap (λ cs. commands_in old.items ++ cs) is ∙ h.sent)
      ∙ take-append-drop sends load.commands)
      (subst (λ cs. slice_get cs (length (commands_in old.items)) ≡ Some c)
      (sym (append_assoc (commands_in old.items) (c ∷ s.left) (drop sends load.commands)))
      (slice_get-front (commands_in old.items) c (s.left ++ drop sends load.commands)))

  bytes_of : (o : Option Command) → flat_map command_bytes (commands_of o) ≡ found_bytes o
  bytes_of None = refl
  bytes_of (Some c) = append-nil (command_bytes c)

  flag : (o : Option Command) → IsServed h.waiting o old new
      → is_found o ≡ nat_lt (count_by (λ i. is_command i.origin) old.items) sends
  flag None t =
      sym
      (lt_false (count_by (λ i. is_command i.origin) old.items) sends
      (omega (arith, count, ap length (t.all refl))))
  flag (Some c) t =
      sym
      (lt_true (count_by (λ i. is_command i.origin) old.items) sends
      (omega (arith, count, ap length t.split)))

-- A TURN OF A REPLAY

-- the section of a turn for which a command was sent exactly where it has one
pub record HasTaken (load : Load) (old new : Recording) (sends : ℕ) (found : Option Command)
    (command : Bool) : Type 0 where
  pub sent : HasSent load new sends
  pub through : sends ≡ count_by (λ i. is_command i.origin) new.items
  pub none : command ≡ false → found ≡ None
  pub some : command ≡ true → (c : Command) × (found ≡ Some c)
      × (slice_get load.commands (length (commands_in old.items)) ≡ Some c)

pub sent-taken : (load : Load) (old new : Recording) (sends : ℕ) (found : Option Command)
    (command : Bool)
    → HasSent load old sends → old.load ≡ load
    → sends ≡ count_by (λ i. is_command i.origin) old.items + cond command 1 0
    → commands_in new.items ≡ commands_in old.items ++ commands_of found
    → new.asked ≡ old.asked → IfSome new.asked (IsFront new.answered) → MayWait new.kept
    → HasAsked old new found → HasTaken load old new sends found command
sent-taken load old new sends found command h same is gained asked_same front waits a =
    at command is found both.1 both.2 number where
      both : HasSent load new sends
          × (is_found found ≡ nat_lt (count_by (λ i. is_command i.origin) old.items) sends)
          × ((c : Command) → found ≡ Some c
          → slice_get load.commands (length (commands_in old.items)) ≡ Some c)
      both = sent-section load old new sends found h same gained asked_same front waits a

      number : count_by (λ i. is_command i.origin) new.items
          ≡ count_by (λ i. is_command i.origin) old.items + length (commands_of found)
      number =
          omega (
            arith,
            commands_number new.items,
            commands_number old.items,
            ap length gained,
            length-append (commands_in old.items) (commands_of found),
          )

      at : (b : Bool) → sends ≡ count_by (λ i. is_command i.origin) old.items + cond b 1 0
          → (o : Option Command)
          → is_found o ≡ nat_lt (count_by (λ i. is_command i.origin) old.items) sends
          → ((c : Command) → o ≡ Some c
          → slice_get load.commands (length (commands_in old.items)) ≡ Some c)
          → count_by (λ i. is_command i.origin) new.items
          ≡ count_by (λ i. is_command i.origin) old.items + length (commands_of o)
          → HasTaken load old new sends o b
      at true e None flag which n =
          absurd
          (true≢false
          (sym
          (flag
          ∙ lt_true (count_by (λ i. is_command i.origin) old.items) sends (omega (arith, e)))))
      at true e (Some c) flag which n = record {
        sent = both.0;
        through = omega (arith, e, n);
        none = λ f. absurd (true≢false f);
        some = λ f. (c, refl, which c refl);
      }
      at false e None flag which n = record {
        sent = both.0;
        through = omega (arith, e, n);
        none = λ f. refl;
        some = λ f. absurd (true≢false (sym f));
      }
      at false e (Some c) flag which n =
          absurd
          (true≢false
          (flag
          ∙ lt_false (count_by (λ i. is_command i.origin) old.items) sends (omega (arith, e))))
