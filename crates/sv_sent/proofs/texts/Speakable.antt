-- What the stored items of a speakable workload tell has a spelling.
use Rattle.std.proofs.Common.{◌≡◌, ℕ, ◌+◌, ◌*◌, ◌/◌, ◌%◌, ◌^◌, ◌<◌, ◌≤◌, Bool, true, false, not}
use Rattle.std.proofs.Common.{◌&&◌, cond, Option, Some, None, List, [], ◌∷◌, length, refl, sym, ap}
use Rattle.std.proofs.Common.{subst, ◌∙◌, arith}
use Rattle.std.specs.Prelude.{All, slice_get, slice_index_or, take_while, option_map, unwrap_or}
use Rattle.std.specs.Option.{option_map_or}
use Rattle.std.proofs.lemmas.List.Sums.{take_while-cons, count_by-le-length}
use Rattle.std.proofs.lemmas.List.Elements.{All-get_or}
use Rattle.std.proofs.lemmas.List.{length-reverse}
use Rattle.std.proofs.lemmas.Option.{slice_get_within, get_or_from_slice_get, unwrap_or-slice_get}
use Rattle.std.proofs.Math.Nat.{div-le_self}
use Rattle.sv_prim.specs.Shrink.{offset_from, shrunk}
use Rattle.sv_packet.specs.declared.event.Event.{Event}
use Rattle.sv_packet.specs.declared.event.Event.TheVariants as events
use Rattle.sv_packet.specs.Spelling.{HasRange, IsValid}
use Rattle.sv_packet.proofs.Shared.{plain_small}
use Rattle.sv_load.specs.declared.load.Act.{Act}
use Rattle.sv_load.specs.declared.load.Act.TheVariants as acts
use Rattle.sv_load.specs.declared.load.Step.{Step}
use Rattle.sv_load.specs.declared.load.Task.{Task}
use Rattle.sv_load.specs.Need.{IsStepAct, IsWithinLimits}
use Rattle.sv_load.specs.Load.{Load, act_of, script_of, period}
use Rattle.sv_desc.specs.Modules.{ModuleRow}
use Rattle.sv_desc.specs.Says.{micros_at}
use Rattle.sv_journal.specs.declared.journal.Kind.{Kind}
use Rattle.sv_journal.specs.declared.journal.Kind.TheVariants as kinds
use Rattle.sv_journal.specs.declared.journal.Origin.{Origin}
use Rattle.sv_journal.specs.declared.journal.Origin.TheVariants.{Call, Sync, Reply, Overflow}
use Rattle.sv_journal.specs.declared.journal.Origin.TheVariants.{Command}
use Rattle.sv_journal.specs.declared.journal.Item.{Item}
use Rattle.sv_journal.specs.Items.{latest_first, is_overflow, is_stored, is_packet, is_refused}
use Rattle.sv_journal.specs.Items.{is_sync, event_of, pending_at, act_event, event_at, reply_event}
use Rattle.sv_journal.specs.Items.{system_time, task_info, stack_info, module_desc}
use Rattle.sv_journal.specs.Legal.{EachItem, IsLegal, IsCount}
use Rattle.sv_need.proofs.Shared.{few_items}
use Rattle.sv_sent.proofs.texts.Texts.{IsSpeakable, IsSpeakableText, IsSpeakableTask, speakable}
use Rattle.sv_sent.proofs.places.Placed.{IsPlaced, placed}

abbrev IsSpoken : Event → Type 0
IsSpoken event = HasRange event × IsValid event

-- what a stored item tells has a spelling
abbrev pub IsSpellable : Load → List Item → Item → Type 0
IsSpellable load earlier item =
    (is_stored item.outcome && not (is_sync item.origin)) ≡ true →
    HasRange (event_of load item) × IsValid (event_of load item)

abbrev pub AreSpellable : Load → List Item → Type 0
AreSpellable load items = EachItem (IsSpellable load) (latest_first items)

-- ELEMENTS

all-at : {X : Type 0} (P : X → Type 0) (xs : List X) (k : ℕ) (x : X) → All P xs →
    slice_get xs k ≡ Some x → P x
all-at P xs k x all is =
    subst P (get_or_from_slice_get xs k x x is)
    (All-get_or P xs k x (slice_get_within xs k x is) all)

script-all : (load : Load) (writer : ℕ) → IsWithinLimits load →
    All (λ s. IsStepAct s.act) (script_of load writer)
script-all load writer s = by (slice_get load.scripts writer) refl
  where
    by : (o : Option (List Step)) → slice_get load.scripts writer ≡ o →
        All (λ s. IsStepAct s.act) (script_of load writer)
    by (Some script) is =
        subst (All (λ s. IsStepAct s.act))
        (sym (get_or_from_slice_get load.scripts writer script [] is))
        (all-at (All (λ s. IsStepAct s.act)) load.scripts writer script s.acts is)
    by None is =
        subst (All (λ s. IsStepAct s.act))
        (ap (λ o. unwrap_or o []) (sym is) ∙ unwrap_or-slice_get load.scripts writer [])
        (λ k d within. absurd (omega (arith, within)))

pub act_spoken : (load : Load) (writer step : ℕ) (event : Event) → IsWithinLimits load →
    act_of load writer step ≡ Some (acts.Event event) → IsStepAct (acts.Event event)
act_spoken load writer step event s is = by (slice_get (script_of load writer) step) refl is
  where
    by : (o : Option Step) → slice_get (script_of load writer) step ≡ o →
        option_map (λ x. x.act) o ≡ Some (acts.Event event) → IsStepAct (acts.Event event)
    by None at e = absurd cc
    by (Some found) at e =
        let same : found.act ≡ acts.Event event = cc in
        subst IsStepAct same
        (all-at (λ x. IsStepAct x.act) (script_of load writer) step found (script-all load writer s)
        at)

-- EVENTS

nop : IsSpoken events.Nop
nop = (tt, record { texts = tt; payload = λ h. absurd (omega (arith, h)); as_bytes = tt })

text-at : (texts : List (List ℕ)) (index : ℕ) → All IsSpeakableText texts →
    IsSpeakableText (slice_index_or texts index [])
text-at texts index all = by (slice_get texts index) refl
  where
    by : (o : Option (List ℕ)) → slice_get texts index ≡ o →
        IsSpeakableText (slice_index_or texts index [])
    by (Some text) is =
        subst IsSpeakableText (sym (get_or_from_slice_get texts index text [] is))
        (all-at IsSpeakableText texts index text all is)
    by None is =
        subst IsSpeakableText
        (ap (λ o. unwrap_or o []) (sym is) ∙ unwrap_or-slice_get texts index []) (tt, omega arith)

init : (a b c d : ℕ) → a < 2 ^ 32 → b < 2 ^ 32 → c < 2 ^ 32 → d < 2 ^ 32 →
    IsSpoken (events.Init a b c d)
init a b c d p q r s = (
  (p, (q, (r, (s, tt)))),
  record {
    texts = (tt, (tt, (tt, (tt, tt))));
    payload = λ h. omega (arith, plain_small (a ∷ b ∷ c ∷ d ∷ []));
    as_bytes = tt;
  },
)

modules : (count : ℕ) → count < 2 ^ 32 → IsSpoken (events.NumModules count)
modules count p = (
  (p, tt),
  record {
    texts = (tt, tt);
    payload = λ h. omega (arith, plain_small (count ∷ []));
    as_bytes = tt;
  },
)

time : (load : Load) (moment : ℕ) → IsSpoken (system_time load moment)
time load moment = elim load.timed as
    (λ b.
    IsSpoken
    (cond b (events.SystimeUs (micros_at load.clock moment % 2 ^ 32)
    (micros_at load.clock moment / 2 ^ 32))
    (events.SystimeCycles (moment % period load)))) [
      | true ↦ (
        (low (micros_at load.clock moment), (high ((moment * 1000000) / load.clock), tt)),
        record { texts = (tt, (tt, tt)); payload = λ h. absurd (omega (arith, h)); as_bytes = tt },
      )
      | false ↦ (
        (low moment, tt),
        record { texts = (tt, tt); payload = λ h. absurd (omega (arith, h)); as_bytes = tt },
      )
    ]
  where
    low : (n : ℕ) → n % 2 ^ 32 < 2 ^ 32
    low n = omega arith

    high : (n : ℕ) → (n % 2 ^ 64) / 2 ^ 32 < 2 ^ 32
    high n = omega arith

shrunk-low : (id base shift : ℕ) → shrunk id base shift < 2 ^ 32
shrunk-low id base shift = omega (arith, div-le_self (offset_from base id) (2 ^ shift))

task : (load : Load) (t : Option Task) → ((x : Task) → t ≡ Some x → IsSpeakableTask x) →
    IsSpoken (option_map_or (task_info load) t events.Nop)
task load None s = nop
task load (Some x) s =
    let is = s x refl in (
      (shrunk-low x.id load.base load.shift, (is.0.1.0, (is.1.0, tt))),
      record {
        texts = (tt, (tt, (is.1.1, tt)));
        payload = λ h. absurd (omega (arith, h));
        as_bytes = tt;
      },
    )

stack : (load : Load) (t : Option Task) → ((x : Task) → t ≡ Some x → IsSpeakableTask x) →
    IsSpoken (option_map_or (stack_info load) t events.Nop)
stack load None s = nop
stack load (Some x) s =
    let is = s x refl in (
      (shrunk-low x.id load.base load.shift, (is.0.1.1.0, (is.0.1.1.1.0, (is.0.1.1.1.1.0, tt)))),
      record {
        texts = (tt, (tt, (tt, (tt, tt))));
        payload = λ h. absurd (omega (arith, h));
        as_bytes = tt;
      },
    )

module-row : (load : Load) (index : ℕ) (row : Option ModuleRow) → IsWithinLimits load →
    IsSpeakable load → slice_get load.modules index ≡ row →
    IsSpoken (option_map_or (module_desc load index) row events.Nop)
module-row load index None l s at = nop
module-row load index (Some row) l s at =
    let name : IsSpeakableText row.name =
    all-at (λ r. IsSpeakableText r.name) load.modules index row s.modules at in
    let within : index < 2 ^ 32 =
    omega (arith, slice_get_within load.modules index row at, l.modules) in (
      (within, (s.offsets index, (name.0, tt))),
      record {
        texts = (tt, (tt, (name.1, tt)));
        payload = λ h. absurd (omega (arith, h));
        as_bytes = tt;
      },
    )

reply : (load : Load) (moment : ℕ) (kind : Kind) (index : ℕ) → IsWithinLimits load →
    IsSpeakable load → IsSpoken (reply_event load moment kind index)
reply load moment kinds.TraceStart index l s =
    (tt, record { texts = tt; payload = λ h. absurd (omega (arith, h)); as_bytes = tt })
reply load moment kinds.TraceStop index l s =
    (tt, record { texts = tt; payload = λ h. absurd (omega (arith, h)); as_bytes = tt })
reply load moment kinds.Init index l s =
    init load.clock load.cpu load.base load.shift l.clock_most l.cpu_most l.base
    (omega (arith, l.shift))
reply load moment kinds.Line index l s =
    let text = text-at load.lines index s.lines in (
      (text.0, tt),
      record { texts = (text.1, tt); payload = λ h. absurd (omega (arith, h)); as_bytes = tt },
    )
reply load moment kinds.Systime index l s = time load moment
reply load moment kinds.Task index l s =
    task load (slice_get load.tasks index)
    (λ x at. all-at IsSpeakableTask load.tasks index x s.tasks at)
reply load moment kinds.Stack index l s =
    stack load (slice_get load.tasks index)
    (λ x at. all-at IsSpeakableTask load.tasks index x s.tasks at)
reply load moment kinds.ModuleCount index l s =
    modules (length load.modules) (omega (arith, l.modules))
reply load moment kinds.Module index l s =
    module-row load index (slice_get load.modules index) l s refl

call : (load : Load) (writer step : ℕ) → IsWithinLimits load →
    IsSpoken (option_map_or act_event (act_of load writer step) events.Nop)
call load writer step s = by (act_of load writer step) refl
  where
    by : (o : Option Act) → act_of load writer step ≡ o →
        IsSpoken (option_map_or act_event o events.Nop)
    by None at = nop
    by (Some acts.Start) at = nop
    by (Some acts.Stop) at = nop
    by (Some (acts.Event event)) at =
        let is = act_spoken load writer step event s at in (is.2, is.0.valid)

-- ITEMS

short-step : {X : Type 0} (p : X → Bool) (x : X) (xs : List X) (t : Bool) →
    take_while p (x ∷ xs) ≡ cond t (x ∷ take_while p xs) [] → length (take_while p xs) ≤ length xs →
    length (take_while p (x ∷ xs)) ≤ length (x ∷ xs)
short-step p x xs true is short =
    let n : length (take_while p (x ∷ xs)) ≡ 1 + length (take_while p xs) =
    ap length is ∙ omega arith in
    omega (arith, n, short)
short-step p x xs false is short =
    let n : length (take_while p (x ∷ xs)) ≡ 0 = ap length is in omega (arith, n)

short-while : {X : Type 0} (p : X → Bool) (xs : List X) → length (take_while p xs) ≤ length xs
short-while p [] = omega arith
short-while p (x ∷ xs) = short-step p x xs (p x) (take_while-cons p x xs) (short-while p xs)

few-pending : (earlier : List Item) → pending_at earlier ≤ length earlier
few-pending earlier =
    omega (
      arith,
      count_by-le-length (λ (i : Item). is_packet i && is_refused i.outcome)
          (take_while (λ (i : Item). not (is_overflow i.origin && is_stored i.outcome)) earlier),
      short-while (λ (i : Item). not (is_overflow i.origin && is_stored i.outcome)) earlier,
    )

origin : (load : Load) (moment : ℕ) (earlier : List Item) (o : Origin) → IsWithinLimits load →
    IsSpeakable load → length earlier < 2 ^ 32 → IsCount earlier o →
    IsSpoken (event_at load moment o)
origin load moment earlier (Call writer step) l s few count = call load writer step l
origin load moment earlier Sync l s few count = nop
origin load moment earlier (Reply kind index) l s few count = reply load moment kind index l s
origin load moment earlier (Overflow n) l s few count =
    let low : n < 2 ^ 32 = omega (arith, few-pending earlier, few, count) in (
      (low, tt),
      record { texts = (tt, tt); payload = λ h. absurd (omega (arith, h)); as_bytes = tt },
    )
origin load moment earlier (Command byte param) l s few count = nop

each-spellable : (load : Load) (earlier : List Item) → IsWithinLimits load → IsSpeakable load →
    length earlier ≤ 2 ^ 32 → EachItem (IsPlaced load) earlier → EachItem (IsSpellable load) earlier
each-spellable load [] l s few each = tt
each-spellable load (i ∷ earlier) l s few each = (
  each-spellable load earlier l s (omega (arith, few)) each.0,
  λ stored. origin load i.moment earlier i.origin l s (omega (arith, few)) each.1.next.count,
)

pub spellable : (load : Load) (items : List Item) → IsLegal load items → IsWithinLimits load →
    AreSpellable load items
spellable load items legal l =
    each-spellable load (latest_first items) l (speakable load l)
    (omega (arith, few_items load items legal l, length-reverse items)) (placed load items legal)
