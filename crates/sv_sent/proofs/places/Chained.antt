-- After a start comes its sync, after a sync its first packet, and no sync stands elsewhere.
use Rattle.std.proofs.Common.{◌≡◌, true, false, cond, List, [], ◌∷◌, ◌++◌, filter, refl, sym, subst}
use Rattle.std.specs.Prelude.{flat_map}
use Rattle.std.proofs.lemmas.List.Concat.{flat_map-cons}
use Rattle.sv_load.specs.Load.{Load}
use Rattle.sv_journal.specs.declared.journal.Kind.TheVariants as kinds
use Rattle.sv_journal.specs.declared.journal.Origin.{Origin}
use Rattle.sv_journal.specs.declared.journal.Origin.TheVariants.{Call, Sync, Reply, Overflow}
use Rattle.sv_journal.specs.declared.journal.Origin.TheVariants.{Command}
use Rattle.sv_journal.specs.Items.{is_sync, is_start, is_stop}
use Rattle.sv_journal.specs.Legal.{single, task_replies, init_replies, start_answers, other_answers}
use Rattle.sv_journal.specs.Legal.{is_head, group_of}
use Rattle.sv_sent.proofs.places.Replies.{AreReplies, is_reply, other-replies, replies-if}
use Rattle.sv_sent.proofs.places.Replies.{rest-replies}

abbrev pub StartsWith : Origin → List Origin → Type 0
StartsWith o [] = ⊥
StartsWith o (q ∷ os) = q ≡ o

abbrev pub BeginsStarted : Load → Origin → List Origin → Type 0
BeginsStarted load p [] = Unit {0}
BeginsStarted load p (q ∷ os) = is_sync q ≡ true → is_start load p ≡ true

pub record IsChained (load : Load) (p : Origin) (os : List Origin) : Type 0 where
  pub start : is_start load p ≡ true → StartsWith Sync os
  pub sync : is_sync p ≡ true → StartsWith (Reply kinds.TraceStart 0) os
  pub before : BeginsStarted load p os

abbrev pub Chain : Load → List Origin → Type 0
Chain load [] = Unit {0}
Chain load (p ∷ os) = IsChained load p os × Chain load os

abbrev pub HasNoSyncFirst : List Origin → Type 0
HasNoSyncFirst [] = Unit {0}
HasNoSyncFirst (q ∷ os) = is_sync q ≡ false

unsynced-first : (load : Load) (p : Origin) (os : List Origin) → HasNoSyncFirst os →
    BeginsStarted load p os
unsynced-first load p [] none = tt
unsynced-first load p (q ∷ os) none = λ sync. absurd cc

reply-not-sync : (o : Origin) → is_reply o ≡ true → is_sync o ≡ false
reply-not-sync (Reply kind index) is = refl
reply-not-sync (Call writer step) is = absurd cc
reply-not-sync Sync is = absurd cc
reply-not-sync (Overflow count) is = absurd cc
reply-not-sync (Command byte param) is = absurd cc

reply-not-start : (load : Load) (o : Origin) → is_reply o ≡ true → is_start load o ≡ false
reply-not-start load (Reply kind index) is = refl
reply-not-start load (Call writer step) is = absurd cc
reply-not-start load Sync is = absurd cc
reply-not-start load (Overflow count) is = absurd cc
reply-not-start load (Command byte param) is = absurd cc

first-reply : (xs rest : List Origin) → AreReplies xs → HasNoSyncFirst rest →
    HasNoSyncFirst (xs ++ rest)
first-reply [] rest p none = none
first-reply (o ∷ xs) rest p none = reply-not-sync o p.0

chain-replies : (load : Load) (xs rest : List Origin) → AreReplies xs → HasNoSyncFirst rest →
    Chain load rest → Chain load (xs ++ rest)
chain-replies load [] rest p none chain = chain
chain-replies load (o ∷ xs) rest p none chain = (
  record {
    start = λ e. let no : is_start load o ≡ false = reply-not-start load o p.0 in absurd cc;
    sync = λ e. let no : is_sync o ≡ false = reply-not-sync o p.0 in absurd cc;
    before = unsynced-first load o (xs ++ rest) (first-reply xs rest p.1 none);
  },
  chain-replies load xs rest p.1 none chain,
)

head-not-sync : (o : Origin) → is_head o ≡ true → is_sync o ≡ false
head-not-sync (Call writer step) is = refl
head-not-sync (Command byte param) is = refl
head-not-sync Sync is = absurd cc
head-not-sync (Reply kind index) is = absurd cc
head-not-sync (Overflow count) is = absurd cc

-- a group whose answers are replies
chain-plain : (load : Load) (h : Origin) (xs rest : List Origin) → is_head h ≡ true →
    is_start load h ≡ false → AreReplies xs → HasNoSyncFirst rest → Chain load rest →
    Chain load (h ∷ (xs ++ rest))
chain-plain load h xs rest head other p none chain = (
  record {
    start = λ e. absurd cc;
    sync = λ e. let no : is_sync h ≡ false = head-not-sync h head in absurd cc;
    before = unsynced-first load h (xs ++ rest) (first-reply xs rest p none);
  },
  chain-replies load xs rest p none chain,
)

chain-start : (load : Load) (h : Origin) (rest : List Origin) → is_head h ≡ true →
    is_start load h ≡ true → HasNoSyncFirst rest → Chain load rest →
    Chain load (h ∷ (start_answers load ++ rest))
chain-start load h rest head start none chain = (
  record {
    start = λ e. refl;
    sync = λ e. let no : is_sync h ≡ false = head-not-sync h head in absurd cc;
    before = λ e. start;
  },
  (
    record {
      start = λ e. absurd cc;
      sync = λ e. refl;
      before = λ e. absurd cc;
    },
    chain-replies load
        (Reply kinds.TraceStart 0 ∷
        (init_replies load ++
        (single kinds.Systime ++ (task_replies load ++ single kinds.ModuleCount)))) rest
        (refl, rest-replies load) none chain,
  ),
)

chain-group : (load : Load) (h : Origin) (rest : List Origin) → is_head h ≡ true →
    HasNoSyncFirst rest → Chain load rest → Chain load (group_of load h ++ rest)
chain-group load h rest head none chain = elim (is_start load h) as
    (λ b.
    is_start load h ≡ b →
    Chain load
    (h ∷
    (cond b (start_answers load)
    (cond (is_stop load h) (single kinds.TraceStop) (other_answers load h)) ++ rest))) [
      | true ↦ λ start. chain-start load h rest head start none chain
      | false ↦ λ other.
          chain-plain load h (cond (is_stop load h) (single kinds.TraceStop) (other_answers load h))
          rest head other
          (replies-if (is_stop load h) (single kinds.TraceStop) (other_answers load h) (refl, tt)
          (other-replies load h)) none chain
    ] refl

pub record AreChained (load : Load) (os : List Origin) : Type 0 where
  pub chain : Chain load os
  pub first : HasNoSyncFirst os

-- the groups of some heads
abbrev groups_by : Load → List Origin → List Origin
groups_by load heads = flat_map (group_of load) heads

pub chain-groups : (load : Load) (os : List Origin) →
    AreChained load (flat_map (group_of load) (filter is_head os))
chain-groups load [] = record { chain = tt; first = tt }
chain-groups load (o ∷ os) = elim (is_head o) as
    (λ b.
    is_head o ≡ b →
    AreChained load (groups_by load (cond b (o ∷ filter is_head os) (filter is_head os)))) [
      | true ↦ λ head.
          subst (AreChained load) (sym (flat_map-cons (group_of load) o (filter is_head os)))
          (let rest = chain-groups load os in
          record {
            chain =
                chain-group load o (flat_map (group_of load) (filter is_head os)) head rest.first
                rest.chain;
            first = head-not-sync o head;
          })
      | false ↦ λ other. chain-groups load os
    ] refl
