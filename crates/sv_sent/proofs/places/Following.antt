-- Each item of a legal journal, and what it comes after.
use Rattle.std.proofs.Common.{◌≡◌, Bool, true, false, cond, Option, Some, None, List, [], ◌∷◌, ◌++◌}
use Rattle.std.proofs.Common.{reverse, refl, sym, ap, subst, ◌∙◌, append_assoc, append-nil, ◌⊎◌}
use Rattle.std.proofs.Common.{inl, inr}
use Rattle.std.specs.Prelude.{if◌then◌else◌}
use Rattle.std.proofs.lemmas.List.{reverse-append, reverse-reverse}
use Rattle.sv_load.specs.Load.{Load}
use Rattle.sv_journal.specs.declared.journal.Kind.TheVariants as kinds
use Rattle.sv_journal.specs.declared.journal.Origin.{Origin}
use Rattle.sv_journal.specs.declared.journal.Origin.TheVariants.{Sync, Reply}
use Rattle.sv_journal.specs.declared.journal.Item.{Item}
use Rattle.sv_journal.specs.Items.{latest_first, is_sync, is_overflow, is_start}
use Rattle.sv_journal.specs.Legal.{EachItem, IsLegal, origins_of}
use Rattle.sv_journal.proofs.Shared.{origins_of-push, origins_of-overflow, origins_of-append}
use Rattle.sv_journal.proofs.Shared.{origins_of-cons, reverse_moved}
use Rattle.sv_sent.proofs.places.Chained.{AreChained, Chain, chain-groups}

-- the latest origin that is no overflow
abbrev pub previous : List Item → Option Origin
previous [] = None
previous (i ∷ earlier) = if is_overflow i.origin then previous earlier else Some i.origin

-- what may come after an origin
pub record MayFollow (load : Load) (before : Option Origin) (o : Origin) : Type 0 where
  pub start : (p : Origin) → before ≡ Some p → is_start load p ≡ true → o ≡ Sync
  pub sync : (p : Origin) → before ≡ Some p → is_sync p ≡ true → o ≡ Reply kinds.TraceStart 0
  pub started : is_sync o ≡ true → (p : Origin) × (before ≡ Some p) × (is_start load p ≡ true)

abbrev pub IsFollowing : Load → List Item → Item → Type 0
IsFollowing load earlier item =
    is_overflow item.origin ≡ false → MayFollow load (previous earlier) item.origin

chain-rest : (load : Load) (xs ys : List Origin) → Chain load (xs ++ ys) → Chain load ys
chain-rest load [] ys chain = chain
chain-rest load (x ∷ xs) ys chain = chain-rest load xs ys chain.1

-- the origins so far end with the previous one, if there is one
abbrev EndsIn : List Item → Type 0
EndsIn earlier =
    ((previous earlier ≡ None) × (origins_of (reverse earlier) ≡ [])) ⊎
    ((p : Origin) × (xs : List Origin) × (previous earlier ≡ Some p) ×
    (origins_of (reverse earlier) ≡ xs ++ p ∷ []))

reverse-more : (i : Item) (earlier : List Item) → reverse (i ∷ earlier) ≡ reverse earlier ++ i ∷ []
reverse-more i earlier = reverse-append (i ∷ []) earlier

ends-same : (earlier : List Item) (i : Item) → previous (i ∷ earlier) ≡ previous earlier →
    origins_of (reverse (i ∷ earlier)) ≡ origins_of (reverse earlier) → EndsIn earlier →
    EndsIn (i ∷ earlier)
ends-same earlier i p o (inl (none, empty)) = inl (p ∙ none, o ∙ empty)
ends-same earlier i p o (inr (last, xs, is, whole)) = inr (last, xs, p ∙ is, o ∙ whole)

ends-in : (earlier : List Item) → EndsIn earlier
ends-in [] = inl (refl, refl)
ends-in (i ∷ earlier) = elim (is_overflow i.origin) as
    (λ b. is_overflow i.origin ≡ b → EndsIn (i ∷ earlier)) [
      | true ↦ λ over.
          ends-same earlier i (ap (λ b. cond b (previous earlier) (Some i.origin)) over)
          (ap origins_of (reverse-more i earlier) ∙ origins_of-overflow (reverse earlier) i over)
          (ends-in earlier)
      | false ↦ λ other.
          inr (
            i.origin,
            origins_of (reverse earlier),
            ap (λ b. cond b (previous earlier) (Some i.origin)) other,
            ap origins_of (reverse-more i earlier) ∙ origins_of-push (reverse earlier) i other,
          )
    ] refl

may-follow : (load : Load) (before : List Origin) (earlier : Option Origin) (o : Origin)
    (os : List Origin) → AreChained load (before ++ o ∷ os)
    → ((earlier ≡ None) × (before ≡ [])) ⊎
    ((p : Origin) × (xs : List Origin) × (earlier ≡ Some p) × (before ≡ xs ++ p ∷ [])) →
    MayFollow load earlier o
may-follow load before earlier o os are (inl (none, empty)) =
    let first : is_sync o ≡ false =
    (subst (λ (b : List Origin). AreChained load (b ++ o ∷ os)) empty are).first in
    record {
      start = λ p is start. absurd cc;
      sync = λ p is sync. absurd cc;
      started = λ e. absurd cc;
    }
may-follow load before earlier o os are (inr (last, xs, is, whole)) =
    let all : Chain load ((xs ++ last ∷ []) ++ o ∷ os) =
    (subst (λ (b : List Origin). AreChained load (b ++ o ∷ os)) whole are).chain in
    let two : Chain load (last ∷ o ∷ os) =
    chain-rest load xs (last ∷ o ∷ os)
    (subst (Chain load) (append_assoc xs (last ∷ []) (o ∷ os)) all) in
    record {
      start =
          λ p e start.
          let same : p ≡ last = cc in
          two.0.start (subst (λ (q : Origin). is_start load q ≡ true) same start);
      sync =
          λ p e sync.
          let same : p ≡ last = cc in
          two.0.sync (subst (λ (q : Origin). is_sync q ≡ true) same sync);
      started = λ e. (last, is, two.0.before e);
    }

follows : (load : Load) (earlier later : List Item) →
    AreChained load (origins_of (reverse earlier ++ later)) → EachItem (IsFollowing load) earlier
follows load [] later are = tt
follows load (i ∷ earlier) later are =
    let moved : origins_of (reverse (i ∷ earlier) ++ later) ≡
    origins_of (reverse earlier ++ i ∷ later) =
    ap origins_of (reverse_moved i earlier later) in
    let now : AreChained load (origins_of (reverse earlier ++ i ∷ later)) =
    subst (AreChained load) moved are in (
      follows load earlier (i ∷ later) now,
      λ other.
          may-follow load (origins_of (reverse earlier)) (previous earlier) i.origin
          (origins_of later)
          (subst (AreChained load)
          (origins_of-append (reverse earlier) (i ∷ later)
          ∙ ap (λ os. origins_of (reverse earlier) ++ os) (origins_of-cons i later other)) now)
          (ends-in earlier),
    )

chained : (load : Load) (items : List Item) → IsLegal load items →
    AreChained load (origins_of items)
chained load items legal =
    subst (AreChained load) (sym legal.groups) (chain-groups load (origins_of items))

-- each item of a legal journal comes after one that it may follow
pub following : (load : Load) (items : List Item) → IsLegal load items →
    EachItem (IsFollowing load) (latest_first items)
following load items legal =
    follows load (latest_first items) []
    (subst (AreChained load)
    (ap origins_of (sym (append-nil (reverse (reverse items)) ∙ reverse-reverse items)))
    (chained load items legal))

-- a legal journal does not end with a start
pub not_ending : (load : Load) (items : List Item) (p : Origin) → IsLegal load items →
    previous (latest_first items) ≡ Some p → is_start load p ≡ false
not_ending load items p legal is = by (ends-in (latest_first items))
  where
    last-none : (t : Bool) → is_start load p ≡ t → (is_start load p ≡ true → ⊥) →
        is_start load p ≡ false
    last-none false e never = e
    last-none true e never = absurd (never e)

    by : EndsIn (latest_first items) → is_start load p ≡ false
    by (inl (none, empty)) = absurd cc
    by (inr (last, xs, same, whole)) =
        let all : Chain load (xs ++ last ∷ []) =
        subst (Chain load) (sym (ap origins_of (reverse-reverse items)) ∙ whole)
        (chained load items legal).chain in
        let one : Chain load (last ∷ []) = chain-rest load xs (last ∷ []) all in
        let is_last : last ≡ p = cc in
        last-none (is_start load p) refl
        (λ start.
        one.0.start (subst (λ (q : Origin). is_start load q ≡ true) (sym is_last) start))
