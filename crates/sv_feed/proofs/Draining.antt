-- What the loop over the entries that are whole keeps.
use Rattle.std.proofs.Common.{◌≡◌, ℕ, ◌+◌, ◌*◌, ◌^◌, ◌<◌, ◌≤◌, List, [], ◌∷◌, ◌++◌}
use Rattle.std.proofs.Common.{length, refl, sym, ap, ◌∙◌, subst, Result, Ok, Err}
use Rattle.std.specs.Prelude.{OnErr}
use Rattle.std.proofs.Common.{arith, append_assoc, append-nil, length-append}
use Rattle.sv_packet.specs.declared.event.Packet.{Packet}
use Rattle.sv_packet.specs.Events.{last_time}
use Rattle.sv_stream.specs.declared.seen.Seen.{Seen}
use Rattle.sv_stream.specs.declared.end.End.{End}
use Rattle.sv_stream.specs.Decoding.{Decoding, Follows, StandsFor, IsSettled, pushed}
use Rattle.sv_stream.specs.Entries.{events_of, timed_entries}
use Rattle.sv_stream.specs.Input.{Entry}
use Rattle.sv_stream.specs.Reads.{Reads}
use Rattle.sv_stream.proofs.Shared.{given_few}
use Rattle.sv_feed.specs.Feed.{GrowsBy, AreGiven, AreTaken, IsDrained, IsStopped}

-- ---- the decoder

pub given-none : (decoder : Decoding) → AreGiven decoder decoder []
given-none decoder = record {
  stands = λ input given s. subst (StandsFor decoder input) (sym (append-nil given)) s;
  held = omega arith;
  pushed_same = refl;
}

pub given-more : (old mid new : Decoding) (entries : List Seen) (entry : Seen)
    → AreGiven old mid entries
    → ((input : List ℕ) (given : List Seen) → StandsFor mid input given → StandsFor new
    input (given ++ entry ∷ []))
    → length new.held < length mid.held → pushed new ≡ pushed mid
    → AreGiven old new (entries ++ entry ∷ [])
given-more old mid new entries entry g stands fewer same = record {
  stands =
      λ input given s. subst (StandsFor new input) (append_assoc given entries (entry ∷ []))
      (stands input (given ++ entries) (g.stands input given s));
  held = omega (arith, g.held, fewer);
  pushed_same = same ∙ g.pushed_same;
}

-- ---- what is made of the entries

module _ {T : Type 0} (made : List Seen → List T) where
  pub grows-none : (earlier : List Seen) (items : List T) → GrowsBy made earlier [] items
      items
  grows-none earlier items =
      ([], sym (append-nil items), ap made (append-nil earlier) ∙ sym (append-nil (made earlier)))

  pub grows-more : (earlier entries : List Seen) (entry : Seen)
      (before between after : List T)
      → GrowsBy made earlier entries before between
      → GrowsBy made (earlier ++ entries) (entry ∷ []) between after
      → GrowsBy made earlier (entries ++ entry ∷ []) before after
  grows-more earlier entries entry before between after g h =
      let first : List T = g.0 in
      let next : List T = h.0 in (
        first ++ next,
        h.1 ∙ ap (λ (xs : List T). xs ++ next) g.1 ∙ append_assoc before first next,
        ap made (sym (append_assoc earlier entries (entry ∷ [])))
            ∙ h.2 ∙ ap (λ (xs : List T). xs ++ next) g.2
            ∙ append_assoc (made earlier) first next,
      )

module _ {T G : Type 0} (made : List Seen → List T) (taken : G → List Seen → Type 0) where
  pub taken-none : (gatherer : G) (items : List T) → AreTaken made taken gatherer gatherer items
      items []
  taken-none gatherer items = record {
    took = λ given s. subst (taken gatherer) (sym (append-nil given)) s;
    items = λ given s. grows-none made given items;
  }

  pub taken-more : (old mid new : G) (before between after : List T) (entries : List Seen)
      (entry : Seen)
      → AreTaken made taken old mid before between entries
      → ((earlier : List Seen) → taken mid earlier → taken new (earlier ++ entry ∷ []))
      → ((earlier : List Seen) → taken mid earlier → GrowsBy made earlier (entry ∷ [])
      between after)
      → AreTaken made taken old new before after (entries ++ entry ∷ [])
  taken-more old mid new before between after entries entry t takes grows = record {
    took = λ given s. subst (taken new) (append_assoc given entries (entry ∷ []))
        (takes (given ++ entries) (t.took given s));
    items = λ given s. grows-more made given entries entry before between after (t.items given s)
        (grows (given ++ entries) (t.took given s));
  }

  -- the next entry finds fewer than 2^32 before it, and none after its time
  pub room_for_next : (old mid : Decoding) (before now : G) (first last : List T)
      (entries : List Seen) (time : ℕ)
      → AreGiven old mid entries → AreTaken made taken before now first last entries
      → (input : List ℕ) (given : List Seen) → StandsFor old input given
      → taken before given → pushed old ≤ 2 ^ 33
      → ((input : List ℕ) (given : List Seen) → StandsFor mid input given
      → last_time (events_of given) ≤ time)
      → 0 < length mid.held
      → (earlier : List Seen) × taken now earlier × (length earlier < 2 ^ 32)
      × (last_time (events_of earlier) ≤ time)
  room_for_next old mid before now first last entries time g t input given stands s few order some = (
    given ++ entries,
    t.took given s,
    omega (
      arith,
      given_few mid input (given ++ entries) (g.stands input given stands),
      some,
      few,
      g.pushed_same,
    ),
    order input (given ++ entries) (g.stands input given stands),
  )

-- ---- the end of the loop

-- no entry is left
pub drained : (old mid new : Decoding) (entries : List Seen)
    → ((input : List ℕ) (given : List Seen) → StandsFor old input given → StandsFor mid input
    (given ++ entries))
    → ((input : List ℕ) (given : List Seen) → StandsFor mid input given →
    (all : List (Entry Packet)) (end : End) → Reads input all end → given ≡ timed_entries all)
    → IsSettled new → IsDrained old new entries
drained old mid new entries stands next settled = record {
  settled = settled;
  all = λ input given s all end reads.
      next input (given ++ entries) (stands input given s) all end reads;
}

-- memory was wanting for the one that was given last, or for the one that comes next
pub stopped : {T G : Type 0} (made : List Seen → List T) (taken : G → List Seen → Type 0)
    (failed : G → List T → List T → Type 0) (old mid new : G) (before between after : List T)
    (entries left given : List Seen) → given ≡ entries ++ left
    → AreTaken made taken old mid before between entries → failed new between after
    → IsStopped made taken failed old new before after given
stopped made taken failed old mid new before between after entries left given is t fails = record {
  first = entries;
  left = left;
  entries_are = is;
  so_far = between;
  items = t.items;
  fails = fails;
}

-- a fact stands whatever the error is
pub on_err : {T E : Type 0} {P : Type 0} (r : Result T E) → P → OnErr r P
on_err (Ok value) p = tt
on_err (Err e) p = p
