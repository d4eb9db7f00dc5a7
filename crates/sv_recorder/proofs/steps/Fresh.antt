-- A recorder that has recorded nothing.
use Rattle.std.proofs.Common.{◌≡◌, ℕ, zero, suc, ◌≤◌, false, List, [], get_or, replicate, refl}
use Rattle.std.proofs.Common.{arith}
use Rattle.std.specs.Prelude.{Option, Some, None, IfSome}
use Rattle.sv_ring.specs.Down.{IsFront}
use Rattle.sv_load.specs.Load.{Load}
use Rattle.sv_load.specs.Need.{IsWithinLimits, need_items, need_bytes}
use Rattle.sv_journal.specs.declared.journal.Item.{Item}
use Rattle.sv_recorder.specs.Kept.{Keeps}
use Rattle.sv_recorder.specs.Recording.{IsRecorder, IsInbox}

keeps_nothing : (load : Load) → Keeps load [] [] [] 0 false 0 0
keeps_nothing load = record {
  opened = record { groups = refl; commands = omega arith; ends = refl; each = tt };
  sent_is = refl;
  on_is = refl;
  pending_is = refl;
  last_is = refl;
  freed_rises = omega arith;
  freed_stored = omega arith;
}

all_zero : (d n k : ℕ) → get_or (replicate n d) k d ≡ d
all_zero d zero k = refl
all_zero d (suc n) zero = refl
all_zero d (suc n) (suc k) = all_zero d n k

nothing : (load : Load) (limit capacity : ℕ) → IsWithinLimits load → need_bytes load ≤ limit
    → need_items load ≤ capacity
    → IsRecorder load [] [] 0 limit false 0 0 0 (replicate 16 0) capacity
nothing load limit capacity limits bytes room = record {
  limits = limits;
  held = keeps_nothing load;
  clock = refl;
  writers = refl;
  places_are = λ writer within. all_zero 0 16 writer;
  room = room;
  bytes = bytes;
}

pub fresh : (load : Load) (items : List Item) (sent : List ℕ) (freed limit capacity : ℕ)
    → IsWithinLimits load → items ≡ [] → sent ≡ [] → freed ≡ 0
    → need_bytes load ≤ limit → need_items load ≤ capacity
    → IsRecorder load items sent freed limit false 0 0 0 (replicate 16 0) capacity
fresh load items sent freed limit capacity limits items_is sent_is freed_is bytes room =
    rw (items_is, sent_is, freed_is) (nothing load limit capacity limits bytes room)

-- nothing was taken from the host
pub no_command : (items : List Item) (answered : List ℕ) → items ≡ [] → answered ≡ []
    → IsInbox items answered [] 0
no_command items answered items_is answered_is = rw (items_is, answered_is)
    (record { count_is = refl; answered_is = refl; waits = tt })

-- of a ring of which nothing is taken
pub front_none : (asked : Option (List ℕ)) (answered : List ℕ) → answered ≡ []
    → IfSome asked (IsFront answered)
front_none None answered none = tt
front_none (Some bytes) answered none = rw none refl
