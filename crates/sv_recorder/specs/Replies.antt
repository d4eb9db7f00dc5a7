-- How a recorder gives the answers that a step owes.
use Rattle.std.specs.Prelude.{◌≡◌, ℕ, List, [], ◌∷◌, ◌++◌, length, nat_lt, if◌then◌else◌}
use Rattle.sv_ring.specs.declared.up_writer.UpWriter.{Ghosts}
use Rattle.sv_load.specs.Load.{Load}
use Rattle.sv_journal.specs.declared.journal.Kind.TheVariants as kinds
use Rattle.sv_journal.specs.declared.journal.Origin.{Origin}
use Rattle.sv_journal.specs.declared.journal.Origin.TheVariants.{Reply}
use Rattle.sv_journal.specs.Clock.{clock_of}
use Rattle.sv_need.specs.Weights.{items_ahead, bytes_ahead}
use Rattle.sv_recorder.specs.declared.book.Book.{Book}
use Rattle.sv_recorder.specs.Book.{HoldsOwing, GoesWith, IsReady}

-- the module of this number, where there is one
abbrev pub module_replies : Load → ℕ → List Origin
module_replies load index =
    if nat_lt index (length load.modules) then Reply kinds.Module index ∷ [] else []

-- there is room for these origins, each packet with an overflow before it
abbrev pub IsReadyFor : {U : Type 0} {u : Ghosts U} → List Origin → Book U u → Type 0
IsReadyFor {U} {u} os book =
    IsReady (items_ahead book.load.now os) (bytes_ahead book.load.now os) book

-- from one state to a later one, with these heads of groups and no more than these origins
abbrev pub GoesFor : {U : Type 0} {u : Ghosts U} → List Origin → List Origin → Book U u → Book U u
    → Type 0
GoesFor {U} {u} heads os old new =
    GoesWith heads (items_ahead old.load.now os) (bytes_ahead old.load.now os) old new

-- these answers, which were owed first, are given
pub record Gives {U : Type 0} {u : Ghosts U} (os : List Origin) (old now : Book U u) : Type 0 where
  pub kept : (rest : List Origin) → HoldsOwing old (os ++ rest)
      → old.moment ≡ clock_of old.load.now old.journal.items → HoldsOwing now rest
  pub goes : GoesFor [] os old now
  pub on : now.on ≡ old.on

-- of these answers the first are given, and the rest is owed
pub record IsGiving {U : Type 0} {u : Ghosts U} (all rest : List Origin) (old now : Book U u)
    : Type 0 where
  pub given : List Origin
  pub split : all ≡ given ++ rest
  pub gives : Gives given old now
