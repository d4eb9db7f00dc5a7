-- How a recorder takes the head of a group: a step, or a command of the host.
use Rattle.std.specs.Prelude.{◌≡◌, ℕ, ◌+◌, ◌||◌, List, [], ◌∷◌, Option, IfSome}
use Rattle.sv_ring.specs.declared.up_writer.UpWriter.{Ghosts}
use Rattle.sv_load.specs.Load.{Load}
use Rattle.sv_load.specs.declared.load.Command.{Command}
use Rattle.sv_journal.specs.declared.journal.Item.{Item}
use Rattle.sv_journal.specs.declared.journal.Origin.{Origin}
use Rattle.sv_journal.specs.declared.journal.Origin.TheVariants as origins
use Rattle.sv_journal.specs.Clock.{clock_of}
use Rattle.sv_journal.specs.Items.{latest_first, is_start}
use Rattle.sv_journal.specs.Legal.{IsCommandInPlace, answers_of, step_ticks}
use Rattle.sv_journal.specs.Section.{command_head}
use Rattle.sv_need.specs.Next.{MayCome}
use Rattle.sv_recorder.specs.Book.{GoesWith, HoldsOwing}
use Rattle.sv_recorder.specs.declared.book.Book.{Book}

-- the head of a group that may come next: the call of a writer's next step, or a command after the
-- group of a call, where not all of them are there
pub record IsHeadHere (load : Load) (items : List Item) (head : Origin) : Type 0 where
  pub may : MayCome load items head
  pub place : IsCommandInPlace (latest_first items) head

-- where nothing is owed, this head may come next, and its ticks have passed
pub record IsHeadDue {U : Type 0} {u : Ghosts U} (head : Origin) (book : Book U u) : Type 0 where
  pub held : HoldsOwing book []
  pub here : IsHeadHere book.load.now book.journal.items head
  pub clock : book.moment
      ≡ step_ticks book.load.now head + clock_of book.load.now book.journal.items

-- over the group of a head a book that owes nothing comes to owe nothing
abbrev pub KeepsHead : {U : Type 0} {u : Ghosts U} → Origin → Book U u → Book U u → Type 0
KeepsHead {U} {u} head old new = IsHeadDue head old → HoldsOwing new []

-- a head that forms no packet is noted, and its answers are owed
pub record Owes {U : Type 0} {u : Ghosts U} (head : Origin) (old new : Book U u) : Type 0 where
  pub kept : IsHeadDue head old → HoldsOwing new (answers_of old.load.now head)
  pub goes : GoesWith (head ∷ []) 1 0 old new
  pub on : new.on ≡ (is_start old.load.now head || old.on)

-- the group of the command that was found is added, if one was
pub record Obeys {U : Type 0} {u : Ghosts U} (found : Option Command) (old new : Book U u) : Type 0
  where
    pub items : ℕ
    pub bytes : ℕ
    pub goes : GoesWith (command_head found) items bytes old new
    pub kept : HoldsOwing old [] → old.moment ≡ clock_of old.load.now old.journal.items
        → IfSome found (λ command. IsHeadHere old.load.now old.journal.items
        (origins.Command command.byte command.param)) → HoldsOwing new []
