-- Commands of the host, as the bytes that say them.
use Rattle.std.specs.Prelude.{◌≡◌, ℕ, ◌<◌, ◌≤◌, nat_lt, List, [], ◌∷◌, ◌++◌, Option, Some, None}
use Rattle.std.specs.Prelude.{flat_map, IfSome, ◌⊎◌, if◌then◌else◌}
use Rattle.sv_ring.specs.Down.{given, IsFront}
use Rattle.sv_prim.specs.Counts.{Rose}
use Rattle.sv_load.specs.declared.load.Command.{Command}
use Rattle.sv_journal.specs.declared.journal.Item.{Item}
use Rattle.sv_journal.specs.Legal.{commands_in}
use Rattle.sv_recorder.specs.declared.inbox.Inbox.{Inbox}

-- the bytes of a command: from 128 on it has a parameter
abbrev pub command_bytes : Command → List ℕ
command_bytes command =
    if nat_lt command.byte 128 then command.byte ∷ [] else command.byte ∷ command.param ∷ []

-- the bytes of a command that may be there
abbrev pub found_bytes : Option Command → List ℕ
found_bytes None = []
found_bytes (Some command) = command_bytes command

-- the bytes of the commands in a journal
abbrev pub command_bytes_in : List Item → List ℕ
command_bytes_in items = flat_map command_bytes (commands_in items)

-- no byte waits, or the first byte of a command whose parameter is not there yet
abbrev pub MayWait : List ℕ → Type 0
MayWait [] = Unit {0}
MayWait (byte ∷ more) = (128 ≤ byte) × (more ≡ [])

-- below 128 a command has the parameter 0
abbrev pub HasParam : Command → Type 0
HasParam command = command.byte < 128 → command.param ≡ 0

-- the first byte of a command was looked for, and this one was found: the one that waited, or else
-- the next of the ring. Where none was found, the ring gave no byte
pub record TakesFirstByte {D : Type 0} (ring : D → List (List ℕ)) (answered : D
    → List ℕ) (empties : D → ℕ)
    (asked : D → Option (List ℕ)) (old new : Inbox D) (found : Option ℕ) : Type 0 where
  pub ring_same : ring new.down ≡ ring old.down
  pub asked_same : asked new.down ≡ asked old.down
  pub taken : List ℕ
  pub gained : answered new.down ≡ answered old.down ++ taken
  pub bytes : given old.kept ++ taken ≡ given found
  pub kept : new.kept ≡ None
  pub count : new.count ≡ old.count
  pub front : IfSome (asked old.down) (IsFront (answered old.down)) →
      IfSome (asked new.down) (IsFront (answered new.down))
  pub some : (byte : ℕ) → found ≡ Some byte → empties new.down ≡ empties old.down
  pub none : found ≡ None → Rose (empties old.down) (empties new.down)
      × IfSome (asked new.down) (λ bytes. answered new.down ≡ bytes)

-- the ring was asked for a command, and this one was found: what waited and was taken are its bytes
-- and what waits now, which is nothing where one was found. Where none was, the last call of the
-- ring gave no byte
pub record TakesCommand {D : Type 0} (ring : D → List (List ℕ)) (answered : D
    → List ℕ) (empties : D → ℕ)
    (asked : D → Option (List ℕ)) (old new : Inbox D) (found : Option Command) : Type 0 where
  pub ring_same : ring new.down ≡ ring old.down
  pub asked_same : asked new.down ≡ asked old.down
  pub taken : List ℕ
  pub gained : answered new.down ≡ answered old.down ++ taken
  pub bytes : given old.kept ++ taken ≡ found_bytes found ++ given new.kept
  pub param : IfSome found HasParam
  pub alone : IfSome found (λ command. given new.kept ≡ [])
  pub front : IfSome (asked old.down) (IsFront (answered old.down)) →
      IfSome (asked new.down) (IsFront (answered new.down))
  pub waits : MayWait (given new.kept)
  pub none : found ≡ None → Rose (empties old.down) (empties new.down)
      × IfSome (asked new.down) (λ bytes. answered new.down ≡ bytes)

-- the ring is asked as long as fewer commands came than that, and else nothing changes
abbrev pub Asks : {D : Type 0} → (D → List (List ℕ)) → (D → List ℕ) → (D → ℕ)
    → (D → Option (List ℕ)) → ℕ → Inbox D → Inbox D → Option Command → Type 0
Asks {D} ring answered empties asked most old new found =
    ((most ≤ old.count) × (found ≡ None) × (new ≡ old))
    ⊎ ((old.count < most) × TakesCommand ring answered empties asked old new found)
