-- What a command does to its devices.
use Rattle.std.specs.Prelude.{◌≡◌, ℕ, ◌⊎◌, Bool, true, List, Option, OnSome, IfSome, IfNone}
use Rattle.std.specs.Io.KnownBytes.{Appends}
use Rattle.sv_base.specs.Causes.{Blames, BlamesLast, one_more}
use Rattle.sv_base.specs.Streams.{AppendsPart}

-- a source: the file is begun once, and is read where it can be; with no file the source stays the
-- same; it is to blame only where it failed
pub record HasRead (file : Option (List ℕ)) (same : Type 0) (sure : List ℕ → Type 0)
    (begins_old begins_new faults_old faults_new : ℕ) (failed : Type 0) : Type 0 where
  pub begins : OnSome file (begins_new ≡ one_more begins_old)
  pub unread : IfNone file same
  pub safe : IfSome file (λ name. sure name → failed → ⊥)
  pub blames : Blames failed faults_old faults_new

-- a sink: it stays the same where nothing is written; it is to blame only where it failed, and a
-- failed write is the last
pub record HasWritten (silent : Bool) (same : Type 0) (broken : Bool)
    (faults_old faults_new : ℕ) (failed : Type 0) : Type 0 where
  pub unwritten : silent ≡ true → same
  pub blames : BlamesLast failed broken faults_old faults_new

-- a sink has gained the line, or failed within it
abbrev pub Says : List ℕ → Option (List ℕ) → Option (List ℕ) → ℕ → ℕ → Type 0
Says line old new faults_old faults_new =
    Appends old new line ⊎ (AppendsPart old new line × (faults_new ≡ one_more faults_old))
