-- What a call takes of a file.
use Rattle.std.specs.Prelude.{◌≡◌, ℕ, List, [], ◌++◌, Option, Some, None, IfSome}
use Rattle.sv_base.specs.Causes.{Blames}

-- a source from which a call reads: it begins no file, is to blame where the call failed, and a
-- safe file does not fail
pub record IsReadFrom (failed : Type 0) (begins_old begins_new : ℕ) (safe_old safe_new : Type 0)
    (faults_old faults_new : ℕ) : Type 0 where
  pub begins : begins_new ≡ begins_old
  pub safe : safe_old → (failed → ⊥) × safe_new
  pub blames : Blames failed faults_old faults_new

-- these bytes of a file were taken, where the file is known; none where it could not be begun
abbrev pub HasTaken : Option (List ℕ) → Option (List ℕ) → List ℕ → Type 0
HasTaken None left taken = Unit {0}
HasTaken (Some file) None taken = taken ≡ []
HasTaken (Some file) (Some rest) taken = file ≡ taken ++ rest

-- there are bytes, those of the file where its source tells them, of which a front was taken, as
-- the source tells: a fact holds of both
pub record OfFile (held left : Option (List ℕ)) (fact : List ℕ → List ℕ → Type 0) : Type 0 where
  pub file : List ℕ
  pub taken : List ℕ
  pub rest : List ℕ
  pub known : IfSome held (λ bytes. bytes ≡ file)
  pub front : file ≡ taken ++ rest
  pub read : HasTaken held left taken
  pub so : fact file taken
