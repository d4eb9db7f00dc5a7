-- From what was read of a source whole to the file that it holds.
use Rattle.std.proofs.Common.{◌≡◌, ℕ, ◌+◌, ◌≤◌, List, length, Option, Result, Ok, Err, refl, ap}
use Rattle.std.proofs.Common.{arith}
use Rattle.std.specs.Prelude.{IfOk, OnOk, IsErrOf, vec_len}
use Rattle.std.specs.Global.{Vec}
use Rattle.std.specs.Io.KnownBytes.{Consumes, IsAtEnd}
use Rattle.sv_base.specs.Streams.{ConsumesFewer, ConsumesMore}
use Rattle.sv_base.specs.declared.copies.ReadAll.{ReadAll}
use Rattle.sv_base.specs.declared.copies.ReadAll.TheVariants as why
use Rattle.sv_view.specs.Files.{OfFile}
use Rattle.sv_view.proofs.Shared.{of_taken}
use Rattle.sv_cli.specs.Reading.{IsReadWhole}

-- what `read_all` has read of a file that was begun
pub read_whole : (limit : ℕ) (held left0 left : Option (List ℕ)) (result : Result (Vec ℕ) ReadAll)
    → left0 ≡ held
    → IfOk result (λ bytes. Consumes left0 left bytes.items) → OnOk result (IsAtEnd left) → IfOk
    result (λ bytes. vec_len bytes ≤ limit)
    → (IsErrOf result why.TooLong → ConsumesMore left0 left limit) →
    (IsErrOf result why.NoMemory → ConsumesFewer left0 left (limit + 1)) →
    (IsErrOf result why.Failed → ConsumesFewer left0 left (limit + 1))
    → OfFile held left (λ file taken. IsReadWhole limit file taken result)
read_whole limit held left0 left (Ok bytes) begun whole end within long memory lost =
    of_taken held left0 left bytes.items (λ file taken. IsReadWhole limit file taken (Ok bytes))
    begun whole
    (λ file rest front ended. (ended end, ended end, omega (arith, ap length (ended end), within)))
read_whole limit held left0 left (Err why.Failed) begun whole end within long memory lost =
    let l = lost refl in of_taken held left0 left l.0
    (λ file taken. IsReadWhole limit file taken (Err why.Failed)) begun l.1
    (λ file rest front ended. omega (arith, l.2))
read_whole limit held left0 left (Err why.TooLong) begun whole end within long memory lost =
    let l = long refl in of_taken held left0 left l.0
    (λ file taken. IsReadWhole limit file taken (Err why.TooLong)) begun l.1
    (λ file rest front ended. l.2)
read_whole limit held left0 left (Err why.NoMemory) begun whole end within long memory lost =
    let l = memory refl in of_taken held left0 left l.0
    (λ file taken. IsReadWhole limit file taken (Err why.NoMemory)) begun l.1
    (λ file rest front ended. tt)
