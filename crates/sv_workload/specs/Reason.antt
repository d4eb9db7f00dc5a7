-- Faults of lines as numbers.
use Rattle.std.specs.Prelude.{ℕ}
use Rattle.sv_workload.specs.declared.fault.LineFault.{LineFault}
use Rattle.sv_workload.specs.declared.fault.LineFault.TheVariants.{UnknownWord, Shape, Number}
use Rattle.sv_workload.specs.declared.fault.LineFault.TheVariants.{Repeated, TooMany, Unaligned}
use Rattle.sv_workload.specs.declared.fault.LineFault.TheVariants.{Misplaced, BadText, NoSuchWriter}
use Rattle.sv_workload.specs.declared.fault.LineFault.TheVariants.{ModuleFull}

-- the number of a fault, as it is printed
abbrev pub reason_of : LineFault → ℕ
reason_of UnknownWord = 1
reason_of Shape = 2
reason_of Number = 3
reason_of Repeated = 4
reason_of TooMany = 5
reason_of Unaligned = 6
reason_of Misplaced = 7
reason_of BadText = 8
reason_of NoSuchWriter = 9
reason_of ModuleFull = 10
