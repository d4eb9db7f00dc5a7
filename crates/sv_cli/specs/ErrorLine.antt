-- The lines on the error sink.
use Rattle.std.specs.Prelude.{ℕ, List, [], ◌++◌, codes, flat_map}
use Rattle.std.specs.Fmt.{decimal}
use Rattle.sv_cli.specs.declared.status.Status.{Status}
use Rattle.sv_cli.specs.Commands.{shows}
use Rattle.sv_cli.specs.declared.status.Status.TheVariants.{Done, Usage, ReadFault, WriteFault}
use Rattle.sv_cli.specs.declared.status.Status.TheVariants.{Damaged, Truncated, NoSync, Workload}
use Rattle.sv_cli.specs.declared.status.Status.TheVariants.{TooLong, NoMemory}

-- the forms of all commands, the views first
abbrev pub usage_line : List ℕ
usage_line =
    codes "usage: sysview " ++ (flat_map (λ row. row.0 ++ codes " F | ") shows
    ++ codes "live N F | simulate W | record W | run W | generate N\n")

-- one line for each status but Done
abbrev pub error_line : Status → List ℕ
error_line Done = []
error_line Usage = usage_line
error_line ReadFault = codes "read fault\n"
error_line WriteFault = codes "write fault\n"
error_line (Damaged place reason) =
    codes "damaged at " ++ (decimal place ++ (codes " reason " ++ (decimal reason ++ codes "\n")))
error_line (Truncated held) = codes "truncated, held " ++ (decimal held ++ codes "\n")
error_line NoSync = codes "no sync\n"
error_line (Workload line reason) =
    codes "workload line " ++ (decimal line ++ (codes " reason " ++ (decimal reason ++ codes "\n")))
error_line (TooLong limit) = codes "longer than " ++ (decimal limit ++ codes "\n")
error_line NoMemory = codes "no memory\n"
