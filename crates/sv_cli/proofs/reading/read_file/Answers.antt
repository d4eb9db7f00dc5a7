use Rattle.std.proofs.Common.{arith}
use Rattle.sv_cli.proofs.Files.{read_whole}
use Rattle.sv_view.proofs.Shared.{of_nothing}
use Rattle.sv_cli.proofs.reading.read_file.Goals as goal

pub returns-in_default-clause-read : goal.returns-in_default-clause-read
returns-in_default-clause-read g c =
    of_nothing (g.S.Source.held c.args.src.now c.args.name.now) (g.S.Source.left c.begin.new.self) _
    c.in_default.ensures.unopened (λ file. omega arith)

pub returns-clause-read : goal.returns-clause-read
returns-clause-read g c =
    let read = c.read_all.ensures in
    read_whole c.args.limit (g.S.Source.held c.args.src.now c.args.name.now)
    (g.S.Source.left c.begin.new.self) (g.S.Source.left c.read_all.new.src) c.read_all.result
    c.in-Ok.ensures.content read.whole read.end read.within read.long read.memory_within
    read.lost
