use Rattle.sv_prim.proofs.Below.{are_bytes}
use Rattle.sv_prim.proofs.TextsAt.{fewer, enough}
use Rattle.std.proofs.Common.{arith}
use Rattle.sv_prim.proofs.text.text_from.Goals as goal

pub returns-then-bytes-start : goal.returns-then-bytes-start
returns-then-bytes-start c =
    fewer c.args.bytes.now c.args.start c.args.len (are_bytes c.args.bytes.now c.type_inv.bytes)
    c.requires.within c.requires.before c.if-bytes-start.true

pub returns : goal.returns
returns c =
    enough c.args.bytes.now c.args.start c.args.len (are_bytes c.args.bytes.now c.type_inv.bytes)
    c.requires.within c.requires.before (omega (arith, c.if-bytes-start.false))
