use Rattle.std.proofs.Common.{ap, ◌∙◌, vec_capacity, arith}
use Rattle.sv_recorder.proofs.steps.Fresh.{fresh, no_command, front_none}
use Rattle.sv_recorder.proofs.recorder.Recorder.new.Goals as goal

pub invariant_of-result : goal.invariant_of-result
invariant_of-result g c =
    let items = ap (λ v. v.items) c.of.ensures ∙ c.in-Ok.ensures.items in (
      fresh c.args.load.now c.of.result.items (g.U.UpWriter.sent c.args.up)
          (g.U.UpWriter.freed c.args.up) (g.U.UpWriter.limit c.args.up) _
          c.need-need.ensures.limits items c.requires.sent c.requires.freed c.requires.limit
          (omega (
            arith,
            c.need-need.ensures.items,
            c.in-Ok.ensures.capacity,
            ap vec_capacity
                c.of.ensures,
          )),
      no_command c.of.result.items (g.D.DownReader.answered c.args.down) items
          c.requires.answered,
      record {
        kept_is = c.requires.desc;
        lines_are = c.requires.lines;
        clock_is = c.requires.clock;
      },
      front_none (g.D.DownReader.asked c.args.down) (g.D.DownReader.answered c.args.down)
          c.requires.answered,
    )
