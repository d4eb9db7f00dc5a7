use Rattle.std.proofs.Common.{◌≡◌, length, refl, ap, subst, arith}
use Rattle.std.specs.Prelude.{slice_get, slice_index_or, Some}
use Rattle.std.proofs.lemmas.Option.{slice_get-get_or}
use Rattle.sv_load.specs.declared.load.Command.{Command}
use Rattle.sv_core.proofs.taking.Commands.{sent-room}
use Rattle.sv_core.proofs.simulation.send_next.Goals as goal

-- what stands where there is no command
abbrev none : Command
none = record { byte = 0; param = 0 }

pub send-requires : goal.send-requires
send-requires g c =
    let all = ap length c.commands-commands.ensures.told in
    record {
      within =
          sent-room c.args.load.now c.args.recorder.now c.args.sent c.requires.sent
          (omega (arith, c.requires.sent.few, c.if-sent-commands.false, all))
          (omega (arith, c.commands-commands.ensures.few, all));
    }

pub returns-clause-some : goal.returns-clause-some
returns-clause-some g c = λ below.
    let commands = c.commands-commands.result.now in
    let sent = c.args.sent in
    let all = ap length c.commands-commands.ensures.told in (
      refl,
      record {
        command = slice_index_or commands sent none;
        is =
            subst (λ cs. slice_get cs sent ≡ Some (slice_index_or commands sent none))
            c.commands-commands.ensures.told
            (slice_get-get_or commands sent none (omega (arith, below, all)));
        now = c.send.ensures;
      },
    )
