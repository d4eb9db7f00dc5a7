use Rattle.std.proofs.Common.{◌≡◌, ◌∷◌, sym, ap, ◌∙◌}
use Rattle.sv_workload.specs.Checks.{fits_command}
use Rattle.sv_workload.proofs.fit_lines.Commands.{fits_by}
use Rattle.sv_workload.proofs.command_words.fits_command.Goals as goal

pub returns-in-Some-capped_number : goal.returns-in-Some-capped_number
returns-in-Some-capped_number c =
    let words : c.args.words.now ≡ c.in-Some.byte.now ∷ c.next_word.new.self = sym
    c.again-words.ensures ∙ c.in-Some.ensures.some in
    c.fits_param.ensures ∙ fits_by c.in-Some.byte.now c.next_word.new.self
    c.in-Some-capped_number.n (sym c.capped_number.ensures ∙ c.in-Some-capped_number.is) ∙ ap
    fits_command (sym words)
