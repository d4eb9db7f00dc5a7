use Rattle.std.proofs.Common.{refl, ap, ◌∙◌}
use Rattle.sv_packet.specs.EventRef.{seen}
use Rattle.sv_report.proofs.Joined.{print_words}
use Rattle.sv_report.proofs.table.told_of.Goals as goal

pub returns-in-Print-clause-words : goal.returns-in-Print-clause-words
returns-in-Print-clause-words c =
    c.with_rest-in-Print.ensures.words
    ∙ print_words (seen c.args.event.now) c.in-Print.text.now c.in-Print.args c.in-Print.text.now
    c.in-Print.options (ap seen c.in-Print.is) refl
