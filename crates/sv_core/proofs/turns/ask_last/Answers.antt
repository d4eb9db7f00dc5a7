use Rattle.std.proofs.Common.{◌++◌, sym, ap, ◌∙◌}
use Rattle.std.specs.Option.{option_to_list}
use Rattle.sv_core.specs.Turned.{asked_last}
use Rattle.sv_core.proofs.own_turns.Gathered.{asked-last}
use Rattle.sv_core.proofs.turns.ask_last.Goals as goal

pub returns-in-Some : goal.returns-in-Some
returns-in-Some c =
    c.push_reserved.ensures.items
    ∙ (asked-last c.pop.new.self.items c.in-Some.last
    ∙ ap asked_last (sym (c.pop.ensures.items
    ∙ ap (λ o. c.pop.new.self.items ++ option_to_list o) c.in-Some.is)))
