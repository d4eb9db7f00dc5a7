use Rattle.std.proofs.Common.{◌≡◌, ℕ, ◌<◌, List, get_or, sym, ap, subst, ◌∙◌, slice_index}
use Rattle.sv_workload.specs.Meaning.{command_of}
use Rattle.sv_load.specs.Need.{IsAsked}
use Rattle.sv_workload.proofs.fit_lines.Capping.{command_numbers}
use Rattle.sv_workload.proofs.fit_lines.Commands.{are_asked}
use Rattle.sv_workload.proofs.parts.command.Goals as goal

pub command_by-requires-clause-byte : goal.command_by-requires-clause-byte
command_by-requires-clause-byte c =
    let line = c.args.line.now in
    subst (λ (ns : List ℕ). get_or ns 0 0 < 256)
    (sym (c.numbers.ensures ∙ command_numbers line c.requires.keyword c.requires.fit))
    (are_asked line c.requires.keyword c.requires.fit).byte

pub command_by-requires-clause-param : goal.command_by-requires-clause-param
command_by-requires-clause-param c =
    let line = c.args.line.now in
    subst (λ (ns : List ℕ). get_or ns 1 0 < 256)
    (sym (c.numbers.ensures ∙ command_numbers line c.requires.keyword c.requires.fit))
    (are_asked line c.requires.keyword c.requires.fit).param

pub returns-clause-told : goal.returns-clause-told
returns-clause-told c =
    let line = c.args.line.now in
    c.command_by.ensures ∙ ap
    (λ (ns : List ℕ). record { byte = slice_index ns 0; param = slice_index ns 1 })
    (c.numbers.ensures ∙ command_numbers line c.requires.keyword c.requires.fit)

pub returns-clause-asked : goal.returns-clause-asked
returns-clause-asked c =
    let line = c.args.line.now in
    let asked = are_asked line c.requires.keyword c.requires.fit in
    let told : c.command_by.result ≡ command_of line = c.command_by.ensures ∙ ap
    (λ (ns : List ℕ). record { byte = slice_index ns 0; param = slice_index ns 1 })
    (c.numbers.ensures ∙ command_numbers line c.requires.keyword c.requires.fit) in
    subst IsAsked (sym told) (asked.byte, asked.param, asked.plain)
