use Rattle.std.proofs.Common.{ℕ, List, subst}
use Rattle.sv_core.specs.Simulated.{IsSimulated}
use Rattle.sv_cli.specs.declared.make.Make.TheVariants.{Counts}
use Rattle.sv_cli.specs.Recorded.{head_of, IsOfNumber, IsPut, makes_of}
use Rattle.sv_cli.proofs.Played.{of_number, played}
use Rattle.sv_cli.proofs.generate.generate.Goals as goal

pub returns-clause-answered : goal.returns-clause-answered
returns-clause-answered g c =
    let old = g.K.Sink.written c.args.out.now in
    let new = g.K.Sink.written c.put_played.new.out in
    let load = c.in-Ok.load in
    let made = c.made_of-made.result in
    let history = c.made_of-made.new.journal.items in
    let items = c.put_played.new.journal.items in
    let status = c.put_played.result in
    of_number c.args.number old new items status
    (played (IsOfNumber c.args.number) IsSimulated (makes_of Counts) load c.in-Ok.ensures.load
    (head_of Counts) history old new items made status c.made_of-made.ensures.happened
    c.made_of-made.ensures.names c.made_of-made.ensures.made
    (subst (λ (head : List ℕ). IsPut load head made history old new items status) c.head.ensures
    c.put_played.ensures.put))
