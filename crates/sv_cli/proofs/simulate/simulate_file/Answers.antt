use Rattle.std.proofs.Common.{ℕ, List, subst}
use Rattle.sv_workload.specs.Grammar.{IsWorkload}
use Rattle.sv_core.specs.Simulated.{IsSimulated}
use Rattle.sv_cli.specs.Recorded.{head_of, IsPut, makes_of}
use Rattle.sv_cli.proofs.Played.{of_file, played, recorded}
use Rattle.sv_cli.proofs.simulate.simulate_file.Goals as goal

pub returns-clause-answered : goal.returns-clause-answered
returns-clause-answered g c =
    let old = g.K.Sink.written c.args.out.now in
    let new = g.K.Sink.written c.put_played.new.out in
    let load = c.in-Ok.load in
    let made = c.made_of-made.result in
    let history = c.made_of-made.new.journal.items in
    let items = c.put_played.new.journal.items in
    let status = c.put_played.result in
    of_file (g.S.Source.held c.args.src.now c.args.name.now) (g.S.Source.left c.load_of.new.src)
    c.in-Ok.ensures.loaded
    (λ file taken loaded.
    recorded IsSimulated (makes_of c.args.make) file taken old new items status loaded.0 loaded.1
    (played (IsWorkload file) IsSimulated (makes_of c.args.make) load loaded.2
    (head_of c.args.make) history old new items made status c.made_of-made.ensures.happened
    c.made_of-made.ensures.names c.made_of-made.ensures.made
    (subst (λ (head : List ℕ). IsPut load head made history old new items status) c.head.ensures
    c.put_played.ensures.put)))
