use Rattle.std.proofs.Common.{refl, sym, ap, ◌||◌, ◌∷◌, []}
use Rattle.sv_journal.specs.declared.journal.Kind.TheVariants as kinds
use Rattle.sv_journal.specs.declared.journal.Origin.TheVariants.{Reply}
use Rattle.sv_recorder.specs.Formed.{packet_bytes}
use Rattle.sv_recorder.proofs.steps.Books.{owes-goes, owes-ready, one_ready, stop-holds}
use Rattle.sv_recorder.proofs.steps.Giving.{goes_one, ready_one}
use Rattle.sv_recorder.proofs.moving.Goes.{goes-to}
use Rattle.sv_recorder.proofs.keeping.Groups.{stop_owes}
use Rattle.sv_recorder.proofs.book.Book.stop.Goals as goal

pub handle-requires-clause-control : goal.handle-requires-clause-control
handle-requires-clause-control g c =
    (stop_owes c.args.self.now.load.now c.args.head c.requires.start c.requires.stop).1

pub handle-requires-clause-on : goal.handle-requires-clause-on
handle-requires-clause-on g c = sym (ap (λ b. b || c.args.self.now.on) c.requires.start)

pub handle-requires-clause-ready : goal.handle-requires-clause-ready
handle-requires-clause-ready g c =
    let owes = stop_owes c.args.self.now.load.now c.args.head c.requires.start c.requires.stop in
    one_ready c.args.self.now c.args.head owes.1 c.requires.ready

pub packet-requires-clause-ready : goal.packet-requires-clause-ready
packet-requires-clause-ready g c =
    let old = c.args.self.now in
    let owes = stop_owes old.load.now c.args.head c.requires.start c.requires.stop in
    let stop = Reply kinds.TraceStop 0 in
    ready_one c.handle.new.self stop refl refl
    (owes-ready old c.handle.new.self c.args.head (stop ∷ []) owes.1 owes.0 c.requires.ready
    c.handle.ensures)

pub returns-clause-kept : goal.returns-clause-kept
returns-clause-kept g c =
    let old = c.args.self.now in
    let owes = stop_owes old.load.now c.args.head c.requires.start c.requires.stop in
    stop-holds old c.handle.new.self c.packet.new.self c.args.head c.handle.ensures owes.0
    c.packet.ensures.kept

pub returns-clause-goes : goal.returns-clause-goes
returns-clause-goes g c =
    let old = c.args.self.now in
    let mid = c.handle.new.self in
    let packed = c.packet.new.self in
    let stop = Reply kinds.TraceStop 0 in
    let owes = stop_owes old.load.now c.args.head c.requires.start c.requires.stop in
    let goes = c.packet.ensures.records.goes in
    let off = goes-to mid packed _ [] 2 (packet_bytes mid.load.now stop) goes refl refl refl refl
    refl goes.pending in
    owes-goes old mid _ c.args.head (stop ∷ []) owes.1 owes.0 c.handle.ensures
    (goes_one mid _ [] stop refl refl off)
