use Rattle.std.proofs.Common.{ℕ, [], ◌∷◌, ◌++◌, sym, subst}
use Rattle.sv_packet.specs.EventRef.{seen_at}
use Rattle.sv_latency.specs.State.{State}
use Rattle.sv_latency.proofs.latency.Latency.apply.Goals as goal
use Rattle.sv_latency.specs.State.{StandsFor}
use Rattle.sv_latency.proofs.Holding.{row_of}
use Rattle.sv_latency.proofs.Stepping.{stands_passed, stands_cut, stands_noted, stands_started}
use Rattle.sv_latency.proofs.Stepping.{row_within, ready_by}

pub start-requires-clause-row : goal.start-requires-clause-row
start-requires-clause-row c = row_within c.args.self.now c.row.new.self c.in_ok-row-in-Start.row
    c.in-Start.task c.in_ok-row-in-Start.ensures.row

pub note-requires-clause-row : goal.note-requires-clause-row
note-requires-clause-row c = row_within c.args.self.now c.row-in-Ready.new.self
    c.in_ok-row-in-Ready.row c.in-Ready.task c.in_ok-row-in-Ready.ensures.row

pub returns-in-Nothing-clause-stands : goal.returns-in-Nothing-clause-stands
returns-in-Nothing-clause-stands c = λ events s.
    subst (λ (new : State). StandsFor new (events ++ seen_at c.args.time c.args.event.now ∷ []))
    (sym c.pass.ensures) (stands_passed c.args.self.now events
    (seen_at c.args.time c.args.event.now) c.in-Nothing.ensures s)

pub returns-in-Break-clause-stands : goal.returns-in-Break-clause-stands
returns-in-Break-clause-stands c = λ events s.
    subst (λ (new : State). StandsFor new (events ++ seen_at c.args.time c.args.event.now ∷ []))
    (sym c.cut.ensures.cut) (stands_cut c.args.self.now events
    (seen_at c.args.time c.args.event.now) c.in-Break.ensures c.cut.ensures.fit s)

pub returns-in_ok-row-in-Start-clause-stands : goal.returns-in_ok-row-in-Start-clause-stands
returns-in_ok-row-in-Start-clause-stands c = λ events s.
    let said = c.in_ok-row-in-Start.ensures in
    let row : ℕ = c.in_ok-row-in-Start.row in
    let ready = ready_by c.args.self.now c.row.new.self events row c.in-Start.task said.row
    said.rising said.begun s.holds in
    let here = row_of c.in-Start.task c.row.new.self.segment events c.row.new.self.names
    c.row.new.self.times c.row.new.self.seen row ready.at ready.holds.rows in
    subst (λ (new : State). StandsFor new (events ++ seen_at c.args.time c.args.event.now ∷ []))
    (sym (c.start.ensures.started here.time here.what here.time_at here.what_at))
    (stands_started c.row.new.self events (seen_at c.args.time c.args.event.now) row c.in-Start.task
    c.args.self.now.names here.time here.what c.in-Start.ensures s.names ready here.time_is
    here.what_is)

pub returns-in_ok-row-in-Ready-clause-stands : goal.returns-in_ok-row-in-Ready-clause-stands
returns-in_ok-row-in-Ready-clause-stands c = λ events s.
    let said = c.in_ok-row-in-Ready.ensures in
    let row : ℕ = c.in_ok-row-in-Ready.row in
    let ready = ready_by c.args.self.now c.row-in-Ready.new.self events row c.in-Ready.task said.row
    said.rising said.begun s.holds in
    subst (λ (new : State). StandsFor new (events ++ seen_at c.args.time c.args.event.now ∷ []))
    (sym c.note.ensures)
    (stands_noted c.row-in-Ready.new.self events (seen_at c.args.time c.args.event.now) row
    c.in-Ready.task c.in-Ready.is_ready c.args.self.now.names c.in-Ready.ensures s.names ready)
