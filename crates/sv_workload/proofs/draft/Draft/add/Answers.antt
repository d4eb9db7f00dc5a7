use Rattle.std.proofs.Common.{◌≤◌, [], ◌∷◌, ◌++◌, length, sym, subst, ◌∙◌}
use Rattle.std.proofs.lemmas.Result.{on_ok_weaker}
use Rattle.sv_workload.specs.Draft.{Draft, Stands}
use Rattle.sv_workload.proofs.first_check.Passed.{passes}
use Rattle.sv_workload.proofs.lines_told.Growing.{stands-writer, stands-schedule, stands-turn}
use Rattle.sv_workload.proofs.lines_told.Rooms.{fit_of, room_for_writer, room_for_turn, low_turn}
use Rattle.sv_workload.proofs.lines_told.Turns.{turn_is}
use Rattle.sv_workload.proofs.draft.Draft.add.Goals as goal

pub add_writer-requires : goal.add_writer-requires
add_writer-requires c =
    let good = c.requires.good in
    room_for_writer c.args.self.now good.0 c.args.line.now good.1
    (passes good.0 c.args.line.now good.2) (sym c.keyword.ensures ∙ c.in-Writer.is)

pub returns-in-Writer : goal.returns-in-Writer
returns-in-Writer c =
    let line = c.args.line.now in
    on_ok_weaker c.add_writer.result (λ now lines stands none.
    subst (λ (d : Draft). Stands d (lines ++ line ∷ [])) (sym now)
    (stands-writer c.args.self.now lines line stands (passes lines line none)
    (sym c.keyword.ensures ∙ c.in-Writer.is))) c.add_writer.ensures

pub returns-in-Schedule : goal.returns-in-Schedule
returns-in-Schedule c = λ lines stands none.
    let line = c.args.line.now in
    subst (λ (d : Draft). Stands d (lines ++ line ∷ [])) (sym c.add_schedule.ensures)
    (stands-schedule c.args.self.now lines line stands (passes lines line none)
    (sym c.keyword.ensures ∙ c.in-Schedule.is))

pub returns-in-Turn : goal.returns-in-Turn
returns-in-Turn c =
    let line = c.args.line.now in
    let e = sym c.keyword.ensures ∙ c.in-Turn.is in
    let few : length c.args.self.now.scripts ≤ 16 = subst (λ (d : Draft). length d.scripts ≤ 16)
    c.self.view_is c.writers.ensures.few in
    on_ok_weaker c.add_turn.result (λ now lines stands none.
    let passed = passes lines line none in
    let made = c.action.ensures e (fit_of lines line passed)
    (low_turn c.args.self.now lines line stands passed few (fit_of lines line passed)
    c.in-Turn.word e) in
    subst (λ (d : Draft). Stands d (lines ++ line ∷ [])) (sym now)
    (stands-turn c.args.self.now lines line stands passed c.in-Turn.word c.action.result e made))
    c.add_turn.ensures

pub add_turn-requires-clause-few : goal.add_turn-requires-clause-few
add_turn-requires-clause-few c =
    let good = c.requires.good in
    room_for_turn c.args.self.now good.0 c.args.line.now good.1
    (passes good.0 c.args.line.now good.2) c.in-Turn.word (sym c.keyword.ensures ∙ c.in-Turn.is)

pub add_turn-requires-clause-turn : goal.add_turn-requires-clause-turn
add_turn-requires-clause-turn c =
    let good = c.requires.good in
    let line = c.args.line.now in
    let e = sym c.keyword.ensures ∙ c.in-Turn.is in
    let few : length c.args.self.now.scripts ≤ 16 = subst (λ (d : Draft). length d.scripts ≤ 16)
    c.self.view_is c.writers.ensures.few in
    let passed = passes good.0 line good.2 in
    let fit = fit_of good.0 line passed in
    let made = c.action.ensures e fit
    (low_turn c.args.self.now good.0 line good.1 passed few fit c.in-Turn.word e) in
    turn_is c.args.self.now good.0 line good.1 passed fit c.in-Turn.word c.action.result e made
